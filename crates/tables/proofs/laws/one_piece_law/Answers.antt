use Rattle.tables.proofs.OnePiece.{behind-stands, one-stands, own-input}
use Rattle.tables.proofs.laws.one_piece_law.Goals as goal

pub returns-clause-own : goal.returns-clause-own
returns-clause-own c = own-input

pub returns-clause-one : goal.returns-clause-one
returns-clause-one c = one-stands

pub returns-clause-behind : goal.returns-clause-behind
returns-clause-behind c = behind-stands
