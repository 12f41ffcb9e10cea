use Rattle.query_lexer.proofs.Unique.{one}
use Rattle.query_lexer.proofs.laws.spells_one.Goals as goal

pub returns : goal.returns
returns c = one
