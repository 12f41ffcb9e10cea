use Rattle.query_lexer.proofs.Stops.{decided, not_both, one}
use Rattle.query_lexer.proofs.laws.spells_or_stops.Goals as goal

pub returns : goal.returns
returns c = record { decided = decided; not_both = not_both; one = one }
