use Rattle.query.proofs.Refusals.{decided, not_both, one}
use Rattle.query.proofs.laws.derives_or_refused.Goals as goal

pub returns : goal.returns
returns c = record { decided = decided; not_both = not_both; one = one }
