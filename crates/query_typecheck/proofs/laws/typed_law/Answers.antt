use Rattle.query_typecheck.proofs.FaultHeads.{faultless_is_typed, first_of_faults, told_stands}
use Rattle.query_typecheck.proofs.laws.typed_law.Goals as goal

pub returns : goal.returns
returns c = record { typed = λ fields t. faultless_is_typed fields t; first = λ fields t. first_of_faults fields t; stands = λ fields t f h. told_stands fields t f h }
