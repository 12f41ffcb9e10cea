-- Where the functions of the grammar stop.
use Rattle.std.specs.Prelude.{ℕ}
use Rattle.query_parser.specs.declared.fault.GrammarFault.{GrammarFault}
use Rattle.query_parser.specs.declared.fault.GrammarFault.TheVariants as faults

-- A token, or the end, is not expected, or what stands before it is too much; with the number of
-- the tokens that are left.
pub data Stop : Type 0 where
  unexpected : ℕ → Stop
  over_limit : ℕ → Stop

-- The fault that is told of it. Of what is too much it does not say where.
abbrev pub fault_of : Stop → GrammarFault
fault_of (unexpected left) = faults.Unexpected left
fault_of (over_limit left) = faults.OverLimit
