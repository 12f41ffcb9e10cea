use Rattle.std.proofs.Common.{◌≡◌, ◌++◌, drop, map}
use Rattle.values.specs.Datum.{datum_of}
use Rattle.semantics.specs.Conditions.{literal_value}
use Rattle.query_eval.proofs.binder.literal_values.Given as goal

abbrev pub invariant-loop-literal : goal.invariant-loop-literal
invariant-loop-literal l = map datum_of l.values.items ++ map literal_value (drop l.literal-index l.literals) ≡ map literal_value l.literals
