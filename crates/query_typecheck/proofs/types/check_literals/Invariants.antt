use Rattle.std.proofs.Common.{◌≡◌, drop, Some}
use Rattle.semantics.specs.Types.{literal_kind}
use Rattle.query_typecheck.specs.FirstFaults.{agreement_fault, first_fault}
use Rattle.query_typecheck.proofs.types.check_literals.Given as goal

abbrev pub invariant-loop-literal : goal.invariant-loop-literal
invariant-loop-literal l = first_fault (λ a. agreement_fault l.kind (Some (literal_kind a))) (drop l.literal-index l.literals) ≡ first_fault (λ a. agreement_fault l.kind (Some (literal_kind a))) l.literals
