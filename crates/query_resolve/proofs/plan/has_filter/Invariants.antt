use Rattle.std.proofs.Common.{◌≡◌, drop}
use Rattle.std.specs.List.{list_any}
use Rattle.query_ast.specs.Syntax.{predicate_form}
use Rattle.semantics.specs.Inside.Same.{same_predicate}
use Rattle.query_resolve.specs.Planning.{filter_forms}
use Rattle.query_resolve.proofs.plan.has_filter.Given as goal

abbrev pub invariant-loop-other : goal.invariant-loop-other
invariant-loop-other l = list_any (λ p. same_predicate p (predicate_form l.filter)) (filter_forms (drop l.other-index l.filters)) ≡ list_any (λ p. same_predicate p (predicate_form l.filter)) (filter_forms l.filters)
