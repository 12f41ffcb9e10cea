use Rattle.std.proofs.Common.{◌≡◌, ◌++◌, drop, map, string_bytes}
use Rattle.query_resolve.specs.Planning.{filter_forms}
use Rattle.semantics.specs.Canonical.{predicate_text}
use Rattle.query_plan.proofs.printer.predicate_texts.Given as goal

abbrev pub invariant-loop-predicate : goal.invariant-loop-predicate
invariant-loop-predicate l = map string_bytes l.texts.items ++ map predicate_text (filter_forms (drop l.predicate-index l.predicates)) ≡ map predicate_text (filter_forms l.predicates)
