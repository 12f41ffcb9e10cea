use Rattle.std.proofs.Common.{◌≡◌, ◌++◌, drop, map, string_bytes}
use Rattle.std.specs.List.{flat_map}
use Rattle.query_ast.specs.Syntax.{predicate_form}
use Rattle.semantics.specs.Syntax.{predicate_forms}
use Rattle.semantics.specs.Canonical.{separated_texts, part_texts}
use Rattle.query_printer.proofs.predicates.+push_expression.Given as goal

abbrev pub invariant-push_parts-loop-part : goal.invariant-push_parts-loop-part
invariant-push_parts-loop-part l = string_bytes l.out ++ flat_map (λ text. l.keyword ++ text) (part_texts l.least (predicate_forms (map predicate_form (drop l.part-index l.others)))) ≡ string_bytes l.fn.out ++ separated_texts l.keyword (part_texts l.least (predicate_forms (map predicate_form l.parts)))
