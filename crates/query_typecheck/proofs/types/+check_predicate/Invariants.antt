use Rattle.std.proofs.Common.{◌≡◌, drop, map}
use Rattle.values.specs.Schema.{fields_of}
use Rattle.query_ast.specs.Syntax.{predicate_form}
use Rattle.semantics.specs.Syntax.{predicate_forms}
use Rattle.query_typecheck.specs.FirstFaults.{parts_fault}
use Rattle.query_typecheck.proofs.types.+check_predicate.Given as goal

abbrev pub invariant-check_parts-loop-part : goal.invariant-check_parts-loop-part
invariant-check_parts-loop-part l = parts_fault (fields_of l.scope.columns.now) l.scope.grouping.now l.scope.clause (predicate_forms (map predicate_form (drop l.part-index l.parts))) ≡ parts_fault (fields_of l.scope.columns.now) l.scope.grouping.now l.scope.clause (predicate_forms (map predicate_form l.parts))
