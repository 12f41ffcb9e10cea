use Rattle.std.proofs.Common.{◌≡◌, drop, map}
use Rattle.values.specs.Schema.{fields_of}
use Rattle.query_ast.specs.Syntax.{item_form}
use Rattle.query_typecheck.specs.FirstFaults.{expression_fault, first_fault}
use Rattle.query_typecheck.proofs.resolution.check_items.Given as goal

abbrev pub invariant-loop-item : goal.invariant-loop-item
invariant-loop-item l = first_fault (λ i. expression_fault (fields_of l.scope.columns.now) l.scope.grouping.now l.scope.clause i.expression) (map item_form (drop l.item-index l.items)) ≡ first_fault (λ i. expression_fault (fields_of l.scope.columns.now) l.scope.grouping.now l.scope.clause i.expression) (map item_form l.items)
