use Rattle.std.proofs.Common.{◌≡◌, drop, map}
use Rattle.values.specs.Schema.{fields_of}
use Rattle.query_ast.specs.Syntax.{item_form, key_form}
use Rattle.semantics.specs.Types.{key_expression}
use Rattle.query_typecheck.specs.FirstFaults.{expression_fault, first_fault}
use Rattle.query_typecheck.proofs.resolution.check_keys.Given as goal

abbrev pub invariant-loop-key : goal.invariant-loop-key
invariant-loop-key l = first_fault (λ k. expression_fault (fields_of l.scope.columns.now) l.scope.grouping.now l.scope.clause (key_expression (map item_form l.items) k.expression)) (map key_form (drop l.key-index l.keys)) ≡ first_fault (λ k. expression_fault (fields_of l.scope.columns.now) l.scope.grouping.now l.scope.clause (key_expression (map item_form l.items) k.expression)) (map key_form l.keys)
