use Rattle.std.proofs.Common.{◌≡◌, drop, map}
use Rattle.values.specs.Schema.{fields_of}
use Rattle.query_ast.specs.Syntax.{element_form}
use Rattle.semantics.specs.Syntax.{element_forms}
use Rattle.semantics.specs.Names.{group_names, groups_names}
use Rattle.query_typecheck.specs.FirstFaults.{column_fault, first_fault}
use Rattle.query_typecheck.proofs.names.+check_group.Given as goal

abbrev pub invariant-loop-group : goal.invariant-loop-group
invariant-loop-group l = first_fault (column_fault (fields_of l.columns)) (groups_names (element_forms (map element_form (drop l.group-index l.group-items)))) ≡ first_fault (column_fault (fields_of l.columns)) (group_names (element_form l.fn.group))
