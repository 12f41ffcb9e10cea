use Rattle.std.proofs.Common.{◌≡◌, drop, map}
use Rattle.std.specs.List.{flat_map}
use Rattle.values.specs.Schema.{fields_of}
use Rattle.query_ast.specs.Syntax.{element_form}
use Rattle.semantics.specs.Names.{group_names}
use Rattle.query_typecheck.specs.FirstFaults.{column_fault, first_fault}
use Rattle.query_typecheck.proofs.names.check_groups.Given as goal

abbrev pub invariant-loop-group : goal.invariant-loop-group
invariant-loop-group l = first_fault (column_fault (fields_of l.columns)) (flat_map group_names (map element_form (drop l.group-index l.groups))) ≡ first_fault (column_fault (fields_of l.columns)) (flat_map group_names (map element_form l.groups))
