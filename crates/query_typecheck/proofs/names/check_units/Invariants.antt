use Rattle.std.proofs.Common.{◌≡◌, drop}
use Rattle.std.specs.List.{flat_map}
use Rattle.values.specs.Schema.{fields_of}
use Rattle.query_ast.specs.Syntax.{units_form}
use Rattle.query_typecheck.specs.FirstFaults.{column_fault, first_fault}
use Rattle.query_typecheck.proofs.names.check_units.Given as goal

abbrev pub invariant-loop-unit : goal.invariant-loop-unit
invariant-loop-unit l = first_fault (column_fault (fields_of l.columns)) (flat_map (λ unit. unit) (units_form (drop l.unit-index l.units))) ≡ first_fault (column_fault (fields_of l.columns)) (flat_map (λ unit. unit) (units_form l.units))
