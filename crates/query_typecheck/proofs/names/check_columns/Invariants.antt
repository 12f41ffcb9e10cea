use Rattle.std.proofs.Common.{◌≡◌, drop}
use Rattle.values.specs.Schema.{fields_of}
use Rattle.query_typecheck.specs.FirstFaults.{column_fault, first_fault}
use Rattle.query_typecheck.proofs.names.check_columns.Given as goal

abbrev pub invariant-loop-name : goal.invariant-loop-name
invariant-loop-name l = first_fault (column_fault (fields_of l.columns)) (drop l.name-index l.names) ≡ first_fault (column_fault (fields_of l.columns)) l.names
