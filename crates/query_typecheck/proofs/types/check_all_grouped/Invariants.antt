use Rattle.std.proofs.Common.{◌≡◌, drop}
use Rattle.values.specs.Schema.{fields_of}
use Rattle.query_typecheck.specs.FirstFaults.{first_fault, grouped_fault}
use Rattle.query_typecheck.proofs.types.check_all_grouped.Given as goal

abbrev pub invariant-loop-name : goal.invariant-loop-name
invariant-loop-name l = first_fault (grouped_fault (fields_of l.scope.columns.now) l.scope.grouping.now) (drop l.name-index l.names) ≡ first_fault (grouped_fault (fields_of l.scope.columns.now) l.scope.grouping.now) l.names
