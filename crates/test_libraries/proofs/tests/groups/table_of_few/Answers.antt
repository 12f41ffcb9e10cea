use Rattle.std.proofs.Common.{◌-◌, ◌^◌, Bool, List, [], ◌∷◌, arith}
use Rattle.semantics.specs.Groups.{Record, value_at}
use Rattle.semantics.specs.Aggregates.{is_non_null}
use Rattle.group_tables.proofs.Counted.{records-counted}
use Rattle.test_libraries.proofs.tests.groups.table_of_few.Goals as goal

abbrev filters : List (Record → Bool)
filters = (λ row. is_non_null (value_at 1 row)) ∷ []

pub returns : goal.returns
returns c =
    let t = c.in_ok-table.ensures in
    records-counted (2 ^ 63 - 1) c.args.set.now c.args.functions.now filters c.in_ok-table.table t.0 t.1.0 (omega (arith, t.1.1))
