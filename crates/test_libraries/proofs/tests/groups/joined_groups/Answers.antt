use Rattle.std.proofs.Common.{Bool, List, [], ◌∷◌, length, arith}
use Rattle.std.proofs.lemmas.List.{length-map}
use Rattle.group_tables.specs.Functions.{aggregate_of}
use Rattle.semantics.specs.Groups.{Record, value_at}
use Rattle.semantics.specs.Aggregates.{is_non_null}
use Rattle.group_tables.proofs.Meaning.{table-within, within-can_join}
use Rattle.test_libraries.proofs.tests.groups.joined_groups.Goals as goal

abbrev filters : List (Record → Bool)
filters = (λ row. is_non_null (value_at 1 row)) ∷ []

pub absorb-requires-clause-join : goal.absorb-requires-clause-join
absorb-requires-clause-join c =
    let a = c.in_ok-table.ensures in
    let b = c.in_ok-other.ensures in
    let set = c.args.set.now in
    let fs = c.args.functions.now in
    within-can_join fs (length a.0) (length b.0) _ _ (omega (arith, a.1.1, b.1.1))
    (table-within set fs _ _ a.0 (length a.0) (length-map fs (aggregate_of filters)) a.1.0 (omega arith)) (table-within set fs _ _ b.0 (length b.0) (length-map fs (aggregate_of filters)) b.1.0 (omega arith))
