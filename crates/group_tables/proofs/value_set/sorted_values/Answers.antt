use Rattle.std.proofs.Common.{◌≡◌, Vec, Global, ap, map, ◌∙◌}
use Rattle.std.proofs.lemmas.Result.{IfOk-weaker}
use Rattle.values.specs.Datum.{data_of}
use Rattle.values.specs.declared.value.Value.{Value}
use Rattle.group_tables.specs.declared.key_order.Keyed.{Keyed}
use Rattle.group_tables.proofs.SetListing.{values-listed}
use Rattle.group_tables.proofs.value_set.sorted_values.Goals as goal

pub returns : goal.returns
returns c =
    let keyed = c.in_ok-keyed.ensures in
    let sorted = c.sort_keyed.result.items in
    IfOk-weaker c.things_of.result _ _
    (λ (things : Vec Value Global) (are : things.items ≡ map (λ (k : Keyed Value). k.thing) sorted).
    ap data_of are
    ∙ values-listed c.args.values.keys c.in_ok-keyed.keyed.items sorted keyed.distinct keyed.codable keyed.values c.sort_keyed.ensures.permutation c.sort_keyed.ensures.sorted)
    c.things_of.ensures
