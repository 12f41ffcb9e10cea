use Rattle.std.proofs.Common.{◌≡◌, true, false, sym, ap, ◌∙◌}
use Rattle.std.proofs.lemmas.Result.{on_ok_weaker}
use Rattle.std.specs.FinSet as set
use Rattle.values.specs.Datum.{datum_of}
use Rattle.semantics.specs.Aggregates.{is_non_null}
use Rattle.group_tables.specs.Values.{Values}
use Rattle.group_tables.specs.Inside.ValueSets.{shown}
use Rattle.group_tables.proofs.Sets.{union-absent, union-present}
use Rattle.group_tables.proofs.distinct_values.DistinctValues.add.Goals as goal

pub returns-then-not-is_non_null : goal.returns-then-not-is_non_null
returns-then-not-is_non_null c =
    let absent : is_non_null (datum_of c.args.value.now) ≡ false = cc in
    sym (union-absent c.args.self.now (datum_of c.args.value.now) absent)

pub returns : goal.returns
returns c =
    let value = c.args.value.now in
    let there : is_non_null (datum_of value) ≡ true = cc in
    on_ok_weaker c.insert_copy.result
    (λ (h : shown c.insert_copy.new.self ≡ set.insert (shown c.self.inside.values) (datum_of value)).
    h ∙ ap (λ (s : Values). set.insert s (datum_of value)) c.self.view_is ∙ sym (union-present c.args.self.now (datum_of value) there))
    c.insert_copy.ensures
