use Rattle.std.proofs.Common.{◌≡◌, sym, ap, ◌∙◌}
use Rattle.std.proofs.lemmas.Result.{on_ok_weaker}
use Rattle.std.specs.FinSet as set
use Rattle.values.specs.Datum.{datum_of}
use Rattle.group_tables.specs.Inside.ValueSets.{shown}
use Rattle.group_tables.proofs.Sets.{union-empty, union-one}
use Rattle.group_tables.proofs.value_set.ValueSet.insert_all.Goals as goal

pub returns-in-Empty : goal.returns-in-Empty
returns-in-Empty c = rw c.in-Empty.is (sym (union-empty (shown c.args.self.now)))

pub returns-in-One : goal.returns-in-One
returns-in-One c =
    let so_far = shown c.args.self.now in
    on_ok_weaker c.insert.result
    (λ (h : shown c.insert.new.self ≡ set.insert so_far (datum_of c.into_inner.result)).
    h ∙ ap (λ value. set.insert so_far (datum_of value)) c.into_inner.ensures ∙ sym (union-one so_far (datum_of c.in-One.value.value))
    ∙ ap (λ other. set.union so_far (shown other)) (sym c.in-One.is))
    c.insert.ensures
