use Rattle.std.proofs.Common.{◌≡◌, ◌∙◌, ap, sym, subst}
use Rattle.std.proofs.lemmas.Result.{on_ok_weaker}
use Rattle.std.specs.FinMap as fin
use Rattle.semantics.specs.Groups.{Key}
use Rattle.values.specs.Datum.{data_of}
use Rattle.values.specs.GroupStates.{entry_of}
use Rattle.group_tables.specs.Inside.Entries.{kept_group}
use Rattle.group_tables.specs.Keys.{key_in}
use Rattle.group_tables.specs.Table.{IsFitting}
use Rattle.group_tables.specs.Inside.Table.{IsPut}
use Rattle.group_tables.proofs.Appended.{counted-more, fits-behind, kept-there, list-more}
use Rattle.group_tables.proofs.TypedEntries.{typed-more}
use Rattle.group_tables.proofs.table.Table.put_entry.Goals as goal

pub put_to_group-requires : goal.put_to_group-requires
put_to_group-requires c =
    let entry = entry_of c.args.entry in
    let key : key_in c.in_ok-key.key ≡ entry.key = c.in_ok-key.ensures ∙ ap data_of c.as_slice.ensures.value in
    subst (λ (k : Key). IsFitting c.in_ok-group.group (fin.get c.args.self.now k)) (sym key) (fits-behind entry.key c.args.self.now c.in_ok-group.group c.requires.behind)

pub returns : goal.returns
returns c =
    let functions = c.args.functions.now in
    let entry = entry_of c.args.entry in
    let old = c.args.self.now in
    let new = c.put_to_group.new.self in
    let group = c.in_ok-group.group in
    let behind = c.requires.behind in
    let form = c.requires.states in
    let key : key_in c.in_ok-key.key ≡ entry.key = c.in_ok-key.ensures ∙ ap data_of c.as_slice.ensures.value in
    let is : group ≡ kept_group functions entry = λ i. record { lines = c.in_ok-group.ensures.lines i; parts = c.in_ok-group.ensures.parts i } in
    let put_at : ((k : Key) → IsPut old new (key_in c.in_ok-key.key) group k) → (k : Key) → IsPut old new entry.key group k =
    λ h k. subst (λ (q : Key). IsPut old new q group k) key (h k) in
    record {
      entries = on_ok_weaker c.put_to_group.result (λ (h : (k : Key) → IsPut old new (key_in c.in_ok-key.key) group k). list-more functions entry old new group behind form is (put_at h)) c.put_to_group.ensures;
      counted = on_ok_weaker c.put_to_group.result
          (λ (h : (k : Key) → IsPut old new (key_in c.in_ok-key.key) group k). counted-more functions entry old new behind form (kept-there functions entry old new group behind is (put_at h))) c.put_to_group.ensures;
      typed = on_ok_weaker c.put_to_group.result
          (λ (h : (k : Key) → IsPut old new (key_in c.in_ok-key.key) group k) fields set. typed-more fields set functions entry old new form (kept-there functions entry old new group behind is (put_at h))) c.put_to_group.ensures;
    }
