-- The text of a part, put together.
use Rattle.std.proofs.Common.{◌≡◌, ◌++◌, ℕ, List, length, Result, Ok, Err, sym, ap, ◌∙◌}
use Rattle.std.proofs.lemmas.Grind.{flat_map-append}
use Rattle.std.proofs.lemmas.List.{length-map}
use Rattle.std.specs.Global.{Vec}
use Rattle.std.specs.Prelude.{IfOk}
use Rattle.values.specs.GroupStates.{entries_of, entry_of}
use Rattle.values.specs.declared.group_entry.GroupEntry.{GroupEntry}
use Rattle.semantics.specs.Parts.{groups_values, line_of, text_of, ContentsForm, contents_over, columns_text, front_of, front_values, part_text, values_with, with_checksum}
use Rattle.semantics.specs.Canonical.{canonical_text}
use Rattle.semantics.specs.Columns.{Field}
use Rattle.semantics.specs.Syntax.{Query}
use Rattle.semantics.specs.declared.line_fault.LineFault.{LineFault}

pub lines-of : (front all : List ℕ) (fields seen : List Field) (q : Query) (columns query : List ℕ) (lines count : ℕ) (refused seen_refused : List (ℕ × LineFault)) (groups seen_groups : List GroupEntry)
    → front ≡ text_of (front_of columns query seen lines seen_refused count) → all ≡ front ++ text_of (groups_values (entries_of seen_groups)) → seen ≡ fields → columns ≡ columns_text fields → query ≡ canonical_text q → count ≡ length seen_groups
    → seen_refused ≡ refused → seen_groups ≡ groups → all ≡ text_of (values_with fields q (record { lines = lines; refused = refused; groups = entries_of groups }))
lines-of front all fields seen q columns query lines count refused seen_refused groups seen_groups is_front is_all s c k n r g =
    let many : count ≡ length (entries_of groups) = n ∙ ap length g ∙ sym (length-map groups entry_of) in
    let front_is : front ≡ text_of (front_values fields q lines refused (length (entries_of groups))) = is_front ∙ (λ i. text_of (front_of (c i) (k i) (s i) lines (r i) (many i))) in
    is_all
    ∙ (λ i. front_is i ++ text_of (groups_values (entries_of (g i))))
    ∙ sym (flat_map-append line_of (front_values fields q lines refused (length (entries_of groups))) (groups_values (entries_of groups)))

-- of contents that are those of each input for which something stands, it is the part of that
pub parted : {E : Type 0} (r : Result (Vec ℕ) E) (all : List ℕ) (fields : List Field) (q : Query) (c : ContentsForm) (Stands : List ℕ → Type 0) → IfOk r (λ text. text.items ≡ with_checksum all) → all ≡ text_of (values_with fields q c)
    → ((input : List ℕ) → Stands input → c ≡ contents_over fields q input) → IfOk r (λ text. (input : List ℕ) → Stands input → text.items ≡ part_text fields q input)
parted (Err e) all fields q c Stands text is of_inputs = tt
parted (Ok t) all fields q c Stands text is of_inputs = λ input stands. text ∙ ap with_checksum (is ∙ ap (λ d. text_of (values_with fields q d)) (of_inputs input stands))
