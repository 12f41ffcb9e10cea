-- What a hasher was given of groups, and results that differ in their groups alone.
use Rattle.std.proofs.Common.{◌≡◌, ◌++◌, ◌∷◌, [], ℕ, List, length, Result, Ok, Err, sym, ap, subst, ◌∙◌, append_assoc, append-nil}
use Rattle.std.proofs.lemmas.Grind.{flat_map-append}
use Rattle.std.proofs.lemmas.List.Concat.{flat_map-cons}
use Rattle.std.specs.Prelude.{IfOk}
use Rattle.semantics.specs.GroupStates.{EntryForm}
use Rattle.semantics.specs.Parts.{group_values, groups_values, line_of, text_of, columns_text, front_of, front_values, values_with}
use Rattle.parts.specs.Inside.Hashing.{HoldsText}
use Rattle.parts.specs.declared.checksum.TextHasher.{TextHasher}
use Rattle.semantics.specs.Canonical.{canonical_text}
use Rattle.semantics.specs.Columns.{Field}
use Rattle.semantics.specs.Syntax.{Query}
use Rattle.semantics.specs.declared.line_fault.LineFault.{LineFault}
use Rattle.tables.specs.Contents.{DiffersInGroups, HasRefusals}
use Rattle.tables.specs.States.{PartialState}
use Rattle.parts.specs.Inside.Gathering.{contents_of, first_refused, groups_of, refused_in}
use Rattle.parts.specs.declared.gather.Gathering.{Gathering}

-- ---- what a hasher was given

pub hashed-group : (hasher : TextHasher) (bytes : List ℕ) (gs : List EntryForm) (g : EntryForm) → HoldsText hasher ((bytes ++ text_of (groups_values gs)) ++ text_of (group_values g)) → HoldsText hasher (bytes ++ text_of (groups_values (gs ++ g ∷ [])))
hashed-group hasher bytes gs g h =
    let one : groups_values (g ∷ []) ≡ group_values g = flat_map-cons group_values g [] ∙ append-nil (group_values g) in
    let all : groups_values (gs ++ g ∷ []) ≡ groups_values gs ++ group_values g = flat_map-append group_values gs (g ∷ []) ∙ ap (λ ds. groups_values gs ++ ds) one in
    let texts : text_of (groups_values (gs ++ g ∷ [])) ≡ text_of (groups_values gs) ++ text_of (group_values g) = ap text_of all ∙ flat_map-append line_of (groups_values gs) (group_values g) in
    subst (HoldsText hasher) (append_assoc bytes (text_of (groups_values gs)) (text_of (group_values g)) ∙ ap (λ xs. bytes ++ xs) (sym texts)) h

-- before the groups a hasher was given the front of a part, and then them
hashed-all : (hasher : TextHasher) (front : List ℕ) (fields : List Field) (q : Query) (columns query : List ℕ) (lines count lines_too : ℕ) (refused refused_too : List (ℕ × LineFault)) (gs : List EntryForm)
    → HoldsText hasher (front ++ text_of (groups_values gs)) → front ≡ text_of (front_of columns query fields lines refused count) → columns ≡ columns_text fields → query ≡ canonical_text q
    → lines_too ≡ lines → refused_too ≡ refused → length gs ≡ count → HoldsText hasher (text_of (values_with fields q (record { lines = lines_too; refused = refused_too; groups = gs })))
hashed-all hasher front fields q columns query lines count lines_too refused refused_too gs h is c k l r n =
    let front_is : front ≡ text_of (front_values fields q lines_too refused_too (length gs)) = is ∙ (λ i. text_of (front_of (c i) (k i) fields (sym l i) (sym r i) (sym n i))) in
    subst (HoldsText hasher) (ap (λ xs. xs ++ text_of (groups_values gs)) front_is ∙ sym (flat_map-append line_of (front_values fields q lines_too refused_too (length gs)) (groups_values gs))) h

-- ---- results that differ in their groups alone

pub differs-more : (a b c : PartialState) → DiffersInGroups a b → DiffersInGroups b c → DiffersInGroups a c
differs-more a b c h k = record {
  shape = record { sets = h.shape.sets ∙ k.shape.sets; functions = h.shape.functions ∙ k.shape.functions; filters = h.shape.filters ∙ k.shape.filters };
  lines = k.lines ∙ h.lines;
  refused = k.refused ∙ h.refused;
  notes = k.notes ∙ h.notes;
}

-- what a hasher was given of a part with its groups
pub contents-hashed : {E : Type 0} (r : Result Gathering E) (start : Gathering) (front : List ℕ) (fields fields_too : List Field) (q : Query) (columns query : List ℕ) (lines count : ℕ) (refused seen : List (ℕ × LineFault))
    → IfOk r (λ next. (bytes : List ℕ) → HoldsText start.hasher bytes → HoldsText next.hasher (bytes ++ text_of (groups_values (groups_of next)))) → IfOk r (λ next. length (groups_of next) ≡ count)
    → IfOk r (λ next. DiffersInGroups start.partial next.partial) → HoldsText start.hasher front → HasRefusals lines refused start.partial → front ≡ text_of (front_of columns query fields_too lines seen count) → seen ≡ refused
    → fields_too ≡ fields → columns ≡ columns_text fields → query ≡ canonical_text q → IfOk r (λ so_far. HoldsText so_far.hasher (text_of (values_with fields q (contents_of so_far))))
contents-hashed (Err e) start front fields fields_too q columns query lines count refused seen hashed counted others holds refusals is same f c k = tt
contents-hashed (Ok next) start front fields fields_too q columns query lines count refused seen hashed counted others holds refusals is same f c k =
    hashed-all next.hasher front fields q columns query lines count next.partial.lines refused (refused_in next.partial) (groups_of next) (hashed front holds)
    (is ∙ (λ i. text_of (front_of columns query (f i) lines (same i) count))) c k (others.lines ∙ refusals.lines) (ap first_refused (others.notes ∙ refusals.notes)) counted
