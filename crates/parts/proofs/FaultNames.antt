-- The text of a fault names that fault alone.
use Rattle.std.proofs.Common.{◌≡◌, ◌<◌, ℕ, true, inl, inr, List, [], length, Option, Some, None, get_or, refl, sym, ap, subst, ◌∙◌, arith}
use Rattle.std.proofs.lemmas.Bool.{cases_lt, cases_order, eq-eqb, eqb-true}
use Rattle.std.proofs.lemmas.List.{get_or-map, length-map}
use Rattle.std.proofs.lemmas.List.Quantifiers.{position-Some}
use Rattle.std.proofs.lemmas.Option.{slice_get_past, unwrap_or-slice_get}
use Rattle.std.proofs.lemmas.Slice.Eq.{slice_eq-Decides}
use Rattle.std.specs.Prelude.{IfSome, IsTrue, option_map, position, unwrap_or}
use Rattle.std.specs.Str.{bytes_eq}
use Rattle.semantics.specs.Canonical.{name_at}
use Rattle.semantics.specs.Columns.{Field, names_of}
use Rattle.semantics.specs.Words.{is_word}
use Rattle.semantics.specs.declared.kind.Kind.TheVariants as type
use Rattle.semantics.specs.declared.line_fault.LineFault.TheVariants.{TooLong, NoJson, NoObject, BadValue}
use Rattle.values.specs.Schema.{IsSchema}
use Rattle.parts.proofs.Back.{NamesAlone}

-- ---- names

abbrev pub column : Field
column = record { name = []; kind = type.Int }

abbrev pub name_of_field : Field → List ℕ
name_of_field field = field.name

equal-names : (a b : List ℕ) → bytes_eq a b ≡ true → a ≡ b
equal-names a b e = (slice_eq-Decides (λ x y. (eqb-true x y, eq-eqb x y)) a b (bytes_eq a b) refl).0 e

module _ (fields : List Field) (schema : IsSchema fields) where
  pub name-there : (i : ℕ) → i < length fields → get_or (names_of fields) i [] ≡ (get_or fields i column).name
  name-there i l = get_or-map name_of_field fields i column [] l

  pub name-at : (place : ℕ) → name_at fields place ≡ get_or (names_of fields) place []
  name-at place = unwrap_or-slice_get (names_of fields) place []

  pub size : length (names_of fields) ≡ length fields
  size = length-map fields name_of_field

  -- no column has an empty name
  named : (i : ℕ) → i < length fields → (get_or fields i column).name ≡ [] → ⊥
  named i l none = let wrong : IsTrue (is_word []) = subst (λ (name : List ℕ). IsTrue (is_word name)) none (schema.names i column l) in absurd cc

  -- and no two have the same
  same-place : (i place : ℕ) → i < length fields → place < length fields → (get_or fields place column).name ≡ (get_or fields i column).name → i ≡ place
  same-place i place l m same = elim (cases_order i place) [
    | inl e ↦ e
    | inr (inl less) ↦ absurd (schema.names_differ i place column less m (sym same))
    | inr (inr more) ↦ absurd (schema.names_differ place i column more l same)
  ]

  one-place : (place i : ℕ) → i < length fields → name_at fields place ≡ (get_or fields i column).name → i ≡ place
  one-place place i l same = elim (cases_lt place (length fields)) [
    | inl there ↦ same-place i place l there (sym (name-there place there) ∙ sym (name-at place) ∙ same)
    | inr past ↦ absurd (named i l (sym same ∙ ap (λ o. unwrap_or o []) (slice_get_past (names_of fields) place (omega (arith, size, past)))))
  ]

  found-alone : (place : ℕ) (o : Option ℕ) → position (bytes_eq (name_at fields place)) (names_of fields) ≡ o → IfSome (option_map BadValue o) (λ found. found ≡ BadValue place)
  found-alone place None e = tt
  found-alone place (Some i) e =
      let at = position-Some (bytes_eq (name_at fields place)) (names_of fields) i [] e in
      let l : i < length fields = omega (arith, at.0, size) in
      ap BadValue (one-place place i l (equal-names (name_at fields place) (get_or (names_of fields) i []) at.1 ∙ name-there i l))

  pub names-alone : NamesAlone fields
  names-alone TooLong = refl
  names-alone NoJson = refl
  names-alone NoObject = refl
  names-alone (BadValue place) = found-alone place (position (bytes_eq (name_at fields place)) (names_of fields)) refl
