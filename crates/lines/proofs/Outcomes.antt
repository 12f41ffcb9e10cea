-- What a line's record, or its fault, says of the schema: a record fits it, and a bad value is one
-- of its columns.
use Rattle.std.proofs.Common.{◌≡◌, ◌<◌, ℕ, Bool, true, false, nat_lt, cond, List, [], ◌∷◌, ◌++◌, length, filter_map, Option, Some, None, Result, Ok, Err, refl, sym, ap, subst, ◌∙◌, ◌⊎◌, inl, inr}
use Rattle.std.proofs.lemmas.List.{length-map}
use Rattle.std.specs.Prelude.{position, unwrap_or}
use Rattle.std.specs.List.{position_or_len}
use Rattle.std.specs.Option.{is_none, option_map_or}
use Rattle.std.proofs.lemmas.Bool.{ltb-true}
use Rattle.serde_json.specs.Data as json
use Rattle.serde_json.specs.Data.{Data}
use Rattle.semantics.specs.Values.{Datum}
use Rattle.semantics.specs.Records.{Fits, all_taken, data_taken, datum_taken, max_line_len, member_of, reading, record_of, decode_line}
use Rattle.semantics.specs.Columns.{Field}
use Rattle.semantics.specs.declared.line_fault.LineFault.{LineFault}
use Rattle.semantics.specs.declared.line_fault.LineFault.TheVariants.{TooLong, NoJson, NoObject, BadValue}
use Rattle.lines.proofs.Fitting.{fits-taken}
use Rattle.lines.proofs.Taking.{somes, all_taken-missing, all_taken-somes}

abbrev Outcome : Type 0
Outcome = Result (List Datum) LineFault

abbrev read : List Datum → Outcome
read r = Ok r

abbrev faulty : LineFault → Outcome
faulty fault = Err fault

-- ---- a record

same_ok : (x y : List Datum) → read x ≡ read y → x ≡ y
same_ok x y e = cc

not_faulty : (fault : LineFault) (r : List Datum) → faulty fault ≡ read r → ⊥
not_faulty fault r e = cc

abbrev Given : List (Option Datum) → Type 0
Given found = (ds : List Datum) × (somes ds ≡ found)

abbrev Missing : List (Option Datum) → Type 0
Missing found = (ds : List Datum) × ((rest : List (Option Datum)) × (somes ds ++ None ∷ rest ≡ found))

given-or-missing : (found : List (Option Datum)) → Given found ⊎ Missing found
given-or-missing [] = inl ([], refl)
given-or-missing (None ∷ more) = inr ([], (more, refl))
given-or-missing (Some d ∷ more) = elim (given-or-missing more) [
  | inl h ↦ inl (d ∷ h.0, ap (λ os. Some d ∷ os) h.1)
  | inr h ↦ inr (d ∷ h.0, (h.1.0, ap (λ os. Some d ∷ os) h.1.1))
]

-- where data are taken there is one at each place
all_given : (found : List (Option Datum)) (r : List Datum) → all_taken found ≡ Ok r → somes r ≡ found
all_given found r e = elim (given-or-missing found) [
  | inl h ↦ ap somes (sym (same_ok h.0 r (sym (all_taken-somes h.0) ∙ ap all_taken h.1 ∙ e))) ∙ h.1
  | inr h ↦ absurd (not_faulty _ r (sym (all_taken-missing h.0 h.1.0) ∙ ap all_taken h.1.1 ∙ e))
]

record_of-fits : (fields : List Field) (value : Option Data) (r : List Datum) → record_of fields value ≡ Ok r → Fits fields r
record_of-fits fields None r e = cc
record_of-fits fields (Some (json.object ms)) r e = fits-taken fields ms r (all_given (data_taken fields ms) r e)
record_of-fits fields (Some json.null) r e = cc
record_of-fits fields (Some (json.boolean b)) r e = cc
record_of-fits fields (Some (json.number n)) r e = cc
record_of-fits fields (Some (json.string s)) r e = cc
record_of-fits fields (Some (json.array js)) r e = cc

unless_long-fits : (fields : List Field) (long : Bool) (value : Option Data) (r : List Datum) → cond long (Err TooLong) (record_of fields value) ≡ Ok r → Fits fields r
unless_long-fits fields true value r e = cc
unless_long-fits fields false value r e = record_of-fits fields value r e

-- the record of a line fits the schema
pub decoded-fits : (fields : List Field) (line : List ℕ) (r : List Datum) → decode_line fields line ≡ Ok r → Fits fields r
decoded-fits fields line r e = unless_long-fits fields (nat_lt max_line_len (length line)) (reading line) r e

-- ---- a bad value

-- the place of a fault, where it has one
abbrev place_or : ℕ → Outcome → ℕ
place_or d (Err (BadValue place)) = place
place_or d (Err TooLong) = d
place_or d (Err NoJson) = d
place_or d (Err NoObject) = d
place_or d (Ok r) = d

same_place : (k place : ℕ) → faulty (BadValue k) ≡ faulty (BadValue place) → k ≡ place
same_place k place e = ap (place_or 0) e

-- a place that is found is within the list
position-within : {X : Type 0} (test : X → Bool) (xs : List X) (k : ℕ) → position test xs ≡ Some k → k < length xs
position-within test xs k at = go (nat_lt (position_or_len test xs) (length xs)) refl at
  where
    go : (b : Bool) → nat_lt (position_or_len test xs) (length xs) ≡ b → cond b (Some (position_or_len test xs)) None ≡ Some k → k < length xs
    go true below same = subst (λ n. n < length xs) (ap (λ o. unwrap_or o 0) same) (ltb-true (position_or_len test xs) (length xs) below)
    go false above same = cc

all_taken-within : (found : List (Option Datum)) (place : ℕ) → all_taken found ≡ Err (BadValue place) → place < length found
all_taken-within found place is = go (position is_none found) refl is
  where
    go : (o : Option ℕ) → position is_none found ≡ o
        → option_map_or (λ k. Err (BadValue k)) o (Ok (filter_map (λ x. x) found)) ≡ Err (BadValue place) → place < length found
    go None none same = cc
    go (Some k) at same = subst (λ n. n < length found) (same_place k place same) (position-within is_none found k at)

record_of-within : (fields : List Field) (value : Option Data) (place : ℕ) → record_of fields value ≡ Err (BadValue place) → place < length fields
record_of-within fields None place e = cc
record_of-within fields (Some (json.object ms)) place e =
    subst (λ n. place < n) (length-map fields (λ field. datum_taken field.kind (member_of ms field.name))) (all_taken-within (data_taken fields ms) place e)
record_of-within fields (Some json.null) place e = cc
record_of-within fields (Some (json.boolean b)) place e = cc
record_of-within fields (Some (json.number n)) place e = cc
record_of-within fields (Some (json.string s)) place e = cc
record_of-within fields (Some (json.array js)) place e = cc

unless_long-within : (fields : List Field) (long : Bool) (value : Option Data) (place : ℕ) → cond long (Err TooLong) (record_of fields value) ≡ Err (BadValue place) → place < length fields
unless_long-within fields true value place e = cc
unless_long-within fields false value place e = record_of-within fields value place e

-- a bad value of a line is that of a column
pub decoded-bad_value : (fields : List Field) (line : List ℕ) (place : ℕ) → decode_line fields line ≡ Err (BadValue place) → place < length fields
decoded-bad_value fields line place e = unless_long-within fields (nat_lt max_line_len (length line)) (reading line) place e
