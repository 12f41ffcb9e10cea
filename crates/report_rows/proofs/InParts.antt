-- Lists that are made in parts are the whole.
use Rattle.std.proofs.Common.{◌≡◌, ◌≢◌, ◌∙◌, ◌+◌, ◌*◌, ◌/◌, ◌%◌, ◌<◌, ◌≤◌, ℕ, suc, List, [], ◌∷◌, ◌++◌, length, take, drop, map, min, get_or, IfOk, OnOk, IsPermutation, refl, ap, sym, subst, arith, ⊎_elim}
use Rattle.std.specs.Global.{Vec}
use Rattle.std.specs.List.{flat_map}
use Rattle.std.specs.declared.alloc.AllocError.{AllocError}
use Rattle.std.specs.declared.result.Result.{Result}
use Rattle.std.specs.declared.result.Result.TheVariants.{Ok, Err}
use Rattle.std.proofs.Math.Nat.{mod-lt, suc-mul, zero-mul}
use Rattle.std.proofs.lemmas.Bool.{cases_eq}
use Rattle.std.proofs.lemmas.Nat.{div-add-mod'}
use Rattle.std.proofs.lemmas.List.{drop-drop, length-drop, map-append, take-append-drop}
use Rattle.std.proofs.lemmas.List.Sorted.{IsPermutation-append, IsPermutation-refl}
use Rattle.semantics.specs.ResultRows.{ResultRow}
use Rattle.report_rows.specs.Parts.{AreMade, AreOfParts, items_of}
use Rattle.report_rows.specs.Inside.SortEntries.{AreEntriesOf, AreEntriesOfParts, CodedForm, EntryForm, IsCodableRow, entry_at, entry_form}
use Rattle.std.specs.List.{AllByRecursion}
use Rattle.report_rows.specs.declared.sort_entry.SortEntry.{SortEntry}

none-left : {X : Type 0} (xs : List X) → length xs ≤ 0 → xs ≡ []
none-left [] few = refl
none-left (x ∷ xs) few = absurd (omega (arith, few))

module _ {X Y : Type 0} (IsOf : List X → List Y → Type 0) where
  -- parts each of which is of the part of its number, where the parts are the whole list
  pub parts-made : (size : ℕ) (list : List X) (parts : List (Result (Vec Y) AllocError))
      → ((n : ℕ) (d : Result (Vec Y) AllocError) → n < length parts → IfOk (get_or parts n d) (λ made. IsOf (take size (drop (n * size) list)) made.items))
      → length list ≤ length parts * size → AreOfParts IsOf size list parts
  parts-made size list [] each all = let none : 0 * size ≡ 0 = zero-mul size in none-left list (omega (arith, none, all))
  parts-made size list (part ∷ parts) each all =
      let left = length-drop size list in
      let more = suc-mul (length parts) size in (
        subst (λ (m : ℕ). IfOk part (λ made. IsOf (take size (drop m list)) made.items)) (zero-mul size) (each 0 part (omega arith)),
        parts-made size (drop size list) parts
            (λ n d low. subst (λ (rest : List X). IfOk (get_or parts n d) (λ made. IsOf (take size rest) made.items))
            (ap (λ (m : ℕ). drop m list) (let e = suc-mul n size in let f : suc n * size ≡ size + n * size = omega (arith, e) in f) ∙ sym (drop-drop (n * size) size list))
            (each (suc n) d (omega (arith, low))))
            (omega (arith, left, more, all)),
      )

  -- all parts one after the other are of the whole list, where what is of one list and what is of
  -- another are together of both
  pub parts-joined : IsOf [] [] → ((xs us : List X) (ys vs : List Y) → IsOf xs ys → IsOf us vs → IsOf (xs ++ us) (ys ++ vs))
      → (size : ℕ) (list : List X) (parts : List (Result (Vec Y) AllocError)) → AreOfParts IsOf size list parts → AreMade parts → IsOf list (flat_map items_of parts)
  parts-joined none both size list [] of-parts made = subst (λ (xs : List X). IsOf xs []) (sym of-parts) none
  parts-joined none both size list (Ok part ∷ parts) of-parts made =
      subst (λ (xs : List X). IsOf xs (part.items ++ flat_map items_of parts)) (take-append-drop size list)
      (both (take size list) (drop size list) part.items (flat_map items_of parts) of-parts.0 (parts-joined none both size (drop size list) parts of-parts.1 made))
  parts-joined none both size list (Err e ∷ parts) of-parts made = absurd made

pub all-both : (P : ResultRow → Type 0) (xs us : List ResultRow) → AllByRecursion P xs → AllByRecursion P us → AllByRecursion P (xs ++ us)
all-both P [] us a b = b
all-both P (x ∷ xs) us a b = (a.0, all-both P xs us a.1 b)

-- entries that are made in parts are those of all rows
pub ranks-joined : (cs : List CodedForm) (size : ℕ) (rows : List ResultRow) (parts : List (Result (Vec SortEntry) AllocError)) → AreEntriesOfParts cs size rows parts → AreMade parts
    → AreEntriesOf cs rows (flat_map items_of parts)
ranks-joined cs = parts-joined (AreEntriesOf cs) (record { codable = tt; entries = IsPermutation-refl [] }) both
  where
    both : (xs us : List ResultRow) (ys vs : List SortEntry) → AreEntriesOf cs xs ys → AreEntriesOf cs us vs → AreEntriesOf cs (xs ++ us) (ys ++ vs)
    both xs us ys vs p q = record {
      codable = all-both (IsCodableRow cs) xs us p.codable q.codable;
      entries =
          subst (λ (rs : List EntryForm). IsPermutation rs (map entry_form (ys ++ vs))) (sym (map-append (entry_at cs) xs us))
          (subst (IsPermutation (map (entry_at cs) xs ++ map (entry_at cs) us)) (sym (map-append entry_form ys vs))
          (IsPermutation-append (map (entry_at cs) xs) (map entry_form ys) (map (entry_at cs) us) (map entry_form vs) p.entries q.entries));
    }

-- parts of so many rows are all rows, where there are as many as whole parts, and one more where
-- rows are left
pub parts-cover : (rows size parts : ℕ) → 0 < size → parts ≡ rows / size + min 1 (rows % size) → rows ≤ parts * size
parts-cover rows size parts some count =
    let whole = div-add-mod' rows size in
    let less = mod-lt rows some in
    ⊎_elim
    (λ (none : rows % size ≡ 0). let same : parts ≡ rows / size = omega (arith, count, none) in let e = ap (λ (n : ℕ). n * size) same in omega (arith, e, whole, none))
    (λ (left : rows % size ≢ 0). let more : parts ≡ suc (rows / size) = omega (arith, count, left) in let e = ap (λ (n : ℕ). n * size) more ∙ suc-mul (rows / size) size in omega (arith, e, whole, less))
    (cases_eq (rows % size) 0)

-- what follows where all parts were joined
pub joined-whole : {A B : Type 0} {Made : Type 0} {Is Then : A → Type 0} (r : Result A B) → OnOk r Made → IfOk r Is → ((whole : A) → Made → Is whole → Then whole) → IfOk r Then
joined-whole (Ok whole) made is then = then whole made is
joined-whole (Err e) made is then = tt
