-- The first fault of names that are walked from left to right.
use Rattle.std.proofs.Common.{◌≡◌, ◌∙◌, ℕ, ◌+◌, ◌<◌, List, [], ◌∷◌, ◌++◌, length, get_or, drop, Option, Some, None, refl, sym, ap, add-one, drop-cons}
use Rattle.std.specs.Option.{option_or}
use Rattle.semantics.specs.Columns.{Field}
use Rattle.semantics.specs.declared.query_fault.QueryFault.{QueryFault}
use Rattle.query_typecheck.specs.FirstFaults.{column_fault, first_fault}

-- Of three tests in a row it is the same which two are taken first.
or_in_a_row : {A : Type 0} (a b c : Option A) → option_or a (option_or b c) ≡ option_or (option_or a b) c
or_in_a_row None b c = refl
or_in_a_row (Some x) b c = refl

-- The first fault of names in front of others is that of the front, else that of the others.
names_behind : (fields : List Field) (front rest : List (List ℕ)) → first_fault (column_fault fields) (front ++ rest) ≡ option_or (first_fault (column_fault fields) front) (first_fault (column_fault fields) rest)
names_behind fields [] rest = refl
names_behind fields (n ∷ front) rest =
    ap (option_or (column_fault fields n)) (names_behind fields front rest) ∙ or_in_a_row (column_fault fields n) (first_fault (column_fault fields) front) (first_fault (column_fault fields) rest)

-- The fault of the names from a place on.
from_place : {A : Type 0} (fields : List Field) (names : List A → List (List ℕ)) (xs : List A) (i : ℕ) (x : A) (front : List (List ℕ)) → ((ys : List A) → names (x ∷ ys) ≡ front ++ names ys) → i < length xs
    → x ≡ get_or xs i x → first_fault (column_fault fields) (names (drop i xs)) ≡ option_or (first_fault (column_fault fields) front) (first_fault (column_fault fields) (names (drop (i + 1) xs)))
from_place fields names xs i x front split within is =
    let next : drop i xs ≡ x ∷ drop (i + 1) xs = drop-cons xs i x within ∙ ap (λ n. get_or xs i x ∷ drop n xs) (sym (add-one i)) ∙ ap (λ y. y ∷ drop (i + 1) xs) (sym is) in
    ap (λ ys. first_fault (column_fault fields) (names ys)) next
    ∙ ap (first_fault (column_fault fields)) (split (drop (i + 1) xs))
    ∙ names_behind fields front (names (drop (i + 1) xs))

-- Where the names of an element have no fault, the fault is that of the names behind it.
pub goes_on : {A : Type 0} (fields : List Field) (names : List A → List (List ℕ)) (xs : List A) (i : ℕ) (x : A) (front : List (List ℕ)) (whole : Option QueryFault) → ((ys : List A) → names (x ∷ ys) ≡ front ++ names ys)
    → i < length xs → x ≡ get_or xs i x → first_fault (column_fault fields) front ≡ None → first_fault (column_fault fields) (names (drop i xs)) ≡ whole → first_fault (column_fault fields) (names (drop (i + 1) xs)) ≡ whole
goes_on fields names xs i x front whole split within is none so_far =
    ap (λ o. option_or o (first_fault (column_fault fields) (names (drop (i + 1) xs)))) (sym none) ∙ sym (from_place fields names xs i x front split within is) ∙ so_far

-- Where they have one, it is the fault.
pub stops : {A : Type 0} (fields : List Field) (names : List A → List (List ℕ)) (xs : List A) (i : ℕ) (x : A) (front : List (List ℕ)) (whole : Option QueryFault) (f : QueryFault) → ((ys : List A) → names (x ∷ ys) ≡ front ++ names ys)
    → i < length xs → x ≡ get_or xs i x → first_fault (column_fault fields) front ≡ Some f → first_fault (column_fault fields) (names (drop i xs)) ≡ whole → whole ≡ Some f
stops fields names xs i x front whole f split within is some so_far =
    sym so_far ∙ from_place fields names xs i x front split within is ∙ ap (λ o. option_or o (first_fault (column_fault fields) (names (drop (i + 1) xs)))) some
