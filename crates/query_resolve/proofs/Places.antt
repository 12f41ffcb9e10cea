-- Places of columns and filters.
use Rattle.std.proofs.Common.{◌≡◌, ◌∙◌, ℕ, suc, ◌+◌, Bool, cond, not, nat_lt, List, [], ◌∷◌, length, map, Some, None, refl, sym, ap, string_bytes}
use Rattle.std.specs.Prelude.{position}
use Rattle.std.specs.List.{position_or_len}
use Rattle.std.proofs.lemmas.List.{length-map}
use Rattle.values.specs.declared.schema.Column.{Column}
use Rattle.values.specs.Schema.{fields_of}
use Rattle.semantics.specs.Columns.{names_of}

-- The first column whose name passes a test, by its name.
first_named : (test : List ℕ → Bool) (columns : List Column) → position_or_len (λ column. test (string_bytes column.name)) columns ≡ position_or_len test (names_of (fields_of columns))
first_named test [] = refl
first_named test (column ∷ more) = ap (λ (n : ℕ). cond (not (test (string_bytes column.name))) (1 + n) 0) (first_named test more)

-- As many columns as names.
names_length : (columns : List Column) → length columns ≡ length (names_of (fields_of columns))
names_length [] = refl
names_length (column ∷ more) = ap suc (names_length more)

-- The place of the first column whose name passes a test.
pub names_position : (test : List ℕ → Bool) (columns : List Column) → position (λ column. test (string_bytes column.name)) columns ≡ position test (names_of (fields_of columns))
names_position test columns =
    ap (λ (n : ℕ). cond (nat_lt n (length columns)) (Some n) None) (first_named test columns)
    ∙ ap (λ (m : ℕ). cond (nat_lt (position_or_len test (names_of (fields_of columns))) m) (Some (position_or_len test (names_of (fields_of columns)))) None) (names_length columns)

-- The first place of a mapped list whose element passes a test.
first_mapped : {A B : Type 0} (test : B → Bool) (f : A → B) (xs : List A) → position_or_len (λ x. test (f x)) xs ≡ position_or_len test (map f xs)
first_mapped test f [] = refl
first_mapped test f (x ∷ xs) = ap (λ (n : ℕ). cond (not (test (f x))) (1 + n) 0) (first_mapped test f xs)

-- The place of the first element of a mapped list that passes a test.
pub position-map : {A B : Type 0} (test : B → Bool) (f : A → B) (xs : List A) → position (λ x. test (f x)) xs ≡ position test (map f xs)
position-map test f xs =
    ap (λ (n : ℕ). cond (nat_lt n (length xs)) (Some n) None) (first_mapped test f xs)
    ∙ ap (λ (m : ℕ). cond (nat_lt (position_or_len test (map f xs)) m) (Some (position_or_len test (map f xs))) None) (sym (length-map xs f))
