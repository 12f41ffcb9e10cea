-- What the codes come to.
use Rattle.std.specs.Prelude.{◌≡◌, ◌<◌, ℕ, List, ◌∷◌, ◌++◌}
use Rattle.std.specs.Ordering.{nat_cmp, ordering_then}
use Rattle.std.specs.Cmp.Lexicographic.{slice_cmp}
use Rattle.std.specs.List.{AllByRecursion}
use Rattle.semantics.specs.Order.{compare_by_key}
use Rattle.semantics.specs.Syntax.{SortKey}
use Rattle.semantics.specs.Values.{Datum}
use Rattle.sort_keys.specs.Codes.{IsCodable, key_code}
use Rattle.sort_keys.specs.SortKeys.{parts_of, parts_order}

-- Whatever stands behind the codes of two values, the bytes stand to each other as the values do
-- under the key, and where the values are the same, as what stands behind. So no code is the
-- beginning of another one, and no two values have one code.
abbrev pub AreCodesInOrder : SortKey → Datum → Datum → Type 0
AreCodesInOrder k a b = IsCodable a → IsCodable b → (s t : List ℕ) → slice_cmp nat_cmp (key_code k a ++ s) (key_code k b ++ t) ≡ ordering_then (compare_by_key k a b) (slice_cmp nat_cmp s t)

-- A string of bytes is the beginning of another one, which has more bytes behind it.
abbrev pub IsBeginning : List ℕ → List ℕ → Type 0
IsBeginning s t = (b : ℕ) × ((more : List ℕ) × (t ≡ s ++ b ∷ more))

-- Where neither of two strings of bytes is the beginning of the other one, their parts stand to
-- each other as they do, byte by byte.
abbrev pub ArePartsInOrder : List ℕ → List ℕ → Type 0
ArePartsInOrder s t =
    AllByRecursion (λ b. b < 256) s → AllByRecursion (λ b. b < 256) t → ¬ IsBeginning s t → ¬ IsBeginning t s → parts_order (parts_of s) (parts_of t) ≡ slice_cmp nat_cmp s t
