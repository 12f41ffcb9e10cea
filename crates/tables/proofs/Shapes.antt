-- Grouping sets, set functions and texts that are the same.
use Rattle.std.proofs.Common.{◌≡◌, Bool, false, ◌&&◌, List, [], ◌∷◌, map, Option, Some, None, Vec, Global, ℕ, nat_eq, string_bytes, refl, ap, ◌∙◌, arith}
use Rattle.std.proofs.lemmas.Bool.Decides.{Decides-and, Decides-eqb}
use Rattle.std.proofs.lemmas.Slice.Eq.{slice_eq-Decides}
use Rattle.std.specs.Bool.{Decides}
use Rattle.std.specs.Cmp.Lexicographic.{pointwise}
use Rattle.std.specs.Option.{option_eq}
use Rattle.std.specs.Prelude.{String}
use Rattle.std.specs.String.{string_eq}
use Rattle.semantics.specs.contracts.function.ColumnFunctionPartialEq.TheImpl.{eq-value}
use Rattle.query_resolve.specs.contracts.function.FilteredFunctionPartialEq.TheImpl as filtered
use Rattle.semantics.specs.declared.function.ColumnFunction.{ColumnFunction}
use Rattle.semantics.specs.declared.function.ColumnFunction.TheVariants as at
use Rattle.query_resolve.specs.declared.function.FilteredFunction.{FilteredFunction}
use Rattle.query_resolve.specs.Resolution.{contents}

pointwise-contents : (test : List ℕ → List ℕ → Bool) (xs ys : List (Vec ℕ Global)) → pointwise (λ x y. test x.items y.items) xs ys ≡ pointwise test (contents xs) (contents ys)
pointwise-contents test [] [] = refl
pointwise-contents test [] (y ∷ ys) = refl
pointwise-contents test (x ∷ xs) [] = refl
pointwise-contents test (x ∷ xs) (y ∷ ys) = ap (λ b. test x.items y.items && b) (pointwise-contents test xs ys)

-- what `==` says of two lists of grouping sets
pub sets-Decides : (xs ys : List (Vec ℕ Global)) (r : Bool) → r ≡ pointwise (λ x y. pointwise nat_eq x.items y.items) xs ys → Decides r (contents xs ≡ contents ys)
sets-Decides xs ys r e = slice_eq-Decides (λ a b. slice_eq-Decides Decides-eqb a b (pointwise nat_eq a b) refl) (contents xs) (contents ys) r (e ∙ pointwise-contents (pointwise nat_eq) xs ys)

-- ---- set functions

abbrev tag : ColumnFunction → ℕ
tag at.CountRows = 0
tag (at.Count place) = 1
tag (at.CountDistinct place) = 2
tag (at.Sum place) = 3
tag (at.Min place) = 4
tag (at.Max place) = 5
tag (at.Avg place) = 6

abbrev place : ColumnFunction → ℕ
place at.CountRows = 0
place (at.Count p) = p
place (at.CountDistinct p) = p
place (at.Sum p) = p
place (at.Min p) = p
place (at.Max p) = p
place (at.Avg p) = p

-- functions of two kinds are not the same
differ : (f g : ColumnFunction) → (tag f ≡ tag g → ⊥) → Decides false (f ≡ g)
differ f g n = (λ h. cc, λ h. absurd (n (ap tag h)))

-- `==` of two set functions is true exactly where they are the same
function-Decides : (f g : ColumnFunction) → Decides (eq-value.it f g) (f ≡ g)
function-Decides at.CountRows at.CountRows = (λ h. refl, λ h. refl)
function-Decides at.CountRows (at.Count b) = differ at.CountRows (at.Count b) (λ e. omega (arith, e))
function-Decides at.CountRows (at.CountDistinct b) = differ at.CountRows (at.CountDistinct b) (λ e. omega (arith, e))
function-Decides at.CountRows (at.Sum b) = differ at.CountRows (at.Sum b) (λ e. omega (arith, e))
function-Decides at.CountRows (at.Min b) = differ at.CountRows (at.Min b) (λ e. omega (arith, e))
function-Decides at.CountRows (at.Max b) = differ at.CountRows (at.Max b) (λ e. omega (arith, e))
function-Decides at.CountRows (at.Avg b) = differ at.CountRows (at.Avg b) (λ e. omega (arith, e))
function-Decides (at.Count a) at.CountRows = differ (at.Count a) at.CountRows (λ e. omega (arith, e))
function-Decides (at.Count a) (at.Count b) = (λ h. ap at.Count ((Decides-eqb a b).0 h), λ h. (Decides-eqb a b).1 (ap place h))
function-Decides (at.Count a) (at.CountDistinct b) = differ (at.Count a) (at.CountDistinct b) (λ e. omega (arith, e))
function-Decides (at.Count a) (at.Sum b) = differ (at.Count a) (at.Sum b) (λ e. omega (arith, e))
function-Decides (at.Count a) (at.Min b) = differ (at.Count a) (at.Min b) (λ e. omega (arith, e))
function-Decides (at.Count a) (at.Max b) = differ (at.Count a) (at.Max b) (λ e. omega (arith, e))
function-Decides (at.Count a) (at.Avg b) = differ (at.Count a) (at.Avg b) (λ e. omega (arith, e))
function-Decides (at.CountDistinct a) at.CountRows = differ (at.CountDistinct a) at.CountRows (λ e. omega (arith, e))
function-Decides (at.CountDistinct a) (at.Count b) = differ (at.CountDistinct a) (at.Count b) (λ e. omega (arith, e))
function-Decides (at.CountDistinct a) (at.CountDistinct b) = (λ h. ap at.CountDistinct ((Decides-eqb a b).0 h), λ h. (Decides-eqb a b).1 (ap place h))
function-Decides (at.CountDistinct a) (at.Sum b) = differ (at.CountDistinct a) (at.Sum b) (λ e. omega (arith, e))
function-Decides (at.CountDistinct a) (at.Min b) = differ (at.CountDistinct a) (at.Min b) (λ e. omega (arith, e))
function-Decides (at.CountDistinct a) (at.Max b) = differ (at.CountDistinct a) (at.Max b) (λ e. omega (arith, e))
function-Decides (at.CountDistinct a) (at.Avg b) = differ (at.CountDistinct a) (at.Avg b) (λ e. omega (arith, e))
function-Decides (at.Sum a) at.CountRows = differ (at.Sum a) at.CountRows (λ e. omega (arith, e))
function-Decides (at.Sum a) (at.Count b) = differ (at.Sum a) (at.Count b) (λ e. omega (arith, e))
function-Decides (at.Sum a) (at.CountDistinct b) = differ (at.Sum a) (at.CountDistinct b) (λ e. omega (arith, e))
function-Decides (at.Sum a) (at.Sum b) = (λ h. ap at.Sum ((Decides-eqb a b).0 h), λ h. (Decides-eqb a b).1 (ap place h))
function-Decides (at.Sum a) (at.Min b) = differ (at.Sum a) (at.Min b) (λ e. omega (arith, e))
function-Decides (at.Sum a) (at.Max b) = differ (at.Sum a) (at.Max b) (λ e. omega (arith, e))
function-Decides (at.Sum a) (at.Avg b) = differ (at.Sum a) (at.Avg b) (λ e. omega (arith, e))
function-Decides (at.Min a) at.CountRows = differ (at.Min a) at.CountRows (λ e. omega (arith, e))
function-Decides (at.Min a) (at.Count b) = differ (at.Min a) (at.Count b) (λ e. omega (arith, e))
function-Decides (at.Min a) (at.CountDistinct b) = differ (at.Min a) (at.CountDistinct b) (λ e. omega (arith, e))
function-Decides (at.Min a) (at.Sum b) = differ (at.Min a) (at.Sum b) (λ e. omega (arith, e))
function-Decides (at.Min a) (at.Min b) = (λ h. ap at.Min ((Decides-eqb a b).0 h), λ h. (Decides-eqb a b).1 (ap place h))
function-Decides (at.Min a) (at.Max b) = differ (at.Min a) (at.Max b) (λ e. omega (arith, e))
function-Decides (at.Min a) (at.Avg b) = differ (at.Min a) (at.Avg b) (λ e. omega (arith, e))
function-Decides (at.Max a) at.CountRows = differ (at.Max a) at.CountRows (λ e. omega (arith, e))
function-Decides (at.Max a) (at.Count b) = differ (at.Max a) (at.Count b) (λ e. omega (arith, e))
function-Decides (at.Max a) (at.CountDistinct b) = differ (at.Max a) (at.CountDistinct b) (λ e. omega (arith, e))
function-Decides (at.Max a) (at.Sum b) = differ (at.Max a) (at.Sum b) (λ e. omega (arith, e))
function-Decides (at.Max a) (at.Min b) = differ (at.Max a) (at.Min b) (λ e. omega (arith, e))
function-Decides (at.Max a) (at.Max b) = (λ h. ap at.Max ((Decides-eqb a b).0 h), λ h. (Decides-eqb a b).1 (ap place h))
function-Decides (at.Max a) (at.Avg b) = differ (at.Max a) (at.Avg b) (λ e. omega (arith, e))
function-Decides (at.Avg a) at.CountRows = differ (at.Avg a) at.CountRows (λ e. omega (arith, e))
function-Decides (at.Avg a) (at.Count b) = differ (at.Avg a) (at.Count b) (λ e. omega (arith, e))
function-Decides (at.Avg a) (at.CountDistinct b) = differ (at.Avg a) (at.CountDistinct b) (λ e. omega (arith, e))
function-Decides (at.Avg a) (at.Sum b) = differ (at.Avg a) (at.Sum b) (λ e. omega (arith, e))
function-Decides (at.Avg a) (at.Min b) = differ (at.Avg a) (at.Min b) (λ e. omega (arith, e))
function-Decides (at.Avg a) (at.Max b) = differ (at.Avg a) (at.Max b) (λ e. omega (arith, e))
function-Decides (at.Avg a) (at.Avg b) = (λ h. ap at.Avg ((Decides-eqb a b).0 h), λ h. (Decides-eqb a b).1 (ap place h))

index-Decides : (o r : Option ℕ) → Decides (option_eq nat_eq o r) (o ≡ r)
index-Decides None None = (λ h. refl, λ h. refl)
index-Decides None (Some n) = (λ h. cc, λ h. cc)
index-Decides (Some m) None = (λ h. cc, λ h. cc)
index-Decides (Some m) (Some n) = (λ h. ap Some ((Decides-eqb m n).0 h), λ h. (Decides-eqb m n).1 cc)

-- `==` of two set functions with the indexes of their filters is true exactly where they are the
-- same
filtered-Decides : (f g : FilteredFunction) → Decides (filtered.eq-value.it f g) (f ≡ g)
filtered-Decides f g =
    let h = Decides-and _ _ (function-Decides f.function g.function) (index-Decides f.filter g.filter) in
    (λ e. let p = h.0 e in λ i. record { function = p.0 i; filter = p.1 i }, λ e. h.1 (ap (λ (x : FilteredFunction). x.function) e, ap (λ (x : FilteredFunction). x.filter) e))

-- what `==` says of two lists of set functions
pub functions-Decides : (fs gs : List FilteredFunction) (r : Bool) → r ≡ pointwise filtered.eq-value.it fs gs → Decides r (fs ≡ gs)
functions-Decides fs gs r e = slice_eq-Decides filtered-Decides fs gs r e

-- ---- texts

pointwise-texts : (xs ys : List (String Global)) → pointwise string_eq xs ys ≡ pointwise (pointwise nat_eq) (map string_bytes xs) (map string_bytes ys)
pointwise-texts [] [] = refl
pointwise-texts [] (y ∷ ys) = refl
pointwise-texts (x ∷ xs) [] = refl
pointwise-texts (x ∷ xs) (y ∷ ys) = ap (λ b. pointwise nat_eq (string_bytes x) (string_bytes y) && b) (pointwise-texts xs ys)

-- what `==` says of two lists of texts
pub texts-Decides : (xs ys : List (String Global)) (r : Bool) → r ≡ pointwise string_eq xs ys → Decides r (map string_bytes xs ≡ map string_bytes ys)
texts-Decides xs ys r e = slice_eq-Decides (λ a b. slice_eq-Decides Decides-eqb a b (pointwise nat_eq a b) refl) (map string_bytes xs) (map string_bytes ys) r (e ∙ pointwise-texts xs ys)
