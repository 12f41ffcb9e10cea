-- The cross product of two lists of sets, by places.
use Rattle.std.proofs.Common.{◌≡◌, ◌∙◌, ℕ, zero, suc, ◌+◌, ◌-◌, ◌*◌, ◌<◌, List, [], ◌∷◌, ◌++◌, map, length, get_or, ap, arith}
use Rattle.std.proofs.lemmas.List.{get_or_append_left, get_or-append_right, get_or-map, length-map}
use Rattle.query_resolve.specs.Laws.{IsCrossProduct}
use Rattle.semantics.specs.Sets.{cross_product}
use Rattle.query_resolve.proofs.Counts.{length_crossed}

-- The first set's row stands in front, and behind it the rows of the others.
crossed_at : {A : Type 0} (xs ys : List (List A)) (i j : ℕ) → i < length xs → j < length ys → get_or (cross_product xs ys) (i * length ys + j) [] ≡ get_or xs i [] ++ get_or ys j []
crossed_at [] ys i j below within = absurd (omega arith)
crossed_at {A} (x ∷ xs) ys zero j below within =
    let row = map (λ s. x ++ s) ys in
    let many : length row ≡ length ys = length-map ys (λ s. x ++ s) in
    let start : zero * length ys + j ≡ j = omega arith in
    ap (λ (k : ℕ). get_or (row ++ cross_product xs ys) k []) start
    ∙ get_or_append_left row (cross_product xs ys) [] j (omega (arith, many, within))
    ∙ get_or-map (λ s. x ++ s) ys j [] [] within
crossed_at {A} (x ∷ xs) ys (suc i) j below within =
    let row = map (λ s. x ++ s) ys in
    let many : length row ≡ length ys = length-map ys (λ s. x ++ s) in
    let past : (suc i * length ys + j) - length ys ≡ i * length ys + j = omega arith in
    get_or-append_right row (cross_product xs ys) (length ys) (suc i * length ys + j) [] many (omega arith)
    ∙ ap (λ (k : ℕ). get_or (cross_product xs ys) k []) past
    ∙ crossed_at xs ys i j (omega arith) within

-- A cross product is the unions by their places.
pub crossed_is : {A : Type 0} (xs ys : List (List A)) → IsCrossProduct xs ys (cross_product xs ys)
crossed_is xs ys = record { count = length_crossed xs ys; each = crossed_at xs ys }
