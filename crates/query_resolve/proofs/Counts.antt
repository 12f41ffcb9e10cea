-- How many sets there are.
use Rattle.std.proofs.Common.{◌≡◌, ◌∙◌, ℕ, zero, suc, ◌+◌, ◌*◌, ◌^◌, ◌<◌, ◌≤◌, List, [], ◌∷◌, ◌++◌, map, length, min, refl, ap, sym, arith, inl, inr, length-append}
use Rattle.std.specs.Global.{Vec}
use Rattle.std.proofs.lemmas.Bool.{cases_lt}
use Rattle.std.proofs.lemmas.List.{length-map}
use Rattle.std.proofs.Math.Nat.{mul_assoc, mul_comm, mul-le-mul_left, pow-suc}
use Rattle.query_ast.specs.declared.group.GroupingElement.TheVariants as variant
use Rattle.semantics.specs.Syntax.{GroupingElement}
use Rattle.query_ast.specs.Syntax.{element_form, units_form}
use Rattle.semantics.specs.Sets.{cross_product, cube_sets, group_sets, rollup_sets}
use Rattle.query_resolve.proofs.Expansions.{cube_form, rollup_form}

-- ROLLUP of n units stands for n+1 sets.
pub length_rollup : {A : Type 0} (us : List (List A)) → length (rollup_sets us) ≡ length us + 1
length_rollup [] = omega arith
length_rollup (u ∷ us) = omega (arith, length_rollup us, length-append (map (λ s. u ++ s) (rollup_sets us)) ([] ∷ []), length-map (rollup_sets us) (λ s. u ++ s))

-- CUBE of n units stands for 2^n sets.
pub length_cube : {A : Type 0} (us : List (List A)) → length (cube_sets us) ≡ 2 ^ length us
length_cube [] = refl
length_cube (u ∷ us) = omega (arith, pow-suc 2 (length us), length_cube us, length-append (map (λ s. u ++ s) (cube_sets us)) (cube_sets us), length-map (cube_sets us) (λ s. u ++ s))

-- A cross product has as many sets as the product says.
pub length_crossed : {A : Type 0} (xs ys : List (List A)) → length (cross_product xs ys) ≡ length xs * length ys
length_crossed [] ys = omega arith
length_crossed (x ∷ xs) ys = omega (arith, length_crossed xs ys, length-append (map (λ s. x ++ s) ys) (cross_product xs ys), length-map ys (λ s. x ++ s))

-- How many sets a ROLLUP of the program stands for.
pub rollup_count : (v : Vec (Vec (List ℕ))) → length (group_sets (element_form (variant.Rollup v))) ≡ length v.items + 1
rollup_count v = ap (λ (g : GroupingElement). length (group_sets g)) (rollup_form v) ∙ omega (arith, length_rollup (units_form v.items), length-map v.items (λ u. u.items))

-- How many sets a CUBE of the program stands for.
pub cube_count : (v : Vec (Vec (List ℕ))) → length (group_sets (element_form (variant.Cube v))) ≡ 2 ^ length v.items
cube_count v = ap (λ (g : GroupingElement). length (group_sets g)) (cube_form v) ∙ (length_cube (units_form v.items) ∙ ap (λ (n : ℕ). 2 ^ n) (length-map v.items (λ u. u.items)))

-- A number above the greatest is capped to it.
at_most : (x m : ℕ) → m ≤ x → min x m ≡ m
at_most x m h = omega arith

-- A product with a capped factor is capped as the whole product.
above_one : (a b m : ℕ) → m < a → min (m * min b m) m ≡ min (a * b) m
above_one a zero m h = let e : min 0 m ≡ 0 = omega arith in let f : m * min 0 m ≡ 0 = ap (λ (n : ℕ). m * n) e ∙ omega arith in let g : a * 0 ≡ 0 = omega arith in rw (f, g) refl
above_one a (suc b) zero h = omega arith
above_one a (suc b) (suc m) h =
    let one : 1 ≤ min (suc b) (suc m) = omega arith in
    let left : suc m ≤ suc m * min (suc b) (suc m) = omega (arith, mul-le-mul_left (suc m) one) in
    let under : 1 ≤ suc b = omega arith in
    let right : suc m ≤ a * suc b = omega (arith, mul-le-mul_left a under) in
    at_most _ _ left ∙ sym (at_most _ _ right)

-- A product of capped numbers, capped.
pub capped_product : (a b m : ℕ) → min (min a m * min b m) m ≡ min (a * b) m
capped_product a b m =
    elim (cases_lt m a) [
      | inl more ↦ (let e : min a m ≡ m = omega arith in rw e (above_one a b m more))
      | inr few ↦ elim (cases_lt m b) [
        | inl more ↦ (let e : min b m ≡ m = omega arith in let f : min a m ≡ a = omega arith in rw (e, f) (let g : min a m ≡ a = omega arith in ap (λ (n : ℕ). min n m) (mul_comm a m ∙ ap (λ (n : ℕ). m * n) (sym g)) ∙ above_one b a m more ∙ ap (λ (n : ℕ). min n m) (mul_comm b a)))
        | inr less ↦ (let e : min b m ≡ b = omega arith in let f : min a m ≡ a = omega arith in rw (e, f) refl)
      ]
    ]

-- A product with one capped factor, capped.
capped_left : (a b m : ℕ) → min (min a m * b) m ≡ min (a * b) m
capped_left a b m =
    let twice : min (min a m) m ≡ min a m = omega arith in
    sym (ap (λ (n : ℕ). min (n * min b m) m) (sym twice) ∙ capped_product (min a m) b m) ∙ capped_product a b m

-- A turn of the loop: the sets of an element are counted, and those of the elements that are left
-- are not.
pub count_turn : (firsts seconds : List (List (List ℕ))) (old found new most : ℕ) → found ≡ min (length firsts) most → new ≡ min (old * found) most → min (new * length seconds) most ≡ min (old * length (cross_product firsts seconds)) most
count_turn firsts seconds old found new most counted told =
    ap (λ (n : ℕ). min (n * length seconds) most) told
    ∙ capped_left (old * found) (length seconds) most
    ∙ ap (λ (n : ℕ). min n most) (mul_assoc old found (length seconds) ∙ (ap (λ (n : ℕ). old * (n * length seconds)) counted ∙ mul_comm old (min (length firsts) most * length seconds) ∙ mul_assoc (min (length firsts) most) (length seconds) old))
    ∙ capped_left (length firsts) (length seconds * old) most
    ∙ ap (λ (n : ℕ). min n most) (sym (mul_assoc (length firsts) (length seconds) old) ∙ mul_comm (length firsts * length seconds) old ∙ ap (λ (n : ℕ). old * n) (sym (length_crossed firsts seconds)))
