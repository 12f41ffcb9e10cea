-- ROLLUP and CUBE, set by set.
use Rattle.std.proofs.Common.{◌≡◌, ◌∙◌, ℕ, suc, ◌+◌, ◌-◌, ◌*◌, ◌/◌, ◌%◌, ◌^◌, ◌<◌, ◌≤◌, ◌==◌, Bool, true, false, cond, List, [], ◌∷◌, ◌++◌, map, length, take, get_or, refl, sym, ap, inl, inr, arith}
use Rattle.std.proofs.lemmas.Bool.{cases_lt}
use Rattle.std.proofs.lemmas.List.{get_or_append_left, get_or-append_right, get_or-map, length-map}
use Rattle.std.proofs.lemmas.Nat.{div-mul-add, pow-add, pow_pos}
use Rattle.std.proofs.Math.Nat.{div-eq_of_lt, mul-add-div_right, pow-suc}
use Rattle.std.specs.Int.Bits.{block_odd}
use Rattle.query_resolve.specs.Laws.{IsCube, IsRollup, columns_of_digits, columns_of_units, digit}
use Rattle.semantics.specs.Sets.{cube_sets, rollup_sets}
use Rattle.query_resolve.proofs.Counts.{length_cube, length_rollup}

-- ---- ROLLUP

-- The set of a unit in front of those of the others.
rollup_at : {A : Type 0} (units : List (List A)) (k : ℕ) → k ≤ length units → get_or (rollup_sets units) k [] ≡ columns_of_units (take (length units - k) units)
rollup_at [] k within = let e : k ≡ 0 = omega arith in rw e refl
rollup_at {A} (unit ∷ units) k within =
    let fronts = map (λ s. unit ++ s) (rollup_sets units) in
    let many : length fronts ≡ length units + 1 = length-map (rollup_sets units) (λ s. unit ++ s) ∙ length_rollup units in
    elim (cases_lt (length units) k) [
      | inl past ↦ (
          let last : k ≡ length units + 1 = omega arith in
          let none : suc (length units) - k ≡ 0 = omega arith in
          let start : k - (length units + 1) ≡ 0 = omega arith in
          get_or-append_right fronts ([] ∷ []) (length units + 1) k [] many (omega arith)
          ∙ ap (λ (i : ℕ). get_or {A = List A} ([] ∷ []) i []) start
          ∙ sym (ap (λ (n : ℕ). columns_of_units (take n (unit ∷ units))) none))
      | inr inside ↦ (
          let more : suc (length units) - k ≡ suc (length units - k) = omega arith in
          get_or_append_left fronts ([] ∷ []) [] k (omega arith)
          ∙ get_or-map (λ s. unit ++ s) (rollup_sets units) k [] [] (omega (arith, length_rollup units))
          ∙ ap (λ (s : List A). unit ++ s) (rollup_at units k inside)
          ∙ sym (ap (λ (n : ℕ). columns_of_units (take n (unit ∷ units))) more))
    ]

-- A ROLLUP is its sets, from all units to none.
pub rollup_is : {A : Type 0} (units : List (List A)) → IsRollup units (rollup_sets units)
rollup_is units = record { count = length_rollup units; each = rollup_at units }

-- ---- CUBE

-- A digit is the same in a number that is greater by a power of two above it.
digit_low : (above place number : ℕ) → digit (2 ^ (suc above + place) + number) place ≡ digit number place
digit_low above place number =
    let apart : 2 ^ (suc above + place) ≡ 2 ^ suc above * 2 ^ place = pow-add 2 (suc above) place in
    let one : 2 ^ suc above ≡ 1 * 2 ^ suc above = omega arith in
    ap (λ (n : ℕ). ((n + number) / 2 ^ place) % 2 == 1) apart
    ∙ ap (λ (n : ℕ). n % 2 == 1) (mul-add-div_right (pow_pos place) (2 ^ suc above) number)
    ∙ ap (λ (n : ℕ). (n + number / 2 ^ place) % 2 == 1) one
    ∙ ap (λ (n : ℕ). n == 1) (block_odd 1 above (number / 2 ^ place))

-- So are the units that are chosen, where there are no more than the power has digits below it.
columns_of_digits_low : {A : Type 0} (units : List (List A)) (above number : ℕ) → columns_of_digits units (2 ^ (above + length units) + number) ≡ columns_of_digits units number
columns_of_digits_low [] above number = refl
columns_of_digits_low {A} (unit ∷ units) above number =
    let place = length units in
    let e : above + suc place ≡ suc above + place = omega arith in
    ap (λ (n : ℕ). columns_of_digits (unit ∷ units) (2 ^ n + number)) e
    ∙ ap (λ (b : Bool). cond b unit [] ++ columns_of_digits units (2 ^ (suc above + place) + number)) (digit_low above place number)
    ∙ ap (λ (s : List A). cond (digit number place) unit [] ++ s) (columns_of_digits_low units (suc above) number)

-- The highest digit of a number that has it.
digit_set : (place number : ℕ) → number < 2 ^ place → digit (2 ^ place + number) place ≡ true
digit_set place number below =
    let one : 2 ^ place ≡ 1 * 2 ^ place = omega arith in
    ap (λ (n : ℕ). ((n + number) / 2 ^ place) % 2 == 1) one
    ∙ ap (λ (n : ℕ). n % 2 == 1) (div-mul-add 1 (2 ^ place) number below)

-- The highest digit of a number that is less.
digit_unset : (place number : ℕ) → number < 2 ^ place → digit number place ≡ false
digit_unset place number below = ap (λ (n : ℕ). n % 2 == 1) (div-eq_of_lt below)

-- The sets with the first unit, then those without it.
cube_at : {A : Type 0} (units : List (List A)) (k : ℕ) → k < 2 ^ length units → get_or (cube_sets units) k [] ≡ columns_of_digits units (2 ^ length units - 1 - k)
cube_at [] k below = let e : k ≡ 0 = omega arith in rw e refl
cube_at {A} (unit ∷ units) k below =
    let half = 2 ^ length units in
    let twice : 2 ^ suc (length units) ≡ half * 2 = pow-suc 2 (length units) in
    let withs = map (λ s. unit ++ s) (cube_sets units) in
    let many : length withs ≡ half = length-map (cube_sets units) (λ s. unit ++ s) ∙ length_cube units in
    elim (cases_lt k half) [
      | inl first ↦ (
          let number = half - 1 - k in
          let small : number < half = omega arith in
          let e : 2 ^ suc (length units) - 1 - k ≡ half + number = omega arith in
          let none : 0 + length units ≡ length units = omega arith in
          let low : columns_of_digits units (half + number) ≡ columns_of_digits units number = ap (λ (n : ℕ). columns_of_digits units (2 ^ n + number)) (sym none) ∙ columns_of_digits_low units 0 number in
          get_or_append_left withs (cube_sets units) [] k (omega arith)
          ∙ get_or-map (λ s. unit ++ s) (cube_sets units) k [] [] (omega (arith, length_cube units))
          ∙ ap (λ (s : List A). unit ++ s) (cube_at units k first ∙ sym low)
          ∙ sym (ap (λ (b : Bool). cond b unit [] ++ columns_of_digits units (half + number)) (digit_set (length units) number small))
          ∙ sym (ap (columns_of_digits (unit ∷ units)) e))
      | inr second ↦ (
          let number = 2 ^ suc (length units) - 1 - k in
          let small : number < half = omega arith in
          let e : half - 1 - (k - half) ≡ number = omega arith in
          get_or-append_right withs (cube_sets units) half k [] many second
          ∙ cube_at units (k - half) (omega arith)
          ∙ ap (columns_of_digits units) e
          ∙ sym (ap (λ (b : Bool). cond b unit [] ++ columns_of_digits units number) (digit_unset (length units) number small)))
    ]

-- A CUBE is its sets, by falling numbers.
pub cube_is : {A : Type 0} (units : List (List A)) → IsCube units (cube_sets units)
cube_is units = record { count = length_cube units; each = cube_at units }
