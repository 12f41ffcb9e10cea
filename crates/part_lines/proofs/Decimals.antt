-- The digits of whole numbers of any size: the definition has 64 digits at most, so that of a
-- longer number the last 64 are written.
use Rattle.std.proofs.Common.{◌≡◌, ℕ, ℤ, pos, negsuc, zero, suc, ◌+◌, ◌/◌, ◌%◌, ◌^◌, ◌<◌, ◌≤◌, ◌==◌, true, false, cond, List, [], ◌∷◌, length, drop, decimal, sym, ap, subst, ◌∙◌, arith, inl, inr}
use Rattle.std.proofs.Math.Nat.{pow-suc}
use Rattle.std.proofs.lemmas.Bool.{cases_lt, lt-ltb, ltb-true, ne_eqb}
use Rattle.std.proofs.lemmas.Fmt.{decimal_is_IsNumeral_wide, length-decimal-le_wide}
use Rattle.std.proofs.lemmas.Str.{digit_value_digit}
use Rattle.std.proofs.lemmas.Str.Parse.{digit_from_value}
use Rattle.std.specs.Char.{digit_value}
use Rattle.std.specs.Fmt.{digit_glyph, digits, digits_onto, signed_decimal}
use Rattle.std.specs.Prelude.{IsTrue, slice_index}
use Rattle.std.specs.Str.Parse.{AllDigits, IsNumeral, digits_value}
use Rattle.part_lines.specs.Texts.{fits_128_bits}
use Rattle.part_lines.proofs.Numerals.{HasNoControl, digits-no_control}

-- ---- so many digits at most

-- one digit more
one_more : (k n : ℕ) (acc : List ℕ) → 10 ≤ n → digits_onto (suc k) 10 false n acc ≡ digits_onto k 10 false (n / 10) (digit_glyph false (n % 10) ∷ acc)
one_more k n acc large = ap (λ b. cond b (digit_glyph false (n % 10) ∷ acc) (digits_onto k 10 false (n / 10) (digit_glyph false (n % 10) ∷ acc))) (ne_eqb (n / 10) 0 (λ e. omega (arith, large, e)))

power-some : (k : ℕ) → 1 ≤ 10 ^ k
power-some zero = omega arith
power-some (suc k) = omega (arith, pow-suc 10 k, power-some k)

-- of a number of more digits than are asked for, so many are written
onto-long : (k n : ℕ) (acc : List ℕ) → 10 ^ k ≤ n → length (digits_onto k 10 false n acc) ≡ k + length acc
onto-long zero n acc h = omega arith
onto-long (suc k) n acc h =
    let rest : 10 ^ k ≤ n / 10 = omega (arith, h, pow-suc 10 k) in
    let large : 10 ≤ n = omega (arith, h, pow-suc 10 k, power-some k) in
    ap (λ (ds : List ℕ). length ds) (one_more k n acc large) ∙ onto-long k (n / 10) (digit_glyph false (n % 10) ∷ acc) rest ∙ omega arith

decimal-long : (n : ℕ) → 10 ^ 64 ≤ n → length (decimal n) ≡ 64
unfolding digits
decimal-long n h = onto-long 64 n [] h ∙ omega arith

-- ---- their bytes

glyph : (n : ℕ) → digit_glyph false (n % 10) ≡ 48 + n % 10
glyph n = ap (λ b. cond b (48 + n % 10) (87 + n % 10)) (lt-ltb (n % 10) 10 (omega arith))

glyph-digit : (n : ℕ) → digit_value (digit_glyph false (n % 10)) < 10
glyph-digit n = let written = glyph n in let value = digit_value_digit (digit_glyph false (n % 10)) (omega (arith, written)) in omega (arith, written, value)

onto-digits : (k n : ℕ) (acc : List ℕ) → AllDigits 10 acc → AllDigits 10 (digits_onto k 10 false n acc)
onto-digits zero n acc h = h
onto-digits (suc k) n acc h =
    let now : AllDigits 10 (digit_glyph false (n % 10) ∷ acc) = (glyph-digit n, h) in
    elim (n / 10 == 0) as (λ b. AllDigits 10 (cond b (digit_glyph false (n % 10) ∷ acc) (digits_onto k 10 false (n / 10) (digit_glyph false (n % 10) ∷ acc)))) [
      | true ↦ now
      | false ↦ onto-digits k (n / 10) (digit_glyph false (n % 10) ∷ acc) now
    ]

decimal-numeral : (n : ℕ) → IsNumeral 10 (decimal n)
unfolding digits
decimal-numeral n = elim (cases_lt n (10 ^ 64)) [
  | inl short ↦ (decimal_is_IsNumeral_wide n short).0
  | inr long ↦ (omega (arith, decimal-long n long), onto-digits 64 n [] tt)
]

-- the first byte is a minus or a digit
first-bounds : (ds : List ℕ) → IsNumeral 10 ds → (45 ≤ slice_index ds 0) × (slice_index ds 0 ≤ 57)
first-bounds [] h = absurd (omega (arith, h.0))
first-bounds (d ∷ ds) h = let k = digit_from_value d h.1.0 in (omega (arith, k), omega (arith, k))

pub signed-bounds : (n : ℤ) → (45 ≤ slice_index (signed_decimal n) 0) × (slice_index (signed_decimal n) 0 ≤ 57)
signed-bounds (pos n) = first-bounds (decimal n) (decimal-numeral n)
signed-bounds (negsuc n) = (omega arith, omega arith)

pub signed-no_control : (n : ℤ) → HasNoControl (signed_decimal n)
signed-no_control (pos n) = digits-no_control (decimal n) (decimal-numeral n).1
signed-no_control (negsuc n) = (omega arith, digits-no_control (decimal (suc n)) (decimal-numeral (suc n)).1)

-- ---- a decimal of 128 bits is that of one number only

decimal-same : (m n : ℕ) → m < 2 ^ 127 + 1 → decimal m ≡ decimal n → m ≡ n
decimal-same m n h e = elim (cases_lt n (10 ^ 64)) [
  | inl short ↦ sym (decimal_is_IsNumeral_wide m (omega (arith, h))).1 ∙ ap (digits_value 10) e ∙ (decimal_is_IsNumeral_wide n short).1
  | inr long ↦
      let few : length (decimal m) ≤ 39 = length-decimal-le_wide 39 m (omega arith) (omega (arith, h)) (omega (arith, h)) in
      let same : length (decimal m) ≡ length (decimal n) = ap (λ (ds : List ℕ). length ds) e in
      absurd (omega (arith, few, same, decimal-long n long))
]

decimal-no_minus : (n : ℕ) (ds : List ℕ) → ¬ (decimal n ≡ 45 ∷ ds)
decimal-no_minus n ds e = omega (arith, digit_from_value 45 (subst (AllDigits 10) e (decimal-numeral n).1).0)

pub signed-same : (m n : ℤ) → IsTrue (fits_128_bits m) → signed_decimal m ≡ signed_decimal n → m ≡ n
signed-same (pos m) (pos n) h e = ap pos (decimal-same m n (omega (arith, ltb-true m (2 ^ 127) h)) e)
signed-same (pos m) (negsuc n) h e = absurd (decimal-no_minus m (decimal (suc n)) e)
signed-same (negsuc m) (pos n) h e = absurd (decimal-no_minus n (decimal (suc m)) (sym e))
signed-same (negsuc m) (negsuc n) h e = ap negsuc (omega (arith, decimal-same (suc m) (suc n) (omega (arith, ltb-true m (2 ^ 127) h)) (ap (drop 1) e)))
