-- Digits, and the numbers that they write.
use Rattle.std.proofs.Common.{cond, ◌≡◌, ℕ, suc, ◌<◌, ◌≤◌, ◌+◌, ◌^◌, ◌∷◌, [], Bool, true, false, List, length, take, arith, sym, refl, None, inl, inr}
use Rattle.std.proofs.lemmas.Bool.{cases_lt}
use Rattle.std.specs.List.{prefix_len}
use Rattle.std.specs.Int.{IsInRange}
use Rattle.std.specs.Char.{is_ascii_digit, digit_value}
use Rattle.std.specs.Str.Parse.{AllDigits, IsNumeral, digits_value}
use Rattle.std.proofs.lemmas.Str.{digit_value_digit}
use Rattle.std.proofs.lemmas.Str.Parse.{IsNumeralModel, numerals_by_value, tells_digits}
use Rattle.std.proofs.lemmas.Bool.Decides.{nat_tests}
use Rattle.query_lexer.specs.Steps.{number_of}

in_range : (b : ℕ) → is_ascii_digit b ≡ true → IsInRange 48 57 b
in_range b e = grind (arith, nat_tests)

digit_small : (b : ℕ) → is_ascii_digit b ≡ true → digit_value b < 10
digit_small b e = let h = in_range b e in omega (arith, digit_value_digit b h, h)

front_at : (t : Bool) (b : ℕ) (bs : List ℕ) → t ≡ is_ascii_digit b → AllDigits 10 (take (prefix_len is_ascii_digit bs) bs) → AllDigits 10 (take (cond t (1 + prefix_len is_ascii_digit bs) 0) (b ∷ bs))
front_at true b bs e h = let k : 1 + prefix_len is_ascii_digit bs ≡ suc (prefix_len is_ascii_digit bs) = omega arith in rw k (digit_small b (sym e), h)
front_at false b bs e h = tt

pub front_digits : (bs : List ℕ) → AllDigits 10 (take (prefix_len is_ascii_digit bs) bs)
front_digits [] = tt
front_digits (b ∷ bs) = front_at (is_ascii_digit b) b bs refl (front_digits bs)

pub own : IsNumeralModel (AllDigits 10) (digits_value 10)
own = numerals_by_value (AllDigits 10) tells_digits

pub number_over : (minus : Bool) (n : ℕ) → 2 ^ 64 ≤ n → number_of minus n ≡ None
unfolding number_of
number_over true n h = grind (arith, nat_tests)
number_over false n h = grind (arith, nat_tests)

pub too_large : (minus : Bool) (bs : List ℕ) → IsNumeral 10 bs → ((0 < length bs) × (digits_value 10 bs < 2 ^ 64) → ⊥) → number_of minus (digits_value 10 bs) ≡ None
too_large minus bs d h =
    elim (cases_lt (digits_value 10 bs) (2 ^ 64)) [
      | inl k ↦ absurd (h (d.0, k))
      | inr k ↦ number_over minus (digits_value 10 bs) k
    ]
