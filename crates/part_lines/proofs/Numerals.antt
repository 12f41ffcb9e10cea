-- The digits of whole numbers of 128 bits, and that no other number has them.
use Rattle.std.proofs.Common.{◌≡◌, ℕ, ℤ, pos, negsuc, neg_ℤ, zero, suc, ◌+◌, ◌^◌, ◌<◌, ◌≤◌, ◌%◌, ◌==◌, false, cond, List, [], ◌∷◌, length, drop, get_or, Some, option_and_then, decimal, refl, sym, ap, subst, ◌∙◌, arith, length-append, Result, Ok}
use Rattle.std.proofs.lemmas.Bool.{and_from, le-leb, ltb-true, ne_eqb}
use Rattle.std.proofs.lemmas.Fmt.{IsAscii-decimal_wide, decimal_by_steps_wide, decimal_digit, decimal_is_IsNumeral_wide}
use Rattle.std.proofs.lemmas.List.{drop_all, get_or_append_left}
use Rattle.std.proofs.lemmas.Result.{Ok-from_Ok_iff}
use Rattle.std.proofs.lemmas.Str.{IsUtf8-append, IsUtf8-from_ascii}
use Rattle.std.proofs.lemmas.Str.Parse.{digit_from_value}
use Rattle.std.specs.Char.{is_ascii_digit}
use Rattle.std.specs.Fmt.{signed_decimal}
use Rattle.std.specs.Int.{w128}
use Rattle.std.specs.List.{AllByRecursion, prefix_len}
use Rattle.std.specs.Prelude.{FitsSigned, IsTrue, slice_index}
use Rattle.std.specs.Str.{IsUtf8}
use Rattle.std.specs.Str.Parse.{AllDigits, IsNumeral, ParsesSigned, digits_value, signed_digits_value, without_leading_sign}
use Rattle.json.proofs.Printed.Utf8.{IsUtf8-are_ascii}
use Rattle.json.specs.Print.{IsNumber}
use Rattle.json.specs.Word.{after_exponent, after_fraction, after_number, after_whole, head}
use Rattle.part_lines.specs.Texts.{fits_128_bits}

-- ---- numbers of 128 bits

pub fits-signed : (n : ℤ) → IsTrue (fits_128_bits n) → FitsSigned w128 n
fits-signed (pos n) h = record { sfits = ltb-true n (2 ^ 127) h }
fits-signed (negsuc n) h = record { sfits = ltb-true n (2 ^ 127) h }

decimal-read : (n : ℕ) → n < 2 ^ 127 + 1 → IsNumeral 10 (decimal n) × (digits_value 10 (decimal n) ≡ n)
decimal-read n h = decimal_is_IsNumeral_wide n (omega (arith, h))

-- ---- numerals without a sign

without_sign-numeral : (ds : List ℕ) → IsNumeral 10 ds → without_leading_sign ds ≡ ds
without_sign-numeral [] h = absurd (omega (arith, h.0))
without_sign-numeral (d ∷ ds) h =
    let k = digit_from_value d h.1.0 in
    rw (ne_eqb d 45 (λ e. omega (arith, k, e)), ne_eqb d 43 (λ e. omega (arith, k, e))) refl

value-numeral : (ds : List ℕ) → IsNumeral 10 ds → signed_digits_value 10 ds ≡ pos (digits_value 10 ds)
value-numeral [] h = absurd (omega (arith, h.0))
value-numeral (d ∷ ds) h =
    let k = digit_from_value d h.1.0 in
    rw (ne_eqb d 45 (λ e. omega (arith, k, e)), ne_eqb d 43 (λ e. omega (arith, k, e))) refl

-- ---- numbers read again

numeral-signed : (n : ℤ) → IsTrue (fits_128_bits n) → IsNumeral 10 (without_leading_sign (signed_decimal n))
numeral-signed (pos n) h = let k = (decimal-read n (omega (arith, ltb-true n (2 ^ 127) h))).0 in subst (IsNumeral 10) (sym (without_sign-numeral (decimal n) k)) k
numeral-signed (negsuc n) h = (decimal-read (suc n) (omega (arith, ltb-true n (2 ^ 127) h))).0

pub value-signed : (n : ℤ) → IsTrue (fits_128_bits n) → signed_digits_value 10 (signed_decimal n) ≡ n
value-signed (pos n) h = let k = decimal-read n (omega (arith, ltb-true n (2 ^ 127) h)) in value-numeral (decimal n) k.0 ∙ ap pos k.1
value-signed (negsuc n) h = ap (λ m. neg_ℤ (pos m)) (decimal-read (suc n) (omega (arith, ltb-true n (2 ^ 127) h))).1

-- what std parses of the digits of a number is the number
pub parse-signed : {E : Type 0} (n : ℤ) (s : List ℕ) (r : Result ℤ E) → IsTrue (fits_128_bits n) → s ≡ signed_decimal n → ParsesSigned w128 10 s r → r ≡ Ok n
parse-signed n s r h e p =
    let q = subst (λ l. ParsesSigned w128 10 l r) e p in
    Ok-from_Ok_iff r _ _ q (numeral-signed n h, subst (FitsSigned w128) (sym (value-signed n h)) (fits-signed n h)) ∙ ap (λ m. Ok m) (value-signed n h)

-- ---- numbers of JSON

prefix_len-digits : (ds : List ℕ) → AllDigits 10 ds → prefix_len is_ascii_digit ds ≡ length ds
prefix_len-digits [] h = refl
prefix_len-digits (d ∷ ds) h =
    let k = digit_from_value d h.0 in
    ap (λ b. cond b (1 + prefix_len is_ascii_digit ds) 0) (and_from _ _ (le-leb 48 d k.0) (le-leb d 57 k.1)) ∙ omega (arith, prefix_len-digits ds h.1)

-- the first digit of a number above 0 is not a 0
first-decimal : (n : ℕ) → 0 < n → n < 10 ^ 64 → 48 < get_or (decimal n) 0 0
first-decimal n some small = (decimal_by_steps_wide (λ m ds. (0 < length ds) × (0 < m → 48 < get_or ds 0 0))
    (λ m l. (omega arith, λ a. omega arith))
    (λ m ds l h. (omega (arith, length-append ds ((48 + m % 10) ∷ [])), λ a. omega (arith, get_or_append_left ds ((48 + m % 10) ∷ []) 0 0 h.0, h.1 (omega arith)))) n small).1 some

after_whole-digits : (ds : List ℕ) → IsNumeral 10 ds → 48 < get_or ds 0 0 → (after_whole ds ≡ Some []) × ((head ds == 45) ≡ false)
after_whole-digits [] h first = absurd (omega (arith, h.0))
after_whole-digits (d ∷ ds) h first = (
  rw (ne_eqb d 48 (λ e. omega (arith, first, e)), prefix_len-digits (d ∷ ds) h.1, ne_eqb (suc (length ds)) 0 (λ e. omega (arith, e))) (ap (λ l. Some l) (drop_all (length ds) ds (omega arith))),
  ne_eqb d 45 (λ e. omega (arith, first, e)),
)

after_whole-decimal : (n : ℕ) → n < 2 ^ 127 + 1 → (after_whole (decimal n) ≡ Some []) × ((head (decimal n) == 45) ≡ false)
after_whole-decimal zero h = let e = decimal_digit 0 (omega arith) in (ap after_whole e, ap (λ l. head l == 45) e)
after_whole-decimal (suc n) h = after_whole-digits (decimal (suc n)) (decimal-read (suc n) h).0 (first-decimal (suc n) (omega arith) (omega (arith, h)))

pub number-signed : (n : ℤ) → IsTrue (fits_128_bits n) → IsNumber (signed_decimal n)
unfolding after_number
number-signed (pos n) h =
    let w = after_whole-decimal n (omega (arith, ltb-true n (2 ^ 127) h)) in
    ap (λ o. option_and_then after_exponent (option_and_then after_fraction o))
    (ap (λ b. after_whole (cond b (drop 1 (decimal n)) (decimal n))) w.1 ∙ w.0)
number-signed (negsuc n) h =
    ap (λ o. option_and_then after_exponent (option_and_then after_fraction o)) (after_whole-decimal (suc n) (omega (arith, ltb-true n (2 ^ 127) h))).0

-- ---- their bytes

-- No byte is a control character of JSON.
abbrev pub HasNoControl : List ℕ → Type 0
HasNoControl s = AllByRecursion (λ b. 32 ≤ b) s

pub digits-no_control : (ds : List ℕ) → AllDigits 10 ds → HasNoControl ds
digits-no_control [] h = tt
digits-no_control (d ∷ ds) h = (omega (arith, digit_from_value d h.0), digits-no_control ds h.1)

pub signed-IsUtf8 : (n : ℤ) → IsTrue (fits_128_bits n) → IsUtf8 (signed_decimal n)
signed-IsUtf8 (pos n) h = IsUtf8-from_ascii (decimal n) (IsAscii-decimal_wide n (omega (arith, ltb-true n (2 ^ 127) h)))
signed-IsUtf8 (negsuc n) h =
    IsUtf8-append (45 ∷ []) (decimal (suc n)) (IsUtf8-are_ascii (45 ∷ []) refl)
    (IsUtf8-from_ascii (decimal (suc n)) (IsAscii-decimal_wide (suc n) (omega (arith, ltb-true n (2 ^ 127) h))))

-- a number does not begin as a string does
first-numeral : (ds : List ℕ) → IsNumeral 10 ds → (slice_index ds 0 == 34) ≡ false
first-numeral [] h = absurd (omega (arith, h.0))
first-numeral (d ∷ ds) h = ne_eqb d 34 (λ e. omega (arith, digit_from_value d h.1.0, e))

pub first-signed : (n : ℤ) → IsTrue (fits_128_bits n) → (slice_index (signed_decimal n) 0 == 34) ≡ false
first-signed (pos n) h = first-numeral (decimal n) (decimal-read n (omega (arith, ltb-true n (2 ^ 127) h))).0
first-signed (negsuc n) h = refl
