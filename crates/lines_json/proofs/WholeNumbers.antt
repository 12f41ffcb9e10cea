-- Whole numbers of up to 18 digits: where they end, and their values.
use Rattle.std.proofs.Common.{◌≡◌, ℕ, zero, suc, ◌+◌, ◌-◌, ◌<◌, ◌≤◌, ◌^◌, ◌==◌, ◌||◌, Bool, true, false, cond, List, [], ◌∷◌, ◌++◌, length, take, drop, get_or, slice_index, Some, None, pos, neg_ℤ, inl, inr, option_and_then, refl, sym, ap, ◌∙◌, subst, arith, add-zero, append-nil, lt-ltb, le-leb}
use Rattle.std.proofs.Math.Nat.{pow-le-pow_right}
use Rattle.std.proofs.lemmas.Bool.{cases_Bool, eqb-true, ne_eqb}
use Rattle.std.proofs.lemmas.Bool.Decides.{nat_tests}
use Rattle.std.proofs.lemmas.Float.Parse.{scan_numeral-text_of}
use Rattle.std.proofs.lemmas.Int.Digits.{digits_value-lt}
use Rattle.std.proofs.lemmas.List.{drop_more, drop-drop, get_or-drop, get_or-take, get_or_default, length-take-le, take_all, length-drop}
use Rattle.std.proofs.lemmas.Str.Parse.{digit_at, digit_from_value}
use Rattle.std.specs.Char.{digit_value, is_ascii_digit}
use Rattle.std.specs.Int.{IsInRange}
use Rattle.std.specs.List.{prefix_len}
use Rattle.std.specs.Str.Parse.{AllDigits, digits_value}
use Rattle.fast_float.specs.Text.{IsWellFormed, Parts, scan}
use Rattle.json.specs.Lex.{class, in_word, lex, other}
use Rattle.json.specs.Word.{after_digits, after_exponent, after_fraction, after_number, head}
use Rattle.serde_json.specs.Data.{negative, unsigned}
use Rattle.serde_json.specs.Find.{as_integer}
use Rattle.serde_json.specs.Read.{number_of}
use Rattle.lines_json.specs.Inside.NumberParts.{AreDigitsAt, IsNumberPart, after_unsigned}
use Rattle.lines_json.specs.Standing.{IsWholeNumberAt}
use Rattle.lines_json.specs.Inside.Contents.{is_word_end}
use Rattle.lines_json.proofs.WordEnds.{class_ends, goes_on, head-drop}
use Rattle.lines_json.proofs.Passed.{class-number, digits_passed, number-token, part-sign, part-then}
use Rattle.lines_json.proofs.Signs.{number-behind_minus, number-no_minus}

-- ---- where the digits end

digit_is : (x : ℕ) → digit_value x < 10 → is_ascii_digit x ≡ true
digit_is x small = let range = digit_from_value x small in grind (arith, nat_tests)

-- digits, and then a byte that is none
prefix_is : (t : List ℕ) (n : ℕ) → n ≤ length t → AllDigits 10 (take n t) → is_ascii_digit (get_or t n 32) ≡ false → prefix_len is_ascii_digit t ≡ n
prefix_is [] zero within digits e = refl
prefix_is [] (suc n) within digits e = absurd (omega arith)
prefix_is (x ∷ xs) zero within digits e = ap (λ b. cond b (1 + prefix_len is_ascii_digit xs) 0) e
prefix_is (x ∷ xs) (suc n) within digits e =
    ap (λ b. cond b (1 + prefix_len is_ascii_digit xs) 0) (digit_is x digits.0) ∙ omega (arith, prefix_is xs n (omega arith) digits.1 e)

-- what ends a word is no byte of a word
ends_before : (x c : ℕ) → is_word_end x ≡ true → class c ≡ other → (x == c) ≡ false
ends_before x c ends of_word = ne_eqb x c (λ e. goes_on x (ap class e ∙ of_word) (class_ends x ends))

no_digit : (x : ℕ) → is_word_end x ≡ true → is_ascii_digit x ≡ false
no_digit x ends =
    elim (cases_Bool (is_ascii_digit x)) [
      | inl digit ↦ (let low : 44 < x = grind (arith, nat_tests) in let high : x < 58 = grind (arith, nat_tests) in absurd (goes_on x (class-number x low high) (class_ends x ends)))
      | inr none ↦ none
    ]

module _ (t : List ℕ) (n : ℕ) (some : 0 < n) (within : n ≤ length t) (digits : AllDigits 10 (take n t)) (first : get_or t 0 32 ≡ 48 → n ≡ 1) (ends : is_word_end (get_or t n 32) ≡ true) where
  count_is : prefix_len is_ascii_digit t ≡ n
  count_is = prefix_is t n within digits (no_digit (get_or t n 32) ends)

  whole_read : (zero_first : Bool) → (head t == 48) ≡ zero_first → cond zero_first (Some (drop 1 t)) (after_digits t) ≡ Some (drop n t)
  whole_read true e = ap (λ k. Some (drop k t)) (sym (first (eqb-true (head t) 48 e)))
  whole_read false e = ap (λ k. cond (k == 0) None (Some (drop k t))) count_is ∙ ap (λ b. cond b None (Some (drop n t))) (ne_eqb n 0 (λ none. omega arith))

  unsigned_read : after_unsigned t ≡ Some (drop n t)
  unsigned_read =
      let rest = drop n t in
      let behind = head-drop t n in
      let not_mark : (c : ℕ) → class c ≡ other → (head rest == c) ≡ false = λ c of_word. ap (λ x. x == c) behind ∙ ends_before (get_or t n 32) c ends of_word in
      ap (λ o. option_and_then after_exponent (option_and_then after_fraction o)) (whole_read (head t == 48) refl)
      ∙ ap (λ b. option_and_then after_exponent (cond b (after_digits (drop 1 rest)) (Some rest))) (not_mark 46 refl)
      ∙ rw (not_mark 101 refl, not_mark 69 refl) refl

  unsigned_passed : lex in_word t ≡ lex in_word (drop n t)
  unsigned_passed = digits_passed t ∙ ap (λ k. lex in_word (drop k t)) count_is

-- digits at the front of what follows a place
pub digits-at : (text rest : List ℕ) (from count n : ℕ) → rest ≡ drop from text → from ≤ length text → 0 < count → count ≤ 18 → count ≤ length rest → AllDigits 10 (take count rest)
    → n ≡ digits_value 10 (take count rest) → (get_or rest 0 32 ≡ 48 → count ≡ 1) → is_word_end (get_or rest count 32) ≡ true → AreDigitsAt text from (from + count) n
digits-at text rest from count n same inside some short within digits value first ends =
    let long : from + count - from ≡ count = omega arith in
    let cut : take (from + count - from) (drop from text) ≡ take count rest = ap (λ k. take k (drop from text)) long ∙ ap (take count) (sym same) in
    let to_stop : drop count rest ≡ drop (from + count) text = ap (drop count) same ∙ drop-drop count from text in
    let behind : get_or rest count 32 ≡ get_or text (from + count) 32 = ap (λ s. get_or s count 32) same ∙ get_or-drop from text count 32 in
    record {
      part = record {
        later = omega arith;
        within = omega (arith, length-drop from text, ap length same);
        parsed = ap after_unsigned (sym same) ∙ unsigned_read rest count some within digits first ends ∙ ap Some to_stop;
        passed = ap (lex in_word) (sym same) ∙ unsigned_passed rest count some within digits first ends ∙ ap (lex in_word) to_stop;
      };
      some = omega arith;
      short = omega arith;
      digits = subst (AllDigits 10) (sym cut) digits;
      value = value ∙ ap (digits_value 10) (sym cut);
      ends = ap is_word_end (sym behind) ∙ ends;
    }

-- ---- their values

abbrev parts_of : List ℕ → Parts
parts_of ds = record { whole = ds; point = false; fraction = []; exponent_negative = false; exponent = []; len = length (ds ++ []) }

parts-scan : (ds : List ℕ) → AllDigits 10 ds → parts_of ds ≡ scan ds
parts-scan ds digits =
    let formed : IsWellFormed (parts_of ds) = record { whole_digits = digits; fraction_digits = tt; exponent_digits = tt; no_point = λ _. refl; no_exponent = λ _. refl; len_is = refl } in
    sym (scan_numeral-text_of (parts_of ds) formed) ∙ ap scan (append-nil ds)

first_no_minus : (ds : List ℕ) → AllDigits 10 ds → (slice_index ds 0 == 45) ≡ false
first_no_minus [] digits = refl
first_no_minus (d ∷ ds) digits = ne_eqb d 45 (λ e. omega (arith, digit_from_value d digits.0))

number_of-digits : (ds : List ℕ) → AllDigits 10 ds → 0 < length ds → digits_value 10 ds < 2 ^ 64 → number_of ds ≡ Some (unsigned (digits_value 10 ds))
number_of-digits ds digits some fits =
    number-no_minus ds (parts_of ds) (sym (first_no_minus ds digits)) (parts-scan ds digits) ∙ rw (append-nil, lt-ltb _ _ some, lt-ltb _ _ fits) refl

number_of-minus : (ds : List ℕ) → AllDigits 10 ds → 0 < length ds → 0 < digits_value 10 ds → digits_value 10 ds ≤ 2 ^ 63 → number_of (45 ∷ ds) ≡ Some (negative (neg_ℤ (pos (digits_value 10 ds))))
number_of-minus ds digits some positive fits =
    number-behind_minus (45 ∷ ds) (parts_of ds) refl (parts-scan ds digits ∙ ap scan (sym (take_all (length (45 ∷ ds) - 1) ds (omega arith))))
    ∙ rw (append-nil, lt-ltb _ _ some, lt-ltb _ _ positive, le-leb _ _ fits) refl

-- so few digits that their number is small
pub digits-small : (ds : List ℕ) (k : ℕ) → AllDigits 10 ds → length ds ≤ k → digits_value 10 ds < 10 ^ k
digits-small ds k digits few = omega (arith, digits_value-lt 10 ds digits, pow-le-pow_right {n = 10} (omega arith) few)

module _ (text : List ℕ) (from stop n : ℕ) (at : AreDigitsAt text from stop n) where
  abbrev digits_here : List ℕ
  digits_here = take (stop - from) (drop from text)

  count_here : length digits_here ≡ stop - from
  count_here = length-take-le (stop - from) (drop from text) (omega (arith, at.part.within, length-drop from text))

  pub size_small : n < 10 ^ 18
  size_small = omega (arith, at.value, at.short, count_here, digits-small digits_here 18 at.digits (omega (arith, at.short, count_here)))

  first_digit : IsInRange 48 57 (get_or text from 32)
  first_digit =
      let t = drop from text in
      let front : get_or digits_here 0 0 ≡ get_or text from 32 = get_or-take (stop - from) t 0 0 (omega (arith, at.some)) ∙ get_or-drop from text 0 0 ∙ ap (λ k. get_or text k 0) (add-zero from)
      ∙ get_or_default text from 0 32 (omega (arith, at.some, at.part.within)) in
      subst (IsInRange 48 57) front (digit_at digits_here 0 at.digits (omega (arith, at.some, count_here)))

-- ---- with a sign and without

-- no minus stands first
pub positive-at : (text : List ℕ) (at stop n : ℕ) → (get_or text at 32 ≡ 45 → ⊥) → AreDigitsAt text at stop n → IsWholeNumberAt text at stop (pos n)
unfolding after_number
positive-at text at stop n no_minus here =
    let t = drop at text in
    let digits = take (stop - at) t in
    let first = first_digit text at stop n here in
    let some : 0 < length digits = omega (arith, here.some, count_here text at stop n here) in
    let unsigned_first : (head t == 45) ≡ false = ne_eqb (head t) 45 (λ e. no_minus (sym (head-drop text at) ∙ e)) in
    let part : IsNumberPart after_number text at stop = record {
      later = here.part.later;
      within = here.part.within;
      parsed = ap (λ b. after_unsigned (cond b (drop 1 t) t)) unsigned_first ∙ here.part.parsed;
      passed = here.part.passed;
    } in
    let small = size_small text at stop n here in (
      digits,
      number-token text at stop (omega (arith, first.0)) (omega (arith, first.1)) part here.ends,
      ap (option_and_then as_integer) (number_of-digits digits here.digits some (omega (arith, here.value))) ∙ ap (λ k. Some (pos k)) (sym here.value),
    )

-- a minus stands first
pub negative-at : (text : List ℕ) (at stop n : ℕ) → get_or text at 32 ≡ 45 → AreDigitsAt text (at + 1) stop n → 0 < n → IsWholeNumberAt text at stop (neg_ℤ (pos n))
unfolding after_number
negative-at text at stop n minus here positive =
    let digits = take (stop - (at + 1)) (drop (at + 1) text) in
    let some : 0 < length digits = omega (arith, here.some, count_here text (at + 1) stop n here) in
    let next : stop - at ≡ suc (stop - (at + 1)) = omega (arith, here.some) in
    let cut : take (stop - at) (drop at text) ≡ 45 ∷ digits = ap (take (stop - at)) (drop_more text at 32 (omega (arith, here.some, here.part.within)) ∙ ap (λ x. x ∷ drop (at + 1) text) minus)
    ∙ ap (λ k. take k (45 ∷ drop (at + 1) text)) next in
    let part : IsNumberPart after_number text at stop = part-then text at (at + 1) stop (part-sign (λ x. x == 45) text at 45 minus refl refl) here.part in
    let small = size_small text (at + 1) stop n here in (
      take (stop - at) (drop at text),
      number-token text at stop (omega (arith, minus)) (omega (arith, minus)) part here.ends,
      ap (λ s. option_and_then as_integer (number_of s)) cut
          ∙ ap (option_and_then as_integer) (number_of-minus digits here.digits some (omega (arith, here.value)) (omega (arith, here.value)))
          ∙ ap (λ k. Some (neg_ℤ (pos k))) (sym here.value),
    )
