-- What stands in a word, and the parts of a number, which end no word.
use Rattle.std.proofs.Common.{◌≡◌, ℕ, suc, ◌+◌, ◌-◌, ◌<◌, ◌≤◌, ◌==◌, ◌||◌, Bool, true, false, cond, List, [], ◌∷◌, length, take, drop, get_or, Option, Some, ◌⊎◌, inl, inr, option_and_then, refl, sym, ap, ◌∙◌, arith, add-zero, lt_of_not-le}
use Rattle.std.proofs.Math.Arith.{lt_of_le-ne}
use Rattle.std.proofs.lemmas.Bool.{ne_eqb, false≢true}
use Rattle.std.proofs.lemmas.Bool.Decides.{nat_tests}
use Rattle.std.proofs.lemmas.List.{drop_more, drop-drop, get_or-drop, get_or_past, length-drop}
use Rattle.std.specs.Char.{is_ascii_digit}
use Rattle.std.specs.List.{prefix_len}
use Rattle.json.specs.Lex.{between, class, in_word, lex, lex_byte, operator, other, space, token}
use Rattle.json.specs.Token.{number}
use Rattle.json.specs.Word.{after_digits, after_number, ends_word, head, is_operator, is_space, word}
use Rattle.lines_json.specs.Inside.Contents.{is_word_end}
use Rattle.lines_json.specs.Inside.NumberParts.{IsNumberPart}
use Rattle.lines_json.specs.Standing.{IsTokenAt}
use Rattle.lines_json.proofs.WordEnds.{class_ends, ends_word-at, goes_on, head-drop, word_ends}

-- ---- a byte of a word

-- the digits, and the minus, the point and the slash before them
pub class-number : (x : ℕ) → 44 < x → x < 58 → class x ≡ other
class-number x low high =
    rw (
      ne_eqb x 34 (λ e. omega arith),
      ne_eqb x 92 (λ e. omega arith),
      ne_eqb x 123 (λ e. omega arith),
      ne_eqb x 125 (λ e. omega arith),
      ne_eqb x 91 (λ e. omega arith),
      ne_eqb x 93 (λ e. omega arith),
      ne_eqb x 58 (λ e. omega arith),
      ne_eqb x 44 (λ e. omega arith),
      ne_eqb x 32 (λ e. omega arith),
      ne_eqb x 9 (λ e. omega arith),
      ne_eqb x 10 (λ e. omega arith),
      ne_eqb x 13 (λ e. omega arith),
    )

-- behind the end of a text stands a space, which ends a word
pub byte_within : (text : List ℕ) (at : ℕ) → class (get_or text at 32) ≡ other → at < length text
byte_within text at e = lt_of_not-le (λ h. (let past : space ≡ other = sym (ap class (get_or_past text at 32 h)) ∙ e in cc))

byte_passed : (x : ℕ) (xs : List ℕ) → class x ≡ other → lex in_word (x ∷ xs) ≡ lex in_word xs
unfolding lex
byte_passed x xs e = ap (λ k. lex_byte in_word k x xs (λ mode. lex mode xs)) e

place_passed : (text : List ℕ) (at : ℕ) → class (get_or text at 32) ≡ other → lex in_word (drop at text) ≡ lex in_word (drop (at + 1) text)
place_passed text at e = ap (lex in_word) (drop_more text at 32 (byte_within text at e)) ∙ byte_passed (get_or text at 32) (drop (at + 1) text) e

-- ---- digits

digit_passed : (is : Bool) (x n : ℕ) (xs : List ℕ) → is ≡ is_ascii_digit x → lex in_word xs ≡ lex in_word (drop n xs) → lex in_word (x ∷ xs) ≡ lex in_word (drop (cond is (1 + n) 0) (x ∷ xs))
digit_passed false x n xs e more = refl
digit_passed true x n xs e more =
    let low : 44 < x = grind (arith, nat_tests) in
    let high : x < 58 = grind (arith, nat_tests) in
    let next : suc n ≡ 1 + n = omega arith in
    byte_passed x xs (class-number x low high) ∙ more ∙ ap (λ k. lex in_word (drop k (x ∷ xs))) next

pub digits_passed : (t : List ℕ) → lex in_word t ≡ lex in_word (drop (prefix_len is_ascii_digit t) t)
digits_passed [] = refl
digits_passed (x ∷ xs) = digit_passed (is_ascii_digit x) x (prefix_len is_ascii_digit xs) xs refl (digits_passed xs)

pub part-digits : (text : List ℕ) (from stop : ℕ) → stop ≡ from + prefix_len is_ascii_digit (drop from text) → from < stop → stop ≤ length text → IsNumberPart after_digits text from stop
part-digits text from stop is some within =
    let rest = drop from text in
    let count = prefix_len is_ascii_digit rest in
    let to_stop : drop count rest ≡ drop stop text = drop-drop count from text ∙ ap (λ k. drop k text) (sym is) in
    record {
      later = omega arith;
      within = within;
      parsed = rw (ne_eqb count 0 (λ e. omega arith)) (ap Some to_stop);
      passed = digits_passed rest ∙ ap (lex in_word) to_stop;
    }

-- ---- parts of a number

-- a part of one byte, or of none
pub part-byte : (text : List ℕ) (at : ℕ) → class (get_or text at 32) ≡ other → IsNumberPart (λ rest. Some (drop 1 rest)) text at (at + 1)
part-byte text at e = record {
  later = omega arith;
  within = omega (arith, byte_within text at e);
  parsed = ap Some (drop-drop 1 at text);
  passed = place_passed text at e;
}

-- a part after another
pub part-then : {first second : List ℕ → Option (List ℕ)} (text : List ℕ) (at middle stop : ℕ) → IsNumberPart first text at middle → IsNumberPart second text middle stop
    → IsNumberPart (λ rest. option_and_then second (first rest)) text at stop
part-then {second = second} text at middle stop one two = record {
  later = omega arith;
  within = two.within;
  parsed = ap (option_and_then second) one.parsed ∙ two.parsed;
  passed = one.passed ∙ two.passed;
}

-- a part of no byte
part-none : (text : List ℕ) (at : ℕ) → at ≤ length text → IsNumberPart (λ rest. Some rest) text at at
part-none text at within = record { later = omega arith; within = within; parsed = refl; passed = refl }

-- a part that begins with a byte of its own
pub part-with_byte : (behind without : List ℕ → Option (List ℕ)) (test : ℕ → Bool) (text : List ℕ) (at stop : ℕ) (c : ℕ) → get_or text at 32 ≡ c → class c ≡ other → test c ≡ true
    → IsNumberPart behind text (at + 1) stop → IsNumberPart (λ rest. cond (test (head rest)) (behind (drop 1 rest)) (without rest)) text at stop
part-with_byte behind without test text at stop c is of_word passes part =
    let whole = part-then text at (at + 1) stop (part-byte text at (ap class is ∙ of_word)) part in
    record {
      later = whole.later;
      within = whole.within;
      parsed = ap (λ b. cond b (behind (drop 1 (drop at text))) (without (drop at text))) (ap test (head-drop text at ∙ is) ∙ passes) ∙ whole.parsed;
      passed = whole.passed;
    }

-- the same of a part that is that byte alone
pub part-one_byte : (without : List ℕ → Option (List ℕ)) (test : ℕ → Bool) (text : List ℕ) (at : ℕ) (c : ℕ) → get_or text at 32 ≡ c → class c ≡ other → test c ≡ true
    → IsNumberPart (λ rest. cond (test (head rest)) (Some (drop 1 rest)) (without rest)) text at (at + 1)
part-one_byte without test text at c is of_word passes =
    part-with_byte (λ rest. Some rest) without test text at (at + 1) c is of_word passes (part-none text (at + 1) (omega (arith, byte_within text at (ap class is ∙ of_word))))

-- the same of a sign
pub part-sign : (test : ℕ → Bool) (text : List ℕ) (at : ℕ) (c : ℕ) → get_or text at 32 ≡ c → class c ≡ other → test c ≡ true → IsNumberPart (λ rest. Some (cond (test (head rest)) (drop 1 rest) rest)) text at (at + 1)
part-sign test text at c is of_word passes =
    let byte = part-byte text at (ap class is ∙ of_word) in
    record {
      later = byte.later;
      within = byte.within;
      parsed = ap (λ b. Some (cond b (drop 1 (drop at text)) (drop at text))) (ap test (head-drop text at ∙ is) ∙ passes) ∙ byte.parsed;
      passed = byte.passed;
    }

-- ---- numbers

number_word : (t rest : List ℕ) → head t < 58 → after_number t ≡ Some rest → ends_word rest ≡ true → word t ≡ number (take (length t - length rest) t)
unfolding word
number_word t rest small e h = rw (ne_eqb (head t) 116 (λ z. omega arith), ne_eqb (head t) 102 (λ z. omega arith), ne_eqb (head t) 110 (λ z. omega arith), e, h) refl

other_begins : (x : ℕ) (xs : List ℕ) → class x ≡ other → lex between (x ∷ xs) ≡ token (word (x ∷ xs)) ∷ lex in_word (x ∷ xs)
unfolding lex
other_begins x xs e = rw e refl

-- a number of which no byte ends the word, and then a byte that does
pub number-token : (text : List ℕ) (at stop : ℕ) → 44 < get_or text at 32 → get_or text at 32 < 58 → IsNumberPart after_number text at stop → is_word_end (get_or text stop 32) ≡ true
    → IsTokenAt text at stop (number (take (stop - at) (drop at text)))
number-token text at stop low high part h =
    let t = drop at text in
    let rest = drop stop text in
    let first = head-drop text at in
    let ends : ends_word rest ≡ true = ends_word-at text stop h in
    let of_word = class-number (get_or text at 32) low high in
    let cut : t ≡ get_or text at 32 ∷ drop (at + 1) text = drop_more text at 32 (byte_within text at of_word) in
    let long : length t - length rest ≡ stop - at = omega (arith, length-drop at text, length-drop stop text) in
    let named : word t ≡ number (take (stop - at) t) = number_word t rest (omega arith) part.parsed ends ∙ ap (λ n. number (take n t)) long in
    record {
      later = lt_of_le-ne part.later (λ e. goes_on (get_or text at 32) of_word (class_ends (get_or text at 32) (ap (λ k. is_word_end (get_or text k 32)) e ∙ h)));
      within = part.within;
      stands = ap (lex between) cut ∙ other_begins (get_or text at 32) (drop (at + 1) text) of_word ∙ ap (λ s. token (word s) ∷ lex in_word s) (sym cut)
          ∙ ap (λ w. token w ∷ lex in_word t) named ∙ ap (λ ls. token (number (take (stop - at) t)) ∷ ls) (part.passed ∙ word_ends rest ends);
    }
