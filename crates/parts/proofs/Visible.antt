-- How a text is shown, character by character from the front.
use Rattle.std.proofs.Common.{◌≡◌, ◌-◌, ◌<◌, ◌+◌, ℕ, zero, suc, List, [], ◌++◌, length, take, drop, flat_map, chars, encode_utf8, encode_utf8_all, IsUtf8, refl, ap, ◌∙◌, append_assoc, arith}
use Rattle.std.proofs.StrCases.{chars_of_empty}
use Rattle.std.proofs.lemmas.List.Concat.{flat_map-cons}
use Rattle.std.proofs.lemmas.Str.{chars_past_char}
use Rattle.parts.specs.Shown.{all_visible, dots, first_of, visible}

-- ---- all characters

pub visible-step : (text rest : List ℕ) (c : ℕ) → IsUtf8 text → text ≡ encode_utf8 c ++ rest → all_visible text ≡ visible c ++ all_visible rest
unfolding all_visible
visible-step text rest c utf8 parts = ap (flat_map visible) (chars_past_char text rest c utf8 parts) ∙ flat_map-cons visible c (chars rest)

pub visible-empty : (text : List ℕ) → length text ≡ 0 → all_visible text ≡ []
unfolding all_visible
visible-empty text none = ap (flat_map visible) (chars_of_empty text none)

-- ---- the first of them

pub first-step : (n : ℕ) (text rest : List ℕ) (c : ℕ) → IsUtf8 text → text ≡ encode_utf8 c ++ rest → first_of (suc n) (chars text) ≡ encode_utf8 c ++ first_of n (chars rest)
first-step n text rest c utf8 parts =
    ap (first_of (suc n)) (chars_past_char text rest c utf8 parts)
    ∙ append_assoc (encode_utf8 c) (encode_utf8_all (take n (chars rest))) (dots (drop n (chars rest)))

first-nil : (n : ℕ) → first_of n [] ≡ []
first-nil zero = refl
first-nil (suc n) = refl

pub first-empty : (n : ℕ) (text : List ℕ) → length text ≡ 0 → first_of n (chars text) ≡ []
first-empty n text none = ap (first_of n) (chars_of_empty text none) ∙ first-nil n

-- the last step of so many
pub first-left : (most i : ℕ) (cs : List ℕ) → i < most → first_of (most - i) cs ≡ first_of (suc (most - (i + 1))) cs
first-left most i cs lt = let n : most - i ≡ suc (most - (i + 1)) = omega (arith, lt) in ap (λ k. first_of k cs) n
