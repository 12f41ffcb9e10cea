-- Plain text by the marks of the bytes that end it, a vector of bytes at a time.
use Rattle.std.proofs.Common.{◌≡◌, ℕ, zero, suc, ◌+◌, ◌-◌, ◌*◌, ◌/◌, ◌%◌, ◌^◌, ◌<◌, ◌≤◌, ◌||◌, Bool, true, false, cond, eqb, not, List, [], ◌∷◌, map, length, drop, refl, sym, ap, ◌∙◌, arith}
use Rattle.std.proofs.Math.Nat.{div-div-eq-div-mul, div-one, pow-succ', zero-div}
use Rattle.std.proofs.lemmas.Bool.{eq-eqb, ne_eqb}
use Rattle.std.proofs.lemmas.List.{drop-map, length-map, length-drop, drop-drop, take_all}
use Rattle.std.proofs.lemmas.List.Folds.{prefix_len-append}
use Rattle.std.proofs.lemmas.List.Sums.{prefix_len-le-length}
use Rattle.std.proofs.lemmas.Simd.{chunk-drop, leading_from_mask_l, length-chunk, map-map, mask_l-mod, trailing_mask_l, zip2_of_maps}
use Rattle.std.specs.List.{prefix_len}
use Rattle.json.specs.Run.{is_plain, is_stop}
use lib.Bits.{bit_or}
use lib.Count.{count_trailing_zeros}
use lib.Lanes.{chunk, mask_l, top, zip2}

-- ---- lanes that are all ones or all zeros

abbrev pub lane : Bool → ℕ
lane b = cond b 255 0

lane_or : (a b : Bool) → bit_or (lane a) (lane b) ≡ lane (a || b)
lane_or true true = refl
lane_or true false = refl
lane_or false true = refl
lane_or false false = refl

top_lane : (b : Bool) → top 7 (lane b) ≡ b
top_lane true = refl
top_lane false = refl

module _ (p q : ℕ → Bool) (xs : List ℕ) where
  pub either_lane : {ms ns : List ℕ} → ms ≡ map (λ x. lane (p x)) xs → ns ≡ map (λ x. lane (q x)) xs → zip2 bit_or ms ns ≡ map (λ x. lane (p x || q x)) xs
  either_lane e f = zip2_of_maps bit_or (λ x. lane (p x)) (λ x. lane (q x)) xs e f ∙ (λ i. map (λ x. lane_or (p x) (q x) i) xs)

pub lanes-mask : (p : ℕ → Bool) (xs : List ℕ) {ms : List ℕ} → length xs ≤ 64 → ms ≡ map (λ x. lane (p x)) xs → mask_l (map (top 7) ms) % 2 ^ 64 ≡ mask_l (map p xs)
lanes-mask p xs few e =
    ap (λ ms. mask_l (map (top 7) ms) % 2 ^ 64) e ∙ ap (λ bs. mask_l bs % 2 ^ 64) (map-map (top 7) (λ x. lane (p x)) xs ∙ (λ i. map (λ x. top_lane (p x) i) xs))
    ∙ mask_l-mod (map p xs) 64 (omega (arith, length-map xs p))

-- ---- marks

one_marked : (b : Bool) (plain long marks : ℕ) → plain ≤ long → cond (not b) (1 + plain) 0 ≡ suc long → (plain ≡ long → marks ≡ 0) → cond b 1 0 + 2 * marks ≡ 0
one_marked true plain long marks le e rest = absurd (omega arith)
one_marked false plain long marks le e rest = let none = rest (omega arith) in omega arith

-- bytes of which all are plain have no mark
none_marked : (xs : List ℕ) → prefix_len is_plain xs ≡ length xs → mask_l (map is_stop xs) ≡ 0
none_marked [] e = refl
none_marked (x ∷ xs) e = one_marked (is_stop x) (prefix_len is_plain xs) (length xs) (mask_l (map is_stop xs)) (prefix_len-le-length is_plain xs) e (none_marked xs)

-- ---- a vector of a text

-- plain text does not go beyond the text
pub plain-within : (text : List ℕ) (from : ℕ) → from ≤ length text → from + prefix_len is_plain (drop from text) ≤ length text
plain-within text from inside = omega (arith, prefix_len-le-length is_plain (drop from text), length-drop from text)

module _ (text : List ℕ) (at n marks : ℕ) (room : at + n ≤ length text) (e : marks ≡ mask_l (map is_stop (chunk at n text))) where
  parted : prefix_len is_plain (drop at text) ≡ cond (eqb (prefix_len is_plain (chunk at n text)) n) (n + prefix_len is_plain (drop (at + n) text)) (prefix_len is_plain (chunk at n text))
  parted =
      let bytes = chunk at n text in
      ap (prefix_len is_plain) (chunk-drop at n text) ∙ prefix_len-append is_plain bytes (drop (at + n) text)
      ∙ ap (λ k. cond (eqb (prefix_len is_plain bytes) k) (k + prefix_len is_plain (drop (at + n) text)) (prefix_len is_plain bytes)) (length-chunk at n text room)

  -- no byte is marked
  pub plain-through : marks ≡ 0 → prefix_len is_plain (drop at text) ≡ n + prefix_len is_plain (drop (at + n) text)
  plain-through none =
      let bytes = chunk at n text in
      let all : prefix_len is_plain bytes ≡ n = leading_from_mask_l is_stop bytes (sym e ∙ none) ∙ length-chunk at n text room in
      parted ∙ ap (λ b. cond b (n + prefix_len is_plain (drop (at + n) text)) (prefix_len is_plain bytes)) (eq-eqb (prefix_len is_plain bytes) n all)

  -- the lowest mark is that of the first byte that is not plain
  pub plain-to_mark : n ≤ 64 → (marks ≡ 0 → ⊥) → prefix_len is_plain (drop at text) ≡ count_trailing_zeros 64 marks
  plain-to_mark few some =
      let bytes = chunk at n text in
      let long = length-chunk at n text room in
      let marked : 0 < mask_l (map is_stop bytes) = omega (arith, e, some) in
      let not_all : prefix_len is_plain bytes ≡ n → ⊥ = λ all. some (e ∙ none_marked bytes (all ∙ sym long)) in
      parted ∙ ap (λ b. cond b (n + prefix_len is_plain (drop (at + n) text)) (prefix_len is_plain bytes)) (ne_eqb (prefix_len is_plain bytes) n not_all)
      ∙ sym (trailing_mask_l is_stop 64 bytes (omega (arith, long)) marked) ∙ ap (count_trailing_zeros 64) (sym e)

-- ---- the last vector of a text

marks_half : (b : Bool) (m : ℕ) → (cond b 1 0 + 2 * m) / 2 ≡ m
marks_half true m = omega arith
marks_half false m = omega arith

marks_above : (k : ℕ) (bs : List Bool) → mask_l bs / 2 ^ k ≡ mask_l (drop k bs)
marks_above zero bs = div-one (mask_l bs)
marks_above (suc k) [] = zero-div (2 ^ suc k)
marks_above (suc k) (b ∷ bs) =
    ap (λ d. mask_l (b ∷ bs) / d) (pow-succ' 2 k) ∙ sym (div-div-eq-div-mul (mask_l (b ∷ bs)) 2 (2 ^ k)) ∙ ap (λ m. m / 2 ^ k) (marks_half b (mask_l bs)) ∙ marks_above k bs

-- from a place on the marks of the last bytes of a text are the upper ones
module _ (text : List ℕ) (from n marks : ℕ) (within : from ≤ length text) (room : n ≤ length text) (few : length text ≤ from + n) (e : marks ≡ mask_l (map is_stop (chunk (length text - n) n text))) where
  upper : marks / 2 ^ (from - (length text - n)) ≡ mask_l (map is_stop (drop from text))
  upper =
      let start = length text - n in
      let last : chunk start n text ≡ drop start text = take_all n (drop start text) (omega (arith, length-drop start text)) in
      let there : start + (from - start) ≡ from = omega arith in
      ap (λ m. m / 2 ^ (from - start)) (e ∙ ap (λ bytes. mask_l (map is_stop bytes)) last) ∙ marks_above (from - start) (map is_stop (drop start text))
      ∙ ap mask_l (drop-map is_stop (from - start) (drop start text)) ∙ ap (λ bytes. mask_l (map is_stop bytes)) (drop-drop (from - start) start text ∙ ap (λ k. drop k text) there)

  pub last-through : marks / 2 ^ (from - (length text - n)) ≡ 0 → length text ≡ from + prefix_len is_plain (drop from text)
  last-through none = omega (arith, leading_from_mask_l is_stop (drop from text) (sym upper ∙ none), length-drop from text)

  pub last-to_mark : n ≤ 64 → (marks / 2 ^ (from - (length text - n)) ≡ 0 → ⊥) → count_trailing_zeros 64 (marks / 2 ^ (from - (length text - n))) ≡ prefix_len is_plain (drop from text)
  last-to_mark short some =
      let marked : 0 < mask_l (map is_stop (drop from text)) = omega (arith, upper, some) in
      ap (count_trailing_zeros 64) upper ∙ trailing_mask_l is_stop 64 (drop from text) (omega (arith, length-drop from text)) marked
