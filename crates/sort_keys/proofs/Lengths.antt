-- How long codes are.
use Rattle.std.proofs.Common.{◌≡◌, Some, None, append_assoc, ◌==◌, ◌+◌, ◌<◌, ℕ, suc, ℤ, min, true, false, List, [], ◌∷◌, ◌++◌, length, map, take, drop, sym, ap, ◌∙◌, arith}
use Rattle.std.proofs.Math.Seq.{drop-append_seam, take-append_seam}
use Rattle.std.proofs.lemmas.List.{length-append, length-map}
use Rattle.std.specs.List.{position}
use Rattle.semantics.specs.Values.{Datum, boolean, whole, text, null}
use Rattle.sort_keys.specs.Codes.{value_code}
use Rattle.sort_keys.specs.Inside.Decoding.{IsCodeLength}
use Rattle.sort_keys.specs.Decoding.{IsCodeSplit, IsStorable}
use Rattle.sort_keys.proofs.Decoding.{text-end}
use Rattle.sort_keys.proofs.Values.{Stands, stands, lower, under, over, upper}

first-same : {x y : ℕ} {s t : List ℕ} → x ∷ s ≡ y ∷ t → x ≡ y
first-same h = cc

rest-same : {x y : ℕ} {s t : List ℕ} → x ∷ s ≡ y ∷ t → s ≡ t
rest-same h = cc

-- no number begins as a text
number-other : {z : ℤ} {code : List ℕ} (x : ℕ) (rest s : List ℕ) → Stands z code → x ≡ 6 → x ∷ rest ≡ code ++ s → ⊥
number-other x rest s (lower n a b) e h = let f : x ≡ 3 = first-same h in omega (arith, e, f)
number-other x rest s (under n a) e h = let f : x ≡ 4 = first-same h in omega (arith, e, f)
number-other x rest s (over n a) e h = let f : x ≡ 4 = first-same h in omega (arith, e, f)
number-other x rest s (upper n a b) e h = let f : x ≡ 5 = first-same h in omega (arith, e, f)

text-code : (d : Datum) (x : ℕ) (rest s : List ℕ) (len : ℕ) → IsStorable d → x ≡ 6 → x ∷ rest ≡ value_code d ++ s → ((t : List ℕ) → rest ≡ map suc t ++ 0 ∷ s → len ≡ length t + 2) → len ≡ length (value_code d)
text-code (boolean true) x rest s len k e h by = absurd (let f : x ≡ 2 = first-same h in omega (arith, e, f))
text-code (boolean false) x rest s len k e h by = absurd (let f : x ≡ 1 = first-same h in omega (arith, e, f))
text-code (whole z) x rest s len k e h by = absurd (number-other x rest s (stands z k) e h)
text-code (text t) x rest s len k e h by =
    let is = by t (rest-same h ∙ append_assoc (map suc t) (0 ∷ []) s) in
    omega (arith, is, length-append (map suc t) (0 ∷ []), length-map t suc)
text-code null x rest s len k e h by = absurd (let f : x ≡ 255 = first-same h in omega (arith, e, f))

some-same : {m n : ℕ} → Some m ≡ Some n → m ≡ n
some-same h = cc

none-some : {n : ℕ} → None ≡ Some n → ⊥
none-some h = cc

-- the code of a text has a byte in front of those of the text, and one behind them
pub text-length : (code : List ℕ) (x : ℕ) (rest : List ℕ) (len : ℕ) → code ≡ x ∷ rest → x ≡ 6 → Some len ≡ position (λ b. b == 0) rest → IsCodeLength code (len + 2)
text-length code x rest len is e found = λ d s k h.
    text-code d x rest s (len + 2) k e (sym is ∙ h) (λ t r. ap (λ n. n + 2) (some-same (found ∙ ap (position (λ b. b == 0)) r ∙ text-end t s)))

-- where no text ends, none begins
pub no-text : (code : List ℕ) (x : ℕ) (rest : List ℕ) (len : ℕ) → code ≡ x ∷ rest → x ≡ 6 → None ≡ position (λ b. b == 0) rest → IsCodeLength code len
no-text code x rest len is e none = λ d s k h.
    text-code d x rest s len k e (sym is ∙ h) (λ t r. absurd (none-some (none ∙ ap (position (λ b. b == 0)) r ∙ text-end t s)))

-- bytes are parted behind the code in front of them
pub parted : (code front rest : List ℕ) (n m : ℕ) → IsCodeLength code n → m ≡ min n (length code) → front ≡ take m code → rest ≡ drop m code → IsCodeSplit code front rest
parted code front rest n m len is f r = λ d s k h.
    let c = value_code d in
    let here : n ≡ length c = len d s k h in
    let at : m ≡ length c = omega (arith, is, here, ap length h, length-append c s) in
    (f ∙ (λ i. take (at i) (h i)) ∙ take-append_seam c s, r ∙ (λ i. drop (at i) (h i)) ∙ drop-append_seam c s)
