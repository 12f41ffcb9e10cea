-- Codes tell the values.
use Rattle.std.proofs.Common.{◌≡◌, ◌==◌, not, Some, None, append-nil, append_assoc, add-mul, add_assoc, mul_assoc, mul_comm, pow-suc, mod-eq_of_lt, ◌+ℤ◌, ◌-ℤ◌, ◌+◌, ◌-◌, ◌*◌, ◌%◌, ◌^◌, ◌<◌, nat_lt, ℕ, zero, suc, ℤ, pos, negsuc, Bool, true, false, cond, List, [], ◌∷◌, ◌++◌, length, map, take, drop, refl, sym, ap, subst, ◌∙◌, arith}
use Rattle.std.proofs.lemmas.Map.Lookups.{exact_signed, exact_bytes}
use Rattle.std.proofs.lemmas.Str.{IsUtf8-had}
use Rattle.std.specs.declared.cmp.Ordering.{Ordering}
use Rattle.std.specs.declared.cmp.Ordering.TheVariants.{Less, Equal, Greater}
use Rattle.std.specs.Coded.{×_prop, Unit-prop, le_prop, coded_list, coded_ℕ}
use denote.Struct.Props.{≡_prop}
use Rattle.std.proofs.Math.Seq.{take-append_seam}
use Rattle.std.proofs.lemmas.Bool.Decides.{nat_tests}
use Rattle.std.proofs.lemmas.Int.{ints}
use Rattle.std.proofs.lemmas.List.{length-append, length-map}
use Rattle.std.proofs.Math.Logic.{∥∥₁_prop}
use mathlib.Core.HLevel.{Σ_prop_path}
use Rattle.std.specs.Int.{byte_at, bytes_high_first, from_be_bytes, w128}
use Rattle.std.specs.List.{AllByRecursion, AllByRecursion-prop, position, position_or_len}
use Rattle.std.specs.Ordering.{nat_cmp, ordering_then}
use Rattle.std.specs.Cmp.Lexicographic.{slice_cmp}
use Rattle.semantics.specs.Values.{Datum, boolean, whole, text, null, value_order}
use Rattle.values.specs.Datum.{datum_of, data_of}
use Rattle.values.specs.declared.value.Value.{Value}
use Rattle.values.specs.declared.value.Value.TheVariants as v
use Rattle.sort_keys.specs.Codes.{IsCodable, number_code, value_code, values_code}
use Rattle.sort_keys.specs.Decoding.{IsStorable, IsCodeOf, KeyOf}
use Rattle.sort_keys.specs.Inside.Decoding.{IsSplit, IsNumberSplit, IsWideSplit}
use Rattle.sort_keys.specs.SortKeys.{with_digits}
use Rattle.sort_keys.proofs.Bytes.{highest}
use Rattle.sort_keys.proofs.Digits.{number-digits}
use Rattle.sort_keys.proofs.Texts.{part-behind, text-below}
use Rattle.sort_keys.proofs.Told.{told-before, told-order, alike}
use Rattle.sort_keys.proofs.Values.{values-tell, Stands, stands, lower, under, over, upper}

-- ---- no two values have one code, and no code is the beginning of another one

pub codable : (d : Datum) → IsStorable d → IsCodable d
codable (boolean b) h = tt
codable (whole n) h = h
codable (text s) h = text-below s (IsUtf8-had s h)
codable null h = tt

-- the values that the program has are storable
pub storable : (x : Value) → IsCodable (datum_of x) → IsStorable (datum_of x)
storable (v.Bool b) h = tt
storable (v.Int n) h = h
storable (v.Text s) h = s.ok
storable v.Null h = tt

same-value : (a b : Datum) → value_order a b ≡ Equal → a ≡ b
same-value (boolean true) (boolean true) h = refl
same-value (boolean false) (boolean false) h = refl
same-value (boolean true) (boolean false) h = cc
same-value (boolean false) (boolean true) h = cc
same-value (boolean a) (whole n) h = cc
same-value (boolean a) (text s) h = cc
same-value (boolean a) null h = cc
same-value (whole m) (boolean b) h = cc
same-value (whole m) (whole n) h = ap whole (exact_signed m n h)
same-value (whole m) (text s) h = cc
same-value (whole m) null h = cc
same-value (text s) (boolean b) h = cc
same-value (text s) (whole n) h = cc
same-value (text s) (text t) h = ap text (exact_bytes s t h)
same-value (text s) null h = cc
same-value null (boolean b) h = cc
same-value null (whole n) h = cc
same-value null (text s) h = cc
same-value null null h = refl

both-equal : (o p : Ordering) → ordering_then o p ≡ Equal → (o ≡ Equal) × (p ≡ Equal)
both-equal Less p h = absurd cc
both-equal Equal p h = (refl, h)
both-equal Greater p h = absurd cc

-- the value in front and the bytes behind its code are told
pub front-told : (a b : Datum) (s t : List ℕ) → IsStorable a → IsStorable b → value_code a ++ s ≡ value_code b ++ t → (a ≡ b) × (s ≡ t)
front-told a b s t x y h =
    let order = told-before s t (values-tell a b (codable a x) (codable b y)) in
    let same : slice_cmp nat_cmp (value_code a ++ s) (value_code b ++ t) ≡ Equal =
    ap (slice_cmp nat_cmp (value_code a ++ s)) (sym h) ∙ told-order (alike {s = value_code a ++ s}) in
    let both = both-equal (value_order a b) (slice_cmp nat_cmp s t) (sym order ∙ same) in
    (same-value a b both.0, exact_bytes s t both.1)

number-some : (z : ℤ) (s : List ℕ) → number_code z ++ s ≡ [] → ⊥
number-some (pos n) s = elim (nat_lt n (2 ^ 63)) as (λ b. cond b (4 ∷ bytes_high_first 8 (2 ^ 63 + n)) (5 ∷ bytes_high_first 16 n) ++ s ≡ [] → ⊥) [ true ↦ λ h. cc | false ↦ λ h. cc ]
number-some (negsuc n) s = elim (nat_lt n (2 ^ 63)) as (λ b. cond b (4 ∷ bytes_high_first 8 (2 ^ 63 - 1 - n)) (3 ∷ bytes_high_first 16 (2 ^ 127 - 1 - n)) ++ s ≡ [] → ⊥) [ true ↦ λ h. cc | false ↦ λ h. cc ]

-- a code has a byte
pub code-some : (d : Datum) (s : List ℕ) → value_code d ++ s ≡ [] → ⊥
code-some (boolean true) s h = cc
code-some (boolean false) s h = cc
code-some (whole n) s h = number-some n s h
code-some (text t) s h = cc
code-some null s h = cc

-- no two keys have one code
pub keys-one : (k l : List Datum) → AllByRecursion IsStorable k → AllByRecursion IsStorable l → values_code k ≡ values_code l → k ≡ l
keys-one [] [] a b h = refl
keys-one [] (y ∷ l) a b h = absurd (code-some y (values_code l) (sym h))
keys-one (x ∷ k) [] a b h = absurd (code-some x (values_code k) h)
keys-one (x ∷ k) (y ∷ l) a b h =
    let both = front-told x y (values_code k) (values_code l) a.0 b.0 h in
    λ i. both.0 i ∷ keys-one k l a.1 b.1 both.1 i

storable-one : (d : Datum) → IsProp (IsStorable d)
storable-one (boolean b) = Unit-prop
storable-one (whole (pos n)) = le_prop
storable-one (whole (negsuc n)) = le_prop
storable-one (text s) = ∥∥₁_prop
storable-one null = Unit-prop

-- bytes are the code of one key at most
pub KeyOf-prop : (code : List ℕ) → IsProp (KeyOf code)
KeyOf-prop code = λ x y.
    Σ_prop_path {B = IsCodeOf code} (λ key. ×_prop (AllByRecursion-prop IsStorable storable-one key) (≡_prop (coded_list coded_ℕ) code (values_code key)))
    (keys-one x.0 y.0 x.1.0 y.1.0 (sym x.1.1 ∙ y.1.1))

-- ---- what the first byte tells

data Led : ℕ → List ℕ → Datum → List ℕ → Type 0 where
  is_truth : (x : ℕ) (rest : List ℕ) (b : Bool) (s : List ℕ) → x < 3 → Led x rest (boolean b) s
  is_below : (x : ℕ) (rest : List ℕ) (n : ℕ) (s : List ℕ) → x ≡ 3 → n < 2 ^ 127 → rest ≡ bytes_high_first 16 (2 ^ 127 - 1 - n) ++ s → Led x rest (whole (negsuc n)) s
  is_under : (x : ℕ) (rest : List ℕ) (n : ℕ) (s : List ℕ) → x ≡ 4 → n < 2 ^ 63 → rest ≡ bytes_high_first 8 (2 ^ 63 - 1 - n) ++ s → Led x rest (whole (negsuc n)) s
  is_over : (x : ℕ) (rest : List ℕ) (n : ℕ) (s : List ℕ) → x ≡ 4 → n < 2 ^ 63 → rest ≡ bytes_high_first 8 (2 ^ 63 + n) ++ s → Led x rest (whole (pos n)) s
  is_above : (x : ℕ) (rest : List ℕ) (n : ℕ) (s : List ℕ) → x ≡ 5 → n < 2 ^ 127 → rest ≡ bytes_high_first 16 n ++ s → Led x rest (whole (pos n)) s
  is_other : (x : ℕ) (rest : List ℕ) (d : Datum) (s : List ℕ) → 5 < x → Led x rest d s

first-same : {x y : ℕ} {s t : List ℕ} → x ∷ s ≡ y ∷ t → x ≡ y
first-same h = cc

rest-same : {x y : ℕ} {s t : List ℕ} → x ∷ s ≡ y ∷ t → s ≡ t
rest-same h = cc

number-led : {z : ℤ} {code : List ℕ} (x : ℕ) (rest s : List ℕ) → Stands z code → x ∷ rest ≡ code ++ s → Led x rest (whole z) s
number-led x rest s (lower n a b) h = is_below x rest n s (first-same h) b (rest-same h)
number-led x rest s (under n a) h = is_under x rest n s (first-same h) a (rest-same h)
number-led x rest s (over n a) h = is_over x rest n s (first-same h) a (rest-same h)
number-led x rest s (upper n a b) h = is_above x rest n s (first-same h) b (rest-same h)

led : (x : ℕ) (rest : List ℕ) (d : Datum) (s : List ℕ) → IsStorable d → x ∷ rest ≡ value_code d ++ s → Led x rest d s
led x rest (boolean true) s k h = is_truth x rest true s (let e : x ≡ 2 = first-same h in omega (arith, e))
led x rest (boolean false) s k h = is_truth x rest false s (let e : x ≡ 1 = first-same h in omega (arith, e))
led x rest (whole z) s k h = number-led x rest s (stands z k) h
led x rest (text t) s k h = is_other x rest (text t) s (let e : x ≡ 6 = first-same h in omega (arith, e))
led x rest null s k h = is_other x rest null s (let e : x ≡ 255 = first-same h in omega (arith, e))

low-is : (n : ℕ) → n < 2 ^ 63 → pos (2 ^ 63 - 1 - n) -ℤ pos (2 ^ 63) ≡ negsuc n
low-is n h = omega (arith, ints, h)

high-is : (n : ℕ) → n < 2 ^ 63 → pos (2 ^ 63 + n) -ℤ pos (2 ^ 63) ≡ pos n
high-is n h = omega (arith, ints, h)

least-is : (n : ℕ) → n < 2 ^ 127 → negsuc (2 ^ 127 - 1) +ℤ pos (2 ^ 127 - 1 - n) ≡ negsuc n
least-is n h = omega (arith, ints, h)

none-is : (n : ℕ) → pos 0 +ℤ pos n ≡ pos n
none-is n = omega (arith, ints)

number-value : {x : ℕ} {rest : List ℕ} {d : Datum} {s : List ℕ} (v : Datum) (after : List ℕ) → IsNumberSplit rest v after → x ≡ 4 → Led x rest d s → (v ≡ d) × (after ≡ s)
number-value v after split e (is_truth x rest b s low) = absurd (omega (arith, e, low))
number-value v after split e (is_below x rest n s f a is) = absurd (omega (arith, e, f))
number-value v after split e (is_under x rest n s f a is) = let r = split (2 ^ 63 - 1 - n) s (omega (arith, a)) is in (r.0 ∙ ap whole (low-is n a), r.1)
number-value v after split e (is_over x rest n s f a is) = let r = split (2 ^ 63 + n) s (omega (arith, a)) is in (r.0 ∙ ap whole (high-is n a), r.1)
number-value v after split e (is_above x rest n s f a is) = absurd (omega (arith, e, f))
number-value v after split e (is_other x rest d s f) = absurd (omega (arith, e, f))

below-value : {x : ℕ} {rest : List ℕ} {d : Datum} {s : List ℕ} (v : Datum) (after : List ℕ) → IsWideSplit (negsuc (2 ^ 127 - 1)) rest v after → x ≡ 3 → Led x rest d s → (v ≡ d) × (after ≡ s)
below-value v after split e (is_truth x rest b s low) = absurd (omega (arith, e, low))
below-value v after split e (is_below x rest n s f a is) = let r = split (2 ^ 127 - 1 - n) s (omega (arith, a)) is in (r.0 ∙ ap whole (least-is n a), r.1)
below-value v after split e (is_under x rest n s f a is) = absurd (omega (arith, e, f))
below-value v after split e (is_over x rest n s f a is) = absurd (omega (arith, e, f))
below-value v after split e (is_above x rest n s f a is) = absurd (omega (arith, e, f))
below-value v after split e (is_other x rest d s f) = absurd (omega (arith, e, f))

above-value : {x : ℕ} {rest : List ℕ} {d : Datum} {s : List ℕ} (v : Datum) (after : List ℕ) → IsWideSplit (pos 0) rest v after → x ≡ 5 → Led x rest d s → (v ≡ d) × (after ≡ s)
above-value v after split e (is_truth x rest b s low) = absurd (omega (arith, e, low))
above-value v after split e (is_below x rest n s f a is) = absurd (omega (arith, e, f))
above-value v after split e (is_under x rest n s f a is) = absurd (omega (arith, e, f))
above-value v after split e (is_over x rest n s f a is) = absurd (omega (arith, e, f))
above-value v after split e (is_above x rest n s f a is) = let r = split n s a is in (r.0 ∙ ap whole (none-is n), r.1)
above-value v after split e (is_other x rest d s f) = absurd (omega (arith, e, f))

pub split-number : (code : List ℕ) (x : ℕ) (rest after : List ℕ) (v : Datum) → code ≡ x ∷ rest → x ≡ 4 → IsNumberSplit rest v after → IsSplit code v after
split-number code x rest after v is e split = λ d s k h. number-value v after split e (led x rest d s k (sym is ∙ h))

pub split-below : (code : List ℕ) (x : ℕ) (rest after : List ℕ) (v : Datum) → code ≡ x ∷ rest → x ≡ 3 → IsWideSplit (negsuc (2 ^ 127 - 1)) rest v after → IsSplit code v after
split-below code x rest after v is e split = λ d s k h. below-value v after split e (led x rest d s k (sym is ∙ h))

pub split-above : (code : List ℕ) (x : ℕ) (rest after : List ℕ) (v : Datum) → code ≡ x ∷ rest → x ≡ 5 → IsWideSplit (pos 0) rest v after → IsSplit code v after
split-above code x rest after v is e split = λ d s k h. above-value v after split e (led x rest d s k (sym is ∙ h))

-- ---- numbers of 16 bytes

spread : (m b u : ℕ) → (256 * m + b) * u ≡ m * (u * 256) + b * u
spread m b u = add-mul (256 * m) b u ∙ ap (λ p. p + b * u) (ap (λ q. q * u) (mul_comm 256 m) ∙ mul_assoc m 256 u ∙ ap (λ q. m * q) (mul_comm 256 u))

digits-back : (k m n : ℕ) → with_digits m k (bytes_high_first k n) ≡ m * 256 ^ k + n % 256 ^ k
unfolding with_digits
digits-back zero m n = omega arith
digits-back (suc k) m n =
    digits-back k (256 * m + byte_at k n) n
    ∙ ap (λ p. p + n % 256 ^ k) (spread m (byte_at k n) (256 ^ k))
    ∙ add_assoc (m * (256 ^ k * 256)) (byte_at k n * 256 ^ k) (n % 256 ^ k)
    ∙ (λ i. m * sym (pow-suc 256 k) i + sym (highest k n) i)

pub wide-back : (n : ℕ) → n < 2 ^ 127 → from_be_bytes w128 (bytes_high_first 16 n) ≡ n
wide-back n h =
    let low : n < 256 ^ 16 = omega (arith, h) in
    let small : n % 256 ^ 16 ≡ n = mod-eq_of_lt low in
    let all : 0 * 256 ^ 16 + n % 256 ^ 16 ≡ n = omega (arith, small) in
    number-digits (bytes_high_first 16 n) (bytes_high_first 16 n) (λ i low. refl) ∙ digits-back 16 0 n ∙ all

-- ---- texts

some-same : {m n : ℕ} → Some m ≡ Some n → m ≡ n
some-same h = cc

none-some : {n : ℕ} → None ≡ Some n → ⊥
none-some h = cc

prefix-end : (t s : List ℕ) → position_or_len (λ b. b == 0) (map suc t ++ 0 ∷ s) ≡ length t
prefix-end [] s = refl
prefix-end (b ∷ t) s =
    let some : (suc b == 0) ≡ false = grind (arith, nat_tests) in
    ap (λ e. cond (not e) (1 + position_or_len (λ b. b == 0) (map suc t ++ 0 ∷ s)) 0) some ∙ (let e = prefix-end t s in omega (arith, e))

-- the end of a text in front of other bytes is found
pub text-end : (t s : List ℕ) → position (λ b. b == 0) (map suc t ++ 0 ∷ s) ≡ Some (length t)
text-end t s =
    let all = map suc t ++ 0 ∷ s in
    let longer : length t < length all = omega (arith, length-append (map suc t) (0 ∷ s), length-map t suc) in
    let is : nat_lt (length t) (length all) ≡ true = grind (arith, nat_tests, longer) in
    subst (λ p. cond (nat_lt p (length all)) (Some p) None ≡ Some (length t)) (sym (prefix-end t s)) (ap (λ b. cond b (Some (length t)) None) is)

pub lowered-back : (t : List ℕ) → map (λ b. b - 1) (map suc t) ≡ t
lowered-back [] = refl
lowered-back (b ∷ t) = let e : suc b - 1 ≡ b = omega arith in λ i. e i ∷ lowered-back t i

text-front : (t s code low : List ℕ) (m : ℕ) → code ≡ map suc t ++ 0 ∷ s → m ≡ length t → low ≡ map (λ b. b - 1) (take m code) → low ≡ t
text-front t s code low m is at cut =
    let n : m ≡ length (map suc t) = at ∙ sym (length-map t suc) in
    let front : take m code ≡ map suc t = (λ i. take (n i) (is i)) ∙ take-append_seam (map suc t) (0 ∷ s) in
    cut ∙ ap (map (λ b. b - 1)) front ∙ lowered-back t

-- a text is what stands in front of its end, each byte less by one
pub text-read : (t s code low : List ℕ) (len m : ℕ) → code ≡ map suc t ++ 0 ∷ s → Some len ≡ position (λ b. b == 0) code → m ≡ len → low ≡ map (λ b. b - 1) (take m code) → low ≡ t
text-read t s code low len m is found same cut = text-front t s code low m is (same ∙ some-same (found ∙ ap (position (λ b. b == 0)) is ∙ text-end t s)) cut

-- and the rest stands behind its end
pub text-rest : (t s code : List ℕ) (len : ℕ) → code ≡ map suc t ++ 0 ∷ s → Some len ≡ position (λ b. b == 0) code → take (length code - (len + 1)) (drop (len + 1) code) ≡ s
text-rest t s code len is found =
    let at : len ≡ length t = some-same (found ∙ ap (position (λ b. b == 0)) is ∙ text-end t s) in
    let long : length (map suc t ++ 0 ∷ []) ≡ len + 1 = omega (arith, at, length-append (map suc t) (0 ∷ []), length-map t suc) in
    part-behind code (map suc t ++ 0 ∷ []) s (len + 1) (is ∙ sym (append_assoc (map suc t) (0 ∷ []) s)) (sym long)

-- there is one
pub text-some : (t s code : List ℕ) → code ≡ map suc t ++ 0 ∷ s → None ≡ position (λ b. b == 0) code → ⊥
text-some t s code is none = none-some (none ∙ ap (position (λ b. b == 0)) is ∙ text-end t s)

-- ---- numbers of 16 bytes, in front of others

pub wide-read : (n : ℕ) (s code bytes rest : List ℕ) (number : ℕ) → n < 2 ^ 127 → code ≡ bytes_high_first 16 n ++ s → bytes ≡ take 16 code → rest ≡ drop 16 code → number ≡ from_be_bytes w128 bytes → (number ≡ n) × (rest ≡ s)
wide-read n s code bytes rest number h is front back read =
    let first : take 16 code ≡ bytes_high_first 16 n = ap (take 16) is in
    let second : drop 16 code ≡ s = ap (drop 16) is in
    (read ∙ ap (from_be_bytes w128) (front ∙ first) ∙ wide-back n h, back ∙ second)

-- ---- values, one after the other

pushed : (values : List Value) (value : Value) (left : List Datum) → data_of (values ++ value ∷ []) ++ left ≡ data_of values ++ datum_of value ∷ left
pushed [] value left = refl
pushed (x ∷ values) value left = ap (λ ds. datum_of x ∷ ds) (pushed values value left)

-- the value in front is read
pub next-read : (values : List Value) (value : Value) (rest behind : List ℕ) (left key : List Datum) → 0 < length rest → AllByRecursion IsStorable left → rest ≡ values_code left → data_of values ++ left ≡ key → IsSplit rest (datum_of value) behind
    → (more : List Datum) × AllByRecursion IsStorable more × (behind ≡ values_code more) × (data_of (values ++ value ∷ []) ++ more ≡ key)
next-read values value rest behind [] key some all is total split = absurd (omega (arith, some, ap length is))
next-read values value rest behind (x ∷ left) key some all is total split =
    let s = split x (values_code left) all.0 is in
    (left, all.1, s.1, pushed values value left ∙ ap (λ d. data_of values ++ d ∷ left) s.0 ∙ total)

empty-is : (rest : List ℕ) → length rest ≡ 0 → rest ≡ []
empty-is [] h = refl
empty-is (x ∷ rest) h = absurd (omega (arith, h))

-- all are read
pub all-read : (values : List Datum) (rest : List ℕ) (left key : List Datum) → length rest ≡ 0 → rest ≡ values_code left → values ++ left ≡ key → values ≡ key
all-read values rest [] key none is total = sym (append-nil values) ∙ total
all-read values rest (x ∷ left) key none is total = absurd (code-some x (values_code left) (sym is ∙ empty-is rest none))
