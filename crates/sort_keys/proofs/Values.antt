-- Codes stand to each other as values do.
use Rattle.std.proofs.Common.{ltb-true, ltb-false, ◌≡◌, ◌⊎◌, inl, inr, ◌+◌, ◌-◌, ◌^◌, ◌<◌, ◌≤◌, nat_lt, ℕ, suc, ℤ, pos, negsuc, Bool, true, false, cond, List, [], ◌∷◌, ◌++◌, length, map, refl, sym, subst, ◌∙◌, arith}
use Rattle.std.proofs.lemmas.Bool.{cases_order}
use Rattle.std.proofs.lemmas.Bool.Decides.{nat_tests}
use Rattle.std.specs.declared.cmp.Ordering.{Ordering}
use Rattle.std.specs.declared.cmp.Ordering.TheVariants.{Less, Equal, Greater}
use Rattle.std.specs.Int.{bytes_high_first}
use Rattle.std.specs.Ordering.{nat_cmp, int_cmp, ordering_reverse, ordering_then}
use Rattle.std.specs.Cmp.Lexicographic.{slice_cmp}
use Rattle.std.specs.List.{AllByRecursion}
use Rattle.semantics.specs.Groups.{key_order}
use Rattle.semantics.specs.Order.{null_order, compare_by_key}
use Rattle.semantics.specs.Syntax.{SortKey}
use Rattle.semantics.specs.Values.{Datum, boolean, whole, text, null, is_null, value_order}
use Rattle.sort_keys.specs.Codes.{IsCodable, complement, index_code, key_code, number_code, value_code, values_code}
use Rattle.sort_keys.specs.Laws.{AreCodesInOrder}
use Rattle.sort_keys.proofs.Bytes.{bytes-are, bytes-tell, told-digit}
use Rattle.sort_keys.proofs.Told.{AreBytes, Told, alike, less, greater, behind, less-is, greater-is, equal-is, told-before, told-then, told-turned}

then_nothing : (o : Ordering) → ordering_then o Equal ≡ o
then_nothing Less = refl
then_nothing Equal = refl
then_nothing Greater = refl

-- ---- numbers

-- where a number stands among those of its kind: below those of 64 bits, among them, or above them
pub data Stands : ℤ → List ℕ → Type 0 where
  lower : (n : ℕ) → 2 ^ 63 ≤ n → n < 2 ^ 127 → Stands (negsuc n) (3 ∷ bytes_high_first 16 (2 ^ 127 - 1 - n))
  under : (n : ℕ) → n < 2 ^ 63 → Stands (negsuc n) (4 ∷ bytes_high_first 8 (2 ^ 63 - 1 - n))
  over : (n : ℕ) → n < 2 ^ 63 → Stands (pos n) (4 ∷ bytes_high_first 8 (2 ^ 63 + n))
  upper : (n : ℕ) → 2 ^ 63 ≤ n → n < 2 ^ 127 → Stands (pos n) (5 ∷ bytes_high_first 16 n)

pub stands : (z : ℤ) → IsCodable (whole z) → Stands z (number_code z)
stands (pos n) h =
    elim (nat_lt n (2 ^ 63)) as (λ (b : Bool). nat_lt n (2 ^ 63) ≡ b → Stands (pos n) (cond b (4 ∷ bytes_high_first 8 (2 ^ 63 + n)) (5 ∷ bytes_high_first 16 n))) [
      | true ↦ λ e. over n (ltb-true n (2 ^ 63) e)
      | false ↦ λ e. upper n (ltb-false n (2 ^ 63) e) h
    ] refl
stands (negsuc n) h =
    elim (nat_lt n (2 ^ 63)) as (λ (b : Bool). nat_lt n (2 ^ 63) ≡ b → Stands (negsuc n) (cond b (4 ∷ bytes_high_first 8 (2 ^ 63 - 1 - n)) (3 ∷ bytes_high_first 16 (2 ^ 127 - 1 - n)))) [
      | true ↦ λ e. under n (ltb-true n (2 ^ 63) e)
      | false ↦ λ e. lower n (ltb-false n (2 ^ 63) e) h
    ] refl

int-pos : (m n : ℕ) → int_cmp (pos m) (pos n) ≡ nat_cmp m n
int-pos m n = grind (arith, nat_tests)

int-negsuc : (m n : ℕ) → int_cmp (negsuc m) (negsuc n) ≡ nat_cmp n m
int-negsuc m n = grind (arith, nat_tests)

-- the numbers that are so far below one stand the other way round
mirrored : (top m n : ℕ) → m < top → n < top → (m ≡ n) ⊎ ((m < n) ⊎ (n < m)) → nat_cmp (top - 1 - m) (top - 1 - n) ≡ nat_cmp n m
mirrored top m n a b (inl same) = subst (λ k. nat_cmp (top - 1 - m) (top - 1 - k) ≡ nat_cmp k m) same (equal-is (top - 1 - m) ∙ sym (equal-is m))
mirrored top m n a b (inr (inl below)) = greater-is (top - 1 - m) (top - 1 - n) (omega (arith, a, b, below)) ∙ sym (greater-is n m below)
mirrored top m n a b (inr (inr above)) = less-is (top - 1 - m) (top - 1 - n) (omega (arith, a, b, above)) ∙ sym (less-is n m above)

same_high : (c m n : ℕ) → (m ≡ n) ⊎ ((m < n) ⊎ (n < m)) → nat_cmp (c + m) (c + n) ≡ nat_cmp m n
same_high c m n (inl same) = subst (λ k. nat_cmp (c + m) (c + k) ≡ nat_cmp m k) same (equal-is (c + m) ∙ sym (equal-is m))
same_high c m n (inr (inl below)) = less-is (c + m) (c + n) (omega (arith, below)) ∙ sym (less-is m n below)
same_high c m n (inr (inr above)) = greater-is (c + m) (c + n) (omega (arith, above)) ∙ sym (greater-is m n above)

-- what stands so, where it is known how
is-less : {o : Ordering} {s t : List ℕ} (x y : ℕ) → o ≡ Less → x < y → Told o (x ∷ s) (y ∷ t)
is-less {s = s} {t = t} x y e h = subst (λ (o : Ordering). Told o (x ∷ s) (y ∷ t)) (sym e) (less h)

is-greater : {o : Ordering} {s t : List ℕ} (x y : ℕ) → o ≡ Greater → y < x → Told o (x ∷ s) (y ∷ t)
is-greater {s = s} {t = t} x y e h = subst (λ (o : Ordering). Told o (x ∷ s) (y ∷ t)) (sym e) (greater h)

is-behind : {o p : Ordering} {s t : List ℕ} (x : ℕ) → o ≡ p → Told p s t → Told o (x ∷ s) (x ∷ t)
is-behind {s = s} {t = t} x e h = subst (λ (o : Ordering). Told o (x ∷ s) (x ∷ t)) (sym e) (behind h)

numbers-tell : {z w : ℤ} {s t : List ℕ} → Stands z s → Stands w t → Told (int_cmp z w) s t
numbers-tell (lower m a b) (lower n c d) = is-behind 3 (int-negsuc m n ∙ sym (mirrored (2 ^ 127) m n b d (cases_order m n))) (bytes-tell 16 (2 ^ 127 - 1 - m) (2 ^ 127 - 1 - n) (omega arith) (omega arith))
numbers-tell (lower m a b) (under n c) = is-less 3 4 (int-negsuc m n ∙ less-is n m (omega (arith, a, c))) (omega arith)
numbers-tell (lower m a b) (over n c) = is-less 3 4 refl (omega arith)
numbers-tell (lower m a b) (upper n c d) = is-less 3 5 refl (omega arith)
numbers-tell (under m a) (lower n c d) = is-greater 4 3 (int-negsuc m n ∙ greater-is n m (omega (arith, a, c))) (omega arith)
numbers-tell (under m a) (under n c) = is-behind 4 (int-negsuc m n ∙ sym (mirrored (2 ^ 63) m n a c (cases_order m n))) (bytes-tell 8 (2 ^ 63 - 1 - m) (2 ^ 63 - 1 - n) (omega arith) (omega arith))
numbers-tell (under m a) (over n c) = is-behind 4 (sym (less-is (2 ^ 63 - 1 - m) (2 ^ 63 + n) (omega arith))) (bytes-tell 8 (2 ^ 63 - 1 - m) (2 ^ 63 + n) (omega arith) (omega (arith, c)))
numbers-tell (under m a) (upper n c d) = is-less 4 5 refl (omega arith)
numbers-tell (over m a) (lower n c d) = is-greater 4 3 refl (omega arith)
numbers-tell (over m a) (under n c) = is-behind 4 (sym (greater-is (2 ^ 63 + m) (2 ^ 63 - 1 - n) (omega arith))) (bytes-tell 8 (2 ^ 63 + m) (2 ^ 63 - 1 - n) (omega (arith, a)) (omega arith))
numbers-tell (over m a) (over n c) = is-behind 4 (int-pos m n ∙ sym (same_high (2 ^ 63) m n (cases_order m n))) (bytes-tell 8 (2 ^ 63 + m) (2 ^ 63 + n) (omega (arith, a)) (omega (arith, c)))
numbers-tell (over m a) (upper n c d) = is-less 4 5 (int-pos m n ∙ less-is m n (omega (arith, a, c))) (omega arith)
numbers-tell (upper m a b) (lower n c d) = is-greater 5 3 refl (omega arith)
numbers-tell (upper m a b) (under n c) = is-greater 5 4 refl (omega arith)
numbers-tell (upper m a b) (over n c) = is-greater 5 4 (int-pos m n ∙ greater-is m n (omega (arith, a, c))) (omega arith)
numbers-tell (upper m a b) (upper n c d) = is-behind 5 (int-pos m n) (bytes-tell 16 m n (omega (arith, b)) (omega (arith, d)))

-- ---- texts

one_more : (b c : ℕ) → (b ≡ c) ⊎ ((b < c) ⊎ (c < b)) → nat_cmp (suc b) (suc c) ≡ nat_cmp b c
one_more b c (inl same) = subst (λ d. nat_cmp (suc b) (suc d) ≡ nat_cmp b d) same (equal-is (suc b) ∙ sym (equal-is b))
one_more b c (inr (inl below)) = less-is (suc b) (suc c) (omega (arith, below)) ∙ sym (less-is b c below)
one_more b c (inr (inr above)) = greater-is (suc b) (suc c) (omega (arith, above)) ∙ sym (greater-is b c above)

texts-tell : (s t : List ℕ) → Told (slice_cmp nat_cmp s t) (map suc s ++ 0 ∷ []) (map suc t ++ 0 ∷ [])
texts-tell [] [] = alike
texts-tell [] (c ∷ t) = less (omega arith)
texts-tell (b ∷ s) [] = greater (omega arith)
texts-tell (b ∷ s) (c ∷ t) =
    subst (λ (o : Ordering). Told (ordering_then o (slice_cmp nat_cmp s t)) (suc b ∷ map suc s ++ 0 ∷ []) (suc c ∷ map suc t ++ 0 ∷ [])) (one_more b c (cases_order b c))
    (told-digit (suc b) (suc c) (cases_order (suc b) (suc c)) (texts-tell s t))

-- ---- values

-- a number stands behind the truth values and in front of the texts and NULL
front-of : {z : ℤ} {s u : List ℕ} (x : ℕ) → x < 3 → Stands z s → Told Less (x ∷ u) s
front-of x h (lower n a b) = less h
front-of x h (under n a) = less (omega (arith, h))
front-of x h (over n a) = less (omega (arith, h))
front-of x h (upper n a b) = less (omega (arith, h))

back-of : {z : ℤ} {s u : List ℕ} (x : ℕ) → 5 < x → Stands z s → Told Less s (x ∷ u)
back-of x h (lower n a b) = less (omega (arith, h))
back-of x h (under n a) = less (omega (arith, h))
back-of x h (over n a) = less (omega (arith, h))
back-of x h (upper n a b) = less h

-- the same the other way round
told-back : {o : Ordering} {s t : List ℕ} → Told o s t → Told (ordering_reverse o) t s
told-back alike = alike
told-back (less h) = greater h
told-back (greater h) = less h
told-back (behind h) = behind (told-back h)

pub values-tell : (a b : Datum) → IsCodable a → IsCodable b → Told (value_order a b) (value_code a) (value_code b)
values-tell (boolean false) (boolean false) c d = alike
values-tell (boolean false) (boolean true) c d = less (omega arith)
values-tell (boolean true) (boolean false) c d = greater (omega arith)
values-tell (boolean true) (boolean true) c d = alike
values-tell (boolean false) (whole n) c d = front-of 1 (omega arith) (stands n d)
values-tell (boolean true) (whole n) c d = front-of 2 (omega arith) (stands n d)
values-tell (boolean false) (text t) c d = less (omega arith)
values-tell (boolean true) (text t) c d = less (omega arith)
values-tell (boolean false) null c d = less (omega arith)
values-tell (boolean true) null c d = less (omega arith)
values-tell (whole m) (boolean false) c d = told-back (front-of 1 (omega arith) (stands m c))
values-tell (whole m) (boolean true) c d = told-back (front-of 2 (omega arith) (stands m c))
values-tell (whole m) (whole n) c d = numbers-tell (stands m c) (stands n d)
values-tell (whole m) (text t) c d = back-of 6 (omega arith) (stands m c)
values-tell (whole m) null c d = back-of 255 (omega arith) (stands m c)
values-tell (text s) (boolean false) c d = greater (omega arith)
values-tell (text s) (boolean true) c d = greater (omega arith)
values-tell (text s) (whole n) c d = told-back (back-of 6 (omega arith) (stands n d))
values-tell (text s) (text t) c d = behind (texts-tell s t)
values-tell (text s) null c d = less (omega arith)
values-tell null (boolean false) c d = greater (omega arith)
values-tell null (boolean true) c d = greater (omega arith)
values-tell null (whole n) c d = told-back (back-of 255 (omega arith) (stands n d))
values-tell null (text t) c d = greater (omega arith)
values-tell null null c d = alike

-- keys that are as long stand as their codes do
pub keys-tell : (k l : List Datum) → AllByRecursion IsCodable k → AllByRecursion IsCodable l → length k ≡ length l → Told (key_order k l) (values_code k) (values_code l)
keys-tell [] [] c d e = alike
keys-tell [] (y ∷ l) c d e = absurd (omega arith)
keys-tell (x ∷ k) [] c d e = absurd (omega arith)
keys-tell (x ∷ k) (y ∷ l) c d e = told-then (values-tell x y c.0 d.0) (λ _. keys-tell k l c.1 d.1 (omega arith))

-- ---- codes are bytes

pub bytes-both : (s t : List ℕ) → AreBytes s → AreBytes t → AreBytes (s ++ t)
bytes-both [] t a b = b
bytes-both (x ∷ s) t a b = (a.0, bytes-both s t a.1 b)

number-bytes : {z : ℤ} {s : List ℕ} → Stands z s → AreBytes s
number-bytes (lower n a b) = (omega arith, bytes-are 16 (2 ^ 127 - 1 - n))
number-bytes (under n a) = (omega arith, bytes-are 8 (2 ^ 63 - 1 - n))
number-bytes (over n a) = (omega arith, bytes-are 8 (2 ^ 63 + n))
number-bytes (upper n a b) = (omega arith, bytes-are 16 n)

text-bytes : (s : List ℕ) → AllByRecursion (λ b. b < 255) s → AreBytes (map suc s ++ 0 ∷ [])
text-bytes [] a = (omega arith, tt)
text-bytes (b ∷ s) a = (omega (arith, a.0), text-bytes s a.1)

value-bytes : (d : Datum) → IsCodable d → AreBytes (value_code d)
value-bytes (boolean false) c = (omega arith, tt)
value-bytes (boolean true) c = (omega arith, tt)
value-bytes (whole n) c = number-bytes (stands n c)
value-bytes (text s) c = (omega arith, text-bytes s c)
value-bytes null c = (omega arith, tt)

pub values-bytes : (k : List Datum) → AllByRecursion IsCodable k → AreBytes (values_code k)
values-bytes [] c = tt
values-bytes (x ∷ k) c = bytes-both (value_code x) (values_code k) (value-bytes x c.0) (values-bytes k c.1)

complement-bytes : (s : List ℕ) → AreBytes (complement s)
complement-bytes [] = tt
complement-bytes (b ∷ s) = (omega arith, complement-bytes s)

pub key-bytes : (k : SortKey) (d : Datum) → IsCodable d → AreBytes (key_code k d)
key-bytes k d c = by-cases (is_null d) k.nulls_first k.descending
  where
    by-cases : (none first turned : Bool) → AreBytes (cond none (cond first (0 ∷ []) (255 ∷ [])) (cond turned (complement (value_code d)) (value_code d)))
    by-cases true true turned = (omega arith, tt)
    by-cases true false turned = (omega arith, tt)
    by-cases false first true = complement-bytes (value_code d)
    by-cases false first false = value-bytes d c

-- ---- keys of ORDER BY

-- a code of a value that is not NULL begins with neither of the bytes that NULL has
abbrev IsInner : List ℕ → Type 0
IsInner [] = ⊥
IsInner (x ∷ s) = (0 < x) × (x < 255)

number-inner : {z : ℤ} {s : List ℕ} → Stands z s → IsInner s
number-inner (lower n a b) = (omega arith, omega arith)
number-inner (under n a) = (omega arith, omega arith)
number-inner (over n a) = (omega arith, omega arith)
number-inner (upper n a b) = (omega arith, omega arith)

value-inner : (d : Datum) → IsCodable d → is_null d ≡ false → IsInner (value_code d)
value-inner (boolean false) c e = (omega arith, omega arith)
value-inner (boolean true) c e = (omega arith, omega arith)
value-inner (whole n) c e = number-inner (stands n c)
value-inner (text s) c e = (omega arith, omega arith)
value-inner null c e = absurd cc

complement-inner : (s : List ℕ) → IsInner s → IsInner (complement s)
complement-inner [] h = h
complement-inner (x ∷ s) h = (omega (arith, h), omega (arith, h))

-- the code of a value under a key, were it not NULL
abbrev directed : Bool → Datum → List ℕ
directed turned d = cond turned (complement (value_code d)) (value_code d)

directed-inner : (turned : Bool) (d : Datum) → IsCodable d → is_null d ≡ false → IsInner (directed turned d)
directed-inner true d c e = complement-inner (value_code d) (value-inner d c e)
directed-inner false d c e = value-inner d c e

directed-tell : (turned : Bool) (a b : Datum) → IsCodable a → IsCodable b → Told (cond turned (ordering_reverse (value_order a b)) (value_order a b)) (directed turned a) (directed turned b)
directed-tell true a b c d = told-turned (values-tell a b c d) (value-bytes a c) (value-bytes b d)
directed-tell false a b c d = values-tell a b c d

above_first : (s : List ℕ) → IsInner s → Told Less (0 ∷ []) s
above_first [] h = absurd h
above_first (x ∷ s) h = less h.0

below_last : (s : List ℕ) → IsInner s → Told Less s (255 ∷ [])
below_last [] h = absurd h
below_last (x ∷ s) h = less h.1

nulls-tell : (first left right : Bool) (o : Ordering) (s t : List ℕ) → (left ≡ false → IsInner s) → (right ≡ false → IsInner t) → Told o s t
    → Told (cond left (cond right Equal (null_order first)) (cond right (ordering_reverse (null_order first)) o)) (cond left (cond first (0 ∷ []) (255 ∷ [])) s) (cond right (cond first (0 ∷ []) (255 ∷ [])) t)
nulls-tell true true true o s t a b h = alike
nulls-tell false true true o s t a b h = alike
nulls-tell true true false o s t a b h = above_first t (b refl)
nulls-tell false true false o s t a b h = told-back (below_last t (b refl))
nulls-tell true false true o s t a b h = told-back (above_first s (a refl))
nulls-tell false false true o s t a b h = below_last s (a refl)
nulls-tell true false false o s t a b h = h
nulls-tell false false false o s t a b h = h

-- values stand under a key as their codes under it do
pub key-tell : (k : SortKey) (a b : Datum) → IsCodable a → IsCodable b → Told (compare_by_key k a b) (key_code k a) (key_code k b)
key-tell k a b c d =
    nulls-tell k.nulls_first (is_null a) (is_null b) (cond k.descending (ordering_reverse (value_order a b)) (value_order a b)) (directed k.descending a) (directed k.descending b)
    (directed-inner k.descending a c) (directed-inner k.descending b d) (directed-tell k.descending a b c d)

pub codes-in-order : (k : SortKey) (a b : Datum) → AreCodesInOrder k a b
codes-in-order k a b c d s t = told-before s t (key-tell k a b c d)

-- ---- indexes

data IsIndexCode : ℕ → List ℕ → Type 0 where
  short : (i : ℕ) → i < 255 → IsIndexCode i (i ∷ [])
  long : (i : ℕ) → 255 ≤ i → i < 2 ^ 64 → IsIndexCode i (255 ∷ bytes_high_first 8 i)

index-code : (i : ℕ) → i < 2 ^ 64 → IsIndexCode i (index_code i)
index-code i h =
    elim (nat_lt i 255) as (λ (b : Bool). nat_lt i 255 ≡ b → IsIndexCode i (cond b (i ∷ []) (255 ∷ bytes_high_first 8 i))) [
      | true ↦ λ e. short i (ltb-true i 255 e)
      | false ↦ λ e. long i (ltb-false i 255 e) h
    ] refl

by-code : {i j : ℕ} {s t : List ℕ} → IsIndexCode i s → IsIndexCode j t → Told (nat_cmp i j) s t
by-code (short i a) (short j b) = subst (λ (o : Ordering). Told o (i ∷ []) (j ∷ [])) (then_nothing (nat_cmp i j)) (told-digit i j (cases_order i j) (alike {s = []}))
by-code (short i a) (long j b c) = is-less i 255 (less-is i j (omega (arith, a, b))) a
by-code (long i a b) (short j c) = is-greater 255 j (greater-is i j (omega (arith, a, c))) c
by-code (long i a b) (long j c d) = behind (bytes-tell 8 i j (omega (arith, b)) (omega (arith, d)))

pub indexes-tell : (i j : ℕ) → i < 2 ^ 64 → j < 2 ^ 64 → Told (nat_cmp i j) (index_code i) (index_code j)
indexes-tell i j a b = by-code (index-code i a) (index-code j b)

bytes-by-code : {i : ℕ} {s : List ℕ} → IsIndexCode i s → AreBytes s
bytes-by-code (short i a) = (omega (arith, a), tt)
bytes-by-code (long i a b) = (omega arith, bytes-are 8 i)

pub index-bytes : (i : ℕ) → i < 2 ^ 64 → AreBytes (index_code i)
index-bytes i h = bytes-by-code (index-code i h)
