-- The bytes of numbers, the highest first, stand to each other as the numbers do.
use Rattle.std.proofs.Common.{◌≡◌, ◌⊎◌, inl, inr, ◌+◌, ◌*◌, ◌/◌, ◌%◌, ◌^◌, ◌<◌, ℕ, zero, suc, List, [], ◌∷◌, sym, ap, subst, ◌∙◌, arith, pow-suc, mul_comm}
use Rattle.std.proofs.Math.Nat.{mod-eq_of_lt, mod-lt, mul-le-mul_right, pow-le-pow_right}
use Rattle.std.proofs.Math.Arith.{mod-mul}
use Rattle.std.proofs.lemmas.Bool.{cases_order}
use Rattle.std.specs.declared.cmp.Ordering.{Ordering}
use Rattle.std.specs.Int.{byte_at, bytes_high_first}
use Rattle.std.specs.Ordering.{nat_cmp, ordering_then}
use Rattle.sort_keys.proofs.Told.{Told, alike, less, greater, behind, AreBytes, less-is, greater-is, equal-is}

unit_some : (k : ℕ) → 0 < 256 ^ k
unit_some k = pow-le-pow_right {n = 256} (omega arith) {i = 0} {j = k} (omega arith)

-- the low bytes of a number are the highest of them and those below it
pub highest : (k n : ℕ) → n % 256 ^ suc k ≡ byte_at k n * 256 ^ k + n % 256 ^ k
highest zero n = omega arith
highest (suc k) n =
    let wider : 256 ^ suc (suc k) ≡ 256 * 256 ^ suc k = pow-suc 256 (suc k) ∙ mul_comm (256 ^ suc k) 256 in
    ap (λ m. n % m) wider ∙ mod-mul n {m = 256} {c = 256 ^ suc k} (omega arith) (unit_some (suc k))

-- one number in front of lists, which stand as numbers do
pub told-digit : {o : Ordering} {s t : List ℕ} (a b : ℕ) → (a ≡ b) ⊎ ((a < b) ⊎ (b < a)) → Told o s t → Told (ordering_then (nat_cmp a b) o) (a ∷ s) (b ∷ t)
told-digit {o = o} {s = s} {t = t} a b (inl same) h = subst (λ c. Told (ordering_then (nat_cmp a c) o) (a ∷ s) (c ∷ t)) same (rw (equal-is a) (behind h))
told-digit a b (inr (inl below)) h = rw (less-is a b below) (less below)
told-digit a b (inr (inr above)) h = rw (greater-is a b above) (greater above)

same_high : (c r s : ℕ) → (r ≡ s) ⊎ ((r < s) ⊎ (s < r)) → nat_cmp (c + r) (c + s) ≡ nat_cmp r s
same_high c r s (inl same) = subst (λ u. nat_cmp (c + r) (c + u) ≡ nat_cmp r u) same (equal-is (c + r) ∙ sym (equal-is r))
same_high c r s (inr (inl below)) = less-is (c + r) (c + s) (omega (arith, below)) ∙ sym (less-is r s below)
same_high c r s (inr (inr above)) = greater-is (c + r) (c + s) (omega (arith, above)) ∙ sym (greater-is r s above)

-- numbers stand as their high parts do, and then as their low parts
high_first : (unit a b r s : ℕ) → r < unit → s < unit → (a ≡ b) ⊎ ((a < b) ⊎ (b < a)) → nat_cmp (a * unit + r) (b * unit + s) ≡ ordering_then (nat_cmp a b) (nat_cmp r s)
high_first unit a b r s low high (inl same) =
    subst (λ c. nat_cmp (a * unit + r) (c * unit + s) ≡ ordering_then (nat_cmp a c) (nat_cmp r s)) same (rw (equal-is a) (same_high (a * unit) r s (cases_order r s)))
high_first unit a b r s low high (inr (inl below)) =
    let more = mul-le-mul_right {m = suc a} {n = b} unit (omega (arith, below)) in
    less-is (a * unit + r) (b * unit + s) (omega (arith, low, more)) ∙ sym (ap (λ (o : Ordering). ordering_then o (nat_cmp r s)) (less-is a b below))
high_first unit a b r s low high (inr (inr above)) =
    let more = mul-le-mul_right {m = suc b} {n = a} unit (omega (arith, above)) in
    greater-is (a * unit + r) (b * unit + s) (omega (arith, high, more)) ∙ sym (ap (λ (o : Ordering). ordering_then o (nat_cmp r s)) (greater-is a b above))

low-tell : (k a b : ℕ) → Told (nat_cmp (a % 256 ^ k) (b % 256 ^ k)) (bytes_high_first k a) (bytes_high_first k b)
low-tell zero a b = let one : (n : ℕ) → n % 256 ^ 0 ≡ 0 = λ n. omega arith in subst (λ (o : Ordering). Told o [] []) (λ i. nat_cmp (sym (one a) i) (sym (one b) i)) alike
low-tell (suc k) a b =
    let order : nat_cmp (a % 256 ^ suc k) (b % 256 ^ suc k) ≡ ordering_then (nat_cmp (byte_at k a) (byte_at k b)) (nat_cmp (a % 256 ^ k) (b % 256 ^ k)) =
    (λ i. nat_cmp (highest k a i) (highest k b i))
    ∙ high_first (256 ^ k) (byte_at k a) (byte_at k b) (a % 256 ^ k) (b % 256 ^ k) (mod-lt a (unit_some k)) (mod-lt b (unit_some k)) (cases_order (byte_at k a) (byte_at k b)) in
    subst (λ (o : Ordering). Told o (bytes_high_first (suc k) a) (bytes_high_first (suc k) b)) (sym order)
    (told-digit (byte_at k a) (byte_at k b) (cases_order (byte_at k a) (byte_at k b)) (low-tell k a b))

-- numbers of so many bytes stand as their bytes do
pub bytes-tell : (k a b : ℕ) → a < 256 ^ k → b < 256 ^ k → Told (nat_cmp a b) (bytes_high_first k a) (bytes_high_first k b)
bytes-tell k a b left right = subst (λ (o : Ordering). Told o (bytes_high_first k a) (bytes_high_first k b)) (λ i. nat_cmp (mod-eq_of_lt left i) (mod-eq_of_lt right i)) (low-tell k a b)

byte-fits : (k n : ℕ) → byte_at k n < 256
byte-fits zero n = omega arith
byte-fits (suc k) n = mod-lt (n / 256 ^ suc k) (omega arith)

-- they are bytes
pub bytes-are : (k n : ℕ) → AreBytes (bytes_high_first k n)
bytes-are zero n = tt
bytes-are (suc k) n = (byte-fits k n, bytes-are k n)
