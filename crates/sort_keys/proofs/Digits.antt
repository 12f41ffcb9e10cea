-- The first bytes of a code as one number.
use Rattle.std.proofs.Common.{◌≡◌, ◌∙◌, ◌+◌, ◌*◌, ◌<◌, ◌≤◌, ◌++◌, min, ℕ, zero, suc, List, [], ◌∷◌, length, take, drop, replicate, get_or, slice_index, refl, sym, ap, arith}
use Rattle.std.specs.Int.{from_be_bytes, w128}
use Rattle.sort_keys.specs.SortKeys.{with_digits}

-- the next digit
one_digit : (m n i : ℕ) (s : List ℕ) → with_digits m (suc n) (drop i s) ≡ with_digits (256 * m + get_or s i 0) n (drop (suc i) s)
unfolding with_digits
one_digit m n zero [] = let same : 256 * m ≡ 256 * m + 0 = omega arith in ap (λ k. with_digits k n []) same
one_digit m n (suc i) [] = let same : 256 * m ≡ 256 * m + 0 = omega arith in ap (λ k. with_digits k n []) same
one_digit m n zero (b ∷ s) = refl
one_digit m n (suc i) (b ∷ s) = one_digit m n i s

-- sixteen bytes as one number, the first one highest, are the digits of a code that has these
-- bytes, and zeros where it has none
pub number-digits : (s bytes : List ℕ) → ((i : ℕ) → i < 16 → slice_index bytes i ≡ get_or s i 0) → from_be_bytes w128 bytes ≡ with_digits 0 16 s
unfolding with_digits
number-digits s bytes at =
    let n0 : ℕ = 256 * 0 + get_or s 0 0 in
    let n1 : ℕ = 256 * n0 + get_or s 1 0 in
    let n2 : ℕ = 256 * n1 + get_or s 2 0 in
    let n3 : ℕ = 256 * n2 + get_or s 3 0 in
    let n4 : ℕ = 256 * n3 + get_or s 4 0 in
    let n5 : ℕ = 256 * n4 + get_or s 5 0 in
    let n6 : ℕ = 256 * n5 + get_or s 6 0 in
    let n7 : ℕ = 256 * n6 + get_or s 7 0 in
    let n8 : ℕ = 256 * n7 + get_or s 8 0 in
    let n9 : ℕ = 256 * n8 + get_or s 9 0 in
    let n10 : ℕ = 256 * n9 + get_or s 10 0 in
    let n11 : ℕ = 256 * n10 + get_or s 11 0 in
    let n12 : ℕ = 256 * n11 + get_or s 12 0 in
    let n13 : ℕ = 256 * n12 + get_or s 13 0 in
    let n14 : ℕ = 256 * n13 + get_or s 14 0 in
    let n15 : ℕ = 256 * n14 + get_or s 15 0 in
    let digits : with_digits 0 16 s ≡ n15 =
    one_digit 0 15 0 s
    ∙ one_digit n0 14 1 s
    ∙ one_digit n1 13 2 s
    ∙ one_digit n2 12 3 s
    ∙ one_digit n3 11 4 s
    ∙ one_digit n4 10 5 s
    ∙ one_digit n5 9 6 s
    ∙ one_digit n6 8 7 s
    ∙ one_digit n7 7 8 s
    ∙ one_digit n8 6 9 s
    ∙ one_digit n9 5 10 s
    ∙ one_digit n10 4 11 s
    ∙ one_digit n11 3 12 s
    ∙ one_digit n12 2 13 s
    ∙ one_digit n13 1 14 s
    ∙ one_digit n14 0 15 s in
    let sum : from_be_bytes w128 bytes ≡ n15 = omega (arith, at 0 (omega arith), at 1 (omega arith), at 2 (omega arith), at 3 (omega arith), at 4 (omega arith), at 5 (omega arith), at 6 (omega arith), at 7 (omega arith), at 8 (omega arith), at 9 (omega arith), at 10 (omega arith), at 11 (omega arith), at 12 (omega arith), at 13 (omega arith), at 14 (omega arith), at 15 (omega arith)) in
    sum ∙ sym digits

zeros : (k i : ℕ) → slice_index (replicate k 0) i ≡ 0
zeros zero i = refl
zeros (suc k) zero = refl
zeros (suc k) (suc i) = zeros k i

-- the first bytes of a code, with zeros behind them where there are fewer than so many
pad : (s : List ℕ) (k n i : ℕ) → n ≤ length s → n ≤ k → (n < k → length s ≤ n) → i < k → slice_index (take n s ++ drop n (replicate k 0)) i ≡ get_or s i 0
pad [] k (suc n) i le within all low = absurd (omega (arith, le))
pad s zero (suc n) i le within all low = absurd (omega (arith, low))
pad [] k zero i le within all low = zeros k i
pad (x ∷ s) k zero i le within all low = absurd (let none = all (omega (arith, low)) in omega (arith, none))
pad (x ∷ s) (suc k) (suc n) zero le within all low = refl
pad (x ∷ s) (suc k) (suc n) (suc i) le within all low =
    pad s k n i (omega (arith, le)) (omega (arith, within)) (λ more. let less = all (omega (arith, more)) in omega (arith, less)) (omega (arith, low))

pub padded : (s : List ℕ) (n : ℕ) → n ≡ min (length s) 16 → (i : ℕ) → i < 16 → slice_index (take n s ++ drop n (replicate 16 0)) i ≡ get_or s i 0
padded s n is i low = pad s 16 n i (omega (arith, is)) (omega (arith, is)) (λ less. omega (arith, is, less)) low
