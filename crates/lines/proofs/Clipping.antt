-- What clipping makes of bytes that are joined.
use Rattle.std.proofs.Common.{◌≡◌, ◌≢◌, ◌<◌, ◌≤◌, ◌+◌, ◌==◌, ℕ, suc, Bool, true, false, cond, nat_lt, List, [], ◌∷◌, ◌++◌, length, slice_index, refl, sym, ap, ◌∙◌, arith, append_assoc}
use Rattle.std.proofs.lemmas.List.{append-nil}
use Rattle.std.proofs.lemmas.Bool.Decides.{nat_tests}
use Rattle.semantics.specs.Lines.{line_feed}
use Rattle.lines.specs.Clip.{clip_from, clip_lines, clipped_len}

-- no line feed stands in the bytes
abbrev pub IsFree : List ℕ → Type 0
IsFree xs = (k : ℕ) → k < length xs → slice_index xs k ≢ line_feed

-- ---- one byte more in front

from_feed : (most k x : ℕ) (s : List ℕ) → (x == line_feed) ≡ true → clip_from most k (x ∷ s) ≡ x ∷ clip_from most 0 s
from_feed most k x s f = ap (λ b. cond b (x ∷ clip_from most 0 s) (cond (nat_lt k most) (x ∷ clip_from most (k + 1) s) (clip_from most k s))) f

from_kept : (most k x : ℕ) (s : List ℕ) → (x == line_feed) ≡ false → k < most → clip_from most k (x ∷ s) ≡ x ∷ clip_from most (k + 1) s
from_kept most k x s f h =
    let l : nat_lt k most ≡ true = grind (arith, nat_tests) in
    ap (λ b. cond b (x ∷ clip_from most 0 s) (cond (nat_lt k most) (x ∷ clip_from most (k + 1) s) (clip_from most k s))) f
    ∙ ap (λ b. cond b (x ∷ clip_from most (k + 1) s) (clip_from most k s)) l

from_discarded : (most x : ℕ) (s : List ℕ) → (x == line_feed) ≡ false → clip_from most most (x ∷ s) ≡ clip_from most most s
from_discarded most x s f =
    let l : nat_lt most most ≡ false = grind (arith, nat_tests) in
    ap (λ b. cond b (x ∷ clip_from most 0 s) (cond (nat_lt most most) (x ∷ clip_from most (most + 1) s) (clip_from most most s))) f
    ∙ ap (λ b. cond b (x ∷ clip_from most (most + 1) s) (clip_from most most s)) l

no_feed : (x : ℕ) → x ≢ line_feed → (x == line_feed) ≡ false
no_feed x h = grind (arith, nat_tests)

rest_free : (x : ℕ) (xs : List ℕ) → IsFree (x ∷ xs) → IsFree xs
rest_free x xs h = λ k l. h (suc k) (omega arith)

-- ---- more bytes in front

-- bytes of a line that is not too long so far stay
clip-open : (most k : ℕ) (xs ys : List ℕ) → IsFree xs → k + length xs ≤ most → clip_from most k (xs ++ ys) ≡ xs ++ clip_from most (k + length xs) ys
clip-open most k [] ys h l = ap (λ n. clip_from most n ys) (let e : k ≡ k + 0 = omega arith in e)
clip-open most k (x ∷ xs) ys h l =
    from_kept most k x (xs ++ ys) (no_feed x (h 0 (omega arith))) (omega arith)
    ∙ ap (λ s. x ∷ s) (clip-open most (k + 1) xs ys (rest_free x xs h) (omega arith))
    ∙ ap (λ n. x ∷ (xs ++ clip_from most n ys)) (let e : k + 1 + length xs ≡ k + suc (length xs) = omega arith in e)

-- bytes of a line that is as long as is kept go
clip-discarded : (most : ℕ) (ys zs : List ℕ) → IsFree ys → clip_from most most (ys ++ zs) ≡ clip_from most most zs
clip-discarded most [] zs h = refl
clip-discarded most (y ∷ ys) zs h = from_discarded most y (ys ++ zs) (no_feed y (h 0 (omega arith))) ∙ clip-discarded most ys zs (rest_free y ys h)

-- few bytes up to a line feed stay
feed-step : (most k x : ℕ) (s t : List ℕ) (feed : Bool) → (x == line_feed) ≡ feed → k < most
    → clip_from most 0 s ≡ t → clip_from most (k + 1) s ≡ t → clip_from most k (x ∷ s) ≡ x ∷ t
feed-step most k x s t true f l new kept = from_feed most k x s f ∙ ap (λ s. x ∷ s) new
feed-step most k x s t false f l new kept = from_kept most k x s f l ∙ ap (λ s. x ∷ s) kept

clip-feed : (most k : ℕ) (xs ys : List ℕ) → k + length xs ≤ most → clip_from most k (xs ++ line_feed ∷ ys) ≡ xs ++ line_feed ∷ clip_from most 0 ys
clip-feed most k [] ys l = from_feed most k line_feed ys refl
clip-feed most k (x ∷ xs) ys l =
    feed-step most k x (xs ++ line_feed ∷ ys) (xs ++ line_feed ∷ clip_from most 0 ys) (x == line_feed) refl (omega arith)
    (clip-feed most 0 xs ys (omega arith)) (clip-feed most (k + 1) xs ys (omega arith))

-- few bytes stay
clip-short : (most k : ℕ) (xs : List ℕ) → k + length xs ≤ most → clip_from most k xs ≡ xs
clip-short most k [] l = refl
clip-short most k (x ∷ xs) l =
    feed-step most k x xs xs (x == line_feed) refl (omega arith) (clip-short most 0 xs (omega arith)) (clip-short most (k + 1) xs (omega arith))

-- ---- the same of an input

pub clip-few : (xs : List ℕ) → length xs ≤ clipped_len → clip_lines xs ≡ xs
clip-few xs l = clip-short clipped_len 0 xs (omega arith)

-- lines that end among few bytes
pub clip-skipped : (front more rest : List ℕ) → length front ≤ clipped_len
    → clip_lines ((front ++ line_feed ∷ more) ++ rest) ≡ (front ++ line_feed ∷ []) ++ clip_lines (more ++ rest)
clip-skipped front more rest l =
    ap clip_lines (append_assoc front (line_feed ∷ more) rest)
    ∙ clip-feed clipped_len 0 front (more ++ rest) (omega arith)
    ∙ sym (append_assoc front (line_feed ∷ []) (clip_lines (more ++ rest)))

-- the rest of a line that is too long
clip-over : (kept over rest : List ℕ) → IsFree kept → length kept ≡ clipped_len → IsFree over → clip_lines ((kept ++ over) ++ rest) ≡ kept ++ clip_from clipped_len clipped_len rest
clip-over kept over rest free e also =
    ap clip_lines (append_assoc kept over rest)
    ∙ clip-open clipped_len 0 kept (over ++ rest) free (omega arith)
    ∙ ap (λ n. kept ++ clip_from clipped_len n (over ++ rest)) (let z : 0 + length kept ≡ clipped_len = omega arith in z)
    ∙ ap (λ s. kept ++ s) (clip-discarded clipped_len over rest also)

none_free : IsFree []
none_free k l = absurd (omega arith)

pub clip-dropped : (kept over rest : List ℕ) → IsFree kept → length kept ≡ clipped_len → IsFree over → clip_lines (kept ++ rest) ≡ clip_lines ((kept ++ over) ++ rest)
clip-dropped kept over rest free e also =
    ap (λ s. clip_lines (s ++ rest)) (sym (append-nil kept)) ∙ clip-over kept [] rest free e none_free ∙ sym (clip-over kept over rest free e also)

pub clip-ended : (kept over more rest : List ℕ) → IsFree kept → length kept ≡ clipped_len → IsFree over
    → clip_lines ((kept ++ (over ++ line_feed ∷ more)) ++ rest) ≡ (kept ++ line_feed ∷ []) ++ clip_lines (more ++ rest)
clip-ended kept over more rest free e also =
    ap (λ s. clip_lines (s ++ rest)) (sym (append_assoc kept over (line_feed ∷ more)))
    ∙ ap clip_lines (append_assoc (kept ++ over) (line_feed ∷ more) rest)
    ∙ clip-over kept over (line_feed ∷ (more ++ rest)) free e also
    ∙ ap (λ s. kept ++ s) (from_feed clipped_len clipped_len line_feed (more ++ rest) refl)
    ∙ sym (append_assoc kept (line_feed ∷ []) (clip_lines (more ++ rest)))
