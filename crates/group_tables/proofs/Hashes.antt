-- The hash of a code, by which a shard is chosen.
use Rattle.std.proofs.Common.{◌≡◌, ◌∙◌, ◌+◌, ◌-◌, ◌*◌, ◌/◌, ◌%◌, ◌^◌, ◌<◌, ◌≤◌, ◌++◌, ℕ, List, length, take, drop, replicate, sym, ap, append-nil, arith}
use borrow.Rule.Slice.PartMut.{put_mid}
use Rattle.std.specs.Int.{from_be_bytes, w128}
use Rattle.std.proofs.lemmas.List.{drop_all, drop-append-le, drop-drop, drop-replicate, take-replicate}
use Rattle.std.proofs.lemmas.Nat.{div_below}
use Rattle.group_tables.specs.Shards.{code_hash, last_bytes}

upper-below : (number : ℕ) → number % 2 ^ 128 / 2 ^ 96 < 2 ^ 32
upper-below number = div_below (number % 2 ^ 128) (2 ^ 96) (2 ^ 32) (omega arith) (omega arith)

-- it has 32 bits
pub hash-below : (code : List ℕ) → code_hash code < 2 ^ 32
unfolding code_hash
hash-below code = upper-below _

-- the last bytes of a code that has sixteen
pub last-long : (code : List ℕ) → 16 ≤ length code → drop (length code - 16) code ≡ last_bytes code
last-long code long =
    drop-drop (length code - 16) 16 (replicate 16 0 ++ code)
    ∙ (let same : 16 + (length code - 16) ≡ length code = omega (arith, long) in ap (λ n. drop n (replicate 16 0 ++ code)) same)

-- and those of a shorter one
pub last-short : (code : List ℕ) → length code < 16 → take (16 - length code) (replicate 16 0) ++ code ≡ last_bytes code
last-short code short =
    ap (λ zeros. zeros ++ code) (take-replicate (16 - length code) 16 0 (omega arith) ∙ sym (drop-replicate (length code) 16 0))
    ∙ sym (drop-append-le (length code) (replicate 16 0) code (omega (arith, short)))

-- bytes put behind the first ones of zeros that they fill up
pub put-last : (a k : ℕ) (zeros bytes code : List ℕ) → length zeros ≤ a + k → bytes ≡ code → put_mid a k zeros bytes ≡ take a zeros ++ code
put-last a k zeros bytes code all is =
    ap (λ s. take a zeros ++ (bytes ++ s)) (drop-drop k a zeros ∙ drop_all (a + k) zeros all)
    ∙ ap (λ s. take a zeros ++ s) (append-nil bytes ∙ is)

-- the number of the last bytes gives the hash
pub hash-is : (code bytes : List ℕ) (number : ℕ) → number ≡ from_be_bytes w128 bytes → bytes ≡ last_bytes code → number * 210306068529402873165736369884012333109 % 2 ^ 128 / 2 ^ 96 ≡ code_hash code
unfolding code_hash
hash-is code bytes number n b = ap (λ m. m * 210306068529402873165736369884012333109 % 2 ^ 128 / 2 ^ 96) (n ∙ ap (from_be_bytes w128) b)
