-- Where the first byte stands that passes a test.
use Rattle.std.proofs.Common.{◌≡◌, Option, Some, None, nat_lt, ◌<◌, ℕ, Bool, true, false, cond, List, length, take, get_or, refl, sym, ap, subst, ◌∙◌, arith}
use Rattle.std.proofs.lemmas.Bool.Decides.{nat_tests}
use Rattle.std.proofs.lemmas.List.{get_or-take, length-take}
use Rattle.std.proofs.lemmas.List.Quantifiers.{position-Some}
use Rattle.std.proofs.lemmas.List.Sums.{position_or_len_is}
use Rattle.std.specs.List.{position, position_or_len}
use Rattle.std.specs.Option.{IfSome}
use Rattle.memchr.specs.Find.{IsFirstByte}

position-at : (p : ℕ → Bool) (s : List ℕ) (i : ℕ) → i < length s → p (get_or s i 0) ≡ true → ((k : ℕ) → k < i → p (get_or s k 0) ≡ false) → position p s ≡ Some i
position-at p s i within here before =
    let at : position_or_len p s ≡ i = position_or_len_is p s i 0 (omega (arith, within)) before (λ _. here) in
    let is : nat_lt i (length s) ≡ true = grind (arith, nat_tests, within) in
    subst (λ n. cond (nat_lt n (length s)) (Some n) None ≡ Some i) (sym at) (ap (λ b. cond b (Some i) None) is)

position-none : (p : ℕ → Bool) (s : List ℕ) → ((k : ℕ) → k < length s → p (get_or s k 0) ≡ false) → position p s ≡ None
position-none p s before =
    let at : position_or_len p s ≡ length s = position_or_len_is p s (length s) 0 (omega arith) before (λ more. absurd (omega (arith, more))) in
    let is : nat_lt (length s) (length s) ≡ false = grind (arith, nat_tests) in
    subst (λ n. cond (nat_lt n (length s)) (Some n) None ≡ None) (sym at) (ap (λ b. cond b (Some (length s)) None) is)

-- the first one among the first bytes is the first one
near-position : (p : ℕ → Bool) (s : List ℕ) (n i : ℕ) → Some i ≡ position p (take n s) → position p s ≡ Some i
near-position p s n i found =
    let at = position-Some p (take n s) i 0 (sym found) in
    let low : i < n = omega (arith, at.0, length-take n s) in
    position-at p s i (omega (arith, at.0, length-take n s)) (sym (ap p (get_or-take n s i 0 low)) ∙ at.1) (λ k less. sym (ap p (get_or-take n s k 0 (omega (arith, less, low)))) ∙ at.2 k less)

pub near-found : (p : ℕ → Bool) (s front : List ℕ) (n : ℕ) (found : Option ℕ) → front ≡ take n s → found ≡ position p front → IfSome found (λ i. position p s ≡ Some i)
near-found p s front n None is h = tt
near-found p s front n (Some i) is h = near-position p s n i (h ∙ ap (position p) is)

not-true : (b : Bool) → ¬ (b ≡ true) → b ≡ false
not-true true h = absurd (h refl)
not-true false h = refl

-- a search for the first byte finds it
pub first-byte : (p : ℕ → Bool) (s : List ℕ) (found : Option ℕ) → IsFirstByte p s found → found ≡ position p s
first-byte p s None h = sym (position-none p s (λ k less. not-true (p (get_or s k 0)) (h k (omega arith) less)))
first-byte p s (Some i) h = sym (position-at p s i h.0.high h.1 (λ k less. not-true (p (get_or s k 0)) (h.0.before k (omega arith) less)))
