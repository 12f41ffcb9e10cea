-- How much the shares of a book grow by one deal.
use Rattle.std.proofs.Common.{◌≡◌, ℕ, zero, suc, ◌+◌, ◌<◌, ◌≤◌, List, [], ◌∷◌, length, refl, ap, ◌∙◌, All, arith}
use mathlib.Core.Option.{some}
use lib.ListN.{get_elem?}
use Rattle.pool.specs.Totals.{sum_below}
use Rattle.pool.specs.Holding.{Holding, numbers_of}
use Rattle.pool.specs.Settled.{AreAll, pieces_of}
use Rattle.pool.specs.Fanned.{CameBack, Reported}
use Rattle.pool.proofs.Assemblies.{at_low}
use Rattle.pool.proofs.Gather.{sum_by-within}
use Rattle.pool.proofs.Works.{holding_within}
use Rattle.pool.proofs.Fans.{all_at}

there : {X : Type 0} (xs : List X) (i : ℕ) → i < length xs → (x : X) × (get_elem? xs i ≡ some x)
there [] i low = absurd (omega arith)
there (x ∷ xs) zero low = (x, refl)
there (x ∷ xs) (suc i) low = there xs i (omega arith)

all_from : {X : Type 0} (P : X → Type 0) (xs : List X) → ((i : ℕ) (x : X) → get_elem? xs i ≡ some x → P x) → All P xs
all_from P [] each i d low = absurd (omega arith)
all_from P (x ∷ xs) each zero d low = each 0 x refl
all_from P (x ∷ xs) each (suc i) d low = all_from P xs (λ j y at. each (suc j) y at) i d (omega arith)

pub reported_by : {S : Type 0} (weights : ℕ → ℕ) (sum : S → ℕ) (hs : List Holding) (ss : List S) (ks : List Holding) (ts : List S) → length hs ≡ length ss → CameBack weights sum hs ss ks ts → Reported weights sum ss ks ts
reported_by weights sum hs ss ks ts count back = (
  back.0 ∙ count,
  back.1,
  λ i s k t at_s at_k at_t.
      let low = at_low ss i s at_s in
      let h = there hs i (omega (arith, low, count)) in
      (back.2 i h.0 s k t h.1 at_s at_k at_t).1,
)

-- a hand has no piece twice, and so its share has grown by at most the weights of all pieces
pub grown_within : {S : Type 0} (weights : ℕ → ℕ) (sum : S → ℕ) (ss : List S) (ks : List Holding) (ts : List S)
    → AreAll ks → Reported weights sum ss ks ts → (most : ℕ) → All (λ s. sum s ≤ most) ss → All (λ t. sum t ≤ most + sum_below weights (pieces_of ks)) ts
grown_within weights sum ss ks ts deal reported most all =
    all_from (λ t. sum t ≤ most + sum_below weights (pieces_of ks)) ts (λ i t at.
    let low = at_low ts i t at in
    let a = reported.0 in
    let b = reported.1 in
    let s = there ss i (omega (arith, low, b)) in
    let k = there ks i (omega (arith, low, a, b)) in
    let grown = reported.2 i s.0 k.0 t s.1 k.1 at in
    let is = deal.2.1 i k.0 k.1 in
    let within = sum_by-within weights k.0.pieces (numbers_of k.0) (λ z. holding_within k.0 z is.5) in
    let same = ap (sum_below weights) is.2 in
    let old = all_at (λ s. sum s ≤ most) ss i s.0 s.1 all in
    omega (arith, grown, within, same, old))
