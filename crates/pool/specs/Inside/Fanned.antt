-- What all workers of a deal begin with, and do.
use Rattle.std.specs.Prelude.{◌≡◌, ℕ, suc, ◌+◌, ◌^◌, ◌<◌, ◌⊎◌, All, List, ◌∷◌, length, map, slice_index_or, []}
use mathlib.Core.Option.{some}
use lib.ListN.{get_elem?}
use Rattle.pool.specs.Assembly.{IsNewDeal}
use Rattle.pool.specs.Holding.{Holding}
use Rattle.pool.specs.Done.{Worker, Did, MayGoOn}
use Rattle.pool.specs.Inside.Done.{hands_of, sums_of, parts_of}
use Rattle.pool.specs.Inside.Combination.{combination_of}
use Rattle.pool.specs.Reduction.{Reduction, load_below, load_onto}
use Rattle.pool.specs.Settled.{pieces_of}

-- What the hand at this place begins with: the meaning at this place, and past the last one the
-- unit
abbrev pub beginning_at : {M : Type 0} → Reduction M → List M → ℕ → M
beginning_at r ms i = slice_index_or ms i r.unit

-- The workers have all hands of a new deal. Their parts are those of a work, and have room for the
-- loads of all pieces, and so has each share.
pub record AreReady {M P : Type 0} (r : Reduction M) (meaning : P → M) (ws : List (Worker P)) : Type 0 where
  pub deal : IsNewDeal (pieces_of (hands_of ws)) (length (hands_of ws)) (hands_of ws)
  pub fit : All (λ p. r.fits (meaning p)) (parts_of ws)
  pub loads : load_onto r (combination_of r (map meaning (parts_of ws))) (pieces_of (hands_of ws)) < 2 ^ 63
  pub room : All (λ sum. load_below r (pieces_of (hands_of ws)) + sum < 2 ^ 63) (sums_of ws)

-- Each worker went on as `Did` says, from what the one at its place began with.
abbrev pub DidAll : {M P : Type 0} → (ℕ → M) → Reduction M → (P → M) → List (Worker P) → List (Worker P) → Type 0
DidAll begin r meaning [] [] = Unit {0}
DidAll begin r meaning [] (w ∷ ws) = ⊥
DidAll begin r meaning (v ∷ vs) [] = ⊥
DidAll begin r meaning (v ∷ vs) (w ∷ ws) =
    Did (begin 0) r v.hand v.sum w.hand w.sum (meaning w.part) × DidAll (λ i. begin (suc i)) r meaning vs ws

-- Each worker may go on, from what the one at its place began with.
abbrev pub AreUnderWay : {M P : Type 0} → (ℕ → M) → Reduction M → (P → M) → List (Worker P) → Type 0
AreUnderWay begin r meaning [] = Unit {0}
AreUnderWay begin r meaning (w ∷ ws) =
    MayGoOn (begin 0) r w.hand w.sum (meaning w.part) × AreUnderWay (λ i. begin (suc i)) r meaning ws

-- There are parts of the work that these workers may have begun with, so that they may go on.
abbrev pub MayResumeAll : {M P : Type 0} → Reduction M → (P → M) → List (Worker P) → Type 0
MayResumeAll r meaning ws = (begin : ℕ → _) × ((i : ℕ) → r.fits (begin i)) × AreUnderWay begin r meaning ws

-- Whatever parts of the work they began with: where the first workers may go on, they went on to
-- the others
abbrev pub HaveResumed : {M P : Type 0} → Reduction M → (P → M) → List (Worker P) → List (Worker P) → Type 0
HaveResumed r meaning vs ws =
    (begin : ℕ → _) → ((i : ℕ) → r.fits (begin i)) → AreUnderWay begin r meaning vs → DidAll begin r meaning vs ws

-- The first workers, who begin with their parts, went on to the others.
abbrev pub HaveBegunAndResumed : {M P : Type 0} → Reduction M → (P → M) → List (Worker P) → List (Worker P) → Type 0
HaveBegunAndResumed r meaning vs ws = DidAll (beginning_at r (map meaning (parts_of vs))) r meaning vs ws

-- No thread is needed: but for the first, each hand is of a deal with no piece.
abbrev pub NeedNoThread : List Holding → Type 0
NeedNoThread hs = (i : ℕ) (h : Holding) → get_elem? hs i ≡ some h → (i ≡ 0) ⊎ (h.pieces ≡ 0)
