-- How the hands of a deal are made from its deques.
use Rattle.std.specs.Prelude.{◌≡◌, ℕ, ◌+◌, ◌-◌, ◌%◌, ◌<◌, ◌≤◌, List, ◌∷◌, length, []}
use mathlib.Core.Option.{some}
use lib.ListN.{get_elem?}
use Rattle.std.specs.declared.alloc.Global.{Global}
use Rattle.pool.specs.Dealing.{residue_class}
use Rattle.pool.specs.Holding.{IsRound}
use Rattle.pool.specs.Views.{Offer}
use Rattle.pool.specs.Seen.{Seen}
use Rattle.pool.specs.Settled.{RoundOf}

-- The deque d of `hands` has what is dealt to it of the numbers below n.
abbrev pub AreFilled : ℕ → ℕ → List (List ℕ) → Type 0
AreFilled hands n fs = (d : ℕ) (f : List ℕ) → get_elem? fs d ≡ some f → f ≡ residue_class hands d n

-- The deques of a deal, each with what is dealt to it, which have given this many seats.
abbrev pub AreOffers : ℕ → ℕ → ℕ → List Offer → Type 0
AreOffers hands pieces made os =
    (e : ℕ) (o : Offer) → get_elem? os e ≡ some o → (o.numbers ≡ residue_class hands e pieces) × (o.made ≡ made)
    × (o.hands ≡ hands)

-- No step was seen.
abbrev pub AllBlank : List Seen → Type 0
AllBlank [] = Unit {0}
AllBlank (s ∷ ss) = (s.history ≡ []) × AllBlank ss

-- While the seats at the place r are given: the deque e of a deal with these names. The deques
-- below `next` have given theirs.
abbrev pub Gives : (ℕ → (ℕ × ℕ) × Global) → ℕ → ℕ → ℕ → ℕ → ℕ → Offer → Type 0
Gives names hands pieces r next e o =
    (o.numbers ≡ residue_class hands e pieces) × (o.hands ≡ hands) × (o.deque ≡ names e)
    × (e < next → o.made ≡ r + 1) × (next ≤ e → o.made ≡ r)

-- And what the hand k got: its seats at the places 1 to r, or to r - 1 where the deque at its place
-- r has not given yet
abbrev pub Gets : (ℕ → (ℕ × ℕ) × Global) → ℕ → ℕ → ℕ → ℕ → ℕ → List Seen → Type 0
Gets names hands pieces r next k ss =
    IsRound k hands pieces 1 ss × RoundOf names k hands 1 ss × AllBlank ss × ((k + r) % hands < next → length ss ≡ r) × (next ≤ (k + r) % hands → length ss ≡ r - 1)

-- At the place r, once the deques below `next` have given their seats there: what each deque has
-- given, and what each hand has got.
pub record Seating (names : ℕ → (ℕ × ℕ) × Global) (hands pieces r next : ℕ) (os : List Offer) (rs : List (List Seen)) : Type 0 where
  pub deques : length os ≡ hands
  pub rounds : length rs ≡ hands
  pub gives : (e : ℕ) (o : Offer) → get_elem? os e ≡ some o → Gives names hands pieces r next e o
  pub gets : (k : ℕ) (ss : List Seen) → get_elem? rs k ≡ some ss → Gets names hands pieces r next k ss

-- Before the seats at the place r are given.
abbrev pub IsAt : ℕ → ℕ → ℕ → List Offer → List (List Seen) → Type 0
IsAt hands pieces r os rs = (names : ℕ → (ℕ × ℕ) × Global) × Seating names hands pieces r 0 os rs
