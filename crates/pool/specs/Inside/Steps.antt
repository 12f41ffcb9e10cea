-- What each step at a deque tells the hand that makes it, and how seats come and go.
use Rattle.std.specs.Prelude.{◌≡◌, ℕ, suc, ◌+◌, ◌≤◌, List, ◌∷◌, []}
use Rattle.pool.specs.Dealing.{times}

-- How often x stands in these lists.
abbrev pub times_in_lists : ℕ → List (ℕ × List ℕ) → ℕ
times_in_lists x [] = 0
times_in_lists x (p ∷ ps) = times x p.1 + times_in_lists x ps

-- At most b, and just b where this holds.
abbrev pub UpTo : Type 0 → ℕ → ℕ → Type 0
UpTo all a b = (a ≤ b) × (all → a ≡ b)

-- These are the hands from the place k up.
abbrev pub Up : ℕ → List (ℕ × List ℕ) → Type 0
Up k [] = Unit {0}
Up k (p ∷ ps) = (p.0 ≡ k) × Up (suc k) ps

-- The hand is none of these.
abbrev pub Apart : ℕ → List (ℕ × List ℕ) → Type 0
Apart hand [] = Unit {0}
Apart hand (p ∷ ps) = (p.0 ≡ hand → ⊥) × Apart hand ps
