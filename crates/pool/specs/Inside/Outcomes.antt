-- Which of Whole and Over a pool answers.
use Rattle.std.specs.Prelude.{ℕ}
use Rattle.pool.specs.Reduction.{Reduction}
use Rattle.pool.specs.declared.laws.Outcome.{Outcome}
use Rattle.pool.specs.Outcomes.{Decides}

-- a part of this meaning, or Over where it weighs too much
abbrev pub DecidesOf : {P M : Type 0} → Reduction M → (P → M) → M → ℕ → Outcome P → Type 0
DecidesOf r meaning m limit outcome = Decides meaning m (r.weight m) limit outcome
