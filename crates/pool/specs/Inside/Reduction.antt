-- What a fold over numbered pieces combines.
use Rattle.std.specs.Prelude.{ℕ}
use Rattle.pool.specs.Reduction.{Reduction}

-- The load of the piece with this number.
abbrev pub piece_load : {M : Type 0} → Reduction M → ℕ → ℕ
piece_load r = λ i. r.load (r.piece i)
