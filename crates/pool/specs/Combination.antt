-- What a worker and all workers have combined.
use Rattle.std.specs.Prelude.{ℕ, List, ◌∷◌, []}
use Rattle.pool.specs.Reduction.{Reduction}

-- The pieces of a list and what there was to begin with, combined: the first piece with all that
-- follows, and so on
abbrev pub reduction_from : {M : Type 0} → Reduction M → M → List ℕ → M
reduction_from r begin [] = begin
reduction_from r begin (x ∷ xs) = r.combine (r.piece x) (reduction_from r begin xs)
