-- What a worker and all workers have combined.
use Rattle.std.specs.Prelude.{List, ◌∷◌, []}
use Rattle.pool.specs.Reduction.{Reduction}

-- All of these, combined, and of none the unit: the first with all that follows, and so on.
abbrev pub combination_of : {M : Type 0} → Reduction M → List M → M
combination_of r [] = r.unit
combination_of r (m ∷ ms) = r.combine m (combination_of r ms)
