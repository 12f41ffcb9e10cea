-- What a fold over numbered pieces combines.
use Rattle.std.specs.Prelude.{ℕ, ◌+◌, List}
use Rattle.std.specs.List.{sum_by}
use Rattle.pool.specs.Totals.{total, sum_below}

-- A reduction: which meanings parts have; what nothing at all comes to, and what two parts come to
-- together; what each piece comes to; and of a part its weight, which a limit counts, and its load,
-- which bounds the weight
pub record Reduction (M : Type 0) : Type 1 where
  pub fits : M → Type 0
  pub unit : M
  pub combine : M → M → M
  pub piece : ℕ → M
  pub weight : M → ℕ
  pub load : M → ℕ

-- What the pieces below n come to.
abbrev pub reduction_below : {M : Type 0} → Reduction M → ℕ → M
reduction_below r n = total r.unit r.combine r.piece n

-- What a part of this meaning and the pieces below n come to.
abbrev pub reduction_onto : {M : Type 0} → Reduction M → M → ℕ → M
reduction_onto r m n = r.combine m (reduction_below r n)

-- The weight of the piece with this number.
abbrev pub piece_weight : {M : Type 0} → Reduction M → ℕ → ℕ
piece_weight r = λ i. r.weight (r.piece i)

-- What the pieces below n weigh.
abbrev pub weight_below : {M : Type 0} → Reduction M → ℕ → ℕ
weight_below r n = sum_below (λ i. r.weight (r.piece i)) n

-- The loads of the pieces below n, added up.
abbrev pub load_below : {M : Type 0} → Reduction M → ℕ → ℕ
load_below r n = sum_below (λ i. r.load (r.piece i)) n

-- What a part of this meaning and the pieces below n weigh.
abbrev pub weight_onto : {M : Type 0} → Reduction M → M → ℕ → ℕ
weight_onto r m n = r.weight m + weight_below r n

-- The load of a part of this meaning and those of the pieces below n, added up.
abbrev pub load_onto : {M : Type 0} → Reduction M → M → ℕ → ℕ
load_onto r m n = r.load m + load_below r n

-- What a part of this meaning and the pieces of a list weigh.
abbrev pub weight_with : {M : Type 0} → Reduction M → M → List ℕ → ℕ
weight_with r m xs = r.weight m + sum_by (λ i. r.weight (r.piece i)) xs
