-- Lists that are the same but for the order of their things.
use Rattle.std.specs.Prelude.{◌≡◌, ℕ, List}
use Rattle.std.specs.List.{sum_by}

-- Two lists have the same things, each as often: whatever the things weigh, the weights add up to
-- the same
abbrev pub SameBag : {X : Type 0} → List X → List X → Type 0
SameBag {X} xs ys = (weight : X → ℕ) → sum_by weight xs ≡ sum_by weight ys
