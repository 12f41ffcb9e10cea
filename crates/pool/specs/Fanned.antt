-- What all workers of a deal do together.
use Rattle.std.specs.Prelude.{◌≡◌, ℕ, ◌+◌, ◌<◌, List, length}
use Rattle.std.specs.List.{sum_by}
use mathlib.Core.Option.{some}
use lib.ListN.{get_elem?}
use Rattle.pool.specs.declared.laws.Outcome.{Outcome}
use Rattle.pool.specs.declared.laws.Outcome.TheVariants.{Whole, Over}
use Rattle.std.specs.declared.alloc.Global.{Global}
use Rattle.pool.specs.Holding.{Holding, numbers_of}
use Rattle.pool.specs.Settled.{numbers_of_all, Belongs, AllSpent, HaveEachOnce}

-- The second hand has the first one's seat: it is that hand of each deal that the first is of.
abbrev pub Follows : Holding → Holding → Type 0
Follows h k =
    (names : ℕ → (ℕ × ℕ) × Global) (pieces hands number : ℕ) → Belongs names pieces hands number h
    → Belongs names pieces hands number k

-- The hands and shares came back in their order: each hand has its seat, and its share has grown by
-- the weights of the pieces in its list.
abbrev pub CameBack : {S : Type 0} → (ℕ → ℕ) → (S → ℕ) → List Holding → List S → List Holding → List S → Type 0
CameBack weights sum hs ss ks ts =
    (length ks ≡ length hs) × (length ts ≡ length ss)
    × ((i : ℕ) (h : Holding) (s : _) (k : Holding) (t : _) → get_elem? hs i ≡ some h → get_elem? ss i ≡ some s
    → get_elem? ks i ≡ some k → get_elem? ts i ≡ some t
    → Follows h k × (sum t ≡ sum s + sum_by weights (numbers_of k)))

-- The shares came back in their order: each has grown by the weights of the pieces in the list of
-- the hand at its place
abbrev pub Reported : {S : Type 0} → (ℕ → ℕ) → (S → ℕ) → List S → List Holding → List S → Type 0
Reported weights sum ss ks ts =
    (length ks ≡ length ss) × (length ts ≡ length ss)
    × ((i : ℕ) (s : _) (k : Holding) (t : _) → get_elem? ss i ≡ some s → get_elem? ks i ≡ some k
    → get_elem? ts i ≡ some t → sum t ≡ sum s + sum_by weights (numbers_of k))

-- After Whole each hand has answered Spent, and each piece is in the list of one hand, once.
abbrev pub Settles : {P : Type 0} → Outcome P → List Holding → Type 0
Settles (Whole p) hs = AllSpent hs × HaveEachOnce hs
Settles Over hs = Unit {0}

-- After Over, the pieces in the hands' lists weigh more than the limit.
abbrev pub Outweighs : {P : Type 0} → (ℕ → ℕ) → ℕ → Outcome P → List Holding → Type 0
Outweighs weights limit (Whole p) hs = Unit {0}
Outweighs weights limit Over hs = limit < sum_by weights (numbers_of_all hs)

-- After Over, this number is more than the limit.
abbrev pub IsAbove : {P : Type 0} → ℕ → ℕ → Outcome P → Type 0
IsAbove number limit (Whole p) = Unit {0}
IsAbove number limit Over = limit < number
