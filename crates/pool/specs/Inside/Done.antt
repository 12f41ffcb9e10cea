-- What a worker has, and what it does.
use Rattle.std.specs.Prelude.{ℕ, List, ◌∷◌, []}
use Rattle.pool.specs.Holding.{Holding}
use Rattle.pool.specs.Done.{Worker}

-- The hands of these workers.
abbrev pub hands_of : {P : Type 0} → List (Worker P) → List Holding
hands_of [] = []
hands_of (w ∷ ws) = w.hand ∷ hands_of ws

-- The sums of their shares.
abbrev pub sums_of : {P : Type 0} → List (Worker P) → List ℕ
sums_of [] = []
sums_of (w ∷ ws) = w.sum ∷ sums_of ws

-- Their parts
abbrev pub parts_of : {P : Type 0} → List (Worker P) → List P
parts_of [] = []
parts_of (w ∷ ws) = w.part ∷ parts_of ws
