-- A hand that is made, and one that steals.
use Rattle.std.specs.Prelude.{ℕ, false, List}
use Rattle.pool.specs.Holding.{Holding}
use Rattle.pool.specs.Seen.{Seen, Owned}

-- a hand that has answered nothing yet
abbrev pub new_holding : ℕ → ℕ → ℕ → Owned → List Seen → Holding
new_holding number hands pieces own others = record { number = number; hands = hands; pieces = pieces; own = own; others = others; spent = false }
