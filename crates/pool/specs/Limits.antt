-- The limits of a deal.
use Rattle.std.specs.Prelude.{◌^◌, ℕ}

-- The most hands of a deal.
abbrev pub most_hands : ℕ
most_hands = 64

-- The most pieces of a deal.
abbrev pub most_pieces : ℕ
most_pieces = 1048576

-- Loads that are added up stay below this.
abbrev pub load_limit : ℕ
load_limit = 2 ^ 63
