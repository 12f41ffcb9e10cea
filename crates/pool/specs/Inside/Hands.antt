-- A hand that is made, and one that steals.
use Rattle.std.specs.Prelude.{◌≡◌, ℕ, List, slice_set, Option, Some, None}
use mathlib.Core.Option.{some}
use lib.ListN.{get_elem?}
use Rattle.pool.specs.Seen.{Seen, Took}

-- One of these gained the number, or nothing changed.
abbrev pub Steals : List Seen → Option ℕ → List Seen → Type 0
Steals ss None ts = ts ≡ ss
Steals ss (Some x) ts =
    (r : ℕ) × (old : Seen) × (s : Seen) × (get_elem? ss r ≡ some old) × Took old x s × (ts ≡ slice_set ss r s)
