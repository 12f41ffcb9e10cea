-- Records whose whole numbers are of 64 bits.
use Rattle.std.specs.Prelude.{◌^◌, pos, ◌-ℤ◌, ◌≤ℤ◌, IfSome}
use Rattle.std.specs.List.{AllByRecursion}
use Rattle.semantics.specs.Values.{Datum}
use Rattle.semantics.specs.Groups.{Record}
use Rattle.semantics.specs.Aggregates.{number_of}

-- Where the value is a whole number, it is neither below -2^63 nor above 2^63, as none of 64 bits
-- is
abbrev pub IsNarrow : Datum → Type 0
IsNarrow d = IfSome (number_of d) (λ n. ((pos 0 -ℤ pos (2 ^ 63)) ≤ℤ n) × (n ≤ℤ pos (2 ^ 63)))

-- So are all values of a record.
abbrev pub IsNarrowRow : Record → Type 0
IsNarrowRow row = AllByRecursion IsNarrow row
