-- What is known of groups that were read, whoever wrote their lines.
use Rattle.std.specs.Prelude.{◌≢◌, Option}
use Rattle.semantics.specs.Records.{Holds}
use Rattle.semantics.specs.Values.{Datum, null, value_order}
use Rattle.semantics.specs.declared.kind.Kind.{Kind}
use Rattle.part_lines.specs.Known.{IsAbove}

-- A value of a column of this type that is not NULL and above the last one.
pub record IsDifferentOf (k : Kind) (last : Option Datum) (d : Datum) : Type 0 where
  pub held : Holds k d
  pub known : d ≢ null
  pub above : IsAbove value_order last d
