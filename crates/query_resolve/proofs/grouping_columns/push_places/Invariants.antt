use Rattle.std.proofs.Common.{◌≡◌, ◌++◌, drop}
use Rattle.values.specs.Schema.{fields_of}
use Rattle.semantics.specs.Names.{places_of}
use Rattle.query_resolve.proofs.grouping_columns.push_places.Given as goal

abbrev pub invariant-loop-name : goal.invariant-loop-name
invariant-loop-name l = l.places.items ++ places_of (fields_of l.columns) (drop l.name-index l.names) ≡ l.fn.places.items ++ places_of (fields_of l.columns) l.names
