use Rattle.std.specs.List.{flat_map}
use Rattle.std.specs.Prelude.{codes, string_bytes}
use Rattle.std.proofs.Common.{◌≡◌, ◌++◌, map, take}
use Rattle.values.specs.Schema.{fields_of}
use Rattle.semantics.specs.Parts.{column_text}
use Rattle.parts.proofs.columns.push_columns.Given as goal

abbrev pub invariant-loop-column : goal.invariant-loop-column
invariant-loop-column l = string_bytes l.text ≡ string_bytes l.fn.text ++ flat_map (λ column. codes "," ++ column) (map column_text (fields_of (take l.column-index l.columns)))
