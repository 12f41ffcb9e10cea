use Rattle.std.proofs.Common.{◌≡◌, ◌++◌, drop, map, string_bytes}
use Rattle.std.specs.Prelude.{codes}
use Rattle.std.specs.List.{flat_map}
use Rattle.semantics.specs.Words.{name_text}
use Rattle.values.specs.Schema.{fields_of}
use Rattle.semantics.specs.Canonical.{name_at, names_text}
use Rattle.query_printer.proofs.clauses.push_columns.Given as goal

abbrev pub invariant-loop-place : goal.invariant-loop-place
invariant-loop-place l = string_bytes l.out ++ flat_map (λ text. codes ", " ++ text) (map name_text (map (name_at (fields_of l.columns)) (drop l.place-index l.others))) ≡ string_bytes l.fn.out ++ names_text (map (name_at (fields_of l.columns)) l.places)
