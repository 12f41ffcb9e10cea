-- Refused lines, where neighbours with one fault are kept as one.
use Rattle.std.specs.Prelude.{ℕ, zero, suc, ◌+◌, List, ◌∷◌, []}
use Rattle.std.specs.List.{flat_map}
use Rattle.semantics.specs.declared.line_fault.LineFault.{LineFault}
use Rattle.tables.specs.declared.refusals.Run.{Run}

-- So many neighbouring lines with one fault, from a number on.
abbrev pub neighbours : LineFault → ℕ → ℕ → List (ℕ × LineFault)
neighbours fault first zero = []
neighbours fault first (suc count) = (first, fault) ∷ neighbours fault (first + 1) count

-- The lines of a run.
abbrev pub lines_of_run : Run → List (ℕ × LineFault)
lines_of_run run = neighbours run.fault run.first (suc run.more)

-- The lines of runs, one run after the other.
abbrev pub lines_of_runs : List Run → List (ℕ × LineFault)
lines_of_runs runs = flat_map lines_of_run runs
