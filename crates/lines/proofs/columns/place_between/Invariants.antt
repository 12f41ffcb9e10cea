use Rattle.std.proofs.Common.{◌≢◌, ◌<◌, ◌≤◌, ℕ, get_or}
use Rattle.semantics.specs.Columns.{Field}
use Rattle.values.specs.Schema.{fields_of}
use Rattle.lines.proofs.columns.place_between.Given as goal

abbrev pub invariant-loop-place : goal.invariant-loop-place
invariant-loop-place l = (k : ℕ) → k < l.place → l.low ≤ k → (d : Field) → (get_or (fields_of l.columns) k d).name ≢ l.name
