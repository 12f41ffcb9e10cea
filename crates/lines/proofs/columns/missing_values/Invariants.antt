use Rattle.std.proofs.Common.{◌≡◌, ◌<◌, ◌≤◌, ℕ, get_or, length}
use Rattle.values.specs.declared.value.Value.{Value}
use Rattle.values.specs.declared.value.Value.TheVariants as value
use Rattle.lines.proofs.columns.missing_values.Given as goal

-- the values from the place on are NULL
abbrev pub invariant-loop-place : goal.invariant-loop-place
invariant-loop-place l = record {
  len : length l.values.items ≡ length l.columns;
  nulls : (k : ℕ) (d : Value) → l.place ≤ k → k < length l.values.items → get_or l.values.items k d ≡ value.Null;
}
