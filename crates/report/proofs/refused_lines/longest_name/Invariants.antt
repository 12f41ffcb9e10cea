use Rattle.std.proofs.Common.{◌≡◌, ◌<◌, ◌^◌, drop, max}
use Rattle.semantics.specs.Columns.{names_of}
use Rattle.values.specs.Schema.{fields_of}
use Rattle.report.specs.Report.{longest}
use Rattle.report.proofs.refused_lines.longest_name.Given as goal

-- the longest name is the longest so far, or one of those that are left
abbrev pub invariant-loop-column : goal.invariant-loop-column
invariant-loop-column l = record {
  longest : max l.longest (longest (names_of (fields_of (drop l.column-index l.columns)))) ≡ longest (names_of (fields_of l.columns));
  within : l.longest < 2 ^ 63;
}
