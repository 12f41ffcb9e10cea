use Rattle.std.proofs.Common.{◌≡◌, ◌++◌, take}
use Rattle.values.specs.Datum.{data_of}
use Rattle.semantics.specs.Parts.{text_of}
use Rattle.part_lines.proofs.writer.push_values.Given as goal

abbrev pub invariant-loop-value : goal.invariant-loop-value
invariant-loop-value l = l.text.items ≡ l.fn.text.items ++ text_of (data_of (take l.value-index l.values))
