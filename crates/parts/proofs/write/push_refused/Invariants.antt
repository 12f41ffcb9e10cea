use Rattle.std.proofs.Common.{◌≡◌, ◌++◌, take}
use Rattle.values.specs.Schema.{fields_of}
use Rattle.semantics.specs.Parts.{text_of, refused_values}
use Rattle.parts.proofs.write.push_refused.Given as goal

abbrev pub invariant-loop-number : goal.invariant-loop-number
invariant-loop-number l = l.text.items ≡ l.fn.text.items ++ text_of (refused_values (fields_of l.columns) (take l.number-index l.refused))
