use Rattle.std.proofs.Common.{◌≡◌, [], drop, length}
use Rattle.values.specs.Schema.{fields_of}
use Rattle.semantics.specs.Columns.{parts}
use Rattle.values.proofs.PartByPart.{columns_behind}
use Rattle.values.proofs.schema.Schema.parse.Given as goal

-- the columns so far and the parts that are left give what all parts give
abbrev pub invariant-loop-part : goal.invariant-loop-part
invariant-loop-part l = columns_behind (fields_of l.columns.items) (drop (length l.yielded) (parts l.text)) ≡ columns_behind [] (parts l.text)
