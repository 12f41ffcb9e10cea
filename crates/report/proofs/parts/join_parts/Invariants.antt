use Rattle.std.proofs.Common.{◌≡◌, ◌++◌}
use Rattle.std.specs.List.{flat_map}
use Rattle.report_rows.specs.Parts.{AreMade, items_of}
use Rattle.report.proofs.parts.join_parts.Given as goal

-- all parts were made if those that are left were, and the items of these behind those so far are
-- all
abbrev pub invariant-loop-part : goal.invariant-loop-part
invariant-loop-part g l = record {
  made : AreMade l.part-iterator.rest.items → AreMade l.fn.parts.items;
  items : l.whole.items ++ flat_map items_of l.part-iterator.rest.items ≡ l.fn.list.items ++ flat_map items_of l.fn.parts.items;
}
