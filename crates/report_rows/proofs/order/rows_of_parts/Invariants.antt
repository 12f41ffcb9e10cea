use Rattle.std.proofs.Common.{◌≡◌, ◌++◌, drop, map}
use Rattle.std.specs.List.{flat_map}
use Rattle.report_rows.specs.Parts.{AreMade, items_of}
use Rattle.report_rows.proofs.order.rows_of_parts.Given as goal

-- all parts were made if those that are left were, and the rows so far and then those of these are
-- all
abbrev pub invariant-loop-part : goal.invariant-loop-part
invariant-loop-part l = record {
  made : AreMade (drop l.part-index l.parts) → AreMade l.parts;
  rows : map (λ r. r.now) l.rows.items ++ flat_map items_of (drop l.part-index l.parts) ≡ flat_map items_of l.parts;
}
