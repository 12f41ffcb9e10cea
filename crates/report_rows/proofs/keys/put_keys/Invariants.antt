use Rattle.std.proofs.Common.{◌≡◌, ◌++◌, drop, map}
use Rattle.group_tables.specs.GroupRows.{row_of}
use Rattle.report_rows.specs.Inside.SortEntries.{AreCodable, coded_form, keys_code}
use Rattle.report_rows.proofs.keys.put_keys.Given as goal

-- the codes so far, and then those of the keys that are left, are all; all values have codes of
-- their own where those for the keys that are left do
abbrev pub invariant-loop-key : goal.invariant-loop-key
invariant-loop-key l = record {
  code : l.code.items ++ keys_code (row_of l.found) (map coded_form (drop l.key-index l.keys)) ≡ l.fn.code.items ++ keys_code (row_of l.found) (map coded_form l.keys);
  codable : AreCodable (row_of l.found) (map coded_form (drop l.key-index l.keys)) → AreCodable (row_of l.found) (map coded_form l.keys);
}
