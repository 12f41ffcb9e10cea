use Rattle.std.proofs.Common.{◌≡◌, ◌++◌, drop}
use Rattle.std.specs.List.{AllByRecursion}
use Rattle.values.specs.Datum.{data_of}
use Rattle.sort_keys.specs.Codes.{IsCodable, values_code}
use Rattle.sort_keys.proofs.code.put_values.Given as goal

-- the codes so far, and then those of the values that are left, are all; all values have codes of
-- their own where those that are left do
abbrev pub invariant-loop-value : goal.invariant-loop-value
invariant-loop-value l = record {
  code : l.code.items ++ values_code (data_of (drop l.value-index l.values)) ≡ l.fn.code.items ++ values_code (data_of l.values);
  codable : AllByRecursion IsCodable (data_of (drop l.value-index l.values)) → AllByRecursion IsCodable (data_of l.values);
}
