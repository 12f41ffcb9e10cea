use Rattle.std.proofs.Common.{◌≡◌, ◌++◌, map}
use Rattle.std.specs.List.{AllByRecursion}
use Rattle.sort_keys.specs.Codes.{IsCodable}
use Rattle.values.specs.Datum.{data_of}
use Rattle.group_tables.specs.Inside.Keyed.{keyed_datum, keyed_value}
use Rattle.group_tables.proofs.value_set.keyed_values.Given as goal

-- the values so far, and then those that are left; and where these have codes, all have
abbrev pub invariant-loop-thing : goal.invariant-loop-thing
invariant-loop-thing l = record {
  values : map keyed_value l.keyed.items ++ map keyed_datum (data_of l.thing-iterator) ≡ map keyed_datum (data_of l.fn.values.keys);
  codable : AllByRecursion IsCodable (data_of l.thing-iterator) → AllByRecursion IsCodable (data_of l.fn.values.keys);
}
