-- The values that a set function has seen: the set of the different ones, and the first one in an
-- order.
use Rattle.std.specs.Prelude.{List}
use Rattle.values.specs.Datum.{data_of}
use Rattle.values.specs.declared.value.Value.{Value}
use Rattle.group_tables.specs.Values.{Values, set_of}

-- The set of the values that a hashed set of the code has.
abbrev pub values_in : List Value → Values
values_in values = set_of (data_of values)
