-- The sets of different values of the code.
use Rattle.std.specs.Prelude.{List, ◌∷◌, []}
use Rattle.values.specs.declared.value.Value.{Value}
use Rattle.group_tables.specs.Values.{Values}
use Rattle.group_tables.specs.Inside.Values.{values_in}
use Rattle.group_tables.specs.declared.value_set.ValueSet.{ValueSet}
use Rattle.group_tables.specs.declared.value_set.ValueSet.TheVariants as value_set

-- The values of a set, in the order in which the code gives them.
abbrev pub listed : ValueSet → List Value
listed value_set.Empty = []
listed (value_set.One value) = value.value ∷ []
listed (value_set.Many values) = values.value.keys

-- The set that contracts see.
abbrev pub shown : ValueSet → Values
shown values = values_in (listed values)
