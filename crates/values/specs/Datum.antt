-- The values that contracts see, of values of the program.
use Rattle.std.specs.Prelude.{Bool, List, map, string_bytes}
use Rattle.values.specs.declared.value.Value.{Value}
use Rattle.values.specs.declared.value.Value.TheVariants as value
use Rattle.semantics.specs.Values.{Datum, boolean, whole, text, null}

abbrev pub datum_of : Value → Datum
datum_of (value.Bool b) = boolean b
datum_of (value.Int n) = whole n
datum_of (value.Text s) = text (string_bytes s)
datum_of value.Null = null

-- The values of a record, or of a key.
abbrev pub data_of : List Value → List Datum
data_of values = map datum_of values
