-- Reading groups from the front, line by line, as far as the first fault.
use Rattle.std.specs.Borrow.{Bor}
use Rattle.std.specs.Option.{option_copied}
use Rattle.std.specs.Prelude.{Option, option_map}
use Rattle.semantics.specs.Values.{Datum}
use Rattle.values.specs.Datum.{datum_of}
use Rattle.values.specs.declared.value.Value.{Value}

-- ---- one behind the other

-- The last value and the last key, as a call has them.
abbrev pub last_value : Option (Bor Value) → Option Datum
last_value last = option_map datum_of (option_copied last)
