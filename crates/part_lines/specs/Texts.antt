-- Values as JSON texts (RFC 8259), each on a line of its own.
use Rattle.std.specs.Prelude.{◌^◌, ℤ, pos, negsuc, nat_lt, Bool, true}
use Rattle.std.specs.Str.{is_utf8}
use Rattle.semantics.specs.Values.{Datum, boolean, whole, text, null}

-- Whether 128 bits hold a whole number: from -2^127 to 2^127 - 1.
abbrev pub fits_128_bits : ℤ → Bool
fits_128_bits (pos n) = nat_lt n (2 ^ 127)
fits_128_bits (negsuc n) = nat_lt n (2 ^ 127)

-- Whether a program can hold a value: its whole numbers have 128 bits, and its texts are in UTF-8.
abbrev pub is_storable : Datum → Bool
is_storable (boolean b) = true
is_storable (whole n) = fits_128_bits n
is_storable (text s) = is_utf8 s
is_storable null = true
