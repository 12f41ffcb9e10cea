-- The record that a line is (RFC 8259), or its first fault; the valid records and the refused lines
-- of an input. Of two inputs, one after the other, of which the first is whole lines, they are
-- those of the first and then those of the second, numbered on (`front_law` of lines).
use Rattle.std.specs.Int.{w64}
use Rattle.std.specs.List.{enumerate_from, AllZip}
use Rattle.std.specs.Option.{is_none, option_map_or}
use Rattle.std.specs.Prelude.{ℕ, ◌^◌, nat_lt, ℤ, pos, negsuc, Bool, List, length, map, filter_map, position, Option, Some, None, option_and_then, unwrap_or, Result, Ok, Err, if◌then◌else◌, option_map, ◌≡◌, ⊤, FitsSigned}
use Rattle.std.specs.Result.{result_err, result_ok}
use Rattle.std.specs.Str.{is_utf8}
use Rattle.serde_json.specs.Data.{Data, Members}
use Rattle.serde_json.specs.Find.{get_member, as_integer}
use Rattle.serde_json.specs.Read.{read}
use Rattle.semantics.specs.Columns.{Field}
use Rattle.semantics.specs.Lines.{lines}
use Rattle.semantics.specs.Values.{Datum, boolean, whole, text, null}
use Rattle.semantics.specs.declared.kind.Kind.{Kind}
use Rattle.semantics.specs.declared.line_fault.LineFault.{LineFault}
use Rattle.semantics.specs.declared.line_fault.LineFault.TheVariants.{TooLong, NoJson, NoObject, BadValue}
use Rattle.semantics.specs.declared.line_fault.LineRefusal.{LineRefusal}
use Rattle.semantics.specs.declared.line_fault.LineRefusal.TheVariants.{Fault, Memory}
use Rattle.serde_json.specs.Data as json
use Rattle.semantics.specs.declared.kind.Kind.TheVariants as kind

-- The greatest length of a line in bytes.
abbrev pub max_line_len : ℕ
max_line_len = 1048576

-- The JSON value that a line is (RFC 8259); None if it is not UTF-8 or the JSON reader has no
-- value for it.
abbrev pub reading : List ℕ → Option Data
reading line = if is_utf8 line then read line else None

-- ---- what a column takes

-- A whole number is at least -2^63, which is negsuc (2^63 - 1), and below 2^63.
abbrev pub is_int64 : ℤ → Bool
is_int64 (pos n) = nat_lt n (2 ^ 63)
is_int64 (negsuc n) = nat_lt n (2 ^ 63)

-- The value that a column of this type takes from a JSON value: NULL from null; otherwise, by the
-- type of the column, a whole number of 64 bits, a string or a truth value; None if the JSON
-- value is of another kind.
abbrev pub datum_taken : Kind → Data → Option Datum
datum_taken k json.null = Some null
datum_taken kind.Int (json.number n) =
    option_and_then (λ z. if is_int64 z then Some (whole z) else None) (as_integer n)
datum_taken kind.Text (json.string s) = Some (text s)
datum_taken kind.Bool (json.boolean b) = Some (boolean b)
datum_taken k d = None

-- The member of this name; a missing one counts as null.
abbrev pub member_of : Members → List ℕ → Data
member_of members name = unwrap_or (get_member name members) json.null

-- The value that each column takes from the members of an object.
abbrev pub data_taken : List Field → Members → List (Option Datum)
data_taken fields members =
    map (λ field. datum_taken field.kind (member_of members field.name)) fields

-- ---- the record or the fault

-- The values, if every column takes one; otherwise the position of the first column that takes
-- none.
abbrev pub all_taken : List (Option Datum) → Result (List Datum) LineFault
all_taken found =
    option_map_or (λ place. Err (BadValue place))
    (position is_none found) (Ok (filter_map (λ o. o) found))

-- The record of a line that is this JSON value, or the fault of the line.
abbrev pub record_of : List Field → Option Data → Result (List Datum) LineFault
record_of fields None = Err NoJson
record_of fields (Some (json.object members)) = all_taken (data_taken fields members)
record_of fields (Some other) = Err NoObject

-- The record of a line under a schema, or the first fault of the line: it is too long, it is not
-- JSON, it is not an object, or a column does not take its member.
abbrev pub decode_line : List Field → List ℕ → Result (List Datum) LineFault
decode_line fields line =
    if nat_lt max_line_len (length line) then Err TooLong else record_of fields (reading line)

-- The record or the fault of each line of the input, in order.
abbrev pub line_results : List Field → List ℕ → List (Result (List Datum) LineFault)
line_results fields input = map (decode_line fields) (lines input)

-- The records of the lines that have no fault, in order.
abbrev pub valid_records : List Field → List ℕ → List (List Datum)
valid_records fields input = filter_map result_ok (line_results fields input)

-- The number of each line that has a fault, beside the fault, in order; the first line of the input
-- has the number 1.
abbrev pub refused_lines : List Field → List ℕ → List (ℕ × LineFault)
refused_lines fields input =
    filter_map (λ p. option_map (λ fault. (p.0, fault)) (result_err p.1))
    (enumerate_from 1 (line_results fields input))

-- What a refusal says of a line: a Fault is the fault of the line; Memory says nothing of it.
abbrev pub IsRefusal : LineRefusal → Result (List Datum) LineFault → Type 0
IsRefusal (Fault fault) taken = taken ≡ Err fault
IsRefusal Memory taken = ⊤

-- A column of this type holds the value: NULL, or a value of the type, a whole number in 64 bits.
abbrev pub Holds : Kind → Datum → Type 0
Holds k null = ⊤
Holds kind.Int (whole n) = FitsSigned w64 n
Holds kind.Text (text s) = ⊤
Holds kind.Bool (boolean b) = ⊤
Holds k d = ⊥

-- A record fits a schema if it has one value for each column, and each column holds its value.
abbrev pub Fits : List Field → List Datum → Type 0
Fits fields values = AllZip (λ f d. Holds f.kind d) fields values
