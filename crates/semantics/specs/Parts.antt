-- The text of a part: the partial result of a query over an input, one value a line (RFC 8259). A
-- line is read as the value whose text it is, and as no other (`text_law` of part_lines). A join of
-- joins is the join of all parts (`parts_law` of parts).
use Rattle.std.specs.Fmt.{signed_decimal}
use Rattle.std.specs.List.{flat_map}
use Rattle.std.specs.Prelude.{◌==◌, ℕ, pos, true, false, List, [], ◌∷◌, ◌++◌, codes, length, map, if◌then◌else◌}
use Rattle.json.specs.Print.{quoted}
use Rattle.hex.specs.Hex.{encode_lower}
use Rattle.sha2.specs.Sha256.{sha256}
use Rattle.semantics.specs.Canonical.{canonical_text, separated_texts}
use Rattle.semantics.specs.Columns.{Field}
use Rattle.semantics.specs.Conditions.{kept_records}
use Rattle.semantics.specs.ResultRows.{aggregate_functions}
use Rattle.semantics.specs.GroupStates.{EntryForm, FunctionState, rows, counted, summed, extreme, collected, entries_over}
use Rattle.semantics.specs.Lines.{line_feed, lines}
use Rattle.semantics.specs.Records.{refused_lines, valid_records}
use Rattle.semantics.specs.Sets.{grouping_places}
use Rattle.semantics.specs.Syntax.{Query}
use Rattle.semantics.specs.Texts.{fault_text}
use Rattle.semantics.specs.Values.{Datum, boolean, whole, text, null}
use Rattle.semantics.specs.declared.kind.Kind.{Kind}
use Rattle.semantics.specs.declared.kind.Kind.TheVariants as kind
use Rattle.semantics.specs.declared.line_fault.LineFault.{LineFault}

-- ---- values as JSON texts (RFC 8259), each on a line of its own

-- Truth values and NULL are the literal names of JSON (section 3). A whole number is its digits,
-- with a minus before a number below 0 (section 6). A text is a string with the shortest
-- escapes (section 7).
abbrev pub value_text : Datum → List ℕ
value_text (boolean true) = codes "true"
value_text (boolean false) = codes "false"
value_text (whole n) = signed_decimal n
value_text (text s) = quoted s
value_text null = codes "null"

-- The line of a value: its text and a line feed.
abbrev pub line_of : Datum → List ℕ
line_of d = value_text d ++ line_feed ∷ []

-- The lines of values, one after the other.
abbrev pub text_of : List Datum → List ℕ
text_of values = flat_map line_of values

-- ---- groups as values

-- A count, as a value.
abbrev pub number : ℕ → Datum
number n = whole (pos n)

-- Of different values their number comes first.
abbrev pub state_values : FunctionState → List Datum
state_values rows = []
state_values (counted n) = number n ∷ []
state_values (summed s n) = whole s ∷ number n ∷ []
state_values (extreme d) = d ∷ []
state_values (collected ds) = number (length ds) ∷ ds

-- A group is its key, the number of its members and the states.
abbrev pub group_values : EntryForm → List Datum
group_values g = g.key ++ number g.members ∷ flat_map state_values g.states

-- Groups, one after the other.
abbrev pub groups_values : List EntryForm → List Datum
groups_values gs = flat_map group_values gs

-- ---- the first lines

-- The mark of a part, with its version.
abbrev pub mark : List ℕ
mark = codes "jlreport part 1"

-- The word of a type.
abbrev pub kind_text : Kind → List ℕ
kind_text kind.Int = codes "int"
kind_text kind.Text = codes "text"
kind_text kind.Bool = codes "bool"

-- A column: its name and its type.
abbrev pub column_text : Field → List ℕ
column_text field = field.name ++ codes ":" ++ kind_text field.kind

-- Columns as `--columns` takes them.
abbrev pub columns_text : List Field → List ℕ
columns_text fields = separated_texts (codes ",") (map column_text fields)

-- A part begins with the mark, the columns, and the canonical text of the query.
abbrev pub header_of : (columns query : List ℕ) → List Datum
header_of columns query = text mark ∷ text columns ∷ text query ∷ []

-- ---- the partial result

-- What a part says of an input: the number of all lines, the refused lines by their numbers, and
-- the groups of the records, by ascending keys.
pub record ContentsForm : Type 0 where
  pub lines : ℕ
  pub refused : List (ℕ × LineFault)
  pub groups : List EntryForm

-- Those of an input under columns and a query: the groups are those of all grouping columns over
-- the valid records that WHERE keeps.
abbrev pub contents_over : List Field → Query → List ℕ → ContentsForm
contents_over fields q input = record {
  lines = length (lines input);
  refused = refused_lines fields input;
  groups =
      entries_over (grouping_places fields q) (aggregate_functions fields q)
      (kept_records fields q (valid_records fields input));
}

-- Of a refused line its number and what is wrong with it.
abbrev pub refused_line_values : List Field → ℕ × LineFault → List Datum
refused_line_values fields line = number line.0 ∷ text (fault_text fields line.1) ∷ []

-- Of each refused line its number and what is wrong with it.
abbrev pub refused_values : List Field → List (ℕ × LineFault) → List Datum
refused_values fields refused = flat_map (refused_line_values fields) refused

-- What stands before the groups of a part: after its first lines the number of all lines, the
-- number of the refused ones and these, and the number of the groups.
abbrev pub front_of : (columns query : List ℕ) → List Field → (lines : ℕ) → List (ℕ × LineFault)
    → (groups : ℕ) → List Datum
front_of columns query fields lines refused groups =
    header_of columns query
    ++ number lines
    ∷ number (length refused)
    ∷ refused_values fields refused
    ++ number groups
    ∷ []

-- The same for columns and a query, by their texts.
abbrev pub front_values : List Field → Query → (lines : ℕ) → List (ℕ × LineFault) → (groups : ℕ)
    → List Datum
front_values fields q lines refused groups =
    front_of (columns_text fields) (canonical_text q) fields lines refused groups

-- The values of a part with these contents, all but the checksum at its end.
abbrev pub values_with : List Field → Query → ContentsForm → List Datum
values_with fields q contents =
    front_values fields q contents.lines contents.refused (length contents.groups)
    ++ groups_values contents.groups

-- The same for the part of an input.
abbrev pub part_values : List Field → Query → List ℕ → List Datum
part_values fields q input = values_with fields q (contents_over fields q input)

-- ---- the whole part

-- The last value of a part: the SHA-256 (FIPS 180-4) of all lines before, in hexadecimal.
abbrev pub checksum : List ℕ → Datum
checksum bytes = text (encode_lower (sha256 bytes))

-- Lines, and that of their checksum.
abbrev pub with_checksum : List ℕ → List ℕ
with_checksum bytes = bytes ++ line_of (checksum bytes)

-- The part of an input, under columns and a query.
abbrev pub part_text : List Field → Query → List ℕ → List ℕ
part_text fields q input = with_checksum (text_of (part_values fields q input))

-- ---- inputs, one after the other

-- An input with a line feed after it if it is not empty and lacks one.
abbrev pub newline_terminated : List ℕ → List ℕ
newline_terminated [] = []
newline_terminated (byte ∷ []) = if byte == line_feed then byte ∷ [] else byte ∷ line_feed ∷ []
newline_terminated (byte ∷ next ∷ bytes) = byte ∷ newline_terminated (next ∷ bytes)

-- Some inputs, one after the other, so that each begins on a line of its own.
abbrev pub concatenated : List (List ℕ) → List ℕ
concatenated inputs = flat_map newline_terminated inputs
