-- Reading parts from the front, line by line, as far as the first fault.
use Rattle.std.specs.Prelude.{◌==◌, ◌-◌, ◌^◌, ◌+◌, ◌&&◌, not, ℕ, zero, suc, nat_eq, nat_lt, Bool, true, List, ◌∷◌, codes, length, map, position, option_and_then, option_map, unwrap_or, drop, Option, Some, None, Result, Ok, Err, if◌then◌else◌, []}
use Rattle.std.specs.Char.{is_ascii_digit}
use Rattle.std.specs.List.{list_all, starts_with}
use Rattle.std.specs.Str.{bytes_eq}
use Rattle.hex.specs.Hex.{encode_lower}
use Rattle.sha2.specs.Sha256.{sha256}
use Rattle.semantics.specs.Canonical.{canonical_text}
use Rattle.semantics.specs.Columns.{Field, names_of}
use Rattle.semantics.specs.Names.{kind_at}
use Rattle.semantics.specs.Sets.{grouping_places}
use Rattle.semantics.specs.Syntax.{Query}
use Rattle.semantics.specs.Values.{Datum, text}
use Rattle.semantics.specs.declared.function.ColumnFunction.{ColumnFunction}
use Rattle.semantics.specs.declared.function.ColumnFunction.TheVariants as function
use Rattle.semantics.specs.declared.kind.Kind.{Kind}
use Rattle.semantics.specs.declared.kind.Kind.TheVariants as type
use Rattle.semantics.specs.declared.line_fault.LineFault.{LineFault}
use Rattle.semantics.specs.declared.line_fault.LineFault.TheVariants.{TooLong, NoJson, NoObject, BadValue}
use Rattle.part_lines.specs.Faults.{Fault, FaultKind, no_part, not_a_part, other_version, other_columns, other_query, unexpected_value, out_of_order, out_of_range, wrong_checksum, too_many_lines}
use Rattle.part_lines.specs.declared.shape.StateKind.{StateKind}
use Rattle.part_lines.specs.declared.shape.StateKind.TheVariants as kind
use Rattle.part_lines.specs.Groups.{ShapeForm}
use Rattle.part_lines.specs.Reading.{Stream, count_at, count_within, fault_at, groups_at, passed, value_at}
use Rattle.semantics.specs.Parts.{text_of, ContentsForm, columns_text, mark, values_with}
use Rattle.values.specs.Results.{◌>>=◌}
use Rattle.query_resolve.specs.Functions.{indexed_functions}
use Rattle.query_resolve.specs.declared.function.FilteredFunction.{FilteredFunction}
use Rattle.parts.specs.Shown.{shortened, shown}
use Rattle.parts.specs.Faults.{PartedFault, in_part}

-- What was read, with its fault seen by `view`.
abbrev pub with_fault : {A E F : Type 0} → (E → F) → Result A E → Result A F
with_fault view (Ok x) = Ok x
with_fault view (Err fault) = Err (view fault)

-- ---- texts

-- The text that a value is.
abbrev pub text_in : Datum → Stream → Result (List ℕ) Fault
text_in (text t) s = Ok t
text_in d s = Err (fault_at unexpected_value s)

-- A text.
unfoldable pub text_at : Stream → Result (List ℕ × Stream) Fault
text_at s = do
  d ← value_at s
  t ← text_in d.0 d.1
  Ok (t, d.1)

-- Nothing where a text is this one, and else how a message shows it.
abbrev pub other_text : List ℕ → List ℕ → Option (List ℕ)
other_text wanted t = if bytes_eq t wanted then None else Some (shown t)

-- A text, if it is another one than this.
unfoldable pub other_at : List ℕ → Stream → Result (Option (List ℕ) × Stream) Fault
other_at wanted s = do
  t ← text_at s
  Ok (other_text wanted t.0, t.1)

-- Nothing, and else the fault of another text, which shows it.
abbrev pub none_other : Option (List ℕ) → (List ℕ → FaultKind) → Stream → Result (Unit {0}) Fault
none_other None kind s = Ok tt
none_other (Some other) kind s = Err (fault_at (kind other) s)

-- The text that has to stand here.
unfoldable pub said_at : List ℕ → (List ℕ → FaultKind) → Stream → Result (Unit {0} × Stream) Fault
said_at wanted kind s = do
  o ← other_at wanted s
  same ← none_other o.0 kind o.1
  Ok (tt, o.1)

-- ---- the mark

-- What stands in a mark before its version.
abbrev pub mark_front : List ℕ
mark_front = codes "jlreport part "

-- What is left of a text behind a front, where it has that.
abbrev pub behind_front : List ℕ → List ℕ → Option (List ℕ)
behind_front front t = if starts_with nat_eq t front then Some (drop (length front) t) else None

-- Whether a text begins with a 0 that has more behind it.
abbrev pub has_leading_zero : List ℕ → Bool
has_leading_zero t = starts_with nat_eq t (codes "0") && nat_lt 1 (length t)

-- Whether a text is a whole number: of one digit or more, and without a leading zero.
abbrev pub is_version : List ℕ → Bool
is_version t = not (length t == 0) && list_all is_ascii_digit t && not (has_leading_zero t)

-- What is wrong with another text than the mark: it is the mark of another version, of which a
-- message shows the first digits, or of no part.
abbrev pub kind_of_version : Option (List ℕ) → FaultKind
kind_of_version None = not_a_part
kind_of_version (Some version) = if is_version version then other_version (shortened version) else not_a_part

abbrev pub kind_of_mark : List ℕ → FaultKind
kind_of_mark t = kind_of_version (behind_front mark_front t)

-- The value of a mark.
abbrev pub mark_in : Datum → Stream → Result (Unit {0}) Fault
mark_in (text t) s = passed (bytes_eq t mark) (kind_of_mark t) s
mark_in d s = Err (fault_at not_a_part s)

-- The mark. A line that is no value is that of no part, too.
unfoldable pub mark_at : Stream → Result (Unit {0} × Stream) Fault
mark_at s = do
  d ← with_fault (λ fault. record { line = fault.line; kind = not_a_part }) (value_at s)
  m ← mark_in d.0 d.1
  Ok (tt, d.1)

-- ---- lines, and the refused ones of them

-- How many lines there are: with those of the parts before fewer than 2^63.
unfoldable pub lines_at : ℕ → Stream → Result (ℕ × Stream) Fault
lines_at before s = do
  n ← count_at s
  few ← passed (nat_lt (before + n.0) (2 ^ 63)) too_many_lines n.1
  Ok n

-- The place of the column whose name stands behind these words.
abbrev pub bad_column : List Field → List ℕ → Option ℕ
bad_column fields t = option_and_then (λ name. position (bytes_eq name) (names_of fields)) (behind_front (codes "bad value in column ") t)

-- The fault of a line that a text names.
abbrev pub fault_named : List Field → List ℕ → Option LineFault
fault_named fields t =
    if bytes_eq t (codes "too long") then Some TooLong
    else if bytes_eq t (codes "not JSON") then Some NoJson
    else if bytes_eq t (codes "not an object") then Some NoObject
    else option_map BadValue (bad_column fields t)

abbrev pub line_fault_in : Option LineFault → Stream → Result LineFault Fault
line_fault_in None s = Err (fault_at unexpected_value s)
line_fault_in (Some fault) s = Ok fault

-- A refused line: its number, above the last one and not above that of the lines, and its fault.
unfoldable pub refused_line_at : List Field → ℕ → ℕ → Stream → Result ((ℕ × LineFault) × Stream) Fault
refused_line_at fields lines last s = do
  n ← count_within lines s
  above ← passed (nat_lt last n.0) out_of_order n.1
  t ← text_at n.1
  fault ← line_fault_in (fault_named fields t.0) t.1
  Ok ((n.0, fault), t.1)

-- So many refused lines.
unfoldable pub refused_at : List Field → ℕ → ℕ → ℕ → Stream → Result (List (ℕ × LineFault) × Stream) Fault
refused_at fields lines zero last s = Ok ([], s)
refused_at fields lines (suc n) last s = do
  x ← refused_line_at fields lines last s
  xs ← refused_at fields lines n x.0.0 x.1
  Ok (x.0 ∷ xs.0, xs.1)

-- The refused lines behind their number.
unfoldable pub all_refused_at : List Field → ℕ → Stream → Result (List (ℕ × LineFault) × Stream) Fault
all_refused_at fields lines s = do
  n ← count_within lines s
  refused_at fields lines n.0 0 n.1

-- ---- groups

-- The type of the column at a place. (A plan names columns that are there.).
abbrev pub type_at : List Field → ℕ → Kind
type_at fields place = unwrap_or (kind_at fields place) type.Int

-- Which state COUNT(*) has: without FILTER none, since the number of members says it.
abbrev pub rows_kind : Option ℕ → StateKind
rows_kind None = kind.Rows
rows_kind (Some index) = kind.Count

-- Which state a set function has, with the FILTER of this index or with none.
abbrev pub state_kind_by : List Field → Option ℕ → ColumnFunction → StateKind
state_kind_by fields filter function.CountRows = rows_kind filter
state_kind_by fields filter (function.Count place) = kind.Count
state_kind_by fields filter (function.CountDistinct place) = kind.Distinct (type_at fields place)
state_kind_by fields filter (function.Sum place) = kind.Sum
state_kind_by fields filter (function.Min place) = kind.Extreme (type_at fields place)
state_kind_by fields filter (function.Max place) = kind.Extreme (type_at fields place)
state_kind_by fields filter (function.Avg place) = kind.Sum

abbrev pub state_kind : List Field → FilteredFunction → StateKind
state_kind fields f = state_kind_by fields f.filter f.function

-- The shape of groups under grouping columns and with these set functions.
abbrev pub shape_over : List Field → List ℕ → List FilteredFunction → ShapeForm
shape_over fields places functions = record { columns = map (type_at fields) places; states = map (state_kind fields) functions }

-- That of the groups of a query.
abbrev pub shape_under : List Field → Query → ShapeForm
shape_under fields q = shape_over fields (grouping_places fields q) (indexed_functions fields q)

-- Without grouping columns there is exactly one group.
abbrev pub can_have : List Kind → ℕ → Bool
can_have [] count = count == 1
can_have (k ∷ ks) count = true

-- How many groups there are.
unfoldable pub group_count_at : ShapeForm → Stream → Result (ℕ × Stream) Fault
group_count_at shape s = do
  n ← count_at s
  possible ← passed (can_have shape.columns n.0) out_of_range n.1
  Ok n

-- ---- parts

-- The first lines of a part: its mark, and the texts of its columns and of its query.
unfoldable pub header_of : (columns query : List ℕ) → Stream → Result (Unit {0} × Stream) Fault
header_of columns query s = do
  m ← mark_at s
  c ← said_at columns other_columns m.1
  said_at query other_query c.1

-- Those of a part under columns and a query.
abbrev pub header_at : List Field → Query → Stream → Result (Unit {0} × Stream) Fault
header_at fields q s = header_of (columns_text fields) (canonical_text q) s

-- The contents of a part, which has fewer than 2^63 lines with those before it: its lines, the
-- refused ones of them, and the groups, of no more members together than there are good lines.
unfoldable pub contents_at : List Field → Query → ℕ → Stream → Result (ContentsForm × Stream) Fault
contents_at fields q before s = do
  n ← lines_at before s
  refused ← all_refused_at fields n.0 n.1
  count ← group_count_at (shape_under fields q) refused.1
  groups ← groups_at (shape_under fields q) count.0 None (n.0 - length refused.0) count.1
  Ok (record { lines = n.0; refused = refused.0; groups = groups.0 }, groups.1)

-- The checksum of these lines.
unfoldable pub checksum_at : List ℕ → Stream → Result (Unit {0} × Stream) Fault
checksum_at bytes s = do
  t ← text_at s
  fits ← passed (bytes_eq t.0 (encode_lower (sha256 bytes))) wrong_checksum t.1
  Ok (tt, t.1)

-- A part, from its mark to its checksum. A value has one spelling: so the lines that were read are
-- those of the values that were read.
unfoldable pub part_at : List Field → Query → ℕ → Stream → Result (ContentsForm × Stream) Fault
part_at fields q before s = do
  header ← header_at fields q s
  contents ← contents_at fields q before header.1
  checksum ← checksum_at (text_of (values_with fields q contents.0)) contents.1
  Ok (contents.0, checksum.1)

-- What the parts behind a part are read as, and the part before them.
abbrev pub behind_part : ContentsForm → Result (List ContentsForm) PartedFault → Result (List ContentsForm) PartedFault
behind_part contents others = others >>= λ more. Ok (contents ∷ more)

-- No part where no line is left, and else what is read.
abbrev pub where_lines : List (List ℕ) → Result (List ContentsForm) PartedFault → Result (List ContentsForm) PartedFault
where_lines [] read = Ok []
where_lines (line ∷ more) read = read

-- Parts up to the last line, but so many at most, that are numbered from `part` on and stand behind
-- parts of so many lines.
unfoldable pub parts_from : List Field → Query → (most part before : ℕ) → Stream → Result (List ContentsForm) PartedFault
parts_from fields q zero part before s = Ok []
parts_from fields q (suc most) part before s = where_lines s.left (do
  x ← with_fault (in_part part) (part_at fields q before s)
  behind_part x.0 (parts_from fields q most (part + 1) (before + x.0.lines) x.1))

-- The parts that these lines are, of which there is one at least. A part has more than one line, so
-- that there are no more parts than lines.
abbrev pub parts_at : List Field → Query → List (List ℕ) → Result (List ContentsForm) PartedFault
parts_at fields q [] = Err (record { part = 1; line = 1; kind = no_part })
parts_at fields q (line ∷ more) = parts_from fields q (length (line ∷ more)) 1 0 (record { left = line ∷ more; place = 0 })
