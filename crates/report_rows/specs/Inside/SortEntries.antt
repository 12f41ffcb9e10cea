-- Rows beside the sort keys by which they are put in order.
use Rattle.std.specs.Prelude.{◌≡◌, ℕ, suc, ◌^◌, ◌<◌, ◌==◌, Bool, true, false, ◌&&◌, ◌||◌, not, if◌then◌else◌, List, ◌∷◌, ◌++◌, drop, length, map, slice_get, slice_index_or, []}
use Rattle.std.specs.Option.{option_map_or}
use Rattle.std.specs.Cmp.Lexicographic.{slice_cmp}
use Rattle.std.specs.Ordering.{nat_cmp, ordering_then}
use Rattle.std.specs.declared.cmp.Ordering.{Ordering}
use Rattle.std.specs.declared.cmp.Ordering.TheVariants.{Equal}
use Rattle.std.specs.Global.{Vec}
use Rattle.std.specs.List.{AllByRecursion, flat_map}
use Rattle.std.specs.List.Sorted.{IsPermutation}
use Rattle.std.specs.declared.alloc.AllocError.{AllocError}
use Rattle.std.specs.declared.result.Result.{Result}
use Rattle.semantics.specs.Aggregates.{same_value}
use Rattle.semantics.specs.Values.{Datum, null, value_order}
use Rattle.semantics.specs.Columns.{Field}
use Rattle.semantics.specs.Syntax.{SortKey, Query}
use Rattle.semantics.specs.Sets.{sets_of}
use Rattle.semantics.specs.ResultRows.{ResultRow, set_of}
use Rattle.semantics.specs.Rows.{cell_value}
use Rattle.query_ast.specs.Syntax.{key_form}
use Rattle.values.specs.Datum.{data_of, datum_of}
use Rattle.sort_keys.specs.Codes.{IsCodable, index_code, key_code, values_code}
use Rattle.sort_keys.specs.SortKeys.{SortParts, key_parts, parts_of, parts_order}
use Rattle.group_tables.specs.declared.group.Group.{Group}
use Rattle.group_tables.specs.Cells.{summary_of}
use Rattle.group_tables.specs.GroupRows.{row_of}
use Rattle.report_rows.specs.declared.coded_key.CodedKey.{CodedKey}
use Rattle.report_rows.specs.declared.sort_entry.SortEntry.{SortEntry}
use Rattle.semantics.specs.Order.{row_order, grouping_values, compare_by_key, compare_by_keys}
use Rattle.report_rows.specs.declared.source.ValueSource.{ValueSource}
use Rattle.report_rows.specs.declared.source.ValueSource.TheVariants.{KeyAt, CellAt, Always}
use Rattle.report_rows.specs.Sources.{shown_at}
use Rattle.report_rows.specs.Parts.{AreOfParts}

-- ---- values

-- The value that the row of a group has at a source; an average is no single value, and is NULL.
abbrev pub value_at_source : Group → ValueSource → Datum
value_at_source group source = cell_value (shown_at (data_of group.key.items) (map summary_of group.cells.items) source)

-- The same, apart from where the group lies in memory.
abbrev pub value_there : ResultRow → ValueSource → Datum
value_there row source = cell_value (shown_at row.1.key row.1.cells source)

-- ---- keys beside where rows have their values

-- a key of ORDER BY, and where the rows of each grouping set have its value, apart from where they
-- lie in memory
abbrev pub CodedForm : Type 0
CodedForm = SortKey × List ValueSource

abbrev pub coded_form : CodedKey → CodedForm
coded_form coded = (key_form coded.key.now, coded.sources.items)

-- The value that a row has where its grouping set has that of the key, and NULL where the set has
-- nothing
abbrev pub coded_value : ResultRow → CodedForm → Datum
coded_value row c = slice_index_or (map (value_there row) c.1) row.0 null

-- How two rows stand to each other by the values that they have there: as under the first key that
-- tells them apart
abbrev pub under_coded : List CodedForm → ResultRow → ResultRow → Ordering
under_coded [] x y = Equal
under_coded (c ∷ cs) x y = ordering_then (compare_by_key c.0 (coded_value x c) (coded_value y c)) (under_coded cs x y)

-- ---- the code of a row

-- The code of the value of a key for a row.
abbrev pub coded_code : ResultRow → CodedForm → List ℕ
coded_code row c = key_code c.0 (coded_value row c)

-- Those of keys, one after the other.
abbrev pub keys_code : ResultRow → List CodedForm → List ℕ
keys_code row cs = flat_map (coded_code row) cs

-- The code by which a row is put in order: those of its values for keys, then that of the index of
-- its grouping set, and then those of the values of its key
abbrev pub row_code : List CodedForm → ResultRow → List ℕ
row_code cs row = keys_code row cs ++ (index_code row.0 ++ values_code row.1.key)

-- The values of a row for keys have codes of their own.
abbrev pub AreCodable : ResultRow → List CodedForm → Type 0
AreCodable row cs = AllByRecursion (λ c. IsCodable (coded_value row c)) cs

-- So have all that the code of a row is of.
pub record IsCodableRow (cs : List CodedForm) (row : ResultRow) : Type 0 where
  pub values : AreCodable row cs
  pub index : row.0 < 2 ^ 64
  pub key : AllByRecursion IsCodable row.1.key

-- ---- keys that have the values of an earlier one

-- What is there is the value at this place of a group's key.
abbrev pub is_key_at : ℕ → ValueSource → Bool
is_key_at place (KeyAt at) = at == place
is_key_at place (CellAt at) = false
is_key_at place (Always value) = false

-- What is there is the cell at this place.
abbrev pub is_cell_at : ℕ → ValueSource → Bool
is_cell_at place (KeyAt at) = false
is_cell_at place (CellAt at) = at == place
is_cell_at place (Always value) = false

-- What is there is this value for all rows.
abbrev pub is_always : Datum → ValueSource → Bool
is_always d (KeyAt at) = false
is_always d (CellAt at) = false
is_always d (Always value) = same_value d (datum_of value)

-- Two sources are the same.
abbrev pub is_same_source : ValueSource → ValueSource → Bool
is_same_source (KeyAt place) other = is_key_at place other
is_same_source (CellAt place) other = is_cell_at place other
is_same_source (Always value) other = is_always (datum_of value) other

-- And so are these, one by one.
abbrev pub are_same_sources : List ValueSource → List ValueSource → Bool
are_same_sources [] [] = true
are_same_sources [] (b ∷ others) = false
are_same_sources (a ∷ more) [] = false
are_same_sources (a ∷ more) (b ∷ others) = is_same_source a b && are_same_sources more others

-- Rows have their values for one of the keys at these sources.
abbrev pub is_repeated : List CodedForm → List ValueSource → Bool
is_repeated [] sources = false
is_repeated (c ∷ cs) sources = are_same_sources c.1 sources || is_repeated cs sources

-- Keys, and one behind them unless it has the values of one of them.
abbrev pub with_key : List CodedForm → CodedForm → List CodedForm
with_key cs c = if is_repeated cs c.1 then cs else cs ++ c ∷ []

-- The keys tell the rows of grouping sets apart as these keys of ORDER BY do.
abbrev pub AreTelling : List CodedForm → List SortKey → List Field → Query → Type 0
AreTelling cs ks fields t = (x y : ResultRow) → x.0 < length (sets_of fields t) → y.0 < length (sets_of fields t) → under_coded cs x y ≡ compare_by_keys fields t ks x y

-- ---- keys that say what the group's key says

-- The first of the sources is the value at this place of a group's key.
abbrev pub is_first_at : ℕ → List ValueSource → Bool
is_first_at place sources = option_map_or (is_key_at place) (slice_get sources 0) false

-- a key is default, ascending with NULL last, and the rows of the first grouping set have its value
-- at this place of a group's key
abbrev pub is_default_at : ℕ → CodedForm → Bool
is_default_at place c = not c.0.descending && (not c.0.nulls_first && is_first_at place c.1)

-- Keys are the default order of the values of a group's key from a place on.
abbrev pub are_default_from : ℕ → List CodedForm → Bool
are_default_from place [] = true
are_default_from place (c ∷ cs) = is_default_at place c && are_default_from (suc place) cs

-- The keys behind so many of them are the beginning of the default order.
abbrev pub are_default_behind : ℕ → List CodedForm → Bool
are_default_behind count cs = are_default_from 0 (drop count cs)

-- The index of a row is that of a grouping set, and its key has a value for each column of the set.
abbrev pub HasKeyOf : List Field → Query → ResultRow → Type 0
HasKeyOf fields t row = (row.0 < length (sets_of fields t)) × (length row.1.key ≡ length (set_of fields t row))

-- How two rows stand to each other under keys, then by the index of their grouping set, and in one
-- set by what they show for the grouping columns
abbrev pub before_under : List CodedForm → List Field → Query → ResultRow → ResultRow → Ordering
before_under cs fields t x y = ordering_then (under_coded cs x y) (ordering_then (nat_cmp x.0 y.0) (slice_cmp value_order (grouping_values fields t x) (grouping_values fields t y)))

-- The keys are enough: under them rows stand to each other as under all of ORDER BY.
abbrev pub AreEnough : List CodedForm → List Field → Query → Type 0
AreEnough cs fields t = (x y : ResultRow) → HasKeyOf fields t x → HasKeyOf fields t y → before_under cs fields t x y ≡ row_order fields t x y

-- ---- entries

-- An entry apart from where it lies in memory: the code of a row in parts, and the row.
abbrev pub EntryForm : Type 0
EntryForm = SortParts × ResultRow

-- The entry of a row, where these keys stand in its code.
abbrev pub entry_at : List CodedForm → ResultRow → EntryForm
entry_at cs row = (parts_of (row_code cs row), row)

-- How two entries stand to each other: as their codes do.
abbrev pub by_code : EntryForm → EntryForm → Ordering
by_code x y = parts_order x.0 y.0

-- The form of an entry of the code.
abbrev pub entry_form : SortEntry → EntryForm
entry_form entry = (key_parts entry.key, row_of entry.found.now)

-- Entries are those of rows, in whatever order.
pub record AreEntriesOf (cs : List CodedForm) (rows : List ResultRow) (made : List SortEntry) : Type 0 where
  pub codable : AllByRecursion (IsCodableRow cs) rows
  pub entries : IsPermutation (map (entry_at cs) rows) (map entry_form made)

-- Each list that was made has those of its part of the rows.
abbrev pub AreEntriesOfParts : List CodedForm → ℕ → List ResultRow → List (Result (Vec SortEntry) AllocError) → Type 0
AreEntriesOfParts cs size rows parts = AreOfParts (AreEntriesOf cs) size rows parts
