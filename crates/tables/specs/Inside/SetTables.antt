-- Tables of grouping sets, rolled out of one another.
use Rattle.std.specs.Prelude.{◌≡◌, ◌≢◌, ◌<◌, ℕ, List, Option, Some, All, IfSome, length, map, slice_index_or}
use Rattle.std.specs.declared.alloc.Global.{Global}
use Rattle.std.specs.declared.vec.Vec.{Vec}
use Rattle.query_resolve.specs.declared.function.FilteredFunction.{FilteredFunction}
use Rattle.group_tables.specs.declared.group.Group.{Group}
use Rattle.group_tables.specs.Rolled.{AreAmong}
use Rattle.group_tables.specs.Table.{Contents}
use Rattle.tables.specs.declared.roll.Roll.{Roll}
use Rattle.tables.specs.declared.roll.SetTable.{SetTable}
use Rattle.tables.specs.Inside.Properties.{AreGroupsOf, AreGroupsWith, HasProperty, Property}

-- Each table has a property, under its set.
abbrev pub HaveProperty : Property → List FilteredFunction → List SetTable → Type 0
HaveProperty property functions tables = All (λ (table : SetTable). HasProperty property table.set.items functions table.table) tables

-- Tables are of the records that one table is of, which is under a finer set: whatever records
-- those are, and whatever the filters keep. So they are of the types and of the number of records
-- of that one.
abbrev pub AreRollsOf : List ℕ → List FilteredFunction → Contents → List SetTable → Type 0
AreRollsOf finer functions table tables = (property : Property) → HasProperty property finer functions table → HaveProperty property functions tables

-- So is one table, under a set.
abbrev pub IsRolledOutOf : List FilteredFunction → SetTable → List ℕ → Contents → Type 0
IsRolledOutOf functions finer set table = (property : Property) → HasProperty property finer.set.items functions finer.table → HasProperty property set functions table

-- ---- rolls

-- The set whose table a roll is to make.
abbrev pub set_of_roll : Roll → List ℕ
set_of_roll roll = roll.set.items

-- The roll is of the same set as before, which stands at the same index; where it has a table, that
-- is the table of the set over the records whose table the finer one is
abbrev pub HasRolled : List FilteredFunction → SetTable → Roll → Roll → Type 0
HasRolled functions finer old new = (new.set.items ≡ old.set.items) × (new.index ≡ old.index) × IfSome new.table (IsRolledOutOf functions finer old.set.items)

-- So is each roll of a list.
abbrev pub AreRolled : List FilteredFunction → SetTable → List Roll → List Roll → Type 0
AreRolled functions finer olds news = (i : ℕ) (d : Roll) → i < length olds → HasRolled functions finer (slice_index_or olds i d) (slice_index_or news i d)

-- Each roll that has a table has a property, under its set.
abbrev pub HavePropertyWhereMade : Property → List FilteredFunction → List Roll → Type 0
HavePropertyWhereMade property functions rolls = All (λ (roll : Roll). IfSome roll.table (HasProperty property roll.set.items functions)) rolls

-- ---- sets and their indexes

-- a grouping set, and its index in the list of all, if it stands there
abbrev pub ListedSet : Type 0
ListedSet = Option ℕ × List ℕ

abbrev pub listed_roll : Roll → ListedSet
listed_roll roll = (Some roll.index, roll.set.items)

abbrev pub listed_table : SetTable → ListedSet
listed_table table = (table.index, table.set.items)

-- The sets of rolls.
abbrev pub sets_of_rolls : List Roll → List ListedSet
sets_of_rolls rolls = map listed_roll rolls

-- The sets of tables.
abbrev pub sets_of_tables : List SetTable → List ListedSet
sets_of_tables tables = map listed_table tables

-- Where the set has an index, it stands there in the list.
abbrev pub StandsAtIndex : List (Vec ℕ Global) → ListedSet → Type 0
StandsAtIndex sets set = (index : ℕ) (other : Vec ℕ Global) → set.0 ≡ Some index → (index < length sets) × ((slice_index_or sets index other).items ≡ set.1)

-- None of the sets has the index.
abbrev pub NoneHasIndex : ℕ → List ListedSet → Type 0
NoneHasIndex index sets = All (λ (set : ListedSet). set.0 ≢ Some index) sets

-- One of some sets has all columns of the set.
abbrev pub HasFiner : List ℕ → List ListedSet → Type 0
HasFiner set sets = All (λ (other : ListedSet). AreAmong set other.1 → ⊥) sets → ⊥

-- So it is with the set of each roll.
abbrev pub HaveFiner : List Roll → List ListedSet → Type 0
HaveFiner rolls sets = All (λ (roll : Roll). HasFiner roll.set.items sets) rolls

-- ---- groups

-- Of lists of groups, those at another index than that of the table's set stay.
abbrev pub KeepsOthers : SetTable → List (Vec Group Global) → List (Vec Group Global) → Type 0
KeepsOthers table olds news = (index : ℕ) (other : Vec Group Global) → table.index ≢ Some index → slice_index_or news index other ≡ slice_index_or olds index other

-- Where the table's set has an index, the groups that stand there are those of the table.
abbrev pub HasGroupsOf : SetTable → List (Vec Group Global) → Type 0
HasGroupsOf table groups = (index : ℕ) (other : Vec Group Global) (property : Property) (functions : List FilteredFunction) → table.index ≡ Some index
    → HasProperty property table.set.items functions table.table → AreGroupsWith property functions table.set.items (slice_index_or groups index other).items

-- For each set of a list there are its groups of the records that one table is of, which is under a
-- finer set; they have the types that the table has
abbrev pub AreGroupsOfRolls : List ℕ → List FilteredFunction → Contents → List (List ℕ) → List (Vec Group Global) → Type 0
AreGroupsOfRolls finer functions table sets groups =
    (property : Property) → HasProperty property finer functions table → AreGroupsOf property functions sets groups
