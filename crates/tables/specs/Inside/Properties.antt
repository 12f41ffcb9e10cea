-- What is known of a table of groups and kept where it is rolled up.
use Rattle.std.specs.Prelude.{⊤, Bool, ℕ, List, map}
use Rattle.std.specs.List.{AllZip}
use Rattle.std.specs.declared.alloc.Global.{Global}
use Rattle.std.specs.declared.vec.Vec.{Vec}
use Rattle.query_resolve.specs.declared.function.FilteredFunction.{FilteredFunction}
use Rattle.group_tables.specs.Functions.{aggregates_of}
use Rattle.group_tables.specs.GroupSummaries.{group_summary_in}
use Rattle.group_tables.specs.declared.group.Group.{Group}
use Rattle.group_tables.specs.Table.{Contents, IsCounted, IsTableUnder}
use Rattle.group_tables.specs.Typed.{AreOfTypes, HaveColumns, IsTypedTable}
use Rattle.semantics.specs.Columns.{Field}
use Rattle.semantics.specs.Groups.{Record}
use Rattle.tables.specs.Inside.Sets.{AreGroupsOfSet}

-- A table is that of some records, where the filters keep this; or its groups have the types of
-- some columns; or they have at most so many records together.
pub data Property : Type 0 where
  of_records : List (Record → Bool) → List Record → Property
  of_types : List Field → Property
  of_at_most : ℕ → Property

-- a table under a grouping set has it, for set functions whose FILTERs are given by their indexes
abbrev pub HasProperty : Property → List ℕ → List FilteredFunction → Contents → Type 0
HasProperty (of_records filters rows) set functions table = IsTableUnder set functions filters table rows
HasProperty (of_types fields) set functions table = HaveColumns fields functions × IsTypedTable fields set functions table
HasProperty (of_at_most most) set functions table = IsCounted most functions table

-- What it says of the groups of such a table: that they are those of the records, or that they have
-- the types
abbrev pub AreGroupsWith : Property → List FilteredFunction → List ℕ → List Group → Type 0
AreGroupsWith (of_records filters rows) functions set groups = AreGroupsOfSet set (aggregates_of filters functions) groups rows
AreGroupsWith (of_types fields) functions set groups = AreOfTypes fields set functions (map group_summary_in groups)
AreGroupsWith (of_at_most most) functions set groups = ⊤

-- So it is with the groups of each set of a list.
abbrev pub AreGroupsOf : Property → List FilteredFunction → List (List ℕ) → List (Vec Group Global) → Type 0
AreGroupsOf property functions sets groups = AllZip (λ set (of_set : Vec Group Global). AreGroupsWith property functions set of_set.items) sets groups
