-- What is known of groups that were read, whoever wrote their lines.
use Rattle.std.specs.List.{AllByRecursion, AllZip}
use Rattle.std.specs.Prelude.{◌≡◌, ◌≢◌, ◌*◌, ◌^◌, ◌-◌, ◌≤◌, ⊤, ℕ, ℤ, pos, ◌-ℤ◌, ◌≤ℤ◌, List, ◌∷◌, ◌++◌, length, Option, Some, Ok, IfOk, IfSome, IsTrue, []}
use Rattle.std.specs.declared.cmp.Ordering.{Ordering}
use Rattle.std.specs.declared.cmp.Ordering.TheVariants.{Less}
use Rattle.semantics.specs.Groups.{Key, key_order}
use Rattle.semantics.specs.Records.{Holds, max_line_len}
use Rattle.semantics.specs.Values.{Datum, null, value_order}
use Rattle.semantics.specs.declared.kind.Kind.{Kind}
use Rattle.semantics.specs.GroupStates.{EntryForm, FunctionState, rows, counted, summed, extreme, collected}
use Rattle.part_lines.specs.Texts.{is_storable}
use Rattle.semantics.specs.Parts.{value_text, groups_values}
use Rattle.part_lines.specs.declared.shape.StateKind.{StateKind}
use Rattle.part_lines.specs.declared.shape.StateKind.TheVariants as kind
use Rattle.part_lines.specs.Groups.{ShapeForm}
use Rattle.part_lines.specs.Reading.{Before, Stream, after, behind, can_have_members, groups_at, reading_of}

-- The sum of so many numbers of 64 bits.
abbrev pub IsSumOf : ℕ → ℤ → Type 0
IsSumOf n s = ((pos 0 -ℤ pos (n * 2 ^ 63)) ≤ℤ s) × (s ≤ℤ pos (n * (2 ^ 63 - 1)))

-- Each thing is before the next one.
abbrev pub IsAscending : {X : Type 0} → (X → X → Ordering) → List X → Type 0
IsAscending order [] = ⊤
IsAscending order (x ∷ []) = ⊤
IsAscending order (x ∷ y ∷ more) = (order x y ≡ Less) × IsAscending order (y ∷ more)

-- A thing is above the last one, where there is one.
abbrev pub IsAbove : {X : Type 0} → (X → X → Ordering) → Option X → X → Type 0
IsAbove order last x = IfSome last (λ l. order l x ≡ Less)

-- Different values of a column of this type: not NULL, and each before the next one.
pub record AreDifferentOf (k : Kind) (ds : List Datum) : Type 0 where
  pub held : AllByRecursion (Holds k) ds
  pub known : AllByRecursion (λ d. d ≢ null) ds
  pub ascending : IsAscending value_order ds

-- A state of this kind, of a group of so many members: no more were counted or added, a sum is one
-- of numbers of 64 bits, and values are of their column.
abbrev pub IsStateFor : ℕ → StateKind → FunctionState → Type 0
IsStateFor members kind.Rows rows = ⊤
IsStateFor members kind.Count (counted n) = n ≤ members
IsStateFor members kind.Sum (summed s n) = (n ≤ members) × IsSumOf n s
IsStateFor members (kind.Extreme k) (extreme d) = Holds k d
IsStateFor members (kind.Distinct k) (collected ds) = (length ds ≤ members) × AreDifferentOf k ds
IsStateFor members k s = ⊥

-- So are states of these kinds, one of each.
abbrev pub AreStatesFor : ℕ → List StateKind → List FunctionState → Type 0
AreStatesFor members kinds states = AllZip (IsStateFor members) kinds states

-- A key that has for each of these columns a value that the column holds.
abbrev pub IsKeyFor : List Kind → Key → Type 0
IsKeyFor columns key = AllZip Holds columns key

-- A group of this shape behind the last one, of no more members than are left, and of one at least
-- where it has a key by grouping columns.
pub record IsGroupFor (shape : ShapeForm) (last : Option Key) (left : ℕ) (g : EntryForm) : Type 0 where
  pub key : IsKeyFor shape.columns g.key
  pub above : IsAbove key_order last g.key
  pub members : g.members ≤ left
  pub possible : IsTrue (can_have_members shape.columns g.members)
  pub states : AreStatesFor g.members shape.states g.states

-- ---- what was written

-- Lines are read as these values, one of each, those that are read at all.
abbrev pub AreReadAs : List (List ℕ) → List Datum → Type 0
AreReadAs ls ds = AllZip (λ line d. IfSome (reading_of line) (λ e. e ≡ d)) ls ds

-- Where the next lines are read as those of these groups, and so many groups are read, it is these,
-- and the lines behind them are left.
abbrev pub AreReadAgain : ShapeForm → List EntryForm → Type 0
AreReadAgain shape gs =
    (last : Option Key) (left : ℕ) (s : Stream) (ls rest : List (List ℕ)) → AreReadAs ls (groups_values gs)
    → s.left ≡ ls ++ rest
    → IfOk (groups_at shape (length gs) last left s) (λ read. (read.0 ≡ gs) × (read.1.left ≡ rest))

-- Lines have these values, one of each.
abbrev pub HaveValues : List (List ℕ) → List Datum → Type 0
HaveValues ls ds = AllZip (λ line d. reading_of line ≡ Some d) ls ds

-- A value that a program can hold, and whose text is not longer than a line of an input may be.
abbrev pub IsWritable : Datum → Type 0
IsWritable d = IsTrue (is_storable d) × (length (value_text d) ≤ max_line_len)

-- Groups of this shape, each behind the one before, and of no more members together than are left.
abbrev pub AreGroupsFor : ShapeForm → Before → List EntryForm → Type 0
AreGroupsFor shape before [] = ⊤
AreGroupsFor shape before (g ∷ gs) = IsGroupFor shape before.last before.left g × AreGroupsFor shape (after before g) gs

-- Where the next lines have the values of these groups, these are read, and the lines behind them
-- are left.
abbrev pub AreRead : ShapeForm → Before → List EntryForm → Type 0
AreRead shape before gs =
    (s : Stream) (ls rest : List (List ℕ)) → HaveValues ls (groups_values gs) → s.left ≡ ls ++ rest
    → groups_at shape (length gs) before.last before.left s ≡ Ok (gs, behind (groups_values gs) rest s)
