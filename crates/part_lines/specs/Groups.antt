-- The groups of a part, and the values that stand for them.
use Rattle.std.specs.List.{AllByRecursion, AllZip}
use Rattle.std.specs.Prelude.{◌≡◌, ⊤, List, length}
use Rattle.semantics.specs.declared.kind.Kind.{Kind}
use Rattle.semantics.specs.GroupStates.{EntryForm, FunctionState, rows, counted, summed, extreme, collected}
use Rattle.part_lines.specs.declared.shape.GroupShape.{GroupShape}
use Rattle.part_lines.specs.declared.shape.StateKind.{StateKind}
use Rattle.part_lines.specs.declared.shape.StateKind.TheVariants as kind

-- What a query asks of its groups: of which type each grouping column is, and which state each set
-- function has.
pub record ShapeForm : Type 0 where
  pub columns : List Kind
  pub states : List StateKind

-- The shape that a value of the code is.
abbrev pub shape_of : GroupShape → ShapeForm
shape_of shape = record { columns = shape.columns.items; states = shape.states.items }

-- A state of this kind, of whatever values.
abbrev pub HasKind : StateKind → FunctionState → Type 0
HasKind kind.Rows rows = ⊤
HasKind kind.Count (counted n) = ⊤
HasKind kind.Sum (summed s n) = ⊤
HasKind (kind.Extreme k) (extreme d) = ⊤
HasKind (kind.Distinct k) (collected ds) = ⊤
HasKind k s = ⊥

-- A group of the shape, of whatever values: the key has one for each grouping column, and each set
-- function has a state of its kind.
pub record HasShape (shape : ShapeForm) (g : EntryForm) : Type 0 where
  pub key : length g.key ≡ length shape.columns
  pub states : AllZip HasKind shape.states g.states

-- So are all of these groups.
abbrev pub HaveShape : ShapeForm → List EntryForm → Type 0
HaveShape shape gs = AllByRecursion (HasShape shape) gs
