-- What a partial result and the groups of an input hold, apart from where it lies in memory.
use Rattle.std.specs.Prelude.{ℕ, List}
use Rattle.semantics.specs.declared.line_fault.LineFault.{LineFault}
use Rattle.query_resolve.specs.declared.function.FilteredFunction.{FilteredFunction}
use Rattle.group_tables.specs.Table.{Contents}
use Rattle.semantics.specs.ResultRows.{ResultRow}
use Rattle.tables.specs.Notes.{Noted}

-- A partial result: its grouping sets, its set functions, the canonical texts of their filters, the
-- groups of its table, how many lines and refused lines it counts, and the notes of its pieces, in
-- their order.
pub record PartialState : Type 0 where
  pub sets : List (List ℕ)
  pub functions : List FilteredFunction
  pub filters : List (List ℕ)
  pub table : Contents
  pub lines : ℕ
  pub refused : ℕ
  pub notes : List Noted

-- The groups of an input, each beside the index of its grouping set, and the refused lines by their
-- numbers.
pub record GroupsState : Type 0 where
  pub found : List ResultRow
  pub refused : List (ℕ × LineFault)
