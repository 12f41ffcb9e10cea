-- What is noted of a piece beside its groups.
use Rattle.std.specs.Prelude.{◌≡◌, ℕ, ◌+◌, List, ◌++◌, map}
use Rattle.std.specs.List.Sorted.{IsNonDecreasingBy}
use Rattle.semantics.specs.declared.line_fault.LineFault.{LineFault}
use Rattle.semantics.specs.Lines.{lines}
use Rattle.group_tables.specs.Bags.{SameBag}
use Rattle.tables.specs.Notes.{Noted, refused_lines_from}

-- The lines are the refused lines of the notes, numbered in an order of these in which their
-- indexes do not fall
pub record AreLinesOf (notes : List Noted) (lines : List (ℕ × LineFault)) : Type 0 where
  pub ordered : List Noted
  pub same : SameBag notes ordered
  pub ascending : IsNonDecreasingBy (λ note. note.index) ordered
  pub numbered : lines ≡ refused_lines_from 0 ordered

-- Behind a front of lines stand the refused lines of the notes, each by its number among the lines
-- of the notes and so many lines before
pub record AreLinesBehind (before : ℕ) (notes : List Noted) (front all : List (ℕ × LineFault)) : Type 0 where
  pub lines : List (ℕ × LineFault)
  pub of_notes : AreLinesOf notes lines
  pub behind : all ≡ front ++ map (λ line. (before + line.0, line.1)) lines
