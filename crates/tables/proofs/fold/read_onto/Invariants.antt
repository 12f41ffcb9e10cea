use Rattle.std.proofs.Common.{List}
use Rattle.semantics.specs.Lines.{lines}
use Rattle.semantics.specs.Groups.{Record}
use Rattle.tables.specs.Inside.Folding.{IsTableOfKept}
use Rattle.tables.proofs.Reading.{HasReadSome}
use Rattle.tables.proofs.fold.read_onto.Given as goal

-- behind whatever records the table had when the loop began, some lines of the piece have been read
abbrev pub invariant-loop-line : goal.invariant-loop-line
invariant-loop-line l = (before : List Record) → IsTableOfKept l.plan l.fn.table before
    → HasReadSome l.plan before l.folding l.line-iterator (lines l.fn.piece)
