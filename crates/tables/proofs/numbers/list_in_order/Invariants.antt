use Rattle.std.proofs.Common.{◌≡◌, ◌+◌, ◌++◌, All, map}
use Rattle.tables.specs.Notes.{IsWellNumbered, line_count, note_in, notes_in, refused_lines_from}
use Rattle.tables.proofs.numbers.list_in_order.Given as goal

-- the refused lines so far and those that are left are all, and so are the lines that are counted
abbrev pub invariant-loop-note : goal.invariant-loop-note
invariant-loop-note l = record {
  numbered : l.list.items ++ refused_lines_from l.before (map note_in l.note-iterator.rest.items) ≡ refused_lines_from 0 (notes_in l.fn.notes);
  lines : l.before + line_count (map note_in l.note-iterator.rest.items) ≡ line_count (notes_in l.fn.notes);
  each : All IsWellNumbered (map note_in l.note-iterator.rest.items);
}
