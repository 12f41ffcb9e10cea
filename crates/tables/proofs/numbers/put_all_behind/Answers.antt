use Rattle.std.proofs.Common.{◌+◌, ◌++◌}
use Rattle.tables.specs.Notes.{line_count, notes_in, refused_lines_from}
use Rattle.tables.proofs.InOrder.{counted-next, fits-next, lines-next, well-rest}
use Rattle.tables.proofs.numbers.put_all_behind.Goals as goal

pub put_behind-requires : goal.put_behind-requires
put_behind-requires c =
    let i = c.loop-note.invariant in
    fits-next c.loop-note.before (c.args.before + line_count (notes_in c.args.notes)) c.loop-note.note-iterator.rest.items c.next.new.self.rest.items c.in-Some.note c.in-Some.ensures.steps.0 i.lines c.requires.few i.each

pub loop-note-preserved : goal.loop-note-preserved
loop-note-preserved c =
    let old = c.loop-note.note-iterator.rest.items in
    let rest = c.next.new.self.rest.items in
    let note = c.in-Some.note in
    let e = c.in-Some.ensures.steps.0 in
    let i = c.loop-note.invariant in
    record {
      numbered = lines-next c.loop-note.before c.loop-note.gathered c.put_behind.new.self (c.args.gathered.now ++ refused_lines_from c.args.before (notes_in c.args.notes)) old rest note e c.in_ok-put_behind.ensures i.numbered;
      lines = counted-next c.loop-note.before (c.args.before + line_count (notes_in c.args.notes)) old rest note e i.lines;
      each = well-rest old rest note e i.each;
    }
