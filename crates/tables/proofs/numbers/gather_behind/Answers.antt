use Rattle.std.proofs.Common.{refl, ap, ◌∙◌, ◌++◌, arith}
use Rattle.std.proofs.lemmas.Result.{on_ok_weaker}
use Rattle.tables.specs.Notes.{notes_in, refused_lines_from}
use Rattle.tables.proofs.Following.{numbered-behind}
use Rattle.tables.proofs.InOrder.{count-sorted, lines-sorted, well-sorted}
use Rattle.tables.proofs.numbers.gather_behind.Goals as goal

pub put_all_behind-requires-clause-few : goal.put_all_behind-requires-clause-few
put_all_behind-requires-clause-few c = omega (arith, c.requires.few, count-sorted c.args.notes.items c.sort_by_index-notes.result.items c.sort_by_index-notes.ensures.permutation)

pub put_all_behind-requires-clause-numbered : goal.put_all_behind-requires-clause-numbered
put_all_behind-requires-clause-numbered c = well-sorted c.args.notes.items c.sort_by_index-notes.result.items c.sort_by_index-notes.ensures.permutation c.requires.numbered

pub returns : goal.returns
returns c = on_ok_weaker c.put_all_behind.result (λ is. record {
  lines = refused_lines_from 0 (notes_in c.sort_by_index-notes.result);
  of_notes = lines-sorted c.args.notes.items c.sort_by_index-notes.result.items (refused_lines_from 0 (notes_in c.sort_by_index-notes.result))
      c.sort_by_index-notes.ensures.permutation c.sort_by_index-notes.ensures.ascending refl;
  behind = is ∙ ap (λ ls. c.args.gathered.now ++ ls) (numbered-behind c.args.before (notes_in c.sort_by_index-notes.result));
}) c.put_all_behind.ensures
