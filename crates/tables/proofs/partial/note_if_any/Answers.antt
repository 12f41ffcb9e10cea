use Rattle.std.proofs.Common.{◌≡◌, ◌<◌, ap, map, sym, ◌∙◌, arith}
use Rattle.std.proofs.lemmas.Bool.Decides.{nat_tests}
use Rattle.std.proofs.lemmas.Result.{IfOk-weaker}
use Rattle.tables.specs.Notes.{note_in}
use Rattle.tables.specs.Partials.{notes_of_one}
use Rattle.tables.proofs.Following.{some-notes}
use Rattle.tables.proofs.partial.note_if_any.Goals as goal

pub returns-then-lines-eq0 : goal.returns-then-lines-eq0
returns-then-lines-eq0 c =
    let none : c.args.lines ≡ 0 = grind (arith, nat_tests, c.if-lines-eq0.true) in
    ap (map note_in) c.new.ensures.items ∙ ap (λ n. notes_of_one n c.args.refused) (sym none)

pub returns : goal.returns
returns c =
    let some : 0 < c.args.lines = grind (arith, nat_tests, c.if-lines-eq0.false) in
    IfOk-weaker c.one_note.result _ _ (λ notes is. ap (map note_in) is ∙ sym (some-notes c.args.lines c.args.refused some)) c.one_note.ensures
