use Rattle.std.proofs.Common.{◌≡◌, ◌<◌, ◌∷◌, [], List, All, length, map, remove, slice_index_or, sym, ap, subst, ◌∙◌, arith}
use Rattle.std.proofs.lemmas.Bool.Decides.{nat_tests}
use Rattle.std.proofs.lemmas.List.Elements.{All-tail}
use Rattle.std.proofs.lemmas.List.Sums.{sum_by-cons}
use Rattle.tables.specs.declared.piece_refusals.PieceRefusals.{PieceRefusals}
use Rattle.tables.specs.Notes.{IsWellNumbered, Noted, line_count, note_in, refused_lines_from}
use Rattle.tables.proofs.Following.{first-numbered}
use Rattle.tables.proofs.numbers.gather_in_order.Goals as goal

-- the notes are the first one and those that are left
parted : (notes rest : List PieceRefusals) (first : PieceRefusals) → 0 < length notes → first ≡ slice_index_or notes 0 first → rest ≡ remove notes 0 → notes ≡ first ∷ rest
parted [] rest first some is left = absurd (omega arith)
parted (note ∷ notes) rest first some is left = ap (λ n. n ∷ notes) (sym is) ∙ ap (λ ns. first ∷ ns) (sym left)

pub put_all_behind-requires-clause-few : goal.put_all_behind-requires-clause-few
put_all_behind-requires-clause-few c =
    let rest = c.remove-first.new.self.items in
    let first = c.remove-first.result in
    let e = parted c.args.notes.items rest first (grind (arith, nat_tests, c.is_empty.ensures, c.if-is_empty.false)) c.remove-first.ensures.value c.remove-first.ensures.items in
    let sum = ap (λ (ns : List PieceRefusals). line_count (map note_in ns)) e ∙ sum_by-cons (λ (n : Noted). n.lines) (note_in first) (map note_in rest) in
    omega (arith, sum, c.requires.few)

pub put_all_behind-requires-clause-numbered : goal.put_all_behind-requires-clause-numbered
put_all_behind-requires-clause-numbered c =
    let rest = c.remove-first.new.self.items in
    let first = c.remove-first.result in
    let e = parted c.args.notes.items rest first (grind (arith, nat_tests, c.is_empty.ensures, c.if-is_empty.false)) c.remove-first.ensures.value c.remove-first.ensures.items in
    All-tail IsWellNumbered (note_in first) (map note_in rest) (subst (λ (ns : List PieceRefusals). All IsWellNumbered (map note_in ns)) e c.requires.numbered)

pub returns : goal.returns
returns c =
    let rest = c.remove-first.new.self.items in
    let first = c.remove-first.result in
    let e = parted c.args.notes.items rest first (grind (arith, nat_tests, c.is_empty.ensures, c.if-is_empty.false)) c.remove-first.ensures.value c.remove-first.ensures.items in
    c.in_ok-put_all_behind.ensures ∙ sym (first-numbered (note_in first) (map note_in rest)) ∙ ap (λ (ns : List PieceRefusals). refused_lines_from 0 (map note_in ns)) (sym e)
