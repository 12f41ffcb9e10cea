use Rattle.std.proofs.Common.{◌≡◌, ◌++◌, sym, ap, subst, ◌∙◌}
use Rattle.std.specs.Iterator.{YieldsFirstBy}
use Rattle.semantics.specs.Lines.{lines}
use Rattle.lines.specs.Checked.{line_bytes, lines_left}
use Rattle.lines.proofs.Blocks.{block_steps}
use Rattle.lines.proofs.utf8.CheckedLinesIterator.next.Goals as goal

pub returns-in-None-clause-steps : goal.returns-in-None-clause-steps
returns-in-None-clause-steps c =
    let rest = c.self.inside.rest.now in
    let block = c.split_piece.result.0.now in
    let behind = c.split_piece.result.1.now in
    let left = c.next-in-None.new.self in
    let none : c.args.self.now ≡ lines rest = sym c.self.view_is ∙ ap (λ ls. ls ++ lines rest) c.in-None.ensures.steps.0 in
    subst (λ ls. YieldsFirstBy line_bytes (λ x. x) ls c.next-in-None.result (lines_left left ++ lines behind)) (sym none)
    (block_steps rest block behind c.next-in-None.result (lines_left left) c.split_piece.ensures.lines c.split_piece.ensures.not_empty
    (subst (λ ls. YieldsFirstBy line_bytes (λ x. x) ls c.next-in-None.result (lines_left left)) c.block_of-self-inside.ensures c.next-in-None.ensures.steps))
