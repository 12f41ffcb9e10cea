use Rattle.std.proofs.Common.{[], ◌∷◌}
use Rattle.semantics.specs.Lines.{line_feed}
use Rattle.part_lines.proofs.Cut.{but_behind, on_err}
use Rattle.part_lines.proofs.writer.push_line.Goals as goal

pub returns-in_err-push-clause-front : goal.returns-in_err-push-clause-front
returns-in_err-push-clause-front c =
    on_err c.from_residual-in_err-push.result
    (but_behind c.args.text.now.items c.args.line.now (line_feed ∷ []) c.extend_from_slice.new.self.items c.push.new.self.items c.in_ok-extend_from_slice.ensures.items c.in_err-push.ensures.items)
