use Rattle.std.proofs.Common.{◌++◌, ap, ◌∙◌}
use Rattle.std.proofs.lemmas.Result.{on_err_weaker}
use Rattle.part_lines.proofs.Cut.{quoted_front}
use Rattle.part_lines.proofs.writer.push_string.Goals as goal

pub returns-then-has_no_escape-clause-front : goal.returns-then-has_no_escape-clause-front
returns-then-has_no_escape-clause-front c =
    on_err_weaker c.push_line.result
    (quoted_front c.args.text.now.items c.args.string.now _ c.push.new.self.items c.extend_from_slice.new.self.items c.push_line.new.text.items (c.has_no_escape.ensures c.if-has_no_escape.true)
    c.in_ok-push.ensures.items (c.in_ok-extend_from_slice.ensures.items ∙ ap (λ s. c.push.new.self.items ++ s) c.as_bytes.ensures.value))
    c.push_line.ensures.front
