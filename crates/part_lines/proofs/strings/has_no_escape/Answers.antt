use Rattle.std.proofs.Common.{sym, ap, ◌∙◌}
use Rattle.std.specs.List.{list_all}
use Rattle.json.specs.Run.{is_plain}
use Rattle.part_lines.proofs.Escapes.{escape-plain}
use Rattle.part_lines.proofs.strings.has_no_escape.Goals as goal

pub returns : goal.returns
returns c plain =
    let is = c.as_bytes.ensures.value in
    escape-plain c.args.text.now (ap (list_all is_plain) (sym is) ∙ sym c.is_plain.ensures ∙ plain)
