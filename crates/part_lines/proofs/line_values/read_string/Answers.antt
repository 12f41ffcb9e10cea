use Rattle.std.proofs.Common.{◌≡◌, sym, ap, ◌∙◌}
use Rattle.std.specs.String.{string_bytes}
use Rattle.json.specs.Print.{quoted}
use Rattle.part_lines.proofs.Spellings.{utf8-held}
use Rattle.part_lines.proofs.line_values.read_string.Goals as goal

pub returns-in_ok-from_str-in-Some : goal.returns-in_ok-from_str-in-Some
returns-in_ok-from_str-in-Some c =
    let copied : string_bytes c.in_ok-from_str-in-Some.field-0 ≡ c.in-Some.string.now = c.in_ok-from_str-in-Some.ensures.ok in (
      utf8-held (string_bytes c.in_ok-from_str-in-Some.field-0) c.in_ok-from_str-in-Some.field-0.ok,
      c.in-Some.ensures ∙ ap quoted (sym copied),
    )
