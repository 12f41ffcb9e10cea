use Rattle.std.proofs.Common.{◌-◌, ◌++◌, drop, take, sym, ◌∙◌, arith}
use Rattle.std.specs.Char.{encode_utf8}
use Rattle.lines_json.proofs.PartsAt.{closed-at, escape_behind, plain_behind}
use Rattle.lines_json.proofs.strings.escaped_string_end.Goals as goal

pub returns-in-34 : goal.returns-in-34
returns-in-34 c =
    let text = c.args.text.now in
    let from = c.args.from in
    let at = c.escapes.at in
    let so_far = c.escapes.invariant in
    let stop = c.plain_end-stop in
    let bytes = so_far.bytes ++ take (stop.result - at) (drop at text) in (
      bytes,
      closed-at text from stop.result bytes (omega (arith, so_far.later, stop.ensures.value)) (sym c.byte_at.ensures ∙ c.in-34.is)
          (plain_behind text from at stop.result so_far.bytes so_far.part stop.ensures.value),
    )

pub escapes-preserved : goal.escapes-preserved
escapes-preserved c =
    let text = c.args.text.now in
    let from = c.args.from in
    let at = c.escapes.at in
    let so_far = c.escapes.invariant in
    let stop = c.plain_end-stop in
    let escape = c.in_ok-at-in-92.ensures in
    let next = c.in_ok-at-in-92.field-0 in
    let before = so_far.bytes ++ take (stop.result - at) (drop at text) in
    record {
      later = omega (arith, so_far.later, stop.ensures.value, escape.later);
      within = escape.within;
      bytes = before ++ encode_utf8 next.0;
      part = escape_behind text from stop.result next.1 next.0 before (plain_behind text from at stop.result so_far.bytes so_far.part stop.ensures.value) (sym c.byte_at.ensures ∙ c.in-92.is) escape;
    }
