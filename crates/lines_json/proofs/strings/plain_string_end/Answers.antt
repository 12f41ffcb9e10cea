use Rattle.std.proofs.Common.{arith, take, drop, ◌-◌}
use Rattle.lines_json.proofs.PartsAt.{closed-at, plain-at}
use Rattle.lines_json.proofs.strings.plain_string_end.Goals as goal

pub returns-then-byte_at-eq34 : goal.returns-then-byte_at-eq34
returns-then-byte_at-eq34 c =
    let text = c.args.text.now in
    let from = c.args.from in
    let stop = c.plain_end-stop in
    closed-at text from stop.result (take (stop.result - from) (drop from text)) (omega (arith, stop.ensures.value)) (omega (arith, c.byte_at.ensures)) (plain-at text from stop.result stop.ensures.value)
