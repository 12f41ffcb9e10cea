use Rattle.std.proofs.Common.{◌-◌, ◌++◌, ◌≤◌, drop, take, sym, ◌∙◌, arith}
use Rattle.std.proofs.lemmas.Option.{IfSome_then}
use Rattle.lines_json.proofs.PartsAt.{closed-at, longer_string, plain-at}
use Rattle.lines_json.proofs.strings.string_end.Goals as goal

pub returns-in-34 : goal.returns-in-34
returns-in-34 c =
    let text = c.args.text.now in
    let from = c.args.from in
    let stop = c.plain_end-stop in
    let bytes = take (stop.result - from) (drop from text) in
    (bytes, closed-at text from stop.result bytes (omega (arith, stop.ensures.value)) (sym c.byte_at.ensures ∙ c.in-34.is) (plain-at text from stop.result stop.ensures.value))

pub returns-in-92 : goal.returns-in-92
returns-in-92 c =
    let text = c.args.text.now in
    let from = c.args.from in
    let stop = c.plain_end-stop in
    let bytes = take (stop.result - from) (drop from text) in
    let later : from ≤ stop.result = omega (arith, stop.ensures.value) in
    IfSome_then c.escaped_string_end.result c.escaped_string_end.ensures (λ quote s. (bytes ++ s.0, longer_string text from stop.result quote bytes (s.0) later (plain-at text from stop.result stop.ensures.value) (s.1)))
