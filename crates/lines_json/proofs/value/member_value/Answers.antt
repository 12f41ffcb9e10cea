use Rattle.std.proofs.Common.{arith}
use Rattle.lines_json.proofs.Nested.{name-at}
use Rattle.lines_json.proofs.value.member_value.Goals as goal

pub returns : goal.returns
returns c =
    let name = c.in_ok-quote.ensures in
    let behind = c.space_end-colon in
    let start = c.space_end in
    name-at c.args.text.now c.args.at c.in_ok-quote.quote behind.result start.result (name.0) (omega (arith, c.byte_at.ensures)) (name.1) behind.ensures.later behind.ensures.same (omega (arith, c.byte_at-2.ensures)) start.ensures.later start.ensures.within start.ensures.same
