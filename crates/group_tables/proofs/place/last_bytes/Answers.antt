use Rattle.std.proofs.Common.{◌<◌, ◌-◌, ◌∙◌, length, replicate, arith}
use Rattle.group_tables.proofs.Hashes.{last-long, last-short, put-last}
use Rattle.group_tables.proofs.place.last_bytes.Goals as goal

pub returns-in-Some : goal.returns-in-Some
returns-in-Some c = c.in-Some.ensures.cases.1.same ∙ last-long c.args.code.now c.in-Some.ensures.cases.0

pub returns : goal.returns
returns c =
    let code = c.args.code.now in
    let short : length code < 16 = c.in_default.ensures.cases in
    put-last (16 - length code) (16 - (16 - length code)) (replicate 16 0) c.copy_from_slice.new.self code (omega (arith, short)) c.copy_from_slice.ensures.after
    ∙ last-short code short
