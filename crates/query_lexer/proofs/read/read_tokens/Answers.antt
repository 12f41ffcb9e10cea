use Rattle.std.proofs.Common.{◌≡◌, length, arith, ◌<◌, ◌+◌, ◌-◌, rules, false-eqb, eqb-true, sym}
use Rattle.query_lexer.proofs.Progress.{read_none, read_space, read_token, read_all, read_only, read_fails, read_stops}
use Rattle.query_lexer.proofs.read.read_tokens.Goals as goal

pub loop-rest-init : goal.loop-rest-init
loop-rest-init c = (c.utf8.text, rw (c.new-all.ensures.items, c.new-starts.ensures.items) (read_none c.args.text.now), omega arith)

pub loop-rest-preserved-in-Some : goal.loop-rest-preserved-in-Some
loop-rest-preserved-in-Some c = (search rules, read_space c.args.text.now c.loop-rest.rest.now c.in-Some.left.now c.loop-rest.all.items c.loop-rest.starts.items c.loop-rest.invariant.1 c.in-Some.ensures.exact, omega (arith, c.in-Some.ensures.shorter, c.loop-rest.invariant.2))

pub returns-in_default-2-clause-read : goal.returns-in_default-2-clause-read
returns-in_default-2-clause-read c = λ ks starts s.
    let some : 0 < length c.loop-rest.rest.now = omega (arith, false-eqb (length c.loop-rest.rest.now) 0 c.loop-rest-test.ensures) in
    let none = rw c.in_default-2.is at c.in_ok-next.ensures.exact in
    absurd (read_fails c.args.text.now c.loop-rest.rest.now c.loop-rest.all.items c.loop-rest.starts.items c.loop-rest.invariant.1 some c.in_default.ensures.exact none ks starts s)

pub returns-in_default-2-clause-stops : goal.returns-in_default-2-clause-stops
returns-in_default-2-clause-stops c = λ at e.
    let some : 0 < length c.loop-rest.rest.now = omega (arith, false-eqb (length c.loop-rest.rest.now) 0 c.loop-rest-test.ensures) in
    let none = rw c.in_default-2.is at c.in_ok-next.ensures.exact in
    let same : length c.args.text.now - length c.loop-rest.rest.now ≡ at = cc in
    let place : at + length c.loop-rest.rest.now ≡ length c.args.text.now = omega (arith, same, c.loop-rest.invariant.2) in
    read_stops c.args.text.now c.loop-rest.rest.now c.loop-rest.all.items c.loop-rest.starts.items at c.loop-rest.invariant.1 some c.in_default.ensures.exact none place

pub loop-rest-preserved : goal.loop-rest-preserved
loop-rest-preserved c =
    let found = rw c.in-Some-2.is at c.in_ok-next.ensures.exact in
    let short = rw c.in-Some-2.is at c.in_ok-next.ensures.shorter in
    let place : (length c.args.text.now - length c.loop-rest.rest.now) + length c.loop-rest.rest.now ≡ length c.args.text.now = omega (arith, c.loop-rest.invariant.2) in
    (search rules, rw (c.in_ok-push.ensures.items, c.in_ok-push-2.ensures.items) (read_token c.args.text.now c.loop-rest.rest.now c.in-Some-2.left.now c.loop-rest.all.items c.loop-rest.starts.items c.in-Some-2.next (length c.args.text.now - length c.loop-rest.rest.now) c.loop-rest.invariant.1 c.in_default.ensures.exact found place), omega (arith, short, c.loop-rest.invariant.2))

pub returns-clause-spelled : goal.returns-clause-spelled
returns-clause-spelled c = read_all c.args.text.now c.loop-rest.rest.now c.loop-rest.all.items c.loop-rest.starts.items c.loop-rest.invariant.1 (eqb-true (length c.loop-rest.rest.now) 0 (sym c.loop-rest-test.ensures))

pub returns-clause-read : goal.returns-clause-read
returns-clause-read c = λ ks starts s. read_only c.args.text.now c.loop-rest.rest.now c.loop-rest.all.items c.loop-rest.starts.items c.loop-rest.invariant.1 (eqb-true (length c.loop-rest.rest.now) 0 (sym c.loop-rest-test.ensures)) ks starts s
