use Rattle.std.proofs.Common.{rules, arith, sym, ap, ◌∙◌, ◌+◌, ◌-◌, ◌≡◌, ◌<◌, ◌≤◌, drop, length, length-take, length-drop, slice_index, subst, take}
use Rattle.semantics.specs.Lines.{line_feed}
use Rattle.lines.specs.Pieces.{NoFeedBetween}
use Rattle.lines.proofs.Places.{at_place, ends-skipped, left-skipped, none_between}
use Rattle.lines.proofs.line_buffer.LineBuffer.skip_lines.Goals as goal

pub returns-in-Some-clause-left : goal.returns-in-Some-clause-left
returns-in-Some-clause-left c =
    let held = c.args.self.now in
    let s = c.deref.result.now in
    let n = held.cut + c.args.window - held.cut in
    let place = c.in-Some.place in
    let below : place < n = omega (arith, c.in-Some.ensures.0.high, length-take n (drop held.cut s)) in
    let is : slice_index held.buffer.items (held.cut + place) ≡ line_feed =
    ap (λ l. slice_index l (held.cut + place)) (sym c.deref.ensures.value) ∙ at_place s held.cut n place below c.in-Some.ensures.1 in
    record {
      held = record { feed = λ _. ends-skipped held.buffer.items held.cut place (omega (arith, below, c.requires.window.within, held.inside)) is; long = λ h. cc; full = λ h. cc };
      left = λ rest. left-skipped held.buffer.items rest held.cut place held.filled (omega (arith, below, c.requires.window.short)) (omega (arith, below, c.requires.window.within)) (omega (arith, held.inside)) is;
      filled = search rules;
      size = search rules;
      len = search rules;
      room = search rules;
    }

pub returns-in-None-clause-none : goal.returns-in-None-clause-none
returns-in-None-clause-none c = λ _.
    let held = c.args.self.now in
    let s = c.deref.result.now in
    let n = held.cut + c.args.window - held.cut in
    let fits : held.cut + c.args.window ≤ length s = omega (arith, c.requires.window.within, held.inside, c.deref.ensures.len) in
    let all : c.args.window ≤ length (take n (drop held.cut s)) = omega (arith, fits, length-take n (drop held.cut s), length-drop held.cut s) in
    subst (λ l. NoFeedBetween l held.cut (held.cut + c.args.window)) c.deref.ensures.value
    (none_between s held.cut n c.args.window (omega arith) (λ k low l. c.in-None.ensures k low (omega (arith, l, all))))
