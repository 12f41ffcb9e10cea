use Rattle.std.proofs.Common.{rules, arith, sym, ap, ◌∙◌, ◌+◌, ◌-◌, ◌≡◌, ◌<◌, ◌≤◌, ◌++◌, ◌∷◌, [], append_assoc, drop, length, length-take, length-drop, slice_index, subst, take}
use Rattle.semantics.specs.Lines.{line_feed}
use Rattle.lines.specs.Pieces.{NoFeedBetween}
use Rattle.lines.specs.Clip.{clipped_len}
use Rattle.lines.proofs.Places.{at_place, none_between, kept_part, moved_whole, left-moved, left-dropped}
use Rattle.lines.proofs.line_buffer.LineBuffer.discard_excess.Goals as goal

pub returns-in-Some-clause-left : goal.returns-in-Some-clause-left
returns-in-Some-clause-left c =
    let held = c.args.self.now in
    let items = held.buffer.items in
    let moved = c.copy_within.ensures.items in
    let s = c.deref.result.now in
    let low = held.cut + clipped_len in
    let place = c.in-Some.place in
    let n = held.filled - low in
    let below : place < n = omega (arith, c.in-Some.ensures.0.high, length-take n (drop low s)) in
    let is : slice_index items (low + place) ≡ line_feed =
    ap (λ l. slice_index l (low + place)) (sym c.deref.ensures.value) ∙ at_place s low n place below c.in-Some.ensures.1 in
    let none : NoFeedBetween items low (low + place) =
    subst (λ l. NoFeedBetween l low (low + place)) c.deref.ensures.value
    (none_between s low n place (omega (arith, below)) (λ k from l. c.in-Some.ensures.0.before k from l)) in
    let fits : low + place < held.filled = omega (arith, below) in
    record {
      held = record {
        feed = λ _. record {
          front = take held.cut items ++ kept_part items held.cut;
          is = moved_whole items c.copy_within.new.self.items held.cut place held.filled moved fits (omega (arith, held.inside)) is
              ∙ sym (append_assoc (take held.cut items) (kept_part items held.cut) (line_feed ∷ []));
        };
        long = λ h. cc;
        full = λ h. cc;
      };
      left = λ rest. left-moved items c.copy_within.new.self.items rest held.cut place held.filled moved fits (omega (arith, held.inside)) is (c.requires.held.full c.requires.full) none;
      filled = search rules;
      size = search rules;
      len = search rules;
      room = search rules;
    }

pub returns-in-None-clause-left : goal.returns-in-None-clause-left
returns-in-None-clause-left c =
    let held = c.args.self.now in
    let items = held.buffer.items in
    let s = c.deref.result.now in
    let low = held.cut + clipped_len in
    let n = held.filled - low in
    let all : n ≤ length (take n (drop low s)) = omega (arith, held.inside, c.deref.ensures.len, length-take n (drop low s), length-drop low s) in
    let end : low + n ≡ held.filled = omega (arith, c.requires.long) in
    let none : NoFeedBetween items low held.filled =
    subst (λ l. NoFeedBetween l low held.filled) c.deref.ensures.value
    (subst (λ m. NoFeedBetween s low m) end (none_between s low n n (omega arith) (λ k from l. c.in-None.ensures k from (omega (arith, l, all))))) in
    record {
      held = search rules;
      left = λ rest. left-dropped items rest held.cut held.filled (omega (arith, c.requires.long)) (omega (arith, held.inside)) (c.requires.held.full c.requires.full) none;
      filled = search rules;
      size = search rules;
      len = search rules;
      room = search rules;
    }
