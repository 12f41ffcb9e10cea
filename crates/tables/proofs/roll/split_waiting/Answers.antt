use Rattle.std.proofs.Common.{◌≡◌, ◌++◌, ◌∷◌, All, List, ℕ, sym, subst}
use Rattle.std.proofs.lemmas.List.Elements.{All-push}
use Rattle.std.specs.List.{Any}
use Rattle.std.specs.List.Sorted.{IsPermutation}
use Rattle.group_tables.specs.Rolled.{AreAmong}
use Rattle.tables.specs.declared.roll.Roll.{Roll}
use Rattle.tables.proofs.SetTables.{WaitsOn, finer-any, split-left, split-rolled, waits-more}
use Rattle.tables.proofs.roll.split_waiting.Goals as goal

pub loop-roll-preserved-in-Continue-branch-2 : goal.loop-roll-preserved-in-Continue-branch-2
loop-roll-preserved-in-Continue-branch-2 c =
    let waiting = c.args.waiting.items in
    let finer = c.args.finer.now in
    let rolls = c.loop-roll.rolls.items in
    let left = c.loop-roll.left.items in
    let roll = c.in-Some.roll in
    let rest = c.next.new.self.rest.items in
    let is : c.loop-roll.roll-iterator.rest.items ≡ roll ∷ rest = c.in-Some.ensures.steps.0 in
    let P : Roll → Type 0 = λ r. AreAmong r.set.items finer in
    let among = subst (λ (set : List ℕ). AreAmong set finer) c.as_slice-in-loop-roll.ensures.value (c.is_next.ensures.next c.if-is_next.true) in
    record {
      split = subst (λ (rs : List Roll). IsPermutation waiting (rs ++ (left ++ rest))) (sym c.in_ok-push.ensures.items)
          (split-rolled waiting rolls left rest roll (subst (λ (rs : List Roll). IsPermutation waiting (rolls ++ (left ++ rs))) is c.loop-roll.invariant.split));
      rolls = subst (All P) (sym c.in_ok-push.ensures.items) (All-push P rolls roll c.loop-roll.invariant.rolls among);
      left = subst (λ (rs : List Roll). All (WaitsOn finer rs) left) (sym c.in_ok-push.ensures.items) (waits-more finer rolls roll left c.loop-roll.invariant.left);
    }

pub loop-roll-preserved : goal.loop-roll-preserved
loop-roll-preserved c =
    let waiting = c.args.waiting.items in
    let finer = c.args.finer.now in
    let rolls = c.loop-roll.rolls.items in
    let left = c.loop-roll.left.items in
    let roll = c.in-Some.roll in
    let rest = c.next.new.self.rest.items in
    let is : c.loop-roll.roll-iterator.rest.items ≡ roll ∷ rest = c.in-Some.ensures.steps.0 in
    let set = c.as_slice-in-loop-roll.ensures.value in
    let waits : WaitsOn finer rolls roll = λ among.
    finer-any roll.set.items rolls
    (subst (λ (s : List ℕ). Any (λ (r : Roll). AreAmong s r.set.items) rolls) set
    (subst (Any (λ (r : Roll). AreAmong c.as_slice-in-loop-roll.result.now r.set.items)) c.as_slice.ensures.value
    (c.is_next.ensures.later c.if-is_next.false (subst (λ (s : List ℕ). AreAmong s finer) (sym set) among)))) in
    record {
      split = subst (λ (ls : List Roll). IsPermutation waiting (rolls ++ (ls ++ rest))) (sym c.in_ok-push-2.ensures.items)
          (split-left waiting rolls left rest roll (subst (λ (rs : List Roll). IsPermutation waiting (rolls ++ (left ++ rs))) is c.loop-roll.invariant.split));
      rolls = c.loop-roll.invariant.rolls;
      left = subst (All (WaitsOn finer rolls)) (sym c.in_ok-push-2.ensures.items) (All-push (WaitsOn finer rolls) left roll c.loop-roll.invariant.left waits);
    }
