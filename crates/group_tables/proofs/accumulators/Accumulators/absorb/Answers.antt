use Rattle.std.proofs.Common.{rules, ◌≡◌, ◌+◌, ◌<◌, suc, List, ◌∷◌, set, length, map, sym, ap, subst, ◌∙◌, arith, add-one, length-set}
use Rattle.std.proofs.lemmas.List.{length-map}
use Rattle.group_tables.specs.Accumulator.{AccumulatorState}
use Rattle.group_tables.specs.Inside.Accumulator.{state_in, IsWithin}
use Rattle.group_tables.specs.Group.{GroupState, joint_states}
use Rattle.group_tables.specs.Inside.Group.{IsSound}
use Rattle.group_tables.proofs.Keeping.{joint_states-sound, more-sound, sound-set, unbounded-within, joint_states_from, joint_states_from-within, joint_states_from-step, joint_states_from-all, joint_states_from-room}
use Rattle.group_tables.proofs.accumulators.Accumulators.absorb.Goals as goal

pub index_mut-requires : goal.index_mut-requires
index_mut-requires c =
    let s = c.in-Some.ensures.steps in
    let e : length c.loop-place.place-iterator.iter.rest.items ≡ suc (length c.next.new.self.iter.rest.items) = ap length s.0.0 in
    let h : c.in-Some.place < length c.loop-place.self-inside.parts.items = omega (arith, e, c.loop-place.invariant.one_each, s.1) in
    grind (arith, h, c.loop-place.self-inside.parts.ok)

pub absorb-requires : goal.absorb-requires
absorb-requires c =
    let s = c.in-Some.ensures.steps in
    let i = c.loop-place.invariant in
    let old = c.args.self.now in
    let other = c.args.other in
    let rest = c.next.new.self.iter.rest.items in
    let items = c.loop-place.self-inside.parts.items in
    let e : length c.loop-place.place-iterator.iter.rest.items ≡ suc (length rest) = ap length s.0.0 in
    let start : IsSound old.lines old.parts = subst (λ (h : GroupState). IsSound h.lines h.parts) c.self.view_is c.self.invariant in
    let more : IsSound other.lines other.parts = subst (λ (h : GroupState). IsSound h.lines h.parts) c.other.view_is c.other.invariant in
    let at : joint_states_from c.in-Some.place (map state_in items) (state_in c.in-Some.part ∷ map state_in rest) ≡ joint_states old.parts other.parts =
    ap (λ n. joint_states_from n (map state_in items) (state_in c.in-Some.part ∷ map state_in rest)) s.1 ∙ ap (λ xs. joint_states_from c.loop-place.place-iterator.count (map state_in items) (map state_in xs)) (sym s.0.0) ∙ i.rest in
    joint_states_from-room (old.lines + other.lines) c.in-Some.place items (state_in c.in-Some.part) (map state_in rest) c.index_mut.result.now
    (omega (arith, e, i.one_each, s.1)) c.index_mut.ensures.value c.requires.room
    (subst (λ (ks : List AccumulatorState). IsSound (old.lines + other.lines) ks) (sym at) (joint_states-sound old.lines other.lines old.parts other.parts start more))

pub loop-place-preserved : goal.loop-place-preserved
loop-place-preserved c =
    let s = c.in-Some.ensures.steps in
    let i = c.loop-place.invariant in
    let old = c.args.self.now in
    let other = c.args.other in
    let lines = old.lines + other.lines in
    let rest = c.next.new.self.iter.rest.items in
    let items = c.loop-place.self-inside.parts.items in
    let place = c.in-Some.place in
    let part = state_in c.in-Some.part in
    let e : length c.loop-place.place-iterator.iter.rest.items ≡ suc (length rest) = ap length s.0.0 in
    let here : place < length items = omega (arith, e, i.one_each, s.1) in
    let start : IsSound old.lines old.parts = subst (λ (h : GroupState). IsSound h.lines h.parts) c.self.view_is c.self.invariant in
    let more : IsSound other.lines other.parts = subst (λ (h : GroupState). IsSound h.lines h.parts) c.other.view_is c.other.invariant in
    let at : joint_states_from place (map state_in items) (part ∷ map state_in rest) ≡ joint_states old.parts other.parts =
    ap (λ n. joint_states_from n (map state_in items) (part ∷ map state_in rest)) s.1 ∙ ap (λ xs. joint_states_from c.loop-place.place-iterator.count (map state_in items) (map state_in xs)) (sym s.0.0) ∙ i.rest in
    let all : IsSound lines (joint_states_from place (map state_in items) (part ∷ map state_in rest)) =
    subst (λ (ks : List AccumulatorState). IsSound lines ks) (sym at) (joint_states-sound old.lines other.lines old.parts other.parts start more) in
    record {
      rest = ap (λ n. joint_states_from n (map state_in (set items place c.absorb.new.self)) (map state_in rest)) (s.2 ∙ ap (λ n. n + 1) (sym s.1) ∙ add-one place)
          ∙ joint_states_from-step place items part (map state_in rest) c.index_mut.result.now c.absorb.new.self here c.index_mut.ensures.value c.in_ok-absorb.ensures.joined
          ∙ at;
      one_each = let l = length-set items place c.absorb.new.self in omega (arith, e, l, i.one_each, s.2);
      lines = i.lines;
      sound = sound-set lines place items c.absorb.new.self i.sound
          (subst (λ (k : AccumulatorState). IsWithin lines k) (sym c.in_ok-absorb.ensures.joined)
          (joint_states_from-within lines place items part (map state_in rest) c.index_mut.result.now here c.index_mut.ensures.value all));
    }

pub loop-place-init : goal.loop-place-init
loop-place-init c =
    let items = c.self.inside.parts.items in
    let each : length c.other.inside.parts.items ≡ length items = sym (length-map c.other.inside.parts.items state_in) ∙ ap (λ (h : GroupState). length h.parts) c.other.view_is
    ∙ c.requires.one_each ∙ ap (λ (h : GroupState). length h.parts) (sym c.self.view_is) ∙ length-map items state_in in
    record {
      rest = search rules;
      one_each = search (rules, each);
      lines = λ j. (c.self.view_is j).lines + (c.other.view_is j).lines;
      sound = subst (λ n. IsSound n (map state_in items)) (λ j. (c.self.view_is j).lines + (c.other.view_is j).lines)
          (more-sound c.self.inside.lines c.other.inside.lines (map state_in items) c.self.invariant);
    }

pub invariant_of-self-in_err-absorb : goal.invariant_of-self-in_err-absorb
invariant_of-self-in_err-absorb c =
    let items = c.loop-place.self-inside.parts.items in
    let place = c.in-Some.place in
    let i = c.loop-place.invariant in
    let lines = c.args.self.now.lines + c.args.other.lines in
    subst (λ n. IsSound n (map state_in (set items place c.absorb.new.self))) (sym i.lines)
    (sound-set lines place items c.absorb.new.self i.sound (unbounded-within lines (state_in c.absorb.new.self) c.in_err-absorb.ensures.unbounded))

pub invariant_of-self : goal.invariant_of-self
invariant_of-self c =
    let i = c.loop-place.invariant in
    subst (λ n. IsSound n (map state_in c.loop-place.self-inside.parts.items)) (sym i.lines) i.sound

pub returns : goal.returns
returns c =
    let i = c.loop-place.invariant in
    let old = c.args.self.now in
    let other = c.args.other in
    let all : map state_in c.loop-place.self-inside.parts.items ≡ joint_states old.parts other.parts =
    joint_states_from-all c.loop-place.place-iterator.count c.loop-place.self-inside.parts.items c.loop-place.place-iterator.iter.rest.items (joint_states old.parts other.parts) (grind (arith, c.in-None.ensures.steps.0, c.loop-place.place-iterator.iter.rest.ok)) i.rest in
    λ j. record { lines = i.lines j; parts = all j }
