use Rattle.std.proofs.Common.{◌≡◌, ◌+◌, ◌<◌, ℕ, zero, suc, List, [], ◌∷◌, drop, get_or, set, length, map, refl, sym, ap, subst, ◌∙◌, arith, add-one, length-set}
use Rattle.std.proofs.lemmas.List.{length-map}
use Rattle.group_tables.specs.declared.accumulator.Accumulator.{Accumulator}
use Rattle.group_tables.specs.Accumulator.{AccumulatorState}
use Rattle.group_tables.specs.Inside.Accumulator.{state_in, IsWithin}
use Rattle.group_tables.specs.Group.{GroupState, joint_states}
use Rattle.group_tables.specs.Inside.Group.{IsSound}
use Rattle.group_tables.proofs.Keeping.{joint_states-sound, more-sound, sound-set, unbounded-within, joint_states_from, joint_states_from-within, joint_states_from-step, joint_states_from-end, joint_states_from-room}
use Rattle.group_tables.proofs.accumulators.Accumulators.absorb_copies.Goals as goal

drop-map : (items : List Accumulator) (i : ℕ) (a : Accumulator) → i < length items → a ≡ get_or items i a → drop i (map state_in items) ≡ state_in a ∷ drop (suc i) (map state_in items)
drop-map [] i a h e = absurd (omega (arith, h))
drop-map (x ∷ items) zero a h e = ap (λ z. state_in z ∷ map state_in items) (sym e)
drop-map (x ∷ items) (suc i) a h e = drop-map items i a (omega (arith, h)) e

-- what is left begins with this turn's part
next-part : (items : List Accumulator) (ks : List AccumulatorState) (i : ℕ) (a : Accumulator) → map state_in items ≡ ks → i < length items → a ≡ get_or items i a → drop i ks ≡ state_in a ∷ drop (suc i) ks
next-part items ks i a v h e = subst (λ (ls : List AccumulatorState). drop i ls ≡ state_in a ∷ drop (suc i) ls) v (drop-map items i a h e)

all-dropped : (n : ℕ) (ks : List AccumulatorState) → length ks ≡ n → drop n ks ≡ []
all-dropped zero [] h = refl
all-dropped zero (k ∷ ks) h = absurd (omega (arith, h))
all-dropped (suc n) [] h = refl
all-dropped (suc n) (k ∷ ks) h = all-dropped n ks (omega (arith, h))

pub loop-place-init : goal.loop-place-init
loop-place-init c =
    let items = c.self.inside.parts.items in
    record {
      rest = ap (λ (h : GroupState). joint_states h.parts c.args.other.now.parts) c.self.view_is;
      one_each = c.requires.one_each ∙ ap (λ (h : GroupState). length h.parts) (sym c.self.view_is) ∙ length-map items state_in;
      lines = λ j. (c.self.view_is j).lines + (c.other.view_is j).lines;
      sound = subst (λ n. IsSound n (map state_in items)) (ap (λ (h : GroupState). h.lines + c.args.other.now.lines) c.self.view_is)
          (more-sound c.self.inside.lines c.args.other.now.lines (map state_in items) c.self.invariant);
    }

pub invariant_of-self : goal.invariant_of-self
invariant_of-self c =
    let i = c.loop-place.invariant in
    subst (λ n. IsSound n (map state_in c.loop-place.self-inside.parts.items)) (sym i.lines) i.sound

pub absorb_copies-requires : goal.absorb_copies-requires
absorb_copies-requires c =
    let i = c.loop-place.invariant in
    let old = c.args.self.now in
    let other = c.args.other.now in
    let items = c.loop-place.self-inside.parts.items in
    let place = c.loop-place.place in
    let part = state_in c.part-item.result in
    let start : IsSound old.lines old.parts = subst (λ (h : GroupState). IsSound h.lines h.parts) c.self.view_is c.self.invariant in
    let more : IsSound other.lines other.parts = subst (λ (h : GroupState). IsSound h.lines h.parts) c.other.view_is c.other.invariant in
    let xs = c.deref-part-items.result.now in
    let v : map state_in xs ≡ other.parts = ap (map state_in) c.deref-part-items.ensures.value ∙ ap (λ (h : GroupState). h.parts) c.other.view_is in
    let l : length xs ≡ length other.parts = sym (length-map xs state_in) ∙ ap length v in
    let next : drop place other.parts ≡ part ∷ drop (suc place) other.parts = next-part xs other.parts place c.part-item.result v c.loop-place-test.true c.part-item.is in
    let at : joint_states_from place (map state_in items) (part ∷ drop (suc place) other.parts) ≡ joint_states old.parts other.parts = ap (joint_states_from place (map state_in items)) (sym next) ∙ i.rest in
    joint_states_from-room (old.lines + other.lines) place items part (drop (suc place) other.parts) c.index_mut.result.now
    (omega (arith, c.loop-place-test.true, l, i.one_each)) c.index_mut.ensures.value c.requires.room
    (subst (λ (ks : List AccumulatorState). IsSound (old.lines + other.lines) ks) (sym at) (joint_states-sound old.lines other.lines old.parts other.parts start more))

pub loop-place-preserved : goal.loop-place-preserved
loop-place-preserved c =
    let i = c.loop-place.invariant in
    let old = c.args.self.now in
    let other = c.args.other.now in
    let lines = old.lines + other.lines in
    let items = c.loop-place.self-inside.parts.items in
    let place = c.loop-place.place in
    let part = state_in c.part-item.result in
    let rest = drop (suc place) other.parts in
    let start : IsSound old.lines old.parts = subst (λ (h : GroupState). IsSound h.lines h.parts) c.self.view_is c.self.invariant in
    let more : IsSound other.lines other.parts = subst (λ (h : GroupState). IsSound h.lines h.parts) c.other.view_is c.other.invariant in
    let xs = c.deref-part-items.result.now in
    let v : map state_in xs ≡ other.parts = ap (map state_in) c.deref-part-items.ensures.value ∙ ap (λ (h : GroupState). h.parts) c.other.view_is in
    let l : length xs ≡ length other.parts = sym (length-map xs state_in) ∙ ap length v in
    let here : place < length items = omega (arith, c.loop-place-test.true, l, i.one_each) in
    let next : drop place other.parts ≡ part ∷ rest = next-part xs other.parts place c.part-item.result v c.loop-place-test.true c.part-item.is in
    let at : joint_states_from place (map state_in items) (part ∷ rest) ≡ joint_states old.parts other.parts = ap (joint_states_from place (map state_in items)) (sym next) ∙ i.rest in
    let all : IsSound lines (joint_states_from place (map state_in items) (part ∷ rest)) =
    subst (λ (ks : List AccumulatorState). IsSound lines ks) (sym at) (joint_states-sound old.lines other.lines old.parts other.parts start more) in
    record {
      rest = ap (λ n. joint_states_from n (map state_in (set items place c.absorb_copies.new.self)) (drop n other.parts)) (add-one place)
          ∙ joint_states_from-step place items part rest c.index_mut.result.now c.absorb_copies.new.self here c.index_mut.ensures.value c.in_ok-absorb_copies.ensures.joined
          ∙ at;
      one_each = i.one_each ∙ sym (length-set items place c.absorb_copies.new.self);
      lines = i.lines;
      sound = sound-set lines place items c.absorb_copies.new.self i.sound
          (subst (λ (k : AccumulatorState). IsWithin lines k) (sym c.in_ok-absorb_copies.ensures.joined)
          (joint_states_from-within lines place items part rest c.index_mut.result.now here c.index_mut.ensures.value all));
    }

pub invariant_of-self-in_err-absorb_copies : goal.invariant_of-self-in_err-absorb_copies
invariant_of-self-in_err-absorb_copies c =
    let items = c.loop-place.self-inside.parts.items in
    let place = c.loop-place.place in
    let i = c.loop-place.invariant in
    let lines = c.args.self.now.lines + c.args.other.now.lines in
    subst (λ n. IsSound n (map state_in (set items place c.absorb_copies.new.self))) (sym i.lines)
    (sound-set lines place items c.absorb_copies.new.self i.sound (unbounded-within lines (state_in c.absorb_copies.new.self) c.in_err-absorb_copies.ensures.unbounded))

pub returns : goal.returns
returns c =
    let i = c.loop-place.invariant in
    let old = c.args.self.now in
    let other = c.args.other.now in
    let place = c.loop-place.place in
    let items = c.loop-place.self-inside.parts.items in
    let xs = c.deref-part-items.result.now in
    let v : map state_in xs ≡ other.parts = ap (map state_in) c.deref-part-items.ensures.value ∙ ap (λ (h : GroupState). h.parts) c.other.view_is in
    let l : length xs ≡ length other.parts = sym (length-map xs state_in) ∙ ap length v in
    let none : drop place other.parts ≡ [] = all-dropped place other.parts (omega (arith, c.loop-place-test.false, c.loop-place.auto.place-end, l)) in
    let all : map state_in items ≡ joint_states old.parts other.parts = sym (joint_states_from-end place (map state_in items)) ∙ ap (joint_states_from place (map state_in items)) (sym none) ∙ i.rest in
    λ j. record { lines = i.lines j; parts = all j }
