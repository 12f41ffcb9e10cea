use Rattle.std.proofs.Common.{None, ◌≡◌, ◌+◌, ◌<◌, ◌^◌, List, set, length, map, sym, ap, subst, ◌∙◌, arith, add-one, length-set}
use Rattle.std.proofs.lemmas.List.{length-map}
use Rattle.values.specs.Datum.{data_of}
use Rattle.semantics.specs.declared.function.ColumnFunction.TheVariants.{CountRows}
use Rattle.query_resolve.specs.declared.function.FilteredFunction.{FilteredFunction}
use Rattle.group_tables.specs.Accumulator.{AccumulatorState}
use Rattle.group_tables.specs.Inside.Accumulator.{state_in, IsWithin}
use Rattle.group_tables.specs.Group.{GroupState}
use Rattle.group_tables.specs.Inside.Group.{all_with_row, IsSound}
use Rattle.group_tables.proofs.Keeping.{all_with_row-sound, more-sound, sound-set, unbounded-within, taken_from, taken_from-step, taken_from-all, taken_from-within, taken_from-room}
use Rattle.group_tables.proofs.accumulators.Accumulators.add.Goals as goal

-- the function that stands for one past the last
abbrev none : FilteredFunction
none = record { function = CountRows; filter = None }

pub loop-place-init : goal.loop-place-init
loop-place-init c =
    let items = c.self.inside.parts.items in
    record {
      rest = ap (λ (h : GroupState). all_with_row c.args.functions.now c.args.marks.now h.parts (data_of c.args.row.now)) c.self.view_is;
      one_each = sym (length-map items state_in) ∙ ap (λ (h : GroupState). length h.parts) c.self.view_is ∙ c.requires.one_each;
      lines = ap (λ (h : GroupState). h.lines + 1) c.self.view_is;
      sound = subst (λ (h : GroupState). IsSound (h.lines + 1) (map state_in items)) c.self.view_is (more-sound c.self.inside.lines 1 (map state_in items) c.self.invariant);
    }

pub add-requires : goal.add-requires
add-requires c =
    let fs = c.args.functions.now in
    let row = data_of c.args.row.now in
    let marks = c.args.marks.now in
    let old = c.args.self.now in
    let i = c.loop-place.invariant in
    let bound : old.lines + 1 < 2 ^ 63 = c.requires.room in
    let start : IsSound old.lines old.parts = subst (λ (h : GroupState). IsSound h.lines h.parts) c.self.view_is c.self.invariant in
    let sound : IsSound (old.lines + 1) (taken_from c.loop-place.place fs marks (map state_in c.loop-place.self-inside.parts.items) row) =
    subst (λ (ks : List AccumulatorState). IsSound (old.lines + 1) ks) (sym i.rest) (all_with_row-sound old.lines fs marks old.parts row start c.requires.narrow) in
    taken_from-room (old.lines + 1) c.loop-place.place fs marks c.loop-place.self-inside.parts.items row none c.index_mut.result.now
    c.loop-place-test.true (omega (arith, c.loop-place-test.true, i.one_each)) c.index_mut.ensures.value bound sound

pub loop-place-preserved : goal.loop-place-preserved
loop-place-preserved c =
    let fs = c.args.functions.now in
    let row = data_of c.args.row.now in
    let marks = c.args.marks.now in
    let old = c.args.self.now in
    let items = c.loop-place.self-inside.parts.items in
    let place = c.loop-place.place in
    let i = c.loop-place.invariant in
    let start : IsSound old.lines old.parts = subst (λ (h : GroupState). IsSound h.lines h.parts) c.self.view_is c.self.invariant in
    let all : IsSound (old.lines + 1) (taken_from place fs marks (map state_in items) row) =
    subst (λ (ks : List AccumulatorState). IsSound (old.lines + 1) ks) (sym i.rest) (all_with_row-sound old.lines fs marks old.parts row start c.requires.narrow) in
    let here : place < length items = omega (arith, c.loop-place-test.true, i.one_each) in
    record {
      rest = ap (λ n. taken_from n fs marks (map state_in (set items place c.add.new.self)) row) (add-one place)
          ∙ taken_from-step place fs marks items row none c.index_mut.result.now c.add.new.self
          c.loop-place-test.true here c.index_mut.ensures.value c.in_ok-add.ensures.added
          ∙ i.rest;
      one_each = length-set items place c.add.new.self ∙ i.one_each;
      lines = i.lines;
      sound = sound-set (old.lines + 1) place items c.add.new.self i.sound
          (subst (λ (k : AccumulatorState). IsWithin (old.lines + 1) k) (sym c.in_ok-add.ensures.added)
          (taken_from-within (old.lines + 1) place fs marks items row none c.index_mut.result.now c.loop-place-test.true here c.index_mut.ensures.value all));
    }

pub invariant_of-self-in_err-add : goal.invariant_of-self-in_err-add
invariant_of-self-in_err-add c =
    let items = c.loop-place.self-inside.parts.items in
    let place = c.loop-place.place in
    let i = c.loop-place.invariant in
    subst (λ n. IsSound n (map state_in (set items place c.add.new.self))) (sym i.lines)
    (sound-set (c.args.self.now.lines + 1) place items c.add.new.self i.sound (unbounded-within (c.args.self.now.lines + 1) (state_in c.add.new.self) c.in_err-add.ensures.unbounded))

pub invariant_of-self : goal.invariant_of-self
invariant_of-self c =
    let i = c.loop-place.invariant in
    subst (λ n. IsSound n (map state_in c.loop-place.self-inside.parts.items)) (sym i.lines) i.sound

pub returns : goal.returns
returns c =
    let fs = c.args.functions.now in
    let row = data_of c.args.row.now in
    let marks = c.args.marks.now in
    let old = c.args.self.now in
    let i = c.loop-place.invariant in
    let all : map state_in c.loop-place.self-inside.parts.items ≡ all_with_row fs marks old.parts row =
    taken_from-all c.loop-place.place fs marks c.loop-place.self-inside.parts.items row (all_with_row fs marks old.parts row) (omega (arith, c.loop-place-test.false, c.loop-place.auto.place-end)) i.one_each i.rest in
    λ j. record { lines = i.lines j; parts = all j }
