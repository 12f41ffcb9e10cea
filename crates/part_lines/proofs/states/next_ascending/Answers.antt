use Rattle.std.proofs.Common.{◌≡◌, ◌-◌, ◌++◌, length, ◌∷◌, [], Ok, None, Some, Option, option_map, ap, ◌∙◌, subst, arith}
use Rattle.std.proofs.lemmas.Result.{err_from_is_err_and}
use Rattle.std.proofs.lemmas.List.{map_push}
use Rattle.std.specs.Option.{option_copied}
use Rattle.std.specs.Prelude.{slice_get}
use Rattle.semantics.specs.Values.{Datum}
use Rattle.values.specs.Datum.{data_of, datum_of}
use Rattle.part_lines.specs.Inside.Known.{IsDifferentOf}
use Rattle.part_lines.specs.Reading.{Refuses, ascending_at, different_at}
use Rattle.part_lines.proofs.Facts.{are_different, ascend-push}
use Rattle.part_lines.proofs.Last.{last_of, last_of-from, last_of-push}
use Rattle.part_lines.proofs.Loop.{goes_on, ends, is_done}
use Rattle.part_lines.proofs.states.next_ascending.Goals as goal

abbrev behind : Option Datum → Datum → Option Datum
behind last d = Some d

pub returns-in_err-value-clause-read : goal.returns-in_err-value-clause-read
returns-in_err-value-clause-read g c = λ known.
    let so_far = c.loop.invariant.read known in
    let p = err_from_is_err_and c.from_residual.result c.from_residual.ensures.1 in
    let last : option_map datum_of (option_copied c.last.result) ≡ last_of c.loop.values.items = ap (option_map datum_of) {y = slice_get c.loop.values.items (length c.loop.values.items - 1)} (rw (← c.deref.ensures.value) c.last.ensures.value) in
    let refused = subst (λ l. Refuses c.in_err-value.field-0.0 (different_at c.args.kind l (g.S.ValueReader.stream c.loop.source))) last (c.in_err-value.ensures.read so_far.0) in
    rw (p.1, p.2) (ends (different_at c.args.kind) behind c.in_err-value.field-0.0 (data_of c.loop.values.items) c.args.count c.loop.counter (last_of c.loop.values.items) (g.S.ValueReader.stream c.loop.source) (ascending_at c.args.kind c.args.count None (g.S.ValueReader.stream c.args.source.now)) c.loop-test.true refused so_far.1)

pub loop-preserved : goal.loop-preserved
loop-preserved g c =
    let v = c.in_ok-value.value in
    let items = c.loop.values.items in
    let last : option_map datum_of (option_copied c.last.result) ≡ last_of items = ap (option_map datum_of) {y = slice_get items (length items - 1)} (rw (← c.deref.ensures.value) c.last.ensures.value) in
    let e : data_of c.push.new.self.items ≡ data_of items ++ datum_of v ∷ [] = rw c.in_ok-push.ensures.items (map_push _ items v) in
    let l : last_of c.push.new.self.items ≡ Some (datum_of v) = ap last_of {y = items ++ v ∷ []} c.in_ok-push.ensures.items ∙ last_of-push items v in record {
      read = λ known.
          let so_far = c.loop.invariant.read known in
          let read = subst (λ l. different_at c.args.kind l (g.S.ValueReader.stream c.loop.source) ≡ Ok (datum_of v, g.S.ValueReader.stream c.next_different.new.source)) last (c.in_ok-value.ensures.read so_far.0) in (
            c.in_ok-value.ensures.known so_far.0,
            rw (e, l) (goes_on (different_at c.args.kind) behind (data_of items) c.args.count c.loop.counter (last_of items) (g.S.ValueReader.stream c.loop.source) (datum_of v) (g.S.ValueReader.stream c.next_different.new.source) (ascending_at c.args.kind c.args.count None (g.S.ValueReader.stream c.args.source.now)) c.loop-test.true read so_far.1),
          );
      count = omega (arith, c.in_ok-push.ensures.len, c.loop.invariant.count);
      values = rw e (ascend-push c.args.kind None (data_of items) (datum_of v) c.loop.invariant.values (subst (λ l. IsDifferentOf c.args.kind l (datum_of v)) (last ∙ last_of-from items) c.in_ok-value.ensures.value));
      onward = omega (arith, c.loop.invariant.onward, c.in_ok-value.ensures.onward);
    }

pub returns-clause-read : goal.returns-clause-read
returns-clause-read g c = λ known. is_done (different_at c.args.kind) behind (data_of c.loop.values.items) c.args.count c.loop.counter (last_of c.loop.values.items) (g.S.ValueReader.stream c.loop.source) (ascending_at c.args.kind c.args.count None (g.S.ValueReader.stream c.args.source.now)) c.loop-test.false (c.loop.invariant.read known).1

pub returns-clause-count : goal.returns-clause-count
returns-clause-count g c = omega (arith, c.loop.invariant.count, c.loop-test.false, c.loop.auto.counter-end)

pub returns-clause-values : goal.returns-clause-values
returns-clause-values g c = are_different c.args.kind (data_of c.loop.values.items) c.loop.invariant.values
