use Rattle.std.proofs.Common.{◌≡◌, ◌+◌, ◌++◌, ◌∷◌, [], drop, subst, take, arith}
use Rattle.std.proofs.lemmas.Result.{err_from_is_err_and}
use Rattle.std.proofs.lemmas.List.{map_push, drop_more, drop_all, take_all, take_more}
use Rattle.semantics.specs.declared.kind.Kind.TheVariants as type
use Rattle.values.specs.Datum.{data_of, datum_of}
use Rattle.semantics.specs.Records.{Holds}
use Rattle.part_lines.specs.Known.{IsKeyFor}
use Rattle.part_lines.specs.Reading.{held_at, key_at}
use Rattle.part_lines.proofs.Facts.{AllZip-both}
use Rattle.part_lines.proofs.Loop.{each_goes_on, each_ends, each_is_done}
use Rattle.part_lines.proofs.reader.next_values.Goals as goal

pub returns-in_err-value-clause-read : goal.returns-in_err-value-clause-read
returns-in_err-value-clause-read g c = λ known.
    let so_far = c.loop-kind.invariant.read known in
    let p = err_from_is_err_and c.from_residual-in_err-value.result c.from_residual-in_err-value.ensures.1 in
    let i = c.loop-kind.kind-index in
    let ks = c.args.columns.now in
    rw (p.1, p.2) (each_ends held_at c.in_err-value.field-0.0 (data_of c.loop-kind.values.items) _ (drop i ks) (drop (i + 1) ks) (g.S.ValueReader.stream c.loop-kind.source) (key_at ks (g.S.ValueReader.stream c.args.source.now)) (drop_more ks i _ c.loop-kind-test.true) (c.in_err-value.ensures.read so_far.0) so_far.1)

pub loop-kind-preserved : goal.loop-kind-preserved
loop-kind-preserved g c =
    let v = c.in_ok-value.value in
    let i = c.loop-kind.kind-index in
    let ks = c.args.columns.now in
    let front = data_of c.loop-kind.values.items in
    let e : data_of c.push.new.self.items ≡ front ++ datum_of v ∷ [] = rw c.in_ok-push.ensures.items (map_push _ c.loop-kind.values.items v) in record {
      read = λ known.
          let so_far = c.loop-kind.invariant.read known in (
            c.in_ok-value.ensures.known so_far.0,
            rw e (each_goes_on held_at front _ (drop i ks) (drop (i + 1) ks) (g.S.ValueReader.stream c.loop-kind.source) (datum_of v) (g.S.ValueReader.stream c.next_held.new.source) (key_at ks (g.S.ValueReader.stream c.args.source.now)) (drop_more ks i _ c.loop-kind-test.true) (c.in_ok-value.ensures.read so_far.0) so_far.1),
          );
      held = rw (e, take_more ks i type.Int c.loop-kind-test.true) (AllZip-both Holds (take i ks) front _ (datum_of v) c.loop-kind.invariant.held c.in_ok-value.ensures.held);
      onward = omega (arith, c.loop-kind.invariant.onward, c.in_ok-value.ensures.onward);
    }

pub returns-clause-read : goal.returns-clause-read
returns-clause-read g c = λ known.
    let i = c.loop-kind.kind-index in
    let ks = c.args.columns.now in
    each_is_done held_at (data_of c.loop-kind.values.items) (drop i ks) (g.S.ValueReader.stream c.loop-kind.source) (key_at ks (g.S.ValueReader.stream c.args.source.now)) (drop_all i ks c.loop-kind-test.false) (c.loop-kind.invariant.read known).1

pub returns-clause-held : goal.returns-clause-held
returns-clause-held g c = subst (λ ks. IsKeyFor ks (data_of c.loop-kind.values.items)) (take_all c.loop-kind.kind-index c.args.columns.now c.loop-kind-test.false) c.loop-kind.invariant.held
