use Rattle.std.proofs.Common.{◌-◌, arith, ◌∙◌}
use Rattle.std.proofs.lemmas.List.{length-set}
use Rattle.lines.proofs.Placing.{nulls-more, nulls-taken}
use Rattle.lines.proofs.columns.missing_values.Goals as goal

pub loop-place-preserved : goal.loop-place-preserved
loop-place-preserved c =
    let before = c.loop-place.invariant in
    let place = c.loop-place.place - 1 in
    let same = length-set c.loop-place.values.items place _ in
    rw c.clear_at.ensures (record {
      len = same ∙ before.len;
      nulls = λ k d from below.
          nulls-more c.loop-place.values.items place (omega (arith, before.len, c.loop-place-test.true, c.loop-place.auto))
          (λ j e behind l. before.nulls j e (omega (arith, behind)) l) k d from (omega (arith, below, same));
    })

pub returns : goal.returns
returns c =
    let before = c.loop-place.invariant in
    nulls-taken c.args.columns.now c.loop-place.values.items before.len (λ k d below. before.nulls k d (omega (arith, c.loop-place-test.false)) below)
