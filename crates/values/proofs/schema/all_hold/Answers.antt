use Rattle.std.proofs.Common.{◌≡◌, length, rules, arith, sym, ap, ◌∙◌, subst}
use Rattle.std.proofs.lemmas.List.{length_push}
use Rattle.std.proofs.lemmas.Slice.Zip.{zip_turn, zip_end}
use Rattle.std.specs.Iterator.Adapters.{zip_first, zip_second}
use Rattle.std.specs.Slice.Iter.{iter_rest}
use Rattle.values.proofs.FitLemmas.{EachHolds, EachHolds-push, Fits-from_each, each_from_Fits, length-Fits}
use Rattle.values.proofs.schema.all_hold.Goals as goal

pub returns-then-columns-values : goal.returns-then-columns-values
returns-then-columns-values c = record {
  fits = (λ never. let clash : ⊥ = cc in absurd clash, λ fits. let same = length-Fits c.args.columns.now c.args.values.now fits in absurd (c.if-columns-values.true same));
}

pub returns-then-not-holds : goal.returns-then-not-holds
returns-then-not-holds c =
    let is = c.into_iter-column-iterator.ensures.into_iter_gives in
    let here = zip_turn c.args.columns.now c.args.values.now c.loop-column.yielded c.into_iter-column-iterator.result c.loop-column.column-iterator c.next.new.self _
    (ap (λ s. iter_rest (zip_first s)) is ∙ ap iter_rest c.zip-column-items.ensures.first ∙ c.iter.ensures.rest)
    (ap (λ s. iter_rest (zip_second s)) is ∙ c.zip-column-items.ensures.second.0)
    c.loop-column.yielded_by _ c.in-Some.is c.next.ensures.steps in
    record {
      fits = (
        λ never. let clash : ⊥ = cc in absurd clash,
        λ fits.
            let holds = each_from_Fits c.args.columns.now c.args.values.now fits (length c.loop-column.yielded) c.in-Some.column.now c.in-Some.value.now here.0 in
            sym c.if-not-holds.true ∙ c.holds.ensures.holds.1 (rw (here.2 c.in-Some.column.now, here.3 c.in-Some.value.now) holds),
      );
    }

pub loop-column-preserved : goal.loop-column-preserved
loop-column-preserved c =
    let is = c.into_iter-column-iterator.ensures.into_iter_gives in
    let here = zip_turn c.args.columns.now c.args.values.now c.loop-column.yielded c.into_iter-column-iterator.result c.loop-column.column-iterator c.next.new.self _
    (ap (λ s. iter_rest (zip_first s)) is ∙ ap iter_rest c.zip-column-items.ensures.first ∙ c.iter.ensures.rest)
    (ap (λ s. iter_rest (zip_second s)) is ∙ c.zip-column-items.ensures.second.0)
    c.loop-column.yielded_by _ c.in-Some.is c.next.ensures.steps in
    let more = EachHolds-push c.args.columns.now c.args.values.now (length c.loop-column.yielded) c.in-Some.column.now c.in-Some.value.now c.loop-column.invariant here.2 here.3 (c.holds.ensures.holds.0 c.if-not-holds.false) in
    subst (EachHolds c.args.columns.now c.args.values.now) (sym (length_push c.loop-column.yielded (c.in-Some.column, c.in-Some.value))) more

pub returns : goal.returns
returns c =
    let is = c.into_iter-column-iterator.ensures.into_iter_gives in
    let end = zip_end c.args.columns.now c.args.values.now c.loop-column.yielded c.into_iter-column-iterator.result c.loop-column.column-iterator c.next.new.self _
    (ap (λ s. iter_rest (zip_first s)) is ∙ ap iter_rest c.zip-column-items.ensures.first ∙ c.iter.ensures.rest)
    (ap (λ s. iter_rest (zip_second s)) is ∙ c.zip-column-items.ensures.second.0)
    c.loop-column.yielded_by c.in-None.is c.next.ensures.steps in
    let long : length c.args.columns.now ≡ length c.args.values.now = search rules in
    let all : length c.loop-column.yielded ≡ length c.args.columns.now = omega (arith, end, long) in
    record {
      fits = (
        λ _. Fits-from_each c.args.columns.now c.args.values.now long (subst (EachHolds c.args.columns.now c.args.values.now) all c.loop-column.invariant),
        λ _. search rules,
      );
    }
