use Rattle.std.proofs.Common.{◌∙◌, ℕ, sym, ap, subst, length, arith}
use Rattle.std.proofs.lemmas.List.{with_items_is}
use Rattle.pool.specs.Dealing.{times}
use Rattle.pool.specs.Inside.Steps.{UpTo}
use Rattle.pool.specs.Totals.{once_below}
use Rattle.pool.specs.Settled.{AreAll, AllSpent, AreRun, numbers_of_all, pieces_of}
use Rattle.pool.proofs.Fronts.{run_none_twice, run_each_once}
use Rattle.pool.proofs.threads.keep_apart.Goals as goal

pub compare_all-requires : goal.compare_all-requires
compare_all-requires c = record { deal = subst AreAll (sym c.as_mut_slice.ensures.value) c.requires }

pub returns-clause-same : goal.returns-clause-same
returns-clause-same c =
    let e = c.compare_all.ensures.same ∙ c.as_mut_slice.ensures.value in
    let n = ap length e in
    let ok = c.args.hands.now.ok in
    with_items_is c.args.hands.now c.compare_all.new.hands (omega (arith, n, ok)) ∙ e

pub returns-clause-apart : goal.returns-clause-apart
returns-clause-apart c =
    let deal = subst AreAll (sym c.as_mut_slice.ensures.value) c.requires in
    let run = c.compare_all.ensures.run in
    subst (λ l. (x : ℕ) → UpTo (AllSpent l) (times x (numbers_of_all l)) (once_below x (pieces_of l))) (c.as_mut_slice.ensures.value ∙ sym (returns-clause-same c)) (λ x. (run_none_twice _ deal run x, λ all. run_each_once _ deal run all x))

pub returns-clause-run : goal.returns-clause-run
returns-clause-run c = subst AreRun (c.as_mut_slice.ensures.value ∙ sym (returns-clause-same c)) c.compare_all.ensures.run
