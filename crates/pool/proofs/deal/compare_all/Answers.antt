use Rattle.std.proofs.Common.{◌≡◌, ◌∙◌, ◌≢◌, List, length, ℕ, sym, subst, arith, ⊎_elim}
use Rattle.std.proofs.lemmas.Bool.{cases_eq}
use Rattle.pool.specs.Rule.{AllBelow}
use Rattle.pool.specs.Settled.{AreAll, IsRunAt}
use Rattle.pool.proofs.Runs.{all_run}
use Rattle.pool.proofs.deal.compare_all.Goals as goal

pub compare_at-requires-clause-deal : goal.compare_at-requires-clause-deal
compare_at-requires-clause-deal c = subst AreAll (sym c.loop-d.invariant.0) c.requires.deal

pub loop-d-preserved : goal.loop-d-preserved
loop-d-preserved c =
    let inv = c.loop-d.invariant in (
      c.compare_at.ensures.same ∙ inv.0,
      λ d below. ⊎_elim
          (λ (e : d ≡ c.loop-d.d). subst (λ m. (schedule : List ℕ) × AllBelow (length c.args.hands.now) schedule × IsRunAt m schedule c.args.hands.now) (sym e) (subst (λ l. (schedule : List ℕ) × AllBelow (length l) schedule × IsRunAt c.loop-d.d schedule l) inv.0 c.compare_at.ensures.run))
          (λ (n : d ≢ c.loop-d.d). inv.1 d (omega (arith, n, below)))
          (cases_eq d c.loop-d.d),
    )

pub returns-clause-run : goal.returns-clause-run
returns-clause-run c =
    let l = c.loop-d-test.false in
    all_run c.args.hands.now (λ d low. c.loop-d.invariant.1 d (omega (arith, low, l)))
