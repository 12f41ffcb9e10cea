-- What is known of the hands once their workers came back.
use Rattle.std.proofs.Common.{◌≡◌, ℕ, ◌+◌, ◌-◌, ◌^◌, ◌<◌, ◌≤◌, ◌⊎◌, List, map, min, sym, ap, ◌∙◌, subst, ⊎_elim, sum_by, arith}
use Rattle.pool.specs.Reduction.{Reduction, reduction_below}
use Rattle.pool.specs.Dealing.{times}
use Rattle.pool.specs.Inside.Steps.{UpTo}
use Rattle.pool.specs.Inside.Combination.{combination_of}
use Rattle.pool.specs.Totals.{sum_below, once_below}
use Rattle.pool.specs.Outcomes.{Decides}
use Rattle.pool.specs.Lawful.{Lawful}
use Rattle.pool.specs.Holding.{Holding}
use Rattle.pool.specs.Settled.{AreAll, AllSpent, HaveNoneTwice, numbers_of_all, pieces_of}
use Rattle.pool.specs.Done.{Worker}
use Rattle.pool.specs.Inside.Done.{hands_of, sums_of, parts_of}
use Rattle.pool.specs.Inside.Fanned.{AreReady, DidAll, beginning_at}
use Rattle.pool.specs.Fanned.{CameBack, Settles, Outweighs, IsAbove}
use Rattle.pool.specs.declared.laws.Outcome.{Outcome}
use Rattle.pool.specs.declared.laws.Outcome.TheVariants.{Whole, Over}
use Rattle.pool.proofs.Sums.{total_fits, total_weight}
use Rattle.pool.proofs.Fans.{did_all, did_back}
use Rattle.pool.proofs.Parts.{each_of, came_counted, came_room, came_weight, came_whole, came_within, together_fits}

module _ {M P : Type 0} {reduction : Reduction M} (laws : Lawful reduction) (meaning : P → M) (vs : List (Worker P)) (ready : AreReady reduction meaning vs)
    (ws : List (Worker P)) (did : DidAll (beginning_at reduction (map meaning (parts_of vs))) reduction meaning vs ws) where
  its : AreAll (hands_of ws) × (pieces_of (hands_of ws) ≡ pieces_of (hands_of vs))
  its = let a = did_all reduction meaning (beginning_at reduction (map meaning (parts_of vs))) vs ws did ready.deal.0 in (a.1, a.0)

  -- the hands, as a list of their own
  module _ (hs : List Holding) (same : hs ≡ hands_of ws) where
    pub fanned_deal : AreAll hs × (pieces_of hs ≡ pieces_of (hands_of vs))
    fanned_deal = rw same its

    pub fanned_back : (sums : List ℕ) → sums ≡ sums_of ws → CameBack (λ j. reduction.weight (reduction.piece j)) (λ n. n) (hands_of vs) (sums_of vs) hs sums
    fanned_back sums are = rw (same, are) (did_back reduction meaning (beginning_at reduction (map meaning (parts_of vs))) vs ws did (λ i h at. (ready.deal.2 i h at).1))

    pub fanned_above : (limit : ℕ) (outcome : Outcome P)
        → Decides meaning (combination_of reduction (map meaning (parts_of ws))) (reduction.weight (combination_of reduction (map meaning (parts_of ws)))) limit outcome
        → IsAbove (reduction.weight (combination_of reduction (map meaning (parts_of vs))) + sum_by (λ j. reduction.weight (reduction.piece j)) (numbers_of_all hs)) limit outcome
    fanned_above limit (Whole p) told = tt
    fanned_above limit Over told =
        let all = came_weight laws meaning vs ready ws did in
        let joined_are = ap (λ l. sum_by (λ j. reduction.weight (reduction.piece j)) (numbers_of_all l)) same in
        omega (arith, all, joined_are, told)

    -- they have no piece twice, and each where all are spent
    module _ (apart : (x : ℕ) → UpTo (AllSpent hs) (times x (numbers_of_all hs)) (once_below x (pieces_of hs))) where
      at_most_once : (x : ℕ) → times x (numbers_of_all (hands_of ws)) ≤ once_below x (pieces_of (hands_of vs))
      at_most_once x = subst (λ l. times x (numbers_of_all l) ≤ once_below x (pieces_of (hands_of vs))) same (subst (λ n. times x (numbers_of_all hs) ≤ once_below x n) fanned_deal.1 (apart x).0)

      pub fanned_room : reduction.load (combination_of reduction (map meaning (parts_of ws))) < 2 ^ 63
      fanned_room = came_room laws meaning vs ready ws did at_most_once

      pub fanned_counted : (weight : ℕ) → weight ≡ min (reduction.weight (combination_of reduction (map meaning (parts_of ws)))) (2 ^ 64 - 1) → weight ≡ reduction.weight (combination_of reduction (map meaning (parts_of ws)))
      fanned_counted = came_counted laws meaning vs ready ws did at_most_once

      pub fanned_once : HaveNoneTwice hs
      fanned_once x = (apart x).0

      -- what was answered of all parts, combined
      module _ (limit : ℕ) (spent : AllSpent (hands_of ws) ⊎ (limit < reduction.weight (combination_of reduction (map meaning (parts_of ws))))) where
        all_spent : reduction.weight (combination_of reduction (map meaning (parts_of ws))) ≤ limit → AllSpent hs
        all_spent few =
            ⊎_elim (λ (all : AllSpent (hands_of ws)). subst AllSpent (sym same) all)
            (λ (above : limit < reduction.weight (combination_of reduction (map meaning (parts_of ws)))). absurd (omega (arith, few, above))) spent

        pub fanned_settled : (outcome : Outcome P) → Decides meaning (combination_of reduction (map meaning (parts_of ws))) (reduction.weight (combination_of reduction (map meaning (parts_of ws)))) limit outcome → Settles outcome hs
        fanned_settled (Whole p) told = let all = all_spent told.1 in (all, λ x. (apart x).1 all)
        fanned_settled Over told = tt

        pub fanned_decided : (outcome : Outcome P) → Decides meaning (combination_of reduction (map meaning (parts_of ws))) (reduction.weight (combination_of reduction (map meaning (parts_of ws)))) limit outcome
            → Decides meaning (reduction.combine (combination_of reduction (map meaning (parts_of vs))) (reduction_below reduction (pieces_of (hands_of vs)))) (reduction.weight (combination_of reduction (map meaning (parts_of vs))) + sum_below (λ j. reduction.weight (reduction.piece j)) (pieces_of (hands_of vs))) limit outcome
        fanned_decided (Whole p) told =
            let each : (x : ℕ) → times x (numbers_of_all (hands_of ws)) ≡ once_below x (pieces_of (hands_of vs)) =
            λ x. subst (λ l. times x (numbers_of_all l) ≡ once_below x (pieces_of (hands_of vs))) same ((apart x).1 (all_spent told.1) ∙ ap (once_below x) fanned_deal.1) in
            let whole = came_whole laws meaning vs ready ws did each in
            let begin = together_fits laws (map meaning (parts_of vs)) (each_of reduction.fits meaning (parts_of vs) ready.fit) in
            let count = ap reduction.weight whole ∙ laws.weight_adds _ _ begin (total_fits laws (pieces_of (hands_of vs))) in
            let of_all = total_weight laws (pieces_of (hands_of vs)) in
            let few = told.1 in
            (told.0 ∙ whole, omega (arith, count, of_all, few))
        fanned_decided Over told =
            let within = came_within laws meaning vs ready ws did at_most_once in
            omega (arith, within, told)

-- a part made before that means what the unit means is as none
module _ {M P : Type 0} {reduction : Reduction M} (laws : Lawful reduction) (meaning : P → M) (first : M) (is : first ≡ reduction.unit) where
  pub unit_first : reduction.fits first
  unit_first = subst reduction.fits (sym is) laws.unit_fits

  pub unit_loads : (n : ℕ) → sum_below (λ i. reduction.load (reduction.piece i)) n < 2 ^ 63 → reduction.load first + sum_below (λ i. reduction.load (reduction.piece i)) n < 2 ^ 63
  unit_loads n room = let none = ap reduction.load is ∙ laws.unit_load in omega (arith, none, room)

  pub decides_alone : (n limit : ℕ) (outcome : Outcome P) → Decides meaning (reduction.combine first (reduction_below reduction n)) (reduction.weight first + sum_below (λ i. reduction.weight (reduction.piece i)) n) limit outcome → Decides meaning (reduction_below reduction n) (sum_below (λ i. reduction.weight (reduction.piece i)) n) limit outcome
  decides_alone n limit outcome decided =
      let none : reduction.weight first + sum_below (λ i. reduction.weight (reduction.piece i)) n ≡ sum_below (λ i. reduction.weight (reduction.piece i)) n = let w = ap reduction.weight is ∙ laws.unit_weight in omega (arith, w) in
      let same = ap (λ m. reduction.combine m (reduction_below reduction n)) is ∙ laws.unit_combined _ (total_fits laws n) in
      subst (λ (k : ℕ). Decides meaning (reduction_below reduction n) k limit outcome) none (subst (λ m. Decides meaning m (reduction.weight first + sum_below (λ i. reduction.weight (reduction.piece i)) n) limit outcome) same decided)

  pub outweighs_alone : (limit : ℕ) (outcome : Outcome P) (hs : List Holding) → IsAbove (reduction.weight first + sum_by (λ i. reduction.weight (reduction.piece i)) (numbers_of_all hs)) limit outcome → Outweighs (λ i. reduction.weight (reduction.piece i)) limit outcome hs
  outweighs_alone limit (Whole p) hs above = tt
  outweighs_alone limit Over hs above = let none = ap reduction.weight is ∙ laws.unit_weight in omega (arith, none, above)
