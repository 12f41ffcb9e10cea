-- The parts that hands begin with, and those that they come to.
use Rattle.std.proofs.Common.{◌≡◌, ℕ, zero, suc, ◌+◌, ◌-◌, ◌^◌, ◌<◌, ◌≤◌, List, [], ◌∷◌, ◌++◌, length, map, min, All, sym, refl, ap, ◌∙◌, subst, sum_by, arith}
use Rattle.std.proofs.lemmas.List.{length-map}
use mathlib.Core.Option.{some}
use lib.ListN.{get_elem?}
use Rattle.pool.specs.Reduction.{Reduction, reduction_below}
use Rattle.pool.specs.Dealing.{times}
use Rattle.pool.specs.Inside.Combination.{combination_of}
use Rattle.pool.specs.Combination.{reduction_from}
use Rattle.pool.specs.Totals.{once_below, sum_below}
use Rattle.pool.specs.Lawful.{Lawful}
use Rattle.pool.specs.Holding.{Holding, IsHolding, numbers_of}
use Rattle.pool.specs.Settled.{numbers_of_all, pieces_of}
use Rattle.pool.specs.Assembly.{IsFresh, IsNewDeal}
use Rattle.pool.specs.Done.{Worker}
use Rattle.pool.specs.Inside.Done.{hands_of, sums_of, parts_of}
use Rattle.pool.specs.Inside.Fanned.{AreReady, AreUnderWay, beginning_at, DidAll, HaveResumed}
use Rattle.pool.proofs.Fans.{all_at, all_map, did_all, did_under_way}
use Rattle.pool.proofs.Gather.{gathered_fits, gathered_whole, onto-append, onto_apart, onto_fits, onto_load, onto_weight, sum_by-within, unit_after}
use Rattle.pool.proofs.Works.{light_part, may_begin}

-- each of a list has this
abbrev pub Each : {M : Type 0} → (M → Type 0) → List M → Type 0
Each Has [] = Unit {0}
Each Has (m ∷ ms) = Has m × Each Has ms

pub each_of : {M P : Type 0} (Has : M → Type 0) (meaning : P → M) (ps : List P) → All (λ p. Has (meaning p)) ps → Each Has (map meaning ps)
each_of Has meaning [] all = tt
each_of Has meaning (p ∷ ps) all = (all 0 p (omega arith), each_of Has meaning ps (λ i d low. all (suc i) d (omega (arith, low))))

pub all_each : {M P : Type 0} (Has : M → Type 0) (meaning : P → M) (ps : List P) → Each Has (map meaning ps) → All (λ p. Has (meaning p)) ps
all_each Has meaning [] each i d low = absurd (omega (arith, low))
all_each Has meaning (p ∷ ps) each zero d low = each.0
all_each Has meaning (p ∷ ps) each (suc i) d low = all_each Has meaning ps each.1 i d (omega (arith, low))

length-parts_of : {P : Type 0} (ws : List (Worker P)) → length (parts_of ws) ≡ length ws
length-parts_of [] = refl
length-parts_of (w ∷ ws) = ap suc (length-parts_of ws)

pub light_fit : {M : Type 0} (reduction : Reduction M) (ms : List M) → Each (λ m. reduction.fits m × (reduction.load m < 2 ^ 63)) ms → Each reduction.fits ms
light_fit reduction [] each = tt
light_fit reduction (m ∷ ms) each = (each.0.0, light_fit reduction ms each.1)

module _ {M : Type 0} {reduction : Reduction M} (laws : Lawful reduction) where
  pub together_fits : (ms : List M) → Each reduction.fits ms → reduction.fits (combination_of reduction ms)
  together_fits [] each = laws.unit_fits
  together_fits (m ∷ ms) each = laws.combined_fits _ _ each.0 (together_fits ms each.1)

  pub begun_fits : (ms : List M) → Each reduction.fits ms → (i : ℕ) → reduction.fits (beginning_at reduction ms i)
  begun_fits [] each i = laws.unit_fits
  begun_fits (m ∷ ms) each zero = each.0
  begun_fits (m ∷ ms) each (suc i) = begun_fits ms each.1 i

  pub begun_load : (ms : List M) → Each reduction.fits ms → (i : ℕ) → reduction.load (beginning_at reduction ms i) ≤ reduction.load (combination_of reduction ms)
  begun_load [] each i = omega arith
  begun_load (m ∷ ms) each zero = let a = laws.load_adds _ _ each.0 (together_fits ms each.1) in omega (arith, a)
  begun_load (m ∷ ms) each (suc i) = let a = laws.load_adds _ _ each.0 (together_fits ms each.1) in let b = begun_load ms each.1 i in omega (arith, a, b)

  -- of two pairs, the firsts and the seconds
  crossed : (a b c d : M) → reduction.fits a → reduction.fits b → reduction.fits c → reduction.fits d → reduction.combine (reduction.combine a b) (reduction.combine c d) ≡ reduction.combine (reduction.combine a c) (reduction.combine b d)
  crossed a b c d fa fb fc fd =
      laws.associative a b (reduction.combine c d) fa fb (laws.combined_fits c d fc fd)
      ∙ ap (reduction.combine a) (sym (laws.associative b c d fb fc fd) ∙ ap (λ m. reduction.combine m d) (laws.commutative b c fb fc) ∙ laws.associative c b d fc fb fd)
      ∙ sym (laws.associative a c (reduction.combine b d) fa fc (laws.combined_fits b d fb fd))

  -- one part, and such of no piece behind others
  pub alone_together : (m : M) → reduction.fits m → combination_of reduction (m ∷ []) ≡ m
  alone_together m its = unit_after laws m its

  module _ {P : Type 0} (meaning : P → M) where
    pub units_behind : (ps : List P) (p : P) → Each reduction.fits (map meaning ps) → meaning p ≡ reduction.unit
        → Each reduction.fits (map meaning (ps ++ p ∷ [])) × (combination_of reduction (map meaning (ps ++ p ∷ [])) ≡ combination_of reduction (map meaning ps))
    units_behind [] p each is = ((subst reduction.fits (sym is) laws.unit_fits, tt), ap (λ x. reduction.combine x reduction.unit) is ∙ laws.unit_combined reduction.unit laws.unit_fits)
    units_behind (q ∷ qs) p each is = let r = units_behind qs p each.1 is in ((each.0, r.0), ap (reduction.combine (meaning q)) r.1)

    pub none_together : (ls : List P) → length ls ≡ 0 → combination_of reduction (map meaning ls) ≡ reduction.unit
    none_together [] none = refl
    none_together (x ∷ xs) none = absurd (omega (arith, none))

    -- while parts are gone through: the next one, and those behind it
    module _ (ls : List P) (x : P) (xs : List P) (next : ls ≡ x ∷ xs) (each : Each reduction.fits (map meaning ls)) where
      pub next_each : reduction.fits (meaning x) × Each reduction.fits (map meaning xs)
      next_each = subst (λ l. Each reduction.fits (map meaning l)) next each

      pub next_together : combination_of reduction (map meaning ls) ≡ reduction.combine (meaning x) (combination_of reduction (map meaning xs))
      next_together = ap (λ l. combination_of reduction (map meaning l)) next

      pub next_load : reduction.load (combination_of reduction (map meaning ls)) ≡ reduction.load (meaning x) + reduction.load (combination_of reduction (map meaning xs))
      next_load = ap reduction.load next_together ∙ laws.load_adds _ _ next_each.0 (together_fits (map meaning xs) next_each.1)

      pub next_weight : reduction.weight (combination_of reduction (map meaning ls)) ≡ reduction.weight (meaning x) + reduction.weight (combination_of reduction (map meaning xs))
      next_weight = ap reduction.weight next_together ∙ laws.weight_adds _ _ next_each.0 (together_fits (map meaning xs) next_each.1)

  module _ {P : Type 0} (meaning : P → M) where
    -- whatever the hands did: the parts come to what they began with and all that was taken
    pub did_together : (ms : List M) (vs ws : List (Worker P)) → Each reduction.fits ms → length ms ≡ length vs
        → DidAll (beginning_at reduction ms) reduction meaning vs ws
        → Each reduction.fits (map meaning (parts_of ws)) × (combination_of reduction (map meaning (parts_of ws)) ≡ reduction.combine (combination_of reduction ms) (reduction_from reduction reduction.unit (numbers_of_all (hands_of ws))))
    did_together [] [] [] each count all = (tt, sym (laws.unit_combined reduction.unit laws.unit_fits))
    did_together [] [] (w ∷ ws) each count all = absurd all
    did_together [] (v ∷ vs) ws each count all = absurd (omega (arith, count))
    did_together (m ∷ ms) [] ws each count all = absurd (omega (arith, count))
    did_together (m ∷ ms) (v ∷ vs) [] each count all = absurd all
    did_together (m ∷ ms) (v ∷ vs) (w ∷ ws) each count all =
        let r = did_together ms vs ws each.1 (omega (arith, count)) all.1 in
        let its = numbers_of w.hand in
        let others = numbers_of_all (hands_of ws) in
        let is = all.0.part ∙ onto_apart laws m each.0 its in (
          (subst reduction.fits (sym all.0.part) (onto_fits laws m each.0 its), r.0),
          ap (λ x. reduction.combine x (combination_of reduction (map meaning (parts_of ws)))) is
              ∙ ap (reduction.combine (reduction.combine m (reduction_from reduction reduction.unit its))) r.1
              ∙ crossed m (reduction_from reduction reduction.unit its) (combination_of reduction ms) (reduction_from reduction reduction.unit others) each.0 (gathered_fits laws its) (together_fits ms each.1) (gathered_fits laws others)
              ∙ ap (reduction.combine (reduction.combine m (combination_of reduction ms))) (sym (onto-append laws reduction.unit laws.unit_fits its others)),
        )

    -- new hands may go on, each from its part
    new_under_way : (ws : List (Worker P)) (pieces : ℕ) → Each reduction.fits (map meaning (parts_of ws)) → ((i : ℕ) (h : Holding) → get_elem? (hands_of ws) i ≡ some h → IsFresh pieces h)
        → ((i : ℕ) → reduction.load (beginning_at reduction (map meaning (parts_of ws)) i) + sum_below (λ j. reduction.load (reduction.piece j)) pieces < 2 ^ 63)
        → ((i : ℕ) (s : ℕ) → get_elem? (sums_of ws) i ≡ some s → sum_below (λ j. reduction.load (reduction.piece j)) pieces + s < 2 ^ 63) → AreUnderWay (beginning_at reduction (map meaning (parts_of ws))) reduction meaning ws
    new_under_way [] pieces each new loads room = tt
    new_under_way (w ∷ ws) pieces each new loads room =
        let n = new 0 w.hand refl in (
          may_begin laws (meaning w.part) each.0 w.hand w.sum (meaning w.part) n.1 refl
              (subst (λ p. reduction.load (meaning w.part) + sum_below (λ j. reduction.load (reduction.piece j)) p < 2 ^ 63) (sym n.0) (loads 0))
              (subst (λ p. sum_below (λ j. reduction.load (reduction.piece j)) p + w.sum < 2 ^ 63) (sym n.0) (room 0 w.sum refl)),
          new_under_way ws pieces each.1 (λ i h at. new (suc i) h at) (λ i. loads (suc i)) (λ i s at. room (suc i) s at),
        )

    -- the parts of those who are under way fit, and have no great load
    light_parts : (begin : ℕ → M) (ws : List (Worker P)) → ((i : ℕ) → reduction.fits (begin i)) → AreUnderWay begin reduction meaning ws → ((i : ℕ) (h : Holding) → get_elem? (hands_of ws) i ≡ some h → IsHolding h)
        → Each (λ m. reduction.fits m × (reduction.load m < 2 ^ 63)) (map meaning (parts_of ws))
    light_parts begin [] fits all holding = tt
    light_parts begin (w ∷ ws) fits all holding = (
      (subst reduction.fits (sym all.0.part) (onto_fits laws (begin 0) (fits 0) (numbers_of w.hand)), light_part laws (begin 0) (fits 0) w.hand w.sum (meaning w.part) all.0 (holding 0 w.hand refl)),
      light_parts (λ i. begin (suc i)) ws (λ i. fits (suc i)) all.1 (λ i h at. holding (suc i) h at),
    )

    -- hands of a new deal, with parts that come to one that was made before
    pub ready_new : {S : Type 0} (sum : S → ℕ) (ws : List (Worker P)) (hs : List Holding) (ss : List S) (ps : List P) (n : ℕ) (first : M) → hands_of ws ≡ hs → sums_of ws ≡ map sum ss → parts_of ws ≡ ps
        → IsNewDeal (pieces_of hs) n hs → All (λ p. reduction.fits (meaning p)) ps → combination_of reduction (map meaning ps) ≡ first → reduction.load first + sum_below (λ j. reduction.load (reduction.piece j)) (pieces_of hs) < 2 ^ 63
        → ((i : ℕ) (s : S) → get_elem? ss i ≡ some s → sum_below (λ j. reduction.load (reduction.piece j)) (pieces_of hs) + sum s < 2 ^ 63) → AreReady reduction meaning ws
    ready_new sum ws hs ss ps n first hands sums parts new fit is loads room = record {
      deal = rw hands (subst (λ k. IsNewDeal (pieces_of hs) k hs) (sym new.1) new);
      fit = subst (λ l. All (λ p. reduction.fits (meaning p)) l) (sym parts) fit;
      loads = rw (hands, parts, is) loads;
      room = rw (hands, sums) (all_map (λ n. sum_below (λ j. reduction.load (reduction.piece j)) (pieces_of hs) + n < 2 ^ 63) sum ss room);
    }

    module _ (vs : List (Worker P)) (ready : AreReady reduction meaning vs) where
      ready_each : Each reduction.fits (map meaning (parts_of vs))
      ready_each = each_of reduction.fits meaning (parts_of vs) ready.fit

      pub ready_begins : (i : ℕ) → reduction.fits (beginning_at reduction (map meaning (parts_of vs)) i)
      ready_begins i = begun_fits (map meaning (parts_of vs)) ready_each i

      ready_loads : (i : ℕ) → reduction.load (beginning_at reduction (map meaning (parts_of vs)) i) + sum_below (λ j. reduction.load (reduction.piece j)) (pieces_of (hands_of vs)) < 2 ^ 63
      ready_loads i =
          let a = begun_load (map meaning (parts_of vs)) ready_each i in
          let b = ready.loads in
          omega (arith, a, b)

      ready_room : (i : ℕ) (s : ℕ) → get_elem? (sums_of vs) i ≡ some s → sum_below (λ j. reduction.load (reduction.piece j)) (pieces_of (hands_of vs)) + s < 2 ^ 63
      ready_room i s at = all_at (λ n. sum_below (λ j. reduction.load (reduction.piece j)) (pieces_of (hands_of vs)) + n < 2 ^ 63) (sums_of vs) i s at ready.room

      pub ready_under_way : AreUnderWay (beginning_at reduction (map meaning (parts_of vs))) reduction meaning vs
      ready_under_way = new_under_way vs (pieces_of (hands_of vs)) ready_each ready.deal.2 ready_loads ready_room

      -- what they did, where they began with these parts
      pub resumed_did : (ws : List (Worker P)) → HaveResumed reduction meaning vs ws → DidAll (beginning_at reduction (map meaning (parts_of vs))) reduction meaning vs ws
      resumed_did ws resumed = resumed (beginning_at reduction (map meaning (parts_of vs))) ready_begins ready_under_way

      module _ (ws : List (Worker P)) (did : DidAll (beginning_at reduction (map meaning (parts_of vs))) reduction meaning vs ws) where
        pub came_under_way : AreUnderWay (beginning_at reduction (map meaning (parts_of vs))) reduction meaning ws
        came_under_way =
            let deal = ready.deal.0 in
            did_under_way reduction meaning deal.2.0 (pieces_of (hands_of vs)) (length (hands_of vs)) (beginning_at reduction (map meaning (parts_of vs))) vs ws did
            (λ i h at. ((ready.deal.2 i h at).1, (i, deal.2.1 i h at))) ready_loads ready_room

        came : Each reduction.fits (map meaning (parts_of ws)) × (combination_of reduction (map meaning (parts_of ws)) ≡ reduction.combine (combination_of reduction (map meaning (parts_of vs))) (reduction_from reduction reduction.unit (numbers_of_all (hands_of ws))))
        came = did_together (map meaning (parts_of vs)) vs ws ready_each (length-map (parts_of vs) meaning ∙ length-parts_of vs) did

        begin_fits : reduction.fits (combination_of reduction (map meaning (parts_of vs)))
        begin_fits = together_fits (map meaning (parts_of vs)) ready_each

        pub came_fit : All (λ p. reduction.fits (meaning p)) (parts_of ws)
        came_fit = all_each reduction.fits meaning (parts_of ws) came.0

        pub came_light : All (λ p. reduction.fits (meaning p) × (reduction.load (meaning p) < 2 ^ 63)) (parts_of ws)
        came_light =
            let deal = did_all reduction meaning (beginning_at reduction (map meaning (parts_of vs))) vs ws did ready.deal.0 in
            all_each (λ m. reduction.fits m × (reduction.load m < 2 ^ 63)) meaning (parts_of ws)
            (light_parts (beginning_at reduction (map meaning (parts_of vs))) ws ready_begins came_under_way (λ i h at. (deal.1.2.1 i h at).5))

        pub came_weight : reduction.weight (combination_of reduction (map meaning (parts_of ws))) ≡ reduction.weight (combination_of reduction (map meaning (parts_of vs))) + sum_by (λ j. reduction.weight (reduction.piece j)) (numbers_of_all (hands_of ws))
        came_weight =
            let a = ap reduction.weight came.1 ∙ laws.weight_adds _ _ begin_fits (gathered_fits laws (numbers_of_all (hands_of ws))) in
            let b = onto_weight laws reduction.unit laws.unit_fits (numbers_of_all (hands_of ws)) in
            let c = laws.unit_weight in
            omega (arith, a, b, c)

        came_load : reduction.load (combination_of reduction (map meaning (parts_of ws))) ≡ reduction.load (combination_of reduction (map meaning (parts_of vs))) + sum_by (λ j. reduction.load (reduction.piece j)) (numbers_of_all (hands_of ws))
        came_load =
            let a = ap reduction.load came.1 ∙ laws.load_adds _ _ begin_fits (gathered_fits laws (numbers_of_all (hands_of ws))) in
            let b = onto_load laws reduction.unit laws.unit_fits (numbers_of_all (hands_of ws)) in
            let c = laws.unit_load in
            omega (arith, a, b, c)

        -- where no piece was taken twice
        module _ (once : (x : ℕ) → times x (numbers_of_all (hands_of ws)) ≤ once_below x (pieces_of (hands_of vs))) where
          pub came_room : reduction.load (combination_of reduction (map meaning (parts_of ws))) < 2 ^ 63
          came_room =
              let a = came_load in
              let b = sum_by-within (λ j. reduction.load (reduction.piece j)) (pieces_of (hands_of vs)) (numbers_of_all (hands_of ws)) once in
              let c = ready.loads in
              omega (arith, a, b, c)

          -- so the weight that was counted is the whole weight
          pub came_counted : (weight : ℕ) → weight ≡ min (reduction.weight (combination_of reduction (map meaning (parts_of ws)))) (2 ^ 64 - 1) → weight ≡ reduction.weight (combination_of reduction (map meaning (parts_of ws)))
          came_counted weight is =
              let a = laws.weight_at_most_load _ (together_fits (map meaning (parts_of ws)) came.0) in
              let b = came_room in
              omega (arith, is, a, b)

          pub came_within : reduction.weight (combination_of reduction (map meaning (parts_of ws))) ≤ reduction.weight (combination_of reduction (map meaning (parts_of vs))) + sum_below (λ j. reduction.weight (reduction.piece j)) (pieces_of (hands_of vs))
          came_within =
              let a = came_weight in
              let b = sum_by-within (λ j. reduction.weight (reduction.piece j)) (pieces_of (hands_of vs)) (numbers_of_all (hands_of ws)) once in
              omega (arith, a, b)

        -- where each piece was taken
        pub came_whole : ((x : ℕ) → times x (numbers_of_all (hands_of ws)) ≡ once_below x (pieces_of (hands_of vs)))
            → combination_of reduction (map meaning (parts_of ws)) ≡ reduction.combine (combination_of reduction (map meaning (parts_of vs))) (reduction_below reduction (pieces_of (hands_of vs)))
        came_whole each = came.1 ∙ ap (reduction.combine (combination_of reduction (map meaning (parts_of vs)))) (gathered_whole laws (pieces_of (hands_of vs)) (numbers_of_all (hands_of ws)) each)
