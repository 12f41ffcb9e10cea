-- The definitions, computed on examples: the steps of a deque, and a theft that no schedule allows.
use Rattle.std.proofs.Common.{◌≡◌, ◌%◌, ◌<◌, List, [], ◌∷◌, length, refl, sym, ap, subst, arith}
use Rattle.pool.specs.Dealing.{times, residue_class, left_after, taken_by, deal_begin, deal_after}
use Rattle.pool.specs.Holding.{Holding}
use Rattle.pool.specs.Settled.{AreAll, AreRun, numbers_of_all}
use Rattle.pool.proofs.Fronts.{run_none_passed}

-- Of 6 pieces that are dealt to 2 hands, the deque of hand 0 has 0, 2 and 4. The other hand takes
-- one, and then the owner
left : left_after (residue_class 2 0 6) (1 ∷ 0 ∷ []) ≡ 4 ∷ []
left = refl

stolen : taken_by (residue_class 2 0 6) (1 ∷ 0 ∷ []) 1 ≡ 0 ∷ []
stolen = refl

own : taken_by (residue_class 2 0 6) (1 ∷ 0 ∷ []) 0 ≡ 2 ∷ []
own = refl

-- a step at a deque that is empty moves nothing
nothing_taken : taken_by (residue_class 2 1 2) (0 ∷ 1 ∷ []) 1 ≡ []
nothing_taken = refl

-- the same of a whole deal, at its deque 1: hand 1 takes from deque 0, and then hand 0 from deque 1
left_of_deal : (deal_after ((0, 1) ∷ (1, 0) ∷ []) (deal_begin 2 4) 1).deque ≡ 3 ∷ []
left_of_deal = refl

-- Where 2 is in a list of the two hands of a deal, so is 0, which lies before it
zero_is_taken : (hs : List Holding) → AreAll hs → AreRun hs → length hs ≡ 2 → 0 < times 2 (numbers_of_all hs) → times 0 (numbers_of_all hs) ≡ 1
zero_is_taken hs deal run two some_one =
    let same_deque : 0 % length hs ≡ 2 % length hs = subst (λ n. 0 % n ≡ 2 % n) (sym two) refl in
    run_none_passed hs deal run 0 2 (omega arith) same_deque some_one

-- So no schedule lets a hand steal 2 while 0 is in nobody's list, and leaves the two hands with 1,
-- 3 and 2
no_such_theft : (hs : List Holding) → AreAll hs → AreRun hs → length hs ≡ 2 → numbers_of_all hs ≡ 1 ∷ 3 ∷ 2 ∷ [] → ⊥
no_such_theft hs deal run two theirs =
    let has_two = ap (times 2) theirs in
    let has_no_zero = ap (times 0) theirs in
    let zero = zero_is_taken hs deal run two (omega (arith, has_two)) in
    omega (arith, zero, has_no_zero)
