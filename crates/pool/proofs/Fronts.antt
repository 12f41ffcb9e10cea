-- What one schedule of a whole deal comes to.
use Rattle.std.proofs.Common.{◌≡◌, ◌≢◌, ℕ, zero, suc, ◌+◌, ◌-◌, ◌%◌, ◌<◌, ◌≤◌, ◌==◌, true, List, [], ◌∷◌, ◌++◌, length, sym, refl, ap, ◌∙◌, subst, ⊎_elim, arith, ne_eqb, eq-eqb}
use Rattle.std.proofs.lemmas.Bool.{cases_eq, cases_lt}
use Rattle.std.proofs.lemmas.Nat.{mod_below}
use Rattle.std.proofs.Math.Nat.{add-mod_right}
use mathlib.Core.Option.{some}
use lib.ListN.{get_elem?}
use Rattle.std.specs.declared.alloc.Global.{Global}
use Rattle.pool.specs.Dealing.{state, put, after, times, AllAbove, Ascends, residue_class, left_after, GoesOn, steps_at, AreStepsOf}
use Rattle.pool.specs.Totals.{once_below}
use Rattle.pool.specs.Rule.{AllBelow}
use Rattle.pool.specs.Steps.{AreKnown}
use Rattle.pool.specs.Inside.Looks.{history_in, AllReach, HaveOneRun, seats_from}
use Rattle.pool.specs.Seen.{Seen}
use Rattle.pool.specs.Holding.{Holding}
use Rattle.pool.specs.Settled.{AreAll, AreRun, AllSpent, HaveEachOnce, HaveNoneTwice, HaveNonePassedOver, numbers_of_all, pieces_of}
use Rattle.pool.proofs.Machine.{none_left, times-append}
use Rattle.pool.proofs.Deals.{after_reach, before_reach, at_left, at_right, dealt_ascends, dealt_times, its, mine_belongs, mine_made, mod_small, spent_at, whole_count}
use Rattle.pool.proofs.Gather.{one_if}
use Rattle.pool.proofs.Runs.{one_run_count}

-- What was taken lies before what is left

run_gone : (schedule deque : List ℕ) (lists : ℕ → List ℕ) → (gone : List ℕ) × (deque ≡ gone ++ (after schedule (state deque lists)).deque)
run_gone [] deque lists = ([], refl)
run_gone (hand ∷ schedule) [] lists = run_gone schedule [] lists
run_gone (hand ∷ schedule) (x ∷ xs) lists = let r = run_gone schedule xs (put lists hand x) in (x ∷ r.0, ap (λ l. x ∷ l) r.1)

above_back : (y : ℕ) (gone rest : List ℕ) → AllAbove y (gone ++ rest) → AllAbove y rest
above_back y [] rest a = a
above_back y (z ∷ zs) rest a = above_back y zs rest a.1

none_if_other : (x y : ℕ) → x ≢ y → one_if x y ≡ 0
none_if_other x y n = rw (ne_eqb x y n) refl

one_if_same : (x : ℕ) → one_if x x ≡ 1
one_if_same x = let e : (x == x) ≡ true = eq-eqb x x refl in rw e refl

above_none : (y x : ℕ) (rest : List ℕ) → AllAbove y rest → x ≤ y → times x rest ≡ 0
above_none y x [] a le = refl
above_none y x (z ∷ zs) a le = let i = above_none y x zs a.1 le in let l = a.0 in let o = none_if_other z x (λ e. omega (arith, e, l, le)) in omega (arith, i, o)

-- a number before one that is gone is not left
gone_before : (x y : ℕ) (gone rest : List ℕ) → x < y → Ascends (gone ++ rest) → 0 < times y gone → times x rest ≡ 0
gone_before x y [] rest l up some_one = absurd (omega arith)
gone_before x y (z ∷ zs) rest l up some_one =
    ⊎_elim (λ (e : z ≡ y). above_none z x rest (above_back z zs rest up.0) (omega (arith, l, e)))
    (λ (n : z ≢ y). let o = none_if_other z y n in gone_before x y zs rest l up.1 (omega (arith, some_one, o)))
    (cases_eq z y)

once_none : (x n : ℕ) → n ≤ x → once_below x n ≡ 0
once_none x zero h = refl
once_none x (suc k) h = let e = none_if_other k x (λ (i : k ≡ x). omega (arith, h, i)) in omega (arith, e, once_none x k (omega (arith, h)))

once_one : (x n : ℕ) → x < n → once_below x n ≡ 1
once_one x zero h = absurd (omega (arith, h))
once_one x (suc k) h =
    ⊎_elim (λ (e : k ≡ x). let a = subst (λ z. one_if k z ≡ 1) e (one_if_same k) in let b = once_none x k (omega (arith, e)) in omega (arith, a, b))
    (λ (n : k ≢ x). let a = none_if_other k x n in let b = once_one x k (omega (arith, h, n)) in omega (arith, a, b))
    (cases_eq k x)

-- The hands of a deal, split at one of them

split : (hs : List Holding) (d : ℕ) → d < length hs → (before : List Holding) × (mine : Holding) × (rest : List Holding) × (hs ≡ before ++ mine ∷ rest) × (length before ≡ d)
split [] d low = absurd (omega (arith, low))
split (h ∷ hs) zero low = ([], h, hs, refl, refl)
split (h ∷ hs) (suc d) low = let s = split hs d (omega (arith, low)) in (h ∷ s.0, s.1, s.2, ap (λ l. h ∷ l) s.3, ap suc s.4)

-- what hands at the places from r down know
reach_known : (deque : (ℕ × ℕ) × Global) (numbers schedule : List ℕ) (hs : List Holding) (r : ℕ) → length hs ≤ r → AllReach deque numbers r hs
    → ((i j : ℕ) (h : Holding) (s : Seen) → get_elem? hs i ≡ some h → get_elem? h.others j ≡ some s → i + suc j ≡ r → GoesOn s.numbers s.place s.history schedule) → AreKnown numbers schedule (seats_from r hs)
reach_known deque numbers schedule [] r long all each = tt
reach_known deque numbers schedule (h ∷ hs) r long all each =
    let s = all.0.1.0 in
    let at = all.0.1.1 in
    let g : GoesOn s.numbers s.place s.history schedule = each 0 (r - 1) h s refl at (let p = all.0.0 in omega (arith, p)) in
    let k : GoesOn numbers r s.history schedule = subst (λ n. GoesOn n r s.history schedule) all.0.1.3 (subst (λ p. GoesOn s.numbers p s.history schedule) all.0.1.4 g) in (
      subst (λ l. GoesOn numbers r l schedule) (sym (ap history_in at)) k,
      reach_known deque numbers schedule hs (r - 1) (omega (arith, long)) all.1 (λ i j f u at_f at_u is. each (suc i) j f u at_f at_u (omega (arith, is, long))),
    )

module _ (hs : List Holding) (deal : AreAll hs) (run : AreRun hs) where
  module _ (d : ℕ) (low : d < length hs) where
    before : List Holding
    before = (split hs d low).0

    mine : Holding
    mine = (split hs d low).1

    rest : List Holding
    rest = (split hs d low).2

    is : hs ≡ before ++ mine ∷ rest
    unfolding before mine rest
    is = (split hs d low).3

    len : length before ≡ d
    unfolding before
    len = (split hs d low).4

    below : (schedule : List (ℕ × ℕ)) → AreStepsOf (length hs) schedule → AllBelow (length hs) (steps_at d schedule)
    below [] steps = tt
    below (s ∷ schedule) steps =
        ⊎_elim (λ (e : s.0 ≡ d). rw (eq-eqb s.0 d e) (steps.0, below schedule steps.1)) (λ (n : s.0 ≢ d). rw (ne_eqb s.0 d n) (below schedule steps.1)) (cases_eq s.0 d)

    one_run : HaveOneRun mine.own before rest
    one_run =
        let w = whole_count hs before rest mine d deal is len in
        let m = mine_made hs before rest mine d deal is len in
        let b = mine_belongs hs before rest mine d deal is len in
        let its_run = run.2 d low in
        let at_mine : get_elem? hs d ≡ some mine = subst (λ l. get_elem? l d ≡ some mine) (sym is) (let e : length before + 0 ≡ d = omega (arith, len) in subst (λ k. get_elem? (before ++ mine ∷ rest) k ≡ some mine) e (at_right before (mine ∷ rest) 0 mine refl)) in
        let z : d + 0 ≡ d = omega arith in
        let own = its_run d mine 0 mine.own.seen at_mine refl (ap (λ k. k % length hs) z ∙ mod_small d (length hs) low) in (
          steps_at d run.0,
          subst (λ n. AllBelow n (steps_at d run.0)) (sym (m ∙ w)) (below run.0 run.1),
          subst (λ p. GoesOn mine.own.seen.numbers p mine.own.seen.history (steps_at d run.0)) b.5.1 own,
          reach_known mine.own.seen.deque mine.own.seen.numbers (steps_at d run.0) rest (length before + length rest) (omega arith) (after_reach hs before rest mine d deal is len)
              (λ i j h s at_h at_s faces.
              let at : get_elem? hs (length before + suc i) ≡ some h = subst (λ l. get_elem? l (length before + suc i) ≡ some h) (sym is) (at_right before (mine ∷ rest) (suc i) h at_h) in
              let e : length before + suc i + suc j ≡ d + length hs = omega (arith, faces, len, w) in
              its_run (length before + suc i) h (suc j) s at at_s (ap (λ k. k % length hs) e ∙ add-mod_right d (length hs) ∙ mod_small d (length hs) low)),
          reach_known mine.own.seen.deque mine.own.seen.numbers (steps_at d run.0) before (length before) (omega arith) (before_reach hs before rest mine d deal is len)
              (λ i j h s at_h at_s faces.
              let at : get_elem? hs i ≡ some h = subst (λ l. get_elem? l i ≡ some h) (sym is) (at_left before (mine ∷ rest) i h at_h) in
              let e : i + suc j ≡ d = omega (arith, faces, len) in
              its_run i h (suc j) s at at_s (ap (λ k. k % length hs) e ∙ mod_small d (length hs) low)),
        )

    -- of a piece of this deque, how often it is in the lists of all hands, and how often it is left
    counts : (x : ℕ) → x % length hs ≡ d → times x (numbers_of_all hs) + times x (left_after (residue_class (length hs) d (pieces_of hs)) (steps_at d run.0)) ≡ once_below x (pieces_of hs)
    unfolding one_run
    counts x ours =
        let b = mine_belongs hs before rest mine d deal is len in
        let numbers : mine.own.seen.numbers ≡ residue_class (length hs) d (pieces_of hs) = b.5.2 ∙ ap (λ m. residue_class m mine.number mine.pieces) b.1 ∙ ap (λ m. residue_class (length hs) m mine.pieces) b.0 ∙ ap (residue_class (length hs) d) b.2 in
        let c = one_run_count mine before rest mine.own.seen.deque b.5.1 (mine_made hs before rest mine d deal is len) (after_reach hs before rest mine d deal is len) (before_reach hs before rest mine d deal is len) one_run x in
        let i = its hs before rest mine d deal is len x ours in
        let a = i.0 in
        let e = i.1 in
        let l = ap (λ n. times x (left_after n (steps_at d run.0))) numbers in
        omega (arith, c, a, e, l)

    -- nothing is left where its owner saw that
    none_there : AllSpent hs → left_after (residue_class (length hs) d (pieces_of hs)) (steps_at d run.0) ≡ []
    unfolding one_run
    none_there all =
        let b = mine_belongs hs before rest mine d deal is len in
        let numbers : mine.own.seen.numbers ≡ residue_class (length hs) d (pieces_of hs) = b.5.2 ∙ ap (λ m. residue_class m mine.number mine.pieces) b.1 ∙ ap (λ m. residue_class (length hs) m mine.pieces) b.0 ∙ ap (residue_class (length hs) d) b.2 in
        let e : length before + 0 ≡ d = omega (arith, len) in
        let at_mine : get_elem? hs d ≡ some mine = subst (λ l. get_elem? l d ≡ some mine) (sym is) (subst (λ k. get_elem? (before ++ mine ∷ rest) k ≡ some mine) e (at_right before (mine ∷ rest) 0 mine refl)) in
        ap (λ n. left_after n (steps_at d run.0)) (sym numbers) ∙ none_left mine.own.seen.numbers mine.own.seen.history (steps_at d run.0) 0 one_run.2 (b.5.5 (spent_at hs d mine at_mine all))

  low_of : (x : ℕ) → x % length hs < length hs
  low_of x = mod_below x (length hs) deal.0

  pub run_none_twice : HaveNoneTwice hs
  run_none_twice x = let c = counts (x % length hs) (low_of x) x refl in omega (arith, c)

  pub run_each_once : AllSpent hs → HaveEachOnce hs
  run_each_once all x = let c = counts (x % length hs) (low_of x) x refl in let n = ap (times x) (none_there (x % length hs) (low_of x) all) in omega (arith, c, n)

  pub run_none_passed : HaveNonePassedOver hs
  run_none_passed x y l same some_one =
      let d : ℕ = x % length hs in
      let numbers : List ℕ = residue_class (length hs) (x % length hs) (pieces_of hs) in
      let rest : List ℕ = left_after (residue_class (length hs) (x % length hs) (pieces_of hs)) (steps_at (x % length hs) run.0) in
      let cx = counts (x % length hs) (low_of x) x refl in
      let cy = counts (x % length hs) (low_of x) y (sym same) in
      let gone = run_gone (steps_at (x % length hs) run.0) numbers (λ _. []) in
      let ny = (dealt_times (length hs) (x % length hs) (pieces_of hs) y).0 (sym same) in
      let parts = ap (times y) gone.1 ∙ times-append y gone.0 rest in
      let up = subst Ascends gone.1 (dealt_ascends (length hs) (x % length hs) (pieces_of hs)) in
      let none = gone_before x y gone.0 rest l up (omega (arith, cy, ny, parts, some_one)) in
      let few : y < pieces_of hs = ⊎_elim (λ (g : y < pieces_of hs). g) (λ (g : pieces_of hs ≤ y). let o = once_none y (pieces_of hs) g in absurd (omega (arith, o, cy, some_one))) (cases_lt y (pieces_of hs)) in
      let one = once_one x (pieces_of hs) (omega (arith, few, l)) in
      omega (arith, cx, none, one)
