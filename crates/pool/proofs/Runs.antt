-- One schedule for each deque, and then for the whole deal.
use Rattle.std.proofs.Common.{◌≡◌, ◌≢◌, ℕ, zero, suc, ◌+◌, ◌-◌, ◌%◌, ◌<◌, ◌≤◌, true, false, ◌==◌, List, [], ◌∷◌, ◌++◌, length, sym, refl, ap, ◌∙◌, subst, ⊎_elim, arith, eq-eqb, ne_eqb}
use Rattle.std.proofs.lemmas.Bool.{cases_eq, cases_lt}
use mathlib.Core.Option.{some, some-injective, some-ne-none}
use lib.ListN.{get_elem?}
use Rattle.std.specs.declared.alloc.Global.{Global}
use Rattle.pool.specs.Dealing.{times, residue_class, left_after, taken_by, GoesOn, AreStepsOf, steps_at}
use Rattle.pool.specs.Totals.{sum_below}
use Rattle.pool.specs.Rule.{AllBelow}
use Rattle.pool.specs.Inside.Steps.{times_in_lists}
use Rattle.pool.specs.Steps.{AreKnown}
use Rattle.pool.specs.Seen.{Seen, list}
use Rattle.pool.specs.Holding.{Holding, IsRound}
use Rattle.pool.specs.Inside.Looks.{list_in, list_from, history_in, history_from, Reaches, AllReach, HaveOneRun, lists_from, seats_from}
use Rattle.pool.specs.Settled.{AreAll, AreRun, IsRunAt, pieces_of}
use Rattle.pool.proofs.Machine.{append_none, run_accounts}
use Rattle.pool.proofs.Rounds.{at_less}
use Rattle.pool.proofs.Deals.{mine_belongs, mine_made, mod_once, mod_small, round_at, whole_count}

-- Numbers

reach_list : (deque : (ℕ × ℕ) × Global) (numbers : List ℕ) (r : ℕ) (h : Holding) → Reaches deque numbers r h → list_from r h ≡ taken_by numbers (history_from r h) r
reach_list deque numbers r h reaches =
    let s = reaches.1.0 in
    let is = reaches.1.1 in
    ap list_in is ∙ ap (λ n. taken_by n s.history s.place) reaches.1.3 ∙ ap (λ p. taken_by numbers s.history p) reaches.1.4 ∙ ap (λ l. taken_by numbers l r) (sym (ap history_in is))

-- what hands at the places from r down have is what the schedule gives them
run_down : (x : ℕ) (deque : (ℕ × ℕ) × Global) (numbers schedule : List ℕ) (hs : List Holding) (r : ℕ) → length hs ≤ r → AllReach deque numbers r hs → AreKnown numbers schedule (seats_from r hs)
    → times_in_lists x (lists_from r hs) + sum_below (λ h. times x (taken_by numbers schedule h)) (suc r - length hs) ≡ sum_below (λ h. times x (taken_by numbers schedule h)) (suc r)
run_down x deque numbers schedule [] r long all known = let e : suc r - 0 ≡ suc r = omega arith in let b = ap (sum_below (λ h. times x (taken_by numbers schedule h))) e in omega (arith, b)
run_down x deque numbers schedule (h ∷ hs) r long all known =
    let i = run_down x deque numbers schedule hs (r - 1) (omega (arith, long)) all.1 known.1 in
    let e : suc (r - 1) ≡ r = omega (arith, long) in
    let f : suc (r - 1) - length hs ≡ suc r - length (h ∷ hs) = omega (arith, long) in
    let b = ap (sum_below (λ h. times x (taken_by numbers schedule h))) e in
    let c = ap (sum_below (λ h. times x (taken_by numbers schedule h))) f in
    let d = ap (times x) (reach_list deque numbers r h all.0 ∙ sym known.0.2) in
    omega (arith, i, b, c, d)

-- of a number, how often it is in the lists of all hands, and how often it is left
pub one_run_count : (mine : Holding) (before after : List Holding) (deque : (ℕ × ℕ) × Global) → mine.own.seen.place ≡ 0 → mine.own.made ≡ length before + length after + 1
    → AllReach deque mine.own.seen.numbers (length before + length after) after → AllReach deque mine.own.seen.numbers (length before) before → (run : HaveOneRun mine.own before after)
    → (x : ℕ) → times x (list mine.own.seen) + (times_in_lists x (lists_from (length before + length after) after) + times_in_lists x (lists_from (length before) before)) + times x (left_after mine.own.seen.numbers run.0) ≡ times x mine.own.seen.numbers
one_run_count mine before after deque place made ra rb run x =
    let f : ℕ → ℕ = λ h. times x (taken_by mine.own.seen.numbers run.0 h) in
    let a = run_down x deque mine.own.seen.numbers run.0 after (length before + length after) (omega arith) ra run.3 in
    let b = run_down x deque mine.own.seen.numbers run.0 before (length before) (omega arith) rb run.4 in
    let ea : suc (length before + length after) - length after ≡ suc (length before) = omega arith in
    let eb : suc (length before) - length before ≡ 1 = omega arith in
    let em : suc (length before + length after) ≡ mine.own.made = omega (arith, made) in
    let sa = ap (sum_below f) ea in
    let sb = ap (sum_below f) eb in
    let sm = ap (sum_below f) em in
    let own = ap (times x) (run.2.2 ∙ ap (taken_by mine.own.seen.numbers mine.own.seen.history) (sym place)) in
    let all = run_accounts x mine.own.made mine.own.seen.numbers run.0 run.1 in
    omega (arith, a, b, sa, sb, sm, own, all)

-- Steps

known_at : (numbers schedule : List ℕ) (hs : List Holding) (r i : ℕ) (h : Holding) → AreKnown numbers schedule (seats_from r hs) → get_elem? hs i ≡ some h → GoesOn numbers (r - i) (history_from (r - i) h) schedule
known_at numbers schedule [] r i h known at = absurd (some-ne-none h (sym at))
known_at numbers schedule (g ∷ gs) r zero h known at = let e : r - 0 ≡ r = omega arith in rw e (subst (λ k. GoesOn numbers r (history_from r k) schedule) (some-injective g h at) known.0)
known_at numbers schedule (g ∷ gs) r (suc i) h known at = let e : r - 1 - i ≡ r - suc i = omega arith in subst (λ p. GoesOn numbers p (history_from p h) schedule) e (known_at numbers schedule gs (r - 1) i h known.1 at)

seen_goes_on : (numbers schedule : List ℕ) (p j : ℕ) (h : Holding) (s : Seen) → p ≡ suc j → get_elem? h.others j ≡ some s → s.numbers ≡ numbers → s.place ≡ p → GoesOn numbers p (history_from p h) schedule → GoesOn s.numbers s.place s.history schedule
seen_goes_on numbers schedule p j h s is at same place g =
    let e : p - 1 ≡ j = omega (arith, is) in
    let its : history_from p h ≡ s.history = ap (λ i. history_in (get_elem? h.others i)) e ∙ ap history_in at in
    subst (λ n. GoesOn n s.place s.history schedule) (sym same) (subst (λ q. GoesOn numbers q s.history schedule) (sym place) (subst (λ l. GoesOn numbers p l schedule) its g))

at_before : (before rest : List Holding) (k : ℕ) (h : Holding) → k < length before → get_elem? (before ++ rest) k ≡ some h → get_elem? before k ≡ some h
at_before [] rest k h low at = absurd (omega (arith, low))
at_before (g ∷ gs) rest zero h low at = at
at_before (g ∷ gs) rest (suc k) h low at = at_before gs rest k h (omega (arith, low)) at

at_from : (before rest : List Holding) (i : ℕ) (h : Holding) → get_elem? (before ++ rest) (length before + i) ≡ some h → get_elem? rest i ≡ some h
at_from [] rest i h at = let e : 0 + i ≡ i = omega arith in subst (λ k. get_elem? rest k ≡ some h) e at
at_from (g ∷ gs) rest i h at = let e : length (g ∷ gs) + i ≡ suc (length gs + i) = omega arith in at_from gs rest i h (subst (λ k. get_elem? (g ∷ gs ++ rest) k ≡ some h) e at)

module _ (hs before after : List Holding) (mine : Holding) (d : ℕ) (deal : AreAll hs) (is : hs ≡ before ++ mine ∷ after) (len : length before ≡ d) (run : HaveOneRun mine.own before after) where
  numbers_are : mine.own.seen.numbers ≡ residue_class (length hs) d (pieces_of hs)
  numbers_are = let b = mine_belongs hs before after mine d deal is len in b.5.2 ∙ ap (λ m. residue_class m mine.number mine.pieces) b.1 ∙ ap (λ m. residue_class (length hs) m mine.pieces) b.0 ∙ ap (residue_class (length hs) d) b.2

  -- at the place r = suc j of the hand k, what it knows of the deque d
  other_goes_on : (k j : ℕ) (h : Holding) (s : Seen) → get_elem? hs k ≡ some h → get_elem? h.others j ≡ some s → (k + suc j) % length hs ≡ d → (p : ℕ) → p ≡ suc j → GoesOn mine.own.seen.numbers p (history_from p h) run.0 → GoesOn s.numbers s.place s.history run.0
  other_goes_on k j h s at there faces p place g =
      let b = deal.2.1 k h at in
      let i = b.5 in
      let round : IsRound k (length hs) (pieces_of hs) 1 h.others = subst (λ n. IsRound k (length hs) n 1 h.others) b.2 (subst (λ n. IsRound k n h.pieces 1 h.others) b.1 (subst (λ n. IsRound n h.hands h.pieces 1 h.others) b.0 i.4)) in
      let low = at_less h.others j s there in
      let r = round_at deal.2.0 k (length hs) (pieces_of hs) 1 h.others j low b.4 round in
      let same : r.0 ≡ s = some-injective r.0 s (sym r.1 ∙ there) in
      let e : k + (1 + j) ≡ k + suc j = omega arith in
      let numbers = ap (λ (u : Seen). u.numbers) (sym same) ∙ r.3 ∙ ap (λ m. residue_class (length hs) m (pieces_of hs)) (ap (λ m. m % length hs) e ∙ faces) ∙ sym numbers_are in
      let at_place : s.place ≡ p = ap (λ (u : Seen). u.place) (sym same) ∙ r.4 ∙ (let f : 1 + j ≡ p = omega (arith, place) in f) in
      seen_goes_on mine.own.seen.numbers run.0 p j h s place there numbers at_place g

  run_other : (k j : ℕ) (h : Holding) (s : Seen) → get_elem? hs k ≡ some h → get_elem? h.others j ≡ some s → (k + suc j) % length hs ≡ d → GoesOn s.numbers s.place s.history run.0
  run_other k j h s at there faces =
      let w = whole_count hs before after mine d deal is len in
      let low : k < length hs = at_less hs k h at in
      let b = deal.2.1 k h at in
      let few : suc j < length hs = (let a = at_less h.others j s there in let c = b.5.3 in let n = b.1 in omega (arith, a, c, n)) in
      let once = mod_once (k + suc j) (length hs) (omega (arith, low, few)) in
      ⊎_elim
      (λ (l : k < d).
      let p : length before - k ≡ suc j = ⊎_elim (λ (o : (k + suc j) % length hs ≡ k + suc j). omega (arith, o, faces, len, l)) (λ (o : (k + suc j) % length hs + length hs ≡ k + suc j). omega (arith, o, faces, len, l, few, w)) once in
      other_goes_on k j h s at there faces (length before - k) p (known_at mine.own.seen.numbers run.0 before (length before) k h run.4 (at_before before (mine ∷ after) k h (omega (arith, l, len)) (subst (λ l. get_elem? l k ≡ some h) is at))))
      (λ (g : d ≤ k). ⊎_elim
      (λ (e : k ≡ d). ⊎_elim (λ (o : (k + suc j) % length hs ≡ k + suc j). absurd (omega (arith, o, faces, e))) (λ (o : (k + suc j) % length hs + length hs ≡ k + suc j). absurd (omega (arith, o, faces, e, few))) once)
      (λ (n : k ≢ d).
      let i : length before + suc (k - d - 1) ≡ k = omega (arith, g, n, len) in
      let p : length before + length after - (k - d - 1) ≡ suc j = ⊎_elim (λ (o : (k + suc j) % length hs ≡ k + suc j). absurd (omega (arith, o, faces, g))) (λ (o : (k + suc j) % length hs + length hs ≡ k + suc j). omega (arith, o, faces, g, n, len, w)) once in
      other_goes_on k j h s at there faces (length before + length after - (k - d - 1)) p
      (known_at mine.own.seen.numbers run.0 after (length before + length after) (k - d - 1) h run.3
      (at_from before (mine ∷ after) (suc (k - d - 1)) h (subst (λ m. get_elem? (before ++ mine ∷ after) m ≡ some h) (sym i) (subst (λ l. get_elem? l k ≡ some h) is at)))))
      (cases_eq k d))
      (cases_lt k d)

  run_own : (k : ℕ) (h : Holding) → get_elem? hs k ≡ some h → (k + 0) % length hs ≡ d → GoesOn h.own.seen.numbers h.own.seen.place h.own.seen.history run.0
  run_own k h at faces =
      let low : k < length hs = at_less hs k h at in
      let z : k + 0 ≡ k = omega arith in
      let e : k ≡ d = sym (mod_small k (length hs) low) ∙ ap (λ m. m % length hs) (sym z) ∙ faces in
      let i : length before + 0 ≡ k = omega (arith, e, len) in
      let same : mine ≡ h = some-injective mine h (at_from before (mine ∷ after) 0 h (subst (λ m. get_elem? (before ++ mine ∷ after) m ≡ some h) (sym i) (subst (λ l. get_elem? l k ≡ some h) is at))) in
      let place = (mine_belongs hs before after mine d deal is len).5.1 in
      subst (λ (g : Holding). GoesOn g.own.seen.numbers g.own.seen.place g.own.seen.history run.0) same (subst (λ p. GoesOn mine.own.seen.numbers p mine.own.seen.history run.0) (sym place) run.2)

  run_each : IsRunAt d run.0 hs
  run_each k h zero s at there faces = subst (λ (u : Seen). GoesOn u.numbers u.place u.history run.0) (some-injective h.own.seen s there) (run_own k h at faces)
  run_each k h (suc j) s at there faces = run_other k j h s at there faces

  pub run_at : (schedule : List ℕ) × AllBelow (length hs) schedule × IsRunAt d schedule hs
  run_at =
      let w = whole_count hs before after mine d deal is len in
      let m = mine_made hs before after mine d deal is len in
      (run.0, subst (λ n. AllBelow n run.0) (m ∙ w) run.1, run_each)

-- Of the whole deal

tagged : ℕ → List ℕ → List (ℕ × ℕ)
tagged d [] = []
tagged d (h ∷ hs) = (d, h) ∷ tagged d hs

steps_at-append : (d : ℕ) (a b : List (ℕ × ℕ)) → steps_at d (a ++ b) ≡ steps_at d a ++ steps_at d b
steps_at-append d [] b = refl
steps_at-append d (s ∷ a) b =
    ⊎_elim (λ (e : s.0 ≡ d). rw (eq-eqb s.0 d e) (ap (λ l. s.1 ∷ l) (steps_at-append d a b))) (λ (n : s.0 ≢ d). rw (ne_eqb s.0 d n) (steps_at-append d a b)) (cases_eq s.0 d)

steps_same : (d : ℕ) (hs : List ℕ) → steps_at d (tagged d hs) ≡ hs
unfolding tagged
steps_same d [] = refl
steps_same d (h ∷ hs) = let e : (d == d) ≡ true = eq-eqb d d refl in rw e (ap (λ l. h ∷ l) (steps_same d hs))

steps_other : (d e : ℕ) (hs : List ℕ) → e ≢ d → steps_at d (tagged e hs) ≡ []
unfolding tagged
steps_other d e [] n = refl
steps_other d e (h ∷ hs) n = let o : (e == d) ≡ false = ne_eqb e d n in rw o (steps_other d e hs n)

tagged_steps : (hands d : ℕ) (hs : List ℕ) → AllBelow hands hs → AreStepsOf hands (tagged d hs)
unfolding tagged
tagged_steps hands d [] low = tt
tagged_steps hands d (h ∷ hs) low = (low.0, tagged_steps hands d hs low.1)

steps-append : (hands : ℕ) (a b : List (ℕ × ℕ)) → AreStepsOf hands a → AreStepsOf hands b → AreStepsOf hands (a ++ b)
steps-append hands [] b p q = q
steps-append hands (s ∷ a) b p q = (p.0, steps-append hands a b p.1 q)

-- a schedule for each of so many deques, as one
flat : (P : ℕ → List ℕ → Type 0) (hands n : ℕ) → ((d : ℕ) → d < n → (schedule : List ℕ) × AllBelow hands schedule × P d schedule)
    → (schedule : List (ℕ × ℕ)) × AreStepsOf hands schedule × ((d : ℕ) → d < n → P d (steps_at d schedule)) × ((d : ℕ) → n ≤ d → steps_at d schedule ≡ [])
flat P hands zero each = ([], tt, (λ d low. absurd (omega (arith, low))), λ d far. refl)
flat P hands (suc n) each =
    let f = flat P hands n (λ d low. each d (omega (arith, low))) in
    let last = each n (omega arith) in (
      f.0 ++ tagged n last.0,
      steps-append hands f.0 (tagged n last.0) f.1 (tagged_steps hands n last.0 last.1),
      (λ d low. ⊎_elim
          (λ (e : d ≡ n). subst (λ (m : ℕ). P m (steps_at m (f.0 ++ tagged n last.0))) (sym e)
          (subst (P n) (sym (steps_at-append n f.0 (tagged n last.0) ∙ ap (λ l. l ++ steps_at n (tagged n last.0)) (f.3 n (omega arith)) ∙ steps_same n last.0)) last.2))
          (λ (o : d ≢ n). subst (P d) (sym (steps_at-append d f.0 (tagged n last.0) ∙ ap (λ l. steps_at d f.0 ++ l) (steps_other d n last.0 (λ e. o (sym e))) ∙ append_none (steps_at d f.0))) (f.2 d (omega (arith, low, o))))
          (cases_eq d n)),
      (λ d far. steps_at-append d f.0 (tagged n last.0) ∙ ap (λ l. l ++ steps_at d (tagged n last.0)) (f.3 d (omega (arith, far))) ∙ steps_other d n last.0 (λ e. omega (arith, e, far))),
    )

pub all_run : (hs : List Holding) → ((d : ℕ) → d < length hs → (schedule : List ℕ) × AllBelow (length hs) schedule × IsRunAt d schedule hs) → AreRun hs
all_run hs each = let f = flat (λ d schedule. IsRunAt d schedule hs) (length hs) (length hs) each in (f.0, f.1, f.2)
