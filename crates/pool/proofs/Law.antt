-- Each step of a deal leaves each number in as many places as before.
use Rattle.std.proofs.Common.{◌≡◌, ◌≢◌, ℕ, zero, suc, ◌%◌, ◌<◌, ◌≤◌, List, [], ◌∷◌, refl, sym, ap, ◌∙◌, ⊎_elim, arith, eq-eqb, ne_eqb}
use Rattle.std.proofs.lemmas.Bool.{cases_eq}
use Rattle.std.proofs.lemmas.Nat.{mod_below}
use Rattle.pool.specs.Dealing.{State, take_first, state, deal_begin, deal_step, deal_after, times_in, AreStepsOf, IsEachInOnePlace}
use Rattle.pool.specs.Totals.{sum_below, once_below}
use Rattle.pool.proofs.Deals.{dealt_times}
use Rattle.pool.proofs.Machine.{sum_put}

sum_same : (f g : ℕ → ℕ) (n : ℕ) → ((i : ℕ) → f i ≡ g i) → sum_below f n ≡ sum_below g n
sum_same f g zero same = refl
sum_same f g (suc k) same = let a = sum_same f g k same in let b = same k in omega (arith, a, b)

sum_none : (n : ℕ) → sum_below (λ h. 0) n ≡ 0
sum_none zero = refl
sum_none (suc k) = let a = sum_none k in omega (arith, a)

-- a sum of which but one term is anything
sum_one : (f : ℕ → ℕ) (c r : ℕ) → f r ≡ c → ((d : ℕ) → d ≢ r → f d ≡ 0) → (n : ℕ) → (n ≤ r → sum_below f n ≡ 0) × (r < n → sum_below f n ≡ c)
sum_one f c r here others zero = ((λ _. refl), λ l. absurd (omega (arith, l)))
sum_one f c r here others (suc k) =
    let before = sum_one f c r here others k in (
      (λ l. let a = before.0 (omega (arith, l)) in let b = others k (λ e. omega (arith, e, l)) in omega (arith, a, b)),
      (λ l. ⊎_elim (λ (e : k ≡ r). let a = before.0 (omega (arith, e)) in let b = ap f e ∙ here in omega (arith, a, b)) (λ (n : k ≢ r). let a = before.1 (omega (arith, n, l)) in let b = others k n in omega (arith, a, b)) (cases_eq k r)),
    )

take_same : (x hands hand : ℕ) (deque : List ℕ) (lists : ℕ → List ℕ) → hand < hands → times_in x hands (take_first hand deque lists) ≡ times_in x hands (state deque lists)
take_same x hands hand [] lists low = refl
take_same x hands hand (y ∷ ys) lists low = let p = sum_put x lists hand y hands low in omega arith

step_same : (x hands : ℕ) (s : ℕ × ℕ) (deal : ℕ → State) → s.1 < hands → (d : ℕ) → times_in x hands (deal_step s deal d) ≡ times_in x hands (deal d)
step_same x hands s deal low d =
    ⊎_elim (λ (e : d ≡ s.0). rw (eq-eqb d s.0 e) (take_same x hands s.1 (deal d).deque (deal d).lists low)) (λ (n : d ≢ s.0). rw (ne_eqb d s.0 n) refl) (cases_eq d s.0)

begins : (hands pieces : ℕ) → 0 < hands → IsEachInOnePlace hands pieces (deal_begin hands pieces)
begins hands pieces positive x =
    let none = sum_none hands in
    (sum_one (λ d. times_in x hands (deal_begin hands pieces d)) (once_below x pieces) (x % hands)
    (let a = (dealt_times hands (x % hands) pieces x).0 refl in omega (arith, a, none))
    (λ d other. let a = (dealt_times hands d pieces x).1 (λ e. other (sym e)) in omega (arith, a, none)) hands).1 (mod_below x hands positive)

runs : (hands pieces : ℕ) (schedule : List (ℕ × ℕ)) (deal : ℕ → State) → AreStepsOf hands schedule → IsEachInOnePlace hands pieces deal → IsEachInOnePlace hands pieces (deal_after schedule deal)
runs hands pieces [] deal steps is = is
runs hands pieces (s ∷ schedule) deal steps is = runs hands pieces schedule (deal_step s deal) steps.1 (λ x. sum_same (λ d. times_in x hands (deal_step s deal d)) (λ d. times_in x hands (deal d)) hands (step_same x hands s deal steps.0) ∙ is x)

pub one_place : (hands pieces : ℕ) (schedule : List (ℕ × ℕ)) → 0 < hands → AreStepsOf hands schedule → IsEachInOnePlace hands pieces (deal_after schedule (deal_begin hands pieces))
one_place hands pieces schedule positive steps = runs hands pieces schedule (deal_begin hands pieces) steps (begins hands pieces positive)
