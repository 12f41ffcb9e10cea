-- What holds of a deque's machine after any schedule.
use Rattle.std.proofs.Common.{◌≡◌, ◌≢◌, ℕ, zero, suc, ◌+◌, ◌<◌, ◌≤◌, true, false, ◌==◌, List, [], ◌∷◌, ◌++◌, sym, refl, ap, ◌∙◌, subst, ⊎_elim, append_assoc, arith, eq-eqb, ne_eqb}
use Rattle.std.proofs.lemmas.Bool.{cases_eq}
use Rattle.pool.specs.Dealing.{State, state, begin, put, take_first, step, after, left_after, taken_by, IsFirst, GoesOn, times, AllAbove, Ascends}
use Rattle.pool.specs.Rule.{AllBelow}
use Rattle.pool.specs.Totals.{sum_below}

pub times-append : (x : ℕ) (xs ys : List ℕ) → times x (xs ++ ys) ≡ times x xs + times x ys
times-append x [] ys = omega arith
times-append x (y ∷ xs) ys = omega (arith, times-append x xs ys)

pub append_none : (xs : List ℕ) → xs ++ [] ≡ xs
append_none [] = refl
append_none (x ∷ xs) = ap (λ l. x ∷ l) (append_none xs)

after-append : (a b : List ℕ) (s : State) → after (a ++ b) s ≡ after b (after a s)
after-append [] b s = refl
after-append (h ∷ hs) b s = after-append hs b (step h s)

pub put_same : (lists : ℕ → List ℕ) (hand x : ℕ) → put lists hand x hand ≡ lists hand ++ x ∷ []
put_same lists hand x = let e : (hand == hand) ≡ true = eq-eqb hand hand refl in rw e refl

pub put_other : (lists : ℕ → List ℕ) (hand x h : ℕ) → h ≢ hand → put lists hand x h ≡ lists h
put_other lists hand x h n = let e : (h == hand) ≡ false = ne_eqb h hand n in rw e refl

-- one more step
step_state : (numbers schedule : List ℕ) (hand x : ℕ) (xs : List ℕ) → left_after numbers schedule ≡ x ∷ xs → after (schedule ++ hand ∷ []) (begin numbers) ≡ state xs (put (after schedule (begin numbers)).lists hand x)
step_state numbers schedule hand x xs is = after-append schedule (hand ∷ []) (begin numbers) ∙ ap (λ d. take_first hand d (after schedule (begin numbers)).lists) is

pub left_step : (numbers schedule : List ℕ) (hand x : ℕ) (xs : List ℕ) → left_after numbers schedule ≡ x ∷ xs → left_after numbers (schedule ++ hand ∷ []) ≡ xs
left_step numbers schedule hand x xs is = ap (λ (s : State). s.deque) (step_state numbers schedule hand x xs is)

pub taken_step : (numbers schedule : List ℕ) (hand x : ℕ) (xs : List ℕ) → left_after numbers schedule ≡ x ∷ xs → taken_by numbers (schedule ++ hand ∷ []) hand ≡ taken_by numbers schedule hand ++ x ∷ []
taken_step numbers schedule hand x xs is = ap (λ (s : State). s.lists hand) (step_state numbers schedule hand x xs is) ∙ put_same (after schedule (begin numbers)).lists hand x

pub taken_step_of : (numbers schedule : List ℕ) (hand x : ℕ) (xs : List ℕ) (h : ℕ) → h ≢ hand → left_after numbers schedule ≡ x ∷ xs → taken_by numbers (schedule ++ hand ∷ []) h ≡ taken_by numbers schedule h
taken_step_of numbers schedule hand x xs h n is = ap (λ (s : State). s.lists h) (step_state numbers schedule hand x xs is) ∙ put_other (after schedule (begin numbers)).lists hand x h n

-- nothing comes back
none_run : (schedule : List ℕ) (s : State) → s.deque ≡ [] → (after schedule s).deque ≡ []
none_run [] s e = e
none_run (hand ∷ schedule) s e = none_run schedule (step hand s) (ap (λ d. (take_first hand d s.lists).deque) e)

pub none_left : (numbers history schedule : List ℕ) (hand : ℕ) → GoesOn numbers hand history schedule → left_after numbers history ≡ [] → left_after numbers schedule ≡ []
none_left numbers history schedule hand g e = ap (left_after numbers) g.1 ∙ ap (λ (s : State). s.deque) (after-append history g.0 (begin numbers)) ∙ none_run g.0 (after history (begin numbers)) e

-- where nothing was left, nothing is first later
pub nothing_first : (numbers history others : List ℕ) (x : ℕ) → left_after numbers history ≡ [] → IsFirst x (left_after numbers (history ++ others)) → ⊥
nothing_first numbers history others x none first =
    let e : left_after numbers (history ++ others) ≡ [] = ap (λ (s : State). s.deque) (after-append history others (begin numbers)) ∙ none_run others (after history (begin numbers)) none in
    let no : x ∷ first.0 ≡ [] = sym first.1 ∙ e in
    cc

-- Order

above_drop : (y : ℕ) (ys : List ℕ) (x : ℕ) (xs : List ℕ) → AllAbove y (ys ++ x ∷ xs) → AllAbove y (ys ++ xs)
above_drop y [] x xs a = a.1
above_drop y (z ∷ zs) x xs a = (a.0, above_drop y zs x xs a.1)

drop_middle : (ys : List ℕ) (x : ℕ) (xs : List ℕ) → Ascends (ys ++ x ∷ xs) → Ascends (ys ++ xs)
drop_middle [] x xs a = a.1
drop_middle (y ∷ ys) x xs a = (above_drop y ys x xs a.0, drop_middle ys x xs a.1)

above_front : (y : ℕ) (ys xs : List ℕ) → AllAbove y (ys ++ xs) → AllAbove y ys
above_front y [] xs a = tt
above_front y (z ∷ zs) xs a = (a.0, above_front y zs xs a.1)

ascends_front : (ys xs : List ℕ) → Ascends (ys ++ xs) → Ascends ys
ascends_front [] xs a = tt
ascends_front (y ∷ ys) xs a = (above_front y ys xs a.0, ascends_front ys xs a.1)

step_ascends : (hand : ℕ) (deque : List ℕ) (lists : ℕ → List ℕ) → ((h : ℕ) → Ascends (lists h ++ deque)) → (h : ℕ) → Ascends ((take_first hand deque lists).lists h ++ (take_first hand deque lists).deque)
step_ascends hand [] lists a h = a h
step_ascends hand (x ∷ xs) lists a h =
    ⊎_elim
    (λ (e : h ≡ hand). subst (λ j. Ascends (put lists hand x j ++ xs)) (sym e) (subst (λ l. Ascends (l ++ xs)) (sym (put_same lists hand x)) (subst Ascends (sym (append_assoc (lists hand) (x ∷ []) xs)) (a hand))))
    (λ (n : h ≢ hand). subst (λ l. Ascends (l ++ xs)) (sym (put_other lists hand x h n)) (drop_middle (lists h) x xs (a h)))
    (cases_eq h hand)

run_ascends : (schedule : List ℕ) (s : State) → ((h : ℕ) → Ascends (s.lists h ++ s.deque)) → (h : ℕ) → Ascends ((after schedule s).lists h ++ (after schedule s).deque)
run_ascends [] s a h = a h
run_ascends (hand ∷ schedule) s a h = run_ascends schedule (step hand s) (step_ascends hand s.deque s.lists a) h

-- what a hand has ascends where what was dealt does
pub taken_ascends : (numbers schedule : List ℕ) (hand : ℕ) → Ascends numbers → Ascends (taken_by numbers schedule hand)
taken_ascends numbers schedule hand up = ascends_front (taken_by numbers schedule hand) (left_after numbers schedule) (run_ascends schedule (begin numbers) (λ _. up) hand)

-- Account

sum_unput : (y : ℕ) (lists : ℕ → List ℕ) (hand x m : ℕ) → m ≤ hand → sum_below (λ h. times y (put lists hand x h)) m ≡ sum_below (λ h. times y (lists h)) m
sum_unput y lists hand x zero le = refl
sum_unput y lists hand x (suc k) le = let a = sum_unput y lists hand x k (omega arith) in let b = ap (times y) (put_other lists hand x k (λ e. omega (arith, e))) in omega arith

pub sum_put : (y : ℕ) (lists : ℕ → List ℕ) (hand x m : ℕ) → hand < m → sum_below (λ h. times y (put lists hand x h)) m ≡ sum_below (λ h. times y (lists h)) m + times y (x ∷ [])
sum_put y lists hand x zero below = absurd (omega arith)
sum_put y lists hand x (suc k) below =
    ⊎_elim (λ (e : k ≡ hand).
    let a = sum_unput y lists hand x k (omega (arith, e)) in
    let b : put lists hand x k ≡ lists k ++ x ∷ [] = subst (λ j. put lists hand x j ≡ lists j ++ x ∷ []) (sym e) (put_same lists hand x) in
    let c = ap (times y) b in
    omega (arith, times-append y (lists k) (x ∷ [])))
    (λ (n : k ≢ hand). let a = sum_put y lists hand x k (omega (arith, n)) in let b = ap (times y) (put_other lists hand x k n) in omega arith)
    (cases_eq k hand)

step_account : (y made hand : ℕ) (deque : List ℕ) (lists : ℕ → List ℕ) → hand < made
    → sum_below (λ h. times y ((take_first hand deque lists).lists h)) made + times y (take_first hand deque lists).deque ≡ sum_below (λ h. times y (lists h)) made + times y deque
step_account y made hand [] lists low = refl
step_account y made hand (x ∷ xs) lists low = let p = sum_put y lists hand x made low in omega arith

run_account : (y made : ℕ) (schedule : List ℕ) (s : State) → AllBelow made schedule
    → sum_below (λ h. times y ((after schedule s).lists h)) made + times y (after schedule s).deque ≡ sum_below (λ h. times y (s.lists h)) made + times y s.deque
run_account y made [] s low = refl
run_account y made (hand ∷ schedule) s low = run_account y made schedule (step hand s) low.1 ∙ step_account y made hand s.deque s.lists low.0

sum_none : (n : ℕ) → sum_below (λ h. 0) n ≡ 0
sum_none zero = refl
sum_none (suc k) = let a = sum_none k in omega (arith, a)

-- each number that was dealt is in the deque or in the list of one hand, as often as it was dealt
pub run_accounts : (y made : ℕ) (numbers schedule : List ℕ) → AllBelow made schedule → sum_below (λ h. times y (taken_by numbers schedule h)) made + times y (left_after numbers schedule) ≡ times y numbers
run_accounts y made numbers schedule low = let a = run_account y made schedule (begin numbers) low in let z = sum_none made in omega (arith, a, z)

step_within : (y hand : ℕ) (deque : List ℕ) (lists : ℕ → List ℕ) (h : ℕ) → times y ((take_first hand deque lists).lists h) + times y (take_first hand deque lists).deque ≤ times y (lists h) + times y deque
step_within y hand [] lists h = omega arith
step_within y hand (x ∷ xs) lists h =
    ⊎_elim
    (λ (e : h ≡ hand). let a = ap (λ j. times y (put lists hand x j)) e ∙ ap (times y) (put_same lists hand x) in let b = ap (λ j. times y (lists j)) e in omega (arith, a, b, times-append y (lists hand) (x ∷ [])))
    (λ (n : h ≢ hand). let a = ap (times y) (put_other lists hand x h n) in omega (arith, a))
    (cases_eq h hand)

run_within : (y : ℕ) (schedule : List ℕ) (s : State) (h : ℕ) → times y ((after schedule s).lists h) + times y (after schedule s).deque ≤ times y (s.lists h) + times y s.deque
run_within y [] s h = omega arith
run_within y (hand ∷ schedule) s h = let a = run_within y schedule (step hand s) h in let b = step_within y hand s.deque s.lists h in omega (arith, a, b)

-- a hand has no number more often than it was dealt
pub taken_within : (y : ℕ) (numbers schedule : List ℕ) (hand : ℕ) → times y (taken_by numbers schedule hand) ≤ times y numbers
taken_within y numbers schedule hand = let a = run_within y schedule (begin numbers) hand in omega (arith, a)

step_unmade : (made hand : ℕ) (deque : List ℕ) (lists : ℕ → List ℕ) (h : ℕ) → hand < made → made ≤ h → (take_first hand deque lists).lists h ≡ lists h
step_unmade made hand [] lists h low far = refl
step_unmade made hand (x ∷ xs) lists h low far = put_other lists hand x h (λ e. omega (arith, e, low, far))

run_unmade : (made : ℕ) (schedule : List ℕ) (s : State) (h : ℕ) → AllBelow made schedule → made ≤ h → (after schedule s).lists h ≡ s.lists h
run_unmade made [] s h low far = refl
run_unmade made (hand ∷ schedule) s h low far = run_unmade made schedule (step hand s) h low.1 far ∙ step_unmade made hand s.deque s.lists h low.0 far

-- a hand that made no step has nothing
pub unmade : (made : ℕ) (numbers schedule : List ℕ) (h : ℕ) → AllBelow made schedule → made ≤ h → taken_by numbers schedule h ≡ []
unmade made numbers schedule h low far = run_unmade made schedule (begin numbers) h low far

pub below_snoc : (made : ℕ) (schedule : List ℕ) (hand : ℕ) → AllBelow made schedule → hand < made → AllBelow made (schedule ++ hand ∷ [])
below_snoc made [] hand low new = (new, tt)
below_snoc made (h ∷ hs) hand low new = (low.0, below_snoc made hs hand low.1 new)

pub below_more : (made : ℕ) (schedule : List ℕ) → AllBelow made schedule → AllBelow (made + 1) schedule
below_more made [] low = tt
below_more made (h ∷ hs) low = (let a = low.0 in omega (arith, a), below_more made hs low.1)

-- one more step of another hand
pub goes_on_step : (numbers schedule : List ℕ) (hand x : ℕ) (xs : List ℕ) (h : ℕ) (history : List ℕ) → h ≢ hand → left_after numbers schedule ≡ x ∷ xs → GoesOn numbers h history schedule → GoesOn numbers h history (schedule ++ hand ∷ [])
goes_on_step numbers schedule hand x xs h history n is g = (g.0 ++ hand ∷ [], ap (λ l. l ++ hand ∷ []) g.1 ∙ append_assoc history g.0 (hand ∷ []), taken_step_of numbers schedule hand x xs h n is ∙ g.2)

-- a schedule goes on from itself
pub goes_on_none : (numbers schedule : List ℕ) (h : ℕ) → GoesOn numbers h schedule schedule
goes_on_none numbers schedule h = ([], sym (append_none schedule), refl)

-- where nothing was done yet, whatever is dealt
pub goes_on_first : (numbers others : List ℕ) (h : ℕ) (history : List ℕ) → GoesOn numbers h history [] → GoesOn others h history []
goes_on_first numbers others h [] g = ([], refl, refl)
goes_on_first numbers others h (y ∷ ys) g = let e = g.1 in cc
