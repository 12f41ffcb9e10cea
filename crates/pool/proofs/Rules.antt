-- Each step keeps the rule of a deal's deques.
use Rattle.std.proofs.Common.{◌≡◌, ◌≢◌, ℕ, zero, suc, ◌+◌, ◌-◌, ◌<◌, ◌≤◌, true, false, true≢false, if◌then◌else◌, ◌==◌, List, [], ◌∷◌, ◌++◌, length, set, sym, refl, ap, ◌∙◌, subst, ⊎_elim, arith, eq-eqb, ne_eqb}
use Rattle.std.proofs.lemmas.List.{length-set}
use mathlib.Core.Option.{some, some-injective, some-ne-none}
use lib.ListN.{get_elem?}
use Rattle.crossbeam_deque.specs.Tasks.{Pushes, Takes, Finds, FindsFew, Forks, Merges, Learns}
use Rattle.crossbeam_deque.proofs.Lists.{at_set}
use Rattle.pool.specs.declared.view.View.{View}
use Rattle.pool.specs.declared.view.Task.{Task}
use Rattle.pool.specs.declared.view.Task.TheVariants.{Number, End}
use Rattle.pool.specs.Dealing.{times, left_after, taken_by}
use Rattle.pool.specs.Rule.{view_of, tasks, pieces, total, AllBelow, AreSeatedAt, IsSeated, Fits, DealtBy, Dealt, IsAccounted}
use Rattle.pool.specs.Steps.{blank, AreKnown, front, rest, TookAt, EmptiedAt, TakenFrom, StolenFrom, lent_view, giving_view, given_view}
use Rattle.pool.specs.Inside.Steps.{Up, Apart}
use Rattle.pool.proofs.Machine.{run_accounts, left_step, taken_step, unmade, below_snoc, below_more, goes_on_step, goes_on_none, goes_on_first}

-- Lists

total_set : (f : View → ℕ) (views : List View) (port : ℕ) (v w : View) → get_elem? views port ≡ some v → total f (set views port w) + f v ≡ total f views + f w
total_set f [] port v w e = absurd (some-ne-none v (sym e))
total_set f (u ∷ us) zero v w e = let i = ap f (some-injective u v e) in omega arith
total_set f (u ∷ us) (suc j) v w e = omega (arith, total_set f us j v w e)

total_snoc : (f : View → ℕ) (views : List View) (w : View) → total f (views ++ w ∷ []) ≡ total f views + f w
total_snoc f [] w = omega arith
total_snoc f (u ∷ us) w = omega (arith, total_snoc f us w)

length_snoc : (views : List View) (w : View) → length (views ++ w ∷ []) ≡ length views + 1
length_snoc [] w = refl
length_snoc (u ∷ us) w = omega (arith, length_snoc us w)

at_below : (views : List View) (port : ℕ) (v : View) → get_elem? views port ≡ some v → port < length views
at_below [] port v e = absurd (some-ne-none v (sym e))
at_below (u ∷ us) zero v e = omega arith
at_below (u ∷ us) (suc j) v e = omega (arith, at_below us j v e)

at_end : (l : List View) (a b : View) (j : ℕ) → get_elem? l j ≢ some b → get_elem? (l ++ a ∷ []) j ≡ some b → j ≡ length l
at_end [] a b zero n e = refl
at_end [] a b (suc j) n e = absurd (some-ne-none b (sym e))
at_end (x ∷ xs) a b zero n e = absurd (n e)
at_end (x ∷ xs) a b (suc j) n e = ap suc (at_end xs a b j n e)

abbrev Each : (ℕ → View → Type 0) → List View → Type 0
Each F views = (port : ℕ) (v : View) → get_elem? views port ≡ some v → F port v

each_set : (F : ℕ → View → Type 0) (views : List View) (port : ℕ) (w : View) → F port w → ((j : ℕ) (u : View) → j ≢ port → get_elem? views j ≡ some u → F j u) → Each F (set views port w)
each_set F views port w mine others j u e = ⊎_elim (λ (x : (j ≡ port) × (w ≡ u)). subst (λ (y : ℕ × View). F y.0 y.1) (λ i. (sym x.0 i, x.1 i)) mine)
    (λ (x : (j ≢ port) × (get_elem? views j ≡ some u)). others j u x.0 x.1) (at_set views port j w u e)

-- what holds of each, and of a new one at the end
each_snoc : (F : ℕ → View → Type 0) (views : List View) (w : View) → Each F views → F (length views) w → Each F (views ++ w ∷ [])
each_snoc F [] w all new zero u e = subst (λ y. F 0 y) (some-injective w u e) new
each_snoc F [] w all new (suc j) u e = absurd (some-ne-none u (sym e))
each_snoc F (x ∷ xs) w all new zero u e = all 0 u e
each_snoc F (x ∷ xs) w all new (suc j) u e = each_snoc (λ k y. F (suc k) y) xs w (λ k y d. all (suc k) y d) new j u e

only : (F : ℕ → View → Type 0) (v : View) → F 0 v → Each F (v ∷ [])
only F v mine zero u e = subst (λ y. F 0 y) (some-injective v u e) mine
only F v mine (suc j) u e = absurd (some-ne-none u (sym e))

total_at : (f : View → ℕ) (views : List View) (port : ℕ) (v : View) → get_elem? views port ≡ some v → f v ≤ total f views
total_at f [] port v e = absurd (some-ne-none v (sym e))
total_at f (u ∷ us) zero v e = let i = ap f (some-injective u v e) in omega arith
total_at f (u ∷ us) (suc j) v e = omega (arith, total_at f us j v e)

-- Tasks

tasks_more : (left : List ℕ) (x : ℕ) → tasks left 0 ++ Number x ∷ [] ≡ tasks (left ++ x ∷ []) 0
tasks_more [] x = refl
tasks_more (y ∷ ys) x = ap (λ ts. Number y ∷ ts) (tasks_more ys x)

tasks_end : (left : List ℕ) (e : ℕ) → tasks left e ++ End ∷ [] ≡ tasks left (suc e)
tasks_end [] zero = refl
tasks_end [] (suc e) = ap (λ ts. End ∷ ts) (tasks_end [] e)
tasks_end (y ∷ ys) e = ap (λ ts. Number y ∷ ts) (tasks_end ys e)

no_tasks : (left : List ℕ) (e : ℕ) → [] ≡ tasks left e → e ≡ 0
no_tasks [] zero h = refl
no_tasks [] (suc e) h = cc
no_tasks (x ∷ xs) e h = cc

task_or : Task → List Task → Task
task_or d [] = d
task_or d (x ∷ xs) = x

tail : List Task → List Task
tail [] = []
tail (x ∷ xs) = xs

theirs_step : (numbers schedule : List ℕ) (seat : ℕ → ℕ) (made hand x : ℕ) (xs : List ℕ) (j : ℕ) (known : List (ℕ × List ℕ)) → seat hand ≢ j → left_after numbers schedule ≡ x ∷ xs → AreSeatedAt numbers schedule seat made j known → AreSeatedAt numbers (schedule ++ hand ∷ []) seat made j known
theirs_step numbers schedule seat made hand x xs j [] n is t = tt
theirs_step numbers schedule seat made hand x xs j (p ∷ ps) n is t =
    (t.0, goes_on_step numbers schedule hand x xs p.0 p.1 (λ e. n (ap seat (sym e) ∙ t.0)) is t.1, t.2, theirs_step numbers schedule seat made hand x xs j ps n is t.3)

theirs_first : (numbers others : List ℕ) (seat : ℕ → ℕ) (made j : ℕ) (known : List (ℕ × List ℕ)) → AreSeatedAt numbers [] seat made j known → AreSeatedAt others [] seat made j known
theirs_first numbers others seat made j [] t = tt
theirs_first numbers others seat made j (p ∷ ps) t = (t.0, goes_on_first numbers others p.0 p.1 t.1, t.2, theirs_first numbers others seat made j ps t.3)

known_of : (numbers schedule : List ℕ) (seat : ℕ → ℕ) (made j : ℕ) (known : List (ℕ × List ℕ)) → AreSeatedAt numbers schedule seat made j known → AreKnown numbers schedule known
known_of numbers schedule seat made j [] t = tt
known_of numbers schedule seat made j (p ∷ ps) t = (t.1, known_of numbers schedule seat made j ps t.3)

-- The steps

pub begins : Dealt [] (view_of true true 0 1 [] ((0, []) ∷ []) ∷ [])
begins = (
  [],
  [],
  (λ _. 0),
  0,
  1,
  0,
  record {
    lie = refl;
    steps = tt;
    owed = refl;
    each = only (Fits [] [] (λ _. 0) 0 1 1) (view_of true true 0 1 [] ((0, []) ∷ []))
        record { same = λ _. refl; theirs = (refl, ([], refl, refl), omega arith, tt); owns = λ _. (refl, refl); alone = λ _. (refl, refl) };
  },
)

-- where there is one view, its sum is the total
lone_total : (f : View → ℕ) (views : List View) (port : ℕ) (v : View) → length views ≡ 1 → get_elem? views port ≡ some v → total f views ≡ f v
lone_total f [] port v n e = absurd (omega arith)
lone_total f (u ∷ []) zero v n e = let i = ap f (some-injective u v e) in omega arith
lone_total f (u ∷ []) (suc j) v n e = absurd (some-ne-none v (sym e))
lone_total f (u ∷ w ∷ ws) port v n e = absurd (omega arith)

pub fills : (port : ℕ) (v : View) (x : ℕ) → v.filling ≡ true → v.ends ≡ 0 → IsSeated v.known → Pushes Dealt port v (Number x ∷ []) (λ w. w ≡ view_of v.filling v.owner v.ends v.made (v.numbers ++ pieces (Number x ∷ [])) v.known)
fills port v x may none seated items views (numbers, schedule, seat, boss, made, ends, facts) at =
    let lone = (facts.each port v at).alone may in
    let first = subst (λ s. DealtBy items views numbers s seat boss made ends) lone.1 facts in
    let mine = first.each port v at in
    let w : View = view_of v.filling v.owner v.ends v.made (v.numbers ++ x ∷ []) v.known in
    let no_ends : ends ≡ 0 = sym facts.owed ∙ lone_total (λ u. u.ends) views port v lone.0 at ∙ none in
    let lies : items ++ Number x ∷ [] ≡ tasks (numbers ++ x ∷ []) ends = ap (λ l. l ++ Number x ∷ []) first.lie ∙ subst (λ e. tasks numbers e ++ Number x ∷ [] ≡ tasks (numbers ++ x ∷ []) e) (sym no_ends) (tasks_more numbers x) in
    let len : length (set views port w) ≡ length views = length-set views port w in (
      w,
      (
        numbers ++ x ∷ [],
        [],
        seat,
        boss,
        made,
        ends,
        record {
          lie = lies;
          steps = tt;
          owed = (let s = total_set (λ u. u.ends) views port v w at in let a = facts.owed in omega arith);
          each = subst (λ n. Each (Fits (numbers ++ x ∷ []) [] seat boss made n) (set views port w)) (sym len)
              (each_set (Fits (numbers ++ x ∷ []) [] seat boss made (length views)) views port w
              record { same = λ p. ap (λ l. l ++ x ∷ []) (mine.same p); theirs = theirs_first numbers (numbers ++ x ∷ []) seat made port v.known mine.theirs; owns = mine.owns; alone = mine.alone }
              (λ j u other e. let a = at_below views port v at in let b = at_below views j u e in let c = lone.0 in absurd (other (omega arith))));
        },
      ),
      refl,
    )

pub marks : (port : ℕ) (v : View) → Pushes Dealt port v (End ∷ []) (λ w. w ≡ view_of v.filling v.owner (v.ends + 1) v.made v.numbers v.known)
marks port v items views (numbers, schedule, seat, boss, made, ends, facts) at =
    let mine = facts.each port v at in
    let w : View = view_of v.filling v.owner (v.ends + 1) v.made v.numbers v.known in
    let len : length (set views port w) ≡ length views = length-set views port w in (
      w,
      (
        numbers,
        schedule,
        seat,
        boss,
        made,
        suc ends,
        record {
          lie = ap (λ l. l ++ End ∷ []) facts.lie ∙ tasks_end (left_after numbers schedule) ends;
          steps = facts.steps;
          owed = (let s = total_set (λ u. u.ends) views port v w at in let a = facts.owed in omega arith);
          each = subst (λ n. Each (Fits numbers schedule seat boss made n) (set views port w)) (sym len)
              (each_set (Fits numbers schedule seat boss made (length views)) views port w
              record { same = mine.same; theirs = mine.theirs; owns = mine.owns; alone = mine.alone }
              (λ j u other e. facts.each j u e));
        },
      ),
      refl,
    )

-- A hand with one seat takes what lies first. `Then` is what it knows afterwards
module _ (port : ℕ) (v : View) (hand : ℕ) (history : List ℕ) (is : v.known ≡ (hand, history) ∷ []) (not_filling : v.filling ≡ false) (owed : 0 < v.ends)
    (items : List Task) (views : List View) (numbers : List ℕ) (seat : ℕ → ℕ) (boss made : ℕ) (at : get_elem? views port ≡ some v) where
  seated : IsSeated v.known
  seated = subst IsSeated (sym is) tt

  takes_number : (further : List ℕ) (x : ℕ) (xs : List ℕ) (ends : ℕ) → DealtBy (Number x ∷ items) views numbers (history ++ further) seat boss made ends → left_after numbers (history ++ further) ≡ x ∷ xs → taken_by numbers (history ++ further) hand ≡ taken_by numbers history hand → items ≡ tasks xs ends
      → (w : View) × Dealt items (set views port w) × ((w ≡ view_of v.filling v.owner v.ends v.made v.numbers w.known) × TookAt v.numbers v.known x w.known)
  takes_number further x xs ends facts first had lies =
      let mine = facts.each port v at in
      let schedule = history ++ further in
      let schedule' = schedule ++ hand ∷ [] in
      let t : AreSeatedAt numbers schedule seat made port ((hand, history) ∷ []) = subst (AreSeatedAt numbers schedule seat made port) is mine.theirs in
      let w : View = view_of v.filling v.owner v.ends v.made v.numbers ((hand, schedule') ∷ []) in
      let len : length (set views port w) ≡ length views = length-set views port w in
      let F : ℕ → View → Type 0 = Fits numbers schedule' seat boss made (length views) in
      let took : TookAt numbers ((hand, history) ∷ []) x w.known = (further, refl, (xs, first), taken_step numbers schedule hand x xs first ∙ ap (λ l. l ++ x ∷ []) had) in (
        w,
        (
          numbers,
          schedule',
          seat,
          boss,
          made,
          ends,
          record {
            lie = lies ∙ ap (λ l. tasks l ends) (sym (left_step numbers schedule hand x xs first));
            steps = below_snoc made schedule hand facts.steps t.2;
            owed = (let s = total_set (λ u. u.ends) views port v w at in let a = facts.owed in omega arith);
            each = subst (λ n. Each (Fits numbers schedule' seat boss made n) (set views port w)) (sym len)
                (each_set F views port w
                record {
                  same = λ p. mine.same seated;
                  theirs = (t.0, goes_on_none numbers schedule' hand, t.2, tt);
                  owns = mine.owns;
                  alone = λ p. absurd (true≢false (sym p ∙ not_filling));
                }
                (λ j u other e. let f = facts.each j u e in
                record {
                  same = f.same;
                  theirs = theirs_step numbers schedule seat made hand x xs j u.known (λ same. other (sym same ∙ t.0)) first f.theirs;
                  owns = f.owns;
                  alone = λ p. (let a = at_below views port v at in let b = at_below views j u e in let c = (f.alone p).0 in absurd (other (omega arith)));
                }));
          },
        ),
        (refl, subst (λ k. TookAt v.numbers k x w.known) (sym is) (subst (λ n. TookAt n ((hand, history) ∷ []) x w.known) (sym (mine.same seated)) took)),
      )

  takes_end : (further : List ℕ) (ends : ℕ) → DealtBy (End ∷ items) views numbers (history ++ further) seat boss made (suc ends) → left_after numbers (history ++ further) ≡ [] → taken_by numbers (history ++ further) hand ≡ taken_by numbers history hand → items ≡ tasks [] ends
      → (w : View) × Dealt items (set views port w) × ((w ≡ view_of v.filling v.owner (v.ends - 1) v.made v.numbers w.known) × EmptiedAt v.numbers v.known w.known)
  takes_end further ends facts none had lies =
      let mine = facts.each port v at in
      let schedule = history ++ further in
      let t : AreSeatedAt numbers schedule seat made port ((hand, history) ∷ []) = subst (AreSeatedAt numbers schedule seat made port) is mine.theirs in
      let w : View = view_of v.filling v.owner (v.ends - 1) v.made v.numbers ((hand, schedule) ∷ []) in
      let len : length (set views port w) ≡ length views = length-set views port w in
      let F : ℕ → View → Type 0 = Fits numbers schedule seat boss made (length views) in
      let emptied : EmptiedAt numbers ((hand, history) ∷ []) w.known = (further, refl, none, had) in (
        w,
        (
          numbers,
          schedule,
          seat,
          boss,
          made,
          ends,
          record {
            lie = lies ∙ ap (λ l. tasks l ends) (sym none);
            steps = facts.steps;
            owed = (let s = total_set (λ u. u.ends) views port v w at in let a = facts.owed in omega arith);
            each = subst (λ n. Each (Fits numbers schedule seat boss made n) (set views port w)) (sym len)
                (each_set F views port w
                record { same = λ p. mine.same seated; theirs = (t.0, goes_on_none numbers schedule hand, t.2, tt); owns = mine.owns; alone = λ p. absurd (true≢false (sym p ∙ not_filling)) }
                (λ j u other e. facts.each j u e));
          },
        ),
        (refl, subst (λ k. EmptiedAt v.numbers k w.known) (sym is) (subst (λ n. EmptiedAt n ((hand, history) ∷ []) w.known) (sym (mine.same seated)) emptied)),
      )

  steals_end : (further : List ℕ) (ends : ℕ) → DealtBy (End ∷ items) views numbers (history ++ further) seat boss made (suc ends) → left_after numbers (history ++ further) ≡ [] → items ≡ tasks [] ends
      → (w : View) × Dealt items (set views port w) × (w ≡ view_of v.filling v.owner (v.ends - 1) v.made v.numbers v.known)
  steals_end further ends facts none lies =
      let mine = facts.each port v at in
      let schedule = history ++ further in
      let w : View = view_of v.filling v.owner (v.ends - 1) v.made v.numbers v.known in
      let len : length (set views port w) ≡ length views = length-set views port w in
      let F : ℕ → View → Type 0 = Fits numbers schedule seat boss made (length views) in (
        w,
        (
          numbers,
          schedule,
          seat,
          boss,
          made,
          ends,
          record {
            lie = lies ∙ ap (λ l. tasks l ends) (sym none);
            steps = facts.steps;
            owed = (let s = total_set (λ u. u.ends) views port v w at in let a = facts.owed in omega arith);
            each = subst (λ n. Each (Fits numbers schedule seat boss made n) (set views port w)) (sym len)
                (each_set F views port w
                record { same = mine.same; theirs = mine.theirs; owns = mine.owns; alone = mine.alone }
                (λ j u other e. facts.each j u e));
          },
        ),
        refl,
      )

  takes_task : (further : List ℕ) (t : Task) (left : List ℕ) (ends : ℕ) → left_after numbers (history ++ further) ≡ left → t ∷ items ≡ tasks left ends → DealtBy (t ∷ items) views numbers (history ++ further) seat boss made ends → taken_by numbers (history ++ further) hand ≡ taken_by numbers history hand
      → ((w : View) × Dealt items (set views port w) × TakenFrom v (t ∷ []) w) × ((w : View) × Dealt items (set views port w) × StolenFrom v (t ∷ []) w)
  unfolding task_or tail
  takes_task further t (x ∷ xs) ends first lie facts had =
      let e : t ≡ Number x = ap (task_or t) lie in
      let took = takes_number further x xs ends (subst (λ k. DealtBy (k ∷ items) views numbers (history ++ further) seat boss made ends) e facts) first had (ap tail lie) in
      subst (λ k. ((w : View) × Dealt items (set views port w) × TakenFrom v (k ∷ []) w) × ((w : View) × Dealt items (set views port w) × StolenFrom v (k ∷ []) w)) (sym e) (took, took)
  takes_task further t [] zero none lie facts had = let no : t ∷ items ≡ [] = lie in cc
  takes_task further t [] (suc ends) none lie facts had =
      let e : t ≡ End = ap (task_or t) lie in
      let facts' = subst (λ k. DealtBy (k ∷ items) views numbers (history ++ further) seat boss made (suc ends)) e facts in
      subst (λ k. ((w : View) × Dealt items (set views port w) × TakenFrom v (k ∷ []) w) × ((w : View) × Dealt items (set views port w) × StolenFrom v (k ∷ []) w)) (sym e)
      (takes_end further ends facts' none had (ap tail lie), steals_end further ends facts' none (ap tail lie))

  takes_by : (schedule : List ℕ) (t : Task) (ends : ℕ) → DealtBy (t ∷ items) views numbers schedule seat boss made ends
      → ((w : View) × Dealt items (set views port w) × TakenFrom v (t ∷ []) w) × ((w : View) × Dealt items (set views port w) × StolenFrom v (t ∷ []) w)
  takes_by schedule t ends facts =
      let mine : AreSeatedAt numbers schedule seat made port ((hand, history) ∷ []) = subst (AreSeatedAt numbers schedule seat made port) is (facts.each port v at).theirs in
      let g = mine.1 in
      let facts' = subst (λ s. DealtBy (t ∷ items) views numbers s seat boss made ends) g.1 facts in
      takes_task g.0 t (left_after numbers (history ++ g.0)) ends refl facts'.lie facts' (ap (λ s. taken_by numbers s hand) (sym g.1) ∙ g.2)

pub takes : (port : ℕ) (v : View) (hand : ℕ) (history : List ℕ) → v.known ≡ (hand, history) ∷ [] → v.filling ≡ false → 0 < v.ends
    → Takes Dealt port v 1 (TakenFrom v)
takes port v hand history is not_filling owed [] items views a b h at = absurd (omega arith)
takes port v hand history is not_filling owed (t ∷ []) items views a b (numbers, schedule, seat, boss, made, ends, facts) at = (takes_by port v hand history is not_filling owed items views numbers seat boss made at schedule t ends facts).0
takes port v hand history is not_filling owed (x ∷ y ∷ ys) items views a b h at = absurd (omega arith)

pub steals : (port : ℕ) (v : View) (hand : ℕ) (history : List ℕ) → v.known ≡ (hand, history) ∷ [] → v.filling ≡ false → 0 < v.ends
    → Takes Dealt port v 1 (StolenFrom v)
steals port v hand history is not_filling owed [] items views a b h at = absurd (omega arith)
steals port v hand history is not_filling owed (t ∷ []) items views a b (numbers, schedule, seat, boss, made, ends, facts) at = (takes_by port v hand history is not_filling owed items views numbers seat boss made at schedule t ends facts).1
steals port v hand history is not_filling owed (x ∷ y ∷ ys) items views a b h at = absurd (omega arith)

-- who finds no task is owed no mark
pub finds : (port : ℕ) (v : View) → Finds Dealt port v (v.ends ≡ 0)
finds port v views (numbers, schedule, seat, boss, made, ends, facts) at = let a = no_tasks (left_after numbers schedule) ends facts.lie in let b = total_at (λ u. u.ends) views port v at in let c = facts.owed in omega arith

pub finds_few : (port : ℕ) (v : View) → FindsFew Dealt 0 port v (v.ends ≡ 0)
finds_few port v [] views a h at = finds port v views h at
finds_few port v (x ∷ xs) views a h at = absurd (omega arith)

theirs_made : (numbers schedule : List ℕ) (seat : ℕ → ℕ) (made new j : ℕ) (known : List (ℕ × List ℕ)) → AreSeatedAt numbers schedule seat made j known → AreSeatedAt numbers schedule (λ h. if h == made then new else seat h) (made + 1) j known
theirs_made numbers schedule seat made new j [] t = tt
theirs_made numbers schedule seat made new j (p ∷ ps) t =
    let below = t.2 in
    let no : (p.0 == made) ≡ false = ne_eqb p.0 made (λ e. omega (arith, e)) in
    (rw no t.0, t.1, omega arith, theirs_made numbers schedule seat made new j ps t.3)

module _ (items : List Task) (views : List View) (numbers schedule : List ℕ) (seat : ℕ → ℕ) (boss made ends port : ℕ) (v : View) (at : get_elem? views port ≡ some v) where
  -- a pass with no seat comes, and this one's view stays but for `filling`
  seals_dealt : DealtBy items views numbers schedule seat boss made ends → DealtBy items (set views port (view_of false v.owner v.ends v.made v.numbers v.known) ++ blank ∷ []) numbers schedule seat boss made ends
  seals_dealt facts =
      let mine = facts.each port v at in
      let l : View = view_of false v.owner v.ends v.made v.numbers v.known in
      let vs : List View = set views port l in
      let F : ℕ → ℕ → View → Type 0 = λ n. Fits numbers schedule seat boss made n in
      let N : ℕ = length (vs ++ blank ∷ []) in
      let a = at_below views port v at in
      record {
        lie = facts.lie;
        steps = facts.steps;
        owed = (let s = total_set (λ u. u.ends) views port v l at in let t = total_snoc (λ u. u.ends) vs blank in let c = facts.owed in omega arith);
        each = each_snoc (F N) vs blank
            (each_set (F N) views port l
            record { same = mine.same; theirs = mine.theirs; owns = mine.owns; alone = λ p. absurd (true≢false (sym p)) }
            (λ j u other e. let f = facts.each j u e in
            record { same = f.same; theirs = f.theirs; owns = f.owns; alone = λ p. (let b = at_below views j u e in let c = (f.alone p).0 in absurd (other (omega arith))) }))
            record { same = λ p. absurd p; theirs = tt; owns = λ p. absurd (true≢false (sym p)); alone = λ p. absurd (true≢false (sym p)) };
      }

pub seals : (port : ℕ) (v : View) → Forks Dealt port v (view_of false v.owner v.ends v.made v.numbers v.known) blank
seals port v items views (numbers, schedule, seat, boss, made, ends, facts) at = (numbers, schedule, seat, boss, made, ends, seals_dealt items views numbers schedule seat boss made ends port v at facts)

pub seats : (port : ℕ) (v : View) → v.owner ≡ true → v.filling ≡ false → IsSeated v.known → 1 < v.ends
    → Forks Dealt port v (view_of v.filling v.owner (v.ends - 1) (v.made + 1) v.numbers v.known) (view_of false false 1 0 v.numbers ((v.made, []) ∷ []))
seats port v owns sealed seated more items views (numbers, schedule, seat, boss, made, ends, facts) at =
    let mine = facts.each port v at in
    let is_made : v.made ≡ made = (mine.owns owns).1 in
    let l : View = view_of v.filling v.owner (v.ends - 1) (v.made + 1) v.numbers v.known in
    let r : View = view_of false false 1 0 v.numbers ((v.made, []) ∷ []) in
    let vs : List View = set views port l in
    let count : length vs ≡ length views = length-set views port l in
    let seat' : ℕ → ℕ = λ k. if k == made then length views else seat k in
    let F : ℕ → ℕ → View → Type 0 = λ n. Fits numbers schedule seat' boss (made + 1) n in
    let N : ℕ = length (vs ++ r ∷ []) in
    let yes : (v.made == made) ≡ true = eq-eqb v.made made is_made in
    let new : AreSeatedAt numbers schedule seat' (made + 1) (length vs) ((v.made, []) ∷ []) = (rw yes (sym count), (schedule, refl, unmade made numbers schedule v.made facts.steps (omega arith)), omega arith, tt) in (
      numbers,
      schedule,
      seat',
      boss,
      made + 1,
      ends,
      record {
        lie = facts.lie;
        steps = below_more made schedule facts.steps;
        owed = (let s = total_set (λ u. u.ends) views port v l at in let t = total_snoc (λ u. u.ends) vs r in let c = facts.owed in omega arith);
        each = each_snoc (F N) vs r
            (each_set (F N) views port l
            record {
              same = mine.same;
              theirs = theirs_made numbers schedule seat made (length views) port v.known mine.theirs;
              owns = λ p. ((mine.owns p).0, ap (λ n. n + 1) (mine.owns p).1);
              alone = λ p. absurd (true≢false (sym p ∙ sealed));
            }
            (λ j u other e. let f = facts.each j u e in
            record {
              same = f.same;
              theirs = theirs_made numbers schedule seat made (length views) j u.known f.theirs;
              owns = λ p. absurd (other ((f.owns p).0 ∙ sym (mine.owns owns).0));
              alone = λ p. (let a = at_below views port v at in let b = at_below views j u e in let c = (f.alone p).0 in absurd (other (omega arith)));
            }))
            record { same = λ _. mine.same seated; theirs = new; owns = λ p. absurd (true≢false (sym p)); alone = λ p. absurd (true≢false (sym p)) };
      },
    )

theirs-append : (numbers schedule : List ℕ) (seat : ℕ → ℕ) (made j : ℕ) (ps qs : List (ℕ × List ℕ)) → AreSeatedAt numbers schedule seat made j ps → AreSeatedAt numbers schedule seat made j qs → AreSeatedAt numbers schedule seat made j (ps ++ qs)
theirs-append numbers schedule seat made j [] qs a b = b
theirs-append numbers schedule seat made j (p ∷ ps) qs a b = (a.0, a.1, a.2, theirs-append numbers schedule seat made j ps qs a.3 b)

abbrev moved : (ℕ → ℕ) → ℕ → ℕ → ℕ → ℕ
moved seat from to h = if seat h == from then to else seat h

theirs_stay : (numbers schedule : List ℕ) (seat : ℕ → ℕ) (made from to j : ℕ) (known : List (ℕ × List ℕ)) → j ≢ from → AreSeatedAt numbers schedule seat made j known → AreSeatedAt numbers schedule (moved seat from to) made j known
theirs_stay numbers schedule seat made from to j [] n t = tt
theirs_stay numbers schedule seat made from to j (p ∷ ps) n t = let no : (seat p.0 == from) ≡ false = ne_eqb (seat p.0) from (λ e. n (sym t.0 ∙ e)) in (rw no t.0, t.1, t.2, theirs_stay numbers schedule seat made from to j ps n t.3)

theirs_move : (numbers schedule : List ℕ) (seat : ℕ → ℕ) (made from to : ℕ) (known : List (ℕ × List ℕ)) → AreSeatedAt numbers schedule seat made from known → AreSeatedAt numbers schedule (moved seat from to) made to known
theirs_move numbers schedule seat made from to [] t = tt
theirs_move numbers schedule seat made from to (p ∷ ps) t = let yes : (seat p.0 == from) ≡ true = eq-eqb (seat p.0) from t.0 in (rw yes refl, t.1, t.2, theirs_move numbers schedule seat made from to ps t.3)

-- a hand's seat joins the owner's, behind the owner's own
lends_to : (port : ℕ) (v : View) (other : ℕ) (w : View) (p : ℕ × List ℕ) (more : List (ℕ × List ℕ)) → v.known ≡ p ∷ more → v.filling ≡ false → w.owner ≡ false
    → Merges Dealt port v other w (lent_view v w) blank
lends_to port v other w p more is sealed guest items views (numbers, schedule, seat, boss, made, ends, facts) at two at' =
    let both : View = lent_view v w in
    let vs : List View = set views port both in
    let was : get_elem? views other ≡ some w = ⊎_elim (λ (x : (other ≡ port) × (both ≡ w)). absurd (two x.0)) (λ (x : (other ≢ port) × (get_elem? views other ≡ some w)). x.1) (at_set views port other both w at') in
    let mine = facts.each port v at in
    let seated : IsSeated v.known = subst IsSeated (sym is) tt in
    let theirs = facts.each other w was in
    let seat' = moved seat other port in
    let all = set vs other blank in
    let len : length all ≡ length views = length-set vs other blank ∙ length-set views port both in
    let F : ℕ → View → Type 0 = Fits numbers schedule seat' boss made (length all) in (
      numbers,
      schedule,
      seat',
      boss,
      made,
      ends,
      record {
        lie = facts.lie;
        steps = facts.steps;
        owed = (let s = total_set (λ u. u.ends) views port v both at in let t = total_set (λ u. u.ends) vs other w blank at' in let a = facts.owed in omega arith);
        each = each_set F vs other blank
            record { same = λ p. absurd p; theirs = tt; owns = λ p. absurd (true≢false (sym p)); alone = λ p. absurd (true≢false (sym p)) }
            (λ j u apart e. ⊎_elim
            (λ (x : (j ≡ port) × (both ≡ u)). subst (λ (y : ℕ × View). F y.0 y.1) (λ i. (sym x.0 i, x.1 i))
            record {
              same = λ p. mine.same seated;
              theirs =
                  let stay = subst (AreSeatedAt numbers schedule seat' made port) is (theirs_stay numbers schedule seat made other port port v.known (λ s. two (sym s)) mine.theirs) in
                  subst (λ k. AreSeatedAt numbers schedule seat' made port (front k ++ (w.known ++ rest k))) (sym is) (stay.0, stay.1, stay.2, theirs-append numbers schedule seat' made port w.known more (theirs_move numbers schedule seat made other port w.known theirs.theirs) stay.3);
              owns = mine.owns;
              alone = λ p. absurd (true≢false (sym p ∙ sealed));
            })
            (λ (x : (j ≢ port) × (get_elem? views j ≡ some u)). let f = facts.each j u x.1 in
            record {
              same = f.same;
              theirs = theirs_stay numbers schedule seat made other port j u.known apart f.theirs;
              owns = f.owns;
              alone = λ p. (let a = at_below views port v at in let b = at_below views j u x.1 in let c = (f.alone p).0 in absurd (x.0 (omega arith)));
            })
            (at_set views port j both u e));
      },
    )

theirs_sent : (numbers schedule : List ℕ) (seat : ℕ → ℕ) (made hand to j : ℕ) (known : List (ℕ × List ℕ)) → Apart hand known → AreSeatedAt numbers schedule seat made j known → AreSeatedAt numbers schedule (λ h. if h == hand then to else seat h) made j known
theirs_sent numbers schedule seat made hand to j [] a t = tt
theirs_sent numbers schedule seat made hand to j (p ∷ ps) a t = let no : (p.0 == hand) ≡ false = ne_eqb p.0 hand a.0 in (rw no t.0, t.1, t.2, theirs_sent numbers schedule seat made hand to j ps a.1 t.3)

-- a hand whose seat is elsewhere is none of these
elsewhere : (numbers schedule : List ℕ) (seat : ℕ → ℕ) (made hand j : ℕ) (known : List (ℕ × List ℕ)) → seat hand ≢ j → AreSeatedAt numbers schedule seat made j known → Apart hand known
elsewhere numbers schedule seat made hand j [] n t = tt
elsewhere numbers schedule seat made hand j (p ∷ ps) n t = ((λ (e : p.0 ≡ hand). n (ap seat (sym e) ∙ t.0)), elsewhere numbers schedule seat made hand j ps n t.3)

-- the owner of a deque gives a hand its seat again, which it knew beside others
pub gives_back : (n port : ℕ) (v : View) (p q : ℕ × List ℕ) (more : List (ℕ × List ℕ)) → v.known ≡ p ∷ q ∷ more → (p.0 ≡ q.0 → ⊥) → Apart q.0 more → v.filling ≡ false → n ≤ v.ends
    → Forks Dealt port v (giving_view n v) (given_view n v)
gives_back n port v p q more is apart others sealed enough items views (numbers, schedule, seat, boss, made, ends, facts) at =
    let mine = facts.each port v at in
    let t : AreSeatedAt numbers schedule seat made port (p ∷ q ∷ more) = subst (AreSeatedAt numbers schedule seat made port) is mine.theirs in
    let l : View = giving_view n v in
    let r : View = given_view n v in
    let keeps : l.known ≡ p ∷ more = ap (λ k. front k ++ rest (rest k)) is in
    let sends : r.known ≡ q ∷ [] = ap (λ k. front (rest k)) is in
    let vs : List View = set views port l in
    let count : length vs ≡ length views = length-set views port l in
    let seat' : ℕ → ℕ = λ k. if k == q.0 then length views else seat k in
    let N : ℕ = length (vs ++ r ∷ []) in
    let F : ℕ → View → Type 0 = Fits numbers schedule seat' boss made N in
    let yes : (q.0 == q.0) ≡ true = eq-eqb q.0 q.0 refl in
    let new : AreSeatedAt numbers schedule seat' made (length vs) (q ∷ []) = (rw yes (sym count), t.3.1, t.3.2, tt) in
    let stay : AreSeatedAt numbers schedule seat' made port (p ∷ more) = theirs_sent numbers schedule seat made q.0 (length views) port (p ∷ more) (apart, others) (t.0, t.1, t.2, t.3.3) in
    let seated : IsSeated v.known = subst IsSeated (sym is) tt in (
      numbers,
      schedule,
      seat',
      boss,
      made,
      ends,
      record {
        lie = facts.lie;
        steps = facts.steps;
        owed = (let s = total_set (λ u. u.ends) views port v l at in let b = total_snoc (λ u. u.ends) vs r in let c = facts.owed in omega arith);
        each = each_snoc F vs r
            (each_set F views port l
            record {
              same = λ _. mine.same seated;
              theirs = subst (AreSeatedAt numbers schedule seat' made port) (sym keeps) stay;
              owns = mine.owns;
              alone = λ a. absurd (true≢false (sym a ∙ sealed));
            }
            (λ j u other e. let f = facts.each j u e in
            record {
              same = f.same;
              theirs = theirs_sent numbers schedule seat made q.0 (length views) j u.known (elsewhere numbers schedule seat made q.0 j u.known (λ s. other (sym s ∙ t.3.0)) f.theirs) f.theirs;
              owns = f.owns;
              alone = λ a. (let b = at_below views port v at in let c = at_below views j u e in let d = (f.alone a).0 in absurd (other (omega arith)));
            }))
            record { same = λ _. mine.same seated; theirs = subst (AreSeatedAt numbers schedule seat' made (length vs)) (sym sends) new; owns = λ a. absurd (true≢false (sym a)); alone = λ a. absurd (true≢false (sym a)) };
      },
    )

-- the owner of a deque learns how its schedule goes on from what is known of it
pub learns_together : (port : ℕ) (v : View) → v.owner ≡ true → IsSeated v.known → Learns Dealt port v (λ items. (schedule : List ℕ) × AllBelow v.made schedule × AreKnown v.numbers schedule v.known)
learns_together port v owns seated items views (numbers, schedule, seat, boss, made, ends, facts) at =
    let mine = facts.each port v at in (
      schedule,
      subst (λ n. AllBelow n schedule) (sym (mine.owns owns).1) facts.steps,
      subst (λ n. AreKnown n schedule v.known) (sym (mine.same seated)) (known_of numbers schedule seat made port v.known mine.theirs),
    )

-- a hand below all of these is none of them
pub up_apart : (q k : ℕ) (ps : List (ℕ × List ℕ)) → q < k → Up k ps → Apart q ps
up_apart q k [] low up = tt
up_apart q k (p ∷ ps) low up = ((λ (e : p.0 ≡ q). omega (arith, e, up.0, low)), up_apart q (suc k) ps (omega (arith, low)) up.1)

seated_first : (ks : List (ℕ × List ℕ)) → IsSeated ks → (p : ℕ × List ℕ) × (more : List (ℕ × List ℕ)) × (ks ≡ p ∷ more)
seated_first [] s = absurd s
seated_first (p ∷ ps) s = (p, ps, refl)

pub lends : (port : ℕ) (v : View) (other : ℕ) (w : View) → IsSeated v.known → v.filling ≡ false → w.owner ≡ false → Merges Dealt port v other w (lent_view v w) blank
lends port v other w s sealed guest = let f = seated_first v.known s in lends_to port v other w f.0 f.1 f.2 sealed guest

pieces_left : (left : List ℕ) (ends : ℕ) → pieces (tasks left ends) ≡ left
pieces_left [] zero = refl
pieces_left [] (suc e) = pieces_left [] e
pieces_left (x ∷ xs) e = ap (λ l. x ∷ l) (pieces_left xs e)

pub accounted : (items : List Task) (views : List View) → Dealt items views → IsAccounted items views
accounted items views (numbers, schedule, seat, boss, made, ends, facts) =
    let lie = ap pieces facts.lie ∙ pieces_left (left_after numbers schedule) ends in (
      numbers,
      schedule,
      made,
      lie,
      (λ x. let a = run_accounts x made numbers schedule facts.steps in let l = ap (times x) lie in omega (arith, a, l)),
      λ port v hand history at is.
          let mine = facts.each port v at in
          let t : AreSeatedAt numbers schedule seat made port ((hand, history) ∷ []) = subst (AreSeatedAt numbers schedule seat made port) is mine.theirs in
          (mine.same (subst IsSeated (sym is) tt), t.1),
    )
