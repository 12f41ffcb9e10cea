-- What each step at a deque tells the hand that makes it, and how seats come and go.
use Rattle.std.specs.Prelude.{◌≡◌, ℕ, false, ◌+◌, ◌-◌, List, ◌∷◌, ◌++◌, []}
use Rattle.pool.specs.declared.view.View.{View}
use Rattle.pool.specs.declared.view.Task.{Task}
use Rattle.pool.specs.declared.view.Task.TheVariants.{Number, End}
use Rattle.pool.specs.Dealing.{left_after, taken_by, IsFirst, GoesOn}
use Rattle.pool.specs.Rule.{view_of}

-- a pass with no seat
abbrev pub blank : View
blank = view_of false false 0 0 [] []

-- The schedule goes on from what each of these hands knows.
abbrev pub AreKnown : List ℕ → List ℕ → List (ℕ × List ℕ) → Type 0
AreKnown numbers schedule [] = Unit {0}
AreKnown numbers schedule (p ∷ ps) = GoesOn numbers p.0 p.1 schedule × AreKnown numbers schedule ps

-- x was the first that was left after steps of others, and the hand that is known has it at the end
-- of its list since
abbrev pub TookAt : List ℕ → List (ℕ × List ℕ) → ℕ → List (ℕ × List ℕ) → Type 0
TookAt numbers [] x ks = ⊥
TookAt numbers (p ∷ ps) x ks =
    (others : List ℕ) × (ks ≡ (p.0, (p.1 ++ others) ++ p.0 ∷ []) ∷ ps)
    × IsFirst x (left_after numbers (p.1 ++ others))
    × (taken_by numbers ((p.1 ++ others) ++ p.0 ∷ []) p.0 ≡ taken_by numbers p.1 p.0 ++ x ∷ [])

-- After steps of others nothing was left, and the hand that is known has what it had.
abbrev pub EmptiedAt : List ℕ → List (ℕ × List ℕ) → List (ℕ × List ℕ) → Type 0
EmptiedAt numbers [] ks = ⊥
EmptiedAt numbers (p ∷ ps) ks =
    (others : List ℕ) × (ks ≡ (p.0, p.1 ++ others) ∷ ps) × (left_after numbers (p.1 ++ others) ≡ [])
    × (taken_by numbers (p.1 ++ others) p.0 ≡ taken_by numbers p.1 p.0)

-- The first of these hands.
abbrev pub front : List (ℕ × List ℕ) → List (ℕ × List ℕ)
front [] = []
front (p ∷ ps) = p ∷ []

-- All but the first of these hands.
abbrev pub rest : List (ℕ × List ℕ) → List (ℕ × List ℕ)
rest [] = []
rest (p ∷ ps) = ps

-- What the owner knows after it took a number, or an end mark: then nothing is left.
abbrev pub TakenFrom : View → List Task → View → Type 0
TakenFrom v [] w = Unit {0}
TakenFrom v (Number x ∷ ts) w =
    (w ≡ view_of v.filling v.owner v.ends v.made v.numbers w.known) × TookAt v.numbers v.known x w.known
TakenFrom v (End ∷ ts) w =
    (w ≡ view_of v.filling v.owner (v.ends - 1) v.made v.numbers w.known) × EmptiedAt v.numbers v.known w.known

-- What another hand knows after it stole a number, or an end mark.
abbrev pub StolenFrom : View → List Task → View → Type 0
StolenFrom v [] w = Unit {0}
StolenFrom v (Number x ∷ ts) w =
    (w ≡ view_of v.filling v.owner v.ends v.made v.numbers w.known) × TookAt v.numbers v.known x w.known
StolenFrom v (End ∷ ts) w = w ≡ view_of v.filling v.owner (v.ends - 1) v.made v.numbers v.known

-- The other view's seat stands behind the first hand that is known.
abbrev pub lent_view : View → View → View
lent_view v w =
    view_of v.filling v.owner (v.ends + w.ends) v.made v.numbers (front v.known ++ (w.known ++ rest v.known))

-- The second hand that is known has its seat again, and is owed this many end marks.
abbrev pub giving_view : ℕ → View → View
giving_view n v = view_of v.filling v.owner (v.ends - n) v.made v.numbers (front v.known ++ rest (rest v.known))

-- And that hand's view.
abbrev pub given_view : ℕ → View → View
given_view n v = view_of false false n 0 v.numbers (front (rest v.known))
