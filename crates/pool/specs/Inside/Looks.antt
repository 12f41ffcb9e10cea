-- What the owner of a deque finds in the lists of the other hands.
use Rattle.std.specs.Prelude.{◌≡◌, ℕ, ◌+◌, ◌-◌, ◌<◌, List, ◌∷◌, length, true, false, []}
use mathlib.Core.Option.{Option, some, none}
use lib.ListN.{get_elem?}
use Rattle.std.specs.declared.alloc.Global.{Global}
use Rattle.pool.specs.declared.view.View.{View}
use Rattle.pool.specs.Holding.{Holding}
use Rattle.pool.specs.Dealing.{GoesOn}
use Rattle.pool.specs.Rule.{AllBelow}
use Rattle.pool.specs.Inside.Steps.{Up}
use Rattle.pool.specs.Steps.{AreKnown}
use Rattle.pool.specs.Seen.{Seen, Owned, list}

-- The list, where there is one.
abbrev pub list_in : Option Seen → List ℕ
list_in none = []
list_in (some s) = list s

-- What the hand has of the deque at this place of its round.
abbrev pub list_from : ℕ → Holding → List ℕ
list_from r h = list_in (get_elem? h.others (r - 1))

-- The steps that it knows of, where there is one.
abbrev pub history_in : Option Seen → List ℕ
history_in none = []
history_in (some s) = s.history

-- The steps that the hand knows of, of the deque at this place of its round.
abbrev pub history_from : ℕ → Holding → List ℕ
history_from r h = history_in (get_elem? h.others (r - 1))

-- At this place of its round the hand has a seat at that deque.
abbrev pub Reaches : (ℕ × ℕ) × Global → List ℕ → ℕ → Holding → Type 0
Reaches deque numbers r h =
    (0 < r) × ((s : Seen) × (get_elem? h.others (r - 1) ≡ some s) × (s.deque ≡ deque) × (s.numbers ≡ numbers)
    × (s.place ≡ r))

-- The first hand at this place, and the others at the places below.
abbrev pub AllReach : (ℕ × ℕ) × Global → List ℕ → ℕ → List Holding → Type 0
AllReach deque numbers r [] = Unit {0}
AllReach deque numbers r (h ∷ hs) = Reaches deque numbers r h × AllReach deque numbers (r - 1) hs

-- These hands with what they have of the deque, the first at this place and the others at the
-- places below
abbrev pub lists_from : ℕ → List Holding → List (ℕ × List ℕ)
lists_from r [] = []
lists_from r (h ∷ hs) = (r, list_from r h) ∷ lists_from (r - 1) hs

-- These hands with the steps that they know of, in the same way.
abbrev pub seats_from : ℕ → List Holding → List (ℕ × List ℕ)
seats_from r [] = []
seats_from r (h ∷ hs) = (r, history_from r h) ∷ seats_from (r - 1) hs

-- The owner has its own seat, and those of all hands above this place.
abbrev pub KnowsAbove : ℕ → View → Type 0
KnowsAbove r v =
    (v.filling ≡ false) × (v.owner ≡ true) × ((history : List ℕ) × (above : List (ℕ × List ℕ))
    × (v.known ≡ (0, history) ∷ above) × Up (r + 1) above × (v.made ≡ r + 1 + length above))

-- One schedule goes on from what this view knows, and from what these and those hands know.
abbrev pub OneRun : View → List (ℕ × List ℕ) → List (ℕ × List ℕ) → Type 0
OneRun v these those =
    (schedule : List ℕ) × AllBelow v.made schedule × AreKnown v.numbers schedule v.known
    × AreKnown v.numbers schedule these × AreKnown v.numbers schedule those

-- One schedule goes on from what the owner of a deque knows, and from what the hands before and
-- after it in the deal know of its deque.
abbrev pub HaveOneRun : Owned → List Holding → List Holding → Type 0
HaveOneRun own before after =
    (schedule : List ℕ) × AllBelow own.made schedule × GoesOn own.seen.numbers 0 own.seen.history schedule
    × AreKnown own.seen.numbers schedule (seats_from (length before + length after) after)
    × AreKnown own.seen.numbers schedule (seats_from (length before) before)
