-- What a hand's view of a deque says, and a deque whose seats are being given.
use Rattle.std.specs.Prelude.{◌≡◌, ℕ, Bool, true, false, ◌<◌, List, ◌∷◌, []}
use Rattle.std.specs.declared.alloc.Global.{Global}
use Rattle.pool.specs.declared.view.View.{View}
use Rattle.pool.specs.Dealing.{left_after}
use Rattle.pool.specs.Seen.{Seen, Owned}

-- The first of these hands.
abbrev pub place_of : List (ℕ × List ℕ) → ℕ
place_of [] = 0
place_of (p ∷ ps) = p.0

-- And the steps that it knows of.
abbrev pub history_of : List (ℕ × List ℕ) → List ℕ
history_of [] = []
history_of (p ∷ ps) = p.1

-- What a hand with this view has of the deque.
abbrev pub seen_of : (ℕ × ℕ) × Global → View → Seen
seen_of deque v = record { deque = deque; numbers = v.numbers; place = place_of v.known; history = history_of v.known }

-- What its owner has of it.
abbrev pub owned_of : (ℕ × ℕ) × Global → View → Owned
owned_of deque v = record { seen = record { deque = deque; numbers = v.numbers; place = 0; history = history_of v.known }; made = v.made }

-- The view of a sealed deque's owner, which has its own seat, and is owed a mark until it found
-- one. Then what it knows of left nothing.
abbrev pub IsOwner : View → Bool → Type 0
IsOwner v closed =
    (v.filling ≡ false) × (v.owner ≡ true) × (v.known ≡ (0, history_of v.known) ∷ [])
    × (closed ≡ false → 0 < v.ends) × (closed ≡ true → left_after v.numbers (history_of v.known) ≡ [])

-- The view of another hand.
abbrev pub IsThief : View → Bool → Type 0
IsThief v closed =
    (v.filling ≡ false) × (v.owner ≡ false) × (v.known ≡ (place_of v.known, history_of v.known) ∷ [])
    × (closed ≡ false → 0 < v.ends)

-- a deque whose hands are being seated: how many seats were given, its owner's among them, of how
-- many
pub record Offer : Type 0 where
  pub deque : (ℕ × ℕ) × Global
  pub numbers : List ℕ
  pub made : ℕ
  pub hands : ℕ

-- Such a deque, by its owner's view.
abbrev pub offer_of : (ℕ × ℕ) × Global → View → ℕ → Offer
offer_of deque v hands = record { deque = deque; numbers = v.numbers; made = v.made; hands = hands }

-- The next seat.
abbrev pub next_seat : Offer → Seen
next_seat o = record { deque = o.deque; numbers = o.numbers; place = o.made; history = [] }

-- With so many seats given.
abbrev pub offer_with : Offer → ℕ → Offer
offer_with o made = record { deque = o.deque; numbers = o.numbers; made = made; hands = o.hands }

-- What the owner has of it, once all seats are given.
abbrev pub owned_first : Offer → Owned
owned_first o = record { seen = record { deque = o.deque; numbers = o.numbers; place = 0; history = [] }; made = o.made }
