-- What ROLLUP, CUBE, DISTINCT and a list of elements stand for, set by set (ISO/IEC 9075-2, <group
-- by clause>).
use Rattle.std.specs.Prelude.{◌≡◌, ◌↔◌, ◌≤◌, ◌<◌, ◌+◌, ◌-◌, ◌*◌, ◌/◌, ◌%◌, ◌^◌, ◌==◌, ℕ, Bool, List, ◌∷◌, ◌++◌, length, take, get_or, if◌then◌else◌, []}
use Rattle.std.specs.List.{All, AllPairs, Contains, flat_map}

-- The columns of some units.
abbrev pub columns_of_units : {A : Type 0} → List (List A) → List A
columns_of_units units = flat_map (λ unit. unit) units

-- ROLLUP of n units stands for n+1 sets: the set at place k has the columns of the first n-k units,
-- so the first set has those of all units and the last set none.
pub record IsRollup {A : Type 0} (units sets : List (List A)) : Type 0 where
  pub count : length sets ≡ length units + 1
  pub each : (k : ℕ) → k ≤ length units → get_or sets k [] ≡ columns_of_units (take (length units - k) units)

-- Whether a binary digit of a number is 1. The lowest digit has the place 0.
abbrev pub digit : ℕ → ℕ → Bool
digit number place = (number / 2 ^ place) % 2 == 1

-- The columns of the units whose digits are 1 in a binary number, where the first unit has the
-- highest digit.
abbrev pub columns_of_digits : {A : Type 0} → List (List A) → ℕ → List A
columns_of_digits [] number = []
columns_of_digits (unit ∷ units) number = (if digit number (length units) then unit else []) ++ columns_of_digits units number

-- CUBE of n units stands for a set for each binary number of n digits, by falling numbers: the set
-- at place k is that of 2^n - 1 - k, so the first set has the columns of all units and the last set
-- none.
pub record IsCube {A : Type 0} (units sets : List (List A)) : Type 0 where
  pub count : length sets ≡ 2 ^ length units
  pub each : (k : ℕ) → k < 2 ^ length units → get_or sets k [] ≡ columns_of_digits units (2 ^ length units - 1 - k)

-- Two sets have the same columns: each column is in both or in none.
abbrev pub HaveSameColumns : List ℕ → List ℕ → Type 0
HaveSameColumns first second = (column : ℕ) → Contains first column ↔ Contains second column

-- Of a list those elements that are not the same as an earlier one, in order, where some elements
-- stand before the list.
pub data KeepsFirst {A : Type 0} (Same : A → A → Type 0) : List A → List A → List A → Type 0 where
  none : {before : List A} → KeepsFirst Same before [] []
  kept : {before all others : List A} {x : A} → ((earlier : A) → Contains before earlier → Same earlier x → ⊥) → KeepsFirst Same (x ∷ before) all others
      → KeepsFirst Same before (x ∷ all) (x ∷ others)
  dropped : {before all others : List A} {x : A} → (earlier : A) → Contains before earlier → Same earlier x → KeepsFirst Same (x ∷ before) all others
      → KeepsFirst Same before (x ∷ all) others

-- A list without repeats keeps those elements of the whole list that are not the same as an earlier
-- one, in order. So no two of it are the same, and each element of the whole list is the same as
-- one of it.
pub record AreDistinct {A : Type 0} (Same : A → A → Type 0) (all found : List A) : Type 0 where
  pub first : KeepsFirst Same [] all found
  pub apart : AllPairs (λ x y. Same x y → ⊥) found
  pub whole : All (λ x. (one : A) × Contains found one × Same one x) all

-- The cross product of two lists of sets has at place i * n + j the columns of the first list's set
-- at place i and of the second's at place j, where the second list has n sets. So the first list
-- varies slowest.
pub record IsCrossProduct {A : Type 0} (firsts seconds sets : List (List A)) : Type 0 where
  pub count : length sets ≡ length firsts * length seconds
  pub each : (i j : ℕ) → i < length firsts → j < length seconds → get_or sets (i * length seconds + j) [] ≡ get_or firsts i [] ++ get_or seconds j []
