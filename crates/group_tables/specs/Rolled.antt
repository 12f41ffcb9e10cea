-- The keys of a grouping set, by those of a finer one: a set that has all its columns.
use Rattle.std.specs.Prelude.{◌≡◌, ◌==◌, ℕ, zero, suc, true, List, ◌∷◌, map, filter, if◌then◌else◌, []}
use Rattle.std.specs.List.{AllByRecursion, flat_map, list_any}
use Rattle.semantics.specs.Groups.{Record, Key, project, same_key, keys, members}

-- Each place of the set is one of the finer set.
abbrev pub AreAmong : List ℕ → List ℕ → Type 0
AreAmong set finer = AllByRecursion (λ place. list_any (λ p. p == place) finer ≡ true) set

-- Where a place first stands in a list of places.
abbrev pub index_in : List ℕ → ℕ → ℕ
index_in [] place = zero
index_in (p ∷ ps) place = if p == place then zero else suc (index_in ps place)

-- The values of a key of the finer set in the columns of the set.
abbrev pub rolled_key : List ℕ → List ℕ → Key → Key
rolled_key finer set key = project (map (index_in finer) set) key

-- The keys of the finer set that have a key's values in the columns of the set.
abbrev pub finer_keys : List ℕ → List ℕ → Key → List Record → List Key
finer_keys finer set key rows = filter (λ k. same_key key (rolled_key finer set k)) (keys finer rows)

-- The members of those keys, joined.
abbrev pub finer_members : List ℕ → List ℕ → Key → List Record → List Record
finer_members finer set key rows = flat_map (λ k. members finer k rows) (finer_keys finer set key rows)
