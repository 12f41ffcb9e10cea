-- Each record is a member of exactly one key.
use Rattle.std.proofs.Common.{◌≡◌, ◌+◌, ℕ, Bool, true, false, ◌||◌, cond, List, [], ◌∷◌, map, length, refl, sym, ap, ◌∙◌, sum_by, arith}
use Rattle.std.proofs.lemmas.List.Sums.{sum_by-append, sum_by-cons}
use Rattle.std.specs.List.{list_any, flat_map, IsDistinct, AllByRecursion}
use Rattle.semantics.specs.Groups.{Record, Key, project, same_key, keys, members}
use Rattle.semantics.specs.Aggregates.{AggregateFunction}
use Rattle.semantics.specs.ResultRows.{group_summary}
use Rattle.group_tables.specs.GroupSummaries.{group_summaries}
use Rattle.group_tables.specs.Bags.{SameBag}
use Rattle.group_tables.proofs.Bags.{ones}
use Rattle.group_tables.proofs.Order.{same_key-Decides}
use Rattle.group_tables.proofs.Meaning.{any-key}
use Rattle.group_tables.proofs.GroupsLaw.{keys-distinct}

-- the members of keys, joined
abbrev pub spread : List ℕ → List Record → List Key → List Record
spread set rows ks = flat_map (λ k. members set k rows) ks

pub spread-none : (w : Record → ℕ) (set : List ℕ) (ks : List Key) → sum_by w (spread set [] ks) ≡ 0
spread-none w set [] = refl
spread-none w set (k ∷ ks) = spread-none w set ks

swapped : (k q : Key) → same_key k q ≡ true → same_key q k ≡ true
swapped k q e = (same_key-Decides q k).1 (sym ((same_key-Decides k q).0 e))

pub not_swapped : (k q : Key) → same_key k q ≡ false → same_key q k ≡ false
not_swapped k q e = elim (same_key q k) as (λ b. same_key q k ≡ b → b ≡ false) [
  | true ↦ λ h. let s = swapped q k h in cc
  | false ↦ λ h. refl
] refl

-- a record whose key is none of these is no member of theirs
pub missed : (w : Record → ℕ) (set : List ℕ) (row : Record) (rows : List Record) (ks : List Key) → AllByRecursion (λ k. same_key k (project set row) ≡ false) ks
    → sum_by w (spread set (row ∷ rows) ks) ≡ sum_by w (spread set rows ks)
missed w set row rows [] h = refl
missed w set row rows (k ∷ ks) h =
    let this : members set k (row ∷ rows) ≡ members set k rows = ap (λ b. cond b (row ∷ members set k rows) (members set k rows)) h.0 in
    let rest = missed w set row rows ks h.1 in
    let x = sum_by-append w (members set k (row ∷ rows)) (spread set (row ∷ rows) ks) in
    let y = sum_by-append w (members set k rows) (spread set rows ks) in
    let z = ap (sum_by w) this in
    omega (arith, x, y, z, rest)

-- of different keys that which is the same as another one is none of the rest
pub others : (k q : Key) (ks : List Key) → same_key k q ≡ true → AllByRecursion (λ y. same_key k y ≡ false) ks → AllByRecursion (λ y. same_key y q ≡ false) ks
others k q [] e h = tt
others k q (y ∷ ys) e h = (
  elim (same_key y q) as (λ b. same_key y q ≡ b → b ≡ false) [
    | true ↦ λ f. let same : k ≡ y = (same_key-Decides k q).0 e ∙ sym ((same_key-Decides y q).0 f) in let g = (same_key-Decides k y).1 same in let n = h.0 in cc
    | false ↦ λ f. refl
  ] refl,
  others k q ys e h.1,
)

-- of different keys, among which is the record's, exactly one has it
pub hit : (w : Record → ℕ) (set : List ℕ) (row : Record) (rows : List Record) (ks : List Key) → IsDistinct same_key ks → list_any (same_key (project set row)) ks ≡ true
    → sum_by w (spread set (row ∷ rows) ks) ≡ w row + sum_by w (spread set rows ks)
unfolding IsDistinct
hit w set row rows [] d h = cc
hit w set row rows (k ∷ ks) d h =
    elim (same_key k (project set row)) as (λ b. same_key k (project set row) ≡ b → sum_by w (spread set (row ∷ rows) (k ∷ ks)) ≡ w row + sum_by w (spread set rows (k ∷ ks))) [
      | true ↦ λ e.
          let this : members set k (row ∷ rows) ≡ row ∷ members set k rows = ap (λ b. cond b (row ∷ members set k rows) (members set k rows)) e in
          let rest = missed w set row rows ks (others k (project set row) ks e d.0) in
          let x = sum_by-append w (members set k (row ∷ rows)) (spread set (row ∷ rows) ks) in
          let y = sum_by-append w (members set k rows) (spread set rows ks) in
          let z = ap (sum_by w) this ∙ sum_by-cons w row (members set k rows) in
          omega (arith, x, y, z, rest)
      | false ↦ λ e.
          let this : members set k (row ∷ rows) ≡ members set k rows = ap (λ b. cond b (row ∷ members set k rows) (members set k rows)) e in
          let there : list_any (same_key (project set row)) ks ≡ true = sym (ap (λ b. b || list_any (same_key (project set row)) ks) (not_swapped k (project set row) e)) ∙ h in
          let rest = hit w set row rows ks d.1 there in
          let x = sum_by-append w (members set k (row ∷ rows)) (spread set (row ∷ rows) ks) in
          let y = sum_by-append w (members set k rows) (spread set rows ks) in
          let z = ap (sum_by w) this in
          omega (arith, x, y, z, rest)
    ] refl

or-true : (b : Bool) → (b || true) ≡ true
or-true true = refl
or-true false = refl

covered : (w : Record → ℕ) (set : List ℕ) (ks : List Key) → IsDistinct same_key ks → (rows : List Record)
    → ((q : Key) → list_any (same_key q) (map (project set) rows) ≡ true → list_any (same_key q) ks ≡ true)
    → sum_by w (spread set rows ks) ≡ sum_by w rows
covered w set ks d [] h = spread-none w set ks
covered w set ks d (row ∷ rows) h =
    let q = project set row in
    let own = h q (ap (λ b. b || list_any (same_key q) (map (project set) rows)) ((same_key-Decides q q).1 refl)) in
    let rest = covered w set ks d rows (λ p e. h p (ap (λ b. same_key p q || b) e ∙ or-true (same_key p q))) in
    let this = hit w set row rows ks d own in
    omega (arith, rest, this, sum_by-cons w row rows)

only_empty : (q : Key) (rows : List Record) → list_any (same_key q) (map (project []) rows) ≡ true → list_any (same_key q) ([] ∷ []) ≡ true
only_empty q [] h = cc
only_empty q (row ∷ rows) h = elim (same_key q []) as (λ b. same_key q [] ≡ b → (b || list_any (same_key q) (map (project []) rows)) ≡ true → (b || false) ≡ true) [
  | true ↦ λ e i. refl
  | false ↦ λ e i. ap (λ b. b || false) (sym e) ∙ only_empty q rows i
] refl h

-- the key of a record is one of the keys
pub own-key : (set : List ℕ) (q : Key) (rows : List Record) → list_any (same_key q) (map (project set) rows) ≡ true → list_any (same_key q) (keys set rows) ≡ true
own-key [] q rows h = only_empty q rows h
own-key (p ∷ ps) q rows h = any-key q (map (project (p ∷ ps)) rows) ∙ h

-- the members of different keys, among which are those of all records, are the records, each as
-- often
pub spread-bag : (set : List ℕ) (ks : List Key) → IsDistinct same_key ks → (rows : List Record)
    → ((q : Key) → list_any (same_key q) (map (project set) rows) ≡ true → list_any (same_key q) ks ≡ true) → SameBag (spread set rows ks) rows
spread-bag set ks d rows h w = covered w set ks d rows h

-- so are the members of all keys
pub members-bag : (set : List ℕ) (rows : List Record) → SameBag (flat_map (λ key. members set key rows) (keys set rows)) rows
members-bag set rows = spread-bag set (keys set rows) (keys-distinct set rows) rows (λ q h. own-key set q rows h)

lines-spread : (set : List ℕ) (fs : List AggregateFunction) (rows : List Record) (ks : List Key)
    → sum_by (λ r. r.lines) (map (λ k. group_summary fs k (members set k rows)) ks) ≡ sum_by (λ _. 1) (spread set rows ks)
lines-spread set fs rows [] = refl
lines-spread set fs rows (k ∷ ks) =
    let h = lines-spread set fs rows ks in
    let x = sum_by-append (λ _. 1) (members set k rows) (spread set rows ks) in
    let y = ones (members set k rows) in
    omega (arith, h, x, y, sum_by-cons (λ r. r.lines) (group_summary fs k (members set k rows)) (map (λ l. group_summary fs l (members set l rows)) ks))

-- the numbers of members of all groups add up to the number of records
pub lines-add_up : (set : List ℕ) (fs : List AggregateFunction) (rows : List Record) → sum_by (λ r. r.lines) (group_summaries set fs rows) ≡ length rows
lines-add_up set fs rows = lines-spread set fs rows (keys set rows) ∙ members-bag set rows (λ _. 1) ∙ ones rows
