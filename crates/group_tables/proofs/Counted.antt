-- Tables whose groups have no more records together than some number, whatever these records are.
use Rattle.std.proofs.Common.{◌≡◌, ◌+◌, ◌<◌, ◌≤◌, ◌^◌, ℕ, Bool, true, false, ◌||◌, cond, List, [], ◌∷◌, map, length, Option, Some, None, IfSome, refl, sym, ap, subst, ◌∙◌, sum_by, arith}
use Rattle.std.proofs.lemmas.List.Sums.{sum_by-append, sum_by-cons}
use Rattle.std.proofs.lemmas.List.{length-map}
use Rattle.std.specs.List.{list_any, IsDistinct, AllByRecursion}
use Rattle.std.specs.Map.{keys_of}
use Rattle.std.specs.FinMap as fin
use Rattle.query_resolve.specs.declared.function.FilteredFunction.{FilteredFunction}
use Rattle.semantics.specs.Groups.{Record, Key, key_order, members, project, same_key}
use Rattle.semantics.specs.Aggregates.{AggregateFunction}
use Rattle.group_tables.specs.Functions.{aggregate_of}
use Rattle.group_tables.specs.declared.packed_key.PackedKey.{PackedKey}
use Rattle.group_tables.specs.Keys.{key_in}
use Rattle.group_tables.specs.Accumulator.{accumulator_state}
use Rattle.group_tables.specs.Inside.Accumulator.{no_state}
use Rattle.group_tables.specs.Group.{GroupState, group_state, joint_group}
use Rattle.group_tables.specs.Inside.Group.{no_group}
use Rattle.group_tables.specs.Inside.Table.{AreGroupsWithin, IsEnlarged, IsFittingNew, IsGroupWithin, IsPut, TakesEach, group_with_entries, group_with_members}
use Rattle.group_tables.specs.Table.{Contents, HasGroupsOfBoth, IsCounted, IsTableOf, IsTableUnder, KeepsCount, contents_of, joint_option, lines_of}
use Rattle.group_tables.proofs.Bags.{ones}
use Rattle.group_tables.proofs.Covering.{hit, missed, not_swapped, others, spread, spread-none}
use Rattle.group_tables.proofs.Distinct.{distinct-shown}
use Rattle.group_tables.proofs.Entries.{Entries, key_eq}
use Rattle.group_tables.proofs.Meaning.{has_key, joint_states-length}
use Rattle.group_tables.proofs.Rolling.{firsts, get-each}

-- ---- the records of a table

-- how many records the group of a key has
abbrev pub lines_at : Contents → Key → ℕ
lines_at t k = lines_of (fin.get t k)

-- how many those of entries have together
abbrev pub entry_lines : Entries → ℕ
entry_lines es = sum_by (λ e. e.1.lines) es

entry_lines-cons : (e : PackedKey × GroupState) (es : Entries) → entry_lines (e ∷ es) ≡ e.1.lines + entry_lines es
entry_lines-cons e es = sum_by-cons (λ f. f.1.lines) e es

-- where there is a group, it has one accumulator for each function
abbrev HasParts : List FilteredFunction → Option GroupState → Type 0
HasParts functions o = IfSome o (λ group. length group.parts ≡ length functions)

entries-lines : (t : Contents) (es : Entries) → AllByRecursion (λ e. fin.get t (key_in e.0) ≡ Some e.1) es
    → sum_by (lines_at t) (firsts es) ≡ entry_lines es
entries-lines t [] h = refl
entries-lines t (e ∷ es) h =
    omega (arith, ap lines_of h.0, entries-lines t es h.1, sum_by-cons (lines_at t) (key_in e.0) (firsts es), entry_lines-cons e es)

-- the entries of a counted table have no more records
pub entries-counted : (most : ℕ) (functions : List FilteredFunction) (t : Contents) (es : Entries) → contents_of es ≡ t
    → IsDistinct key_eq (keys_of es) → IsCounted most functions t → entry_lines es ≤ most
entries-counted most functions t es view distinct counted =
    let a = entries-lines t es (get-each es t view distinct) in
    let b = counted.lines (firsts es) (distinct-shown es distinct) in
    omega (arith, a, b)

-- a group of a counted table has one accumulator for each function
pub parts-counted : (most : ℕ) (functions : List FilteredFunction) (t : Contents) (k : Key) (group : GroupState)
    → fin.get t k ≡ Some group → IsCounted most functions t → length group.parts ≡ length functions
parts-counted most functions t k group there counted = subst (HasParts functions) there (counted.parts k)

pub all-parts : (most : ℕ) (functions : List FilteredFunction) (t : Contents) (es : Entries)
    → IsCounted most functions t
    → AllByRecursion (λ e. fin.get t (key_in e.0) ≡ Some e.1) es
    → AllByRecursion (λ e. length e.1.parts ≡ length functions) es
all-parts most functions t [] counted h = tt
all-parts most functions t (e ∷ es) counted h =
    (parts-counted most functions t (key_in e.0) e.1 h.0 counted, all-parts most functions t es counted h.1)

-- ---- one part more

-- at the key q a table has so many records more than another one, and elsewhere as many
abbrev pub Grows : Contents → Contents → Key → ℕ → Type 0
Grows old new q n = (k : Key) → lines_at new k ≡ cond (same_key k q) (lines_at old k + n) (lines_at old k)

elsewhere : (old new : Contents) (q : Key) (n : ℕ) → Grows old new q n → (ks : List Key)
    → AllByRecursion (λ k. same_key k q ≡ false) ks → sum_by (lines_at new) ks ≡ sum_by (lines_at old) ks
elsewhere old new q n grows [] h = refl
elsewhere old new q n grows (k ∷ ks) h =
    let here = grows k ∙ ap (λ b. cond b (lines_at old k + n) (lines_at old k)) h.0 in
    let rest = elsewhere old new q n grows ks h.1 in
    omega (arith, here, rest, sum_by-cons (lines_at new) k ks, sum_by-cons (lines_at old) k ks)

-- so the groups of different keys have together at most so many more
pub grown-lines : (old new : Contents) (q : Key) (n : ℕ) → Grows old new q n → (ks : List Key) → IsDistinct same_key ks
    → sum_by (lines_at new) ks ≤ sum_by (lines_at old) ks + n
unfolding IsDistinct
grown-lines old new q n grows [] distinct = omega arith
grown-lines old new q n grows (k ∷ ks) distinct =
    elim (same_key k q) as (λ b. same_key k q ≡ b → sum_by (lines_at new) (k ∷ ks) ≤ sum_by (lines_at old) (k ∷ ks) + n) [
      | true ↦ λ is.
          let here = grows k ∙ ap (λ b. cond b (lines_at old k + n) (lines_at old k)) is in
          let rest = elsewhere old new q n grows ks (others k q ks is distinct.0) in
          omega (arith, here, rest, sum_by-cons (lines_at new) k ks, sum_by-cons (lines_at old) k ks)
      | false ↦ λ is.
          let here = grows k ∙ ap (λ b. cond b (lines_at old k + n) (lines_at old k)) is in
          let rest = grown-lines old new q n grows ks distinct.1 in
          omega (arith, here, rest, sum_by-cons (lines_at new) k ks, sum_by-cons (lines_at old) k ks)
    ] refl

members-lines : (functions : List FilteredFunction) (b : Bool) (o : Option GroupState) (part : GroupState)
    → lines_of (cond b (Some (group_with_members functions o part)) o) ≡ cond b (lines_of o + part.lines) (lines_of o)
members-lines functions true None part = refl
members-lines functions true (Some group) part = refl
members-lines functions false o part = refl

members-grow : (functions : List FilteredFunction) (old new : Contents) (q : Key) (part : GroupState)
    → ((k : Key) → IsEnlarged functions old new q part k) → Grows old new q part.lines
members-grow functions old new q part enlarged k =
    ap lines_of (enlarged k) ∙ members-lines functions (same_key k q) (fin.get old k) part

no_group-parts : (functions : List FilteredFunction) → length (no_group functions).parts ≡ length functions
no_group-parts functions = length-map functions (λ f. no_state f.filter f.function)

members-parts : (functions : List FilteredFunction) (b : Bool) (o : Option GroupState) (part : GroupState)
    → HasParts functions o
    → HasParts functions (cond b (Some (group_with_members functions o part)) o)
members-parts functions true None part h = joint_states-length (no_group functions).parts part.parts ∙ no_group-parts functions
members-parts functions true (Some group) part h = joint_states-length group.parts part.parts ∙ h
members-parts functions false o part h = h

-- ---- a table that takes the parts of entries, one after the other

-- with the records of the entries that are left the groups of a table have no more than so many,
-- and each group has one accumulator for each function
pub record IsCountedWith (most : ℕ) (functions : List FilteredFunction) (table : Contents) (left : Entries) : Type 0 where
  pub lines : (ks : List Key) → IsDistinct same_key ks → sum_by (lines_at table) ks + entry_lines left ≤ most
  pub parts : (k : Key) → HasParts functions (fin.get table k)

none-lines : (t : Contents) → ((k : Key) → fin.get t k ≡ None) → (ks : List Key) → sum_by (lines_at t) ks ≡ 0
none-lines t none [] = refl
none-lines t none (k ∷ ks) = omega (arith, ap lines_of (none k), none-lines t none ks, sum_by-cons (lines_at t) k ks)

-- a table of no records under a set that has a column has no group
pub no-groups : (set : List ℕ) (fs : List AggregateFunction) (t : Contents) → 0 < length set → IsTableOf set fs t []
    → (k : Key) → fin.get t k ≡ None
no-groups [] fs t some is k = absurd (omega (arith, some))
no-groups (p ∷ ps) fs t some is k = is k

-- before the first entry, where there is no group yet
pub counted-start : (most : ℕ) (functions : List FilteredFunction) (t : Contents) (es : Entries)
    → ((k : Key) → fin.get t k ≡ None)
    → entry_lines es ≤ most → IsCountedWith most functions t es
counted-start most functions t es none few = record {
  lines = λ ks distinct. let a = none-lines t none ks in omega (arith, a, few);
  parts = λ k. subst (HasParts functions) (sym (none k)) tt;
}

-- after the first of those that are left
pub counted-step : (most : ℕ) (functions : List FilteredFunction) (old new : Contents) (q : Key)
    (e : PackedKey × GroupState)
    (left : Entries) → ((k : Key) → IsEnlarged functions old new q e.1 k) → IsCountedWith most functions old (e ∷ left)
    → IsCountedWith most functions new left
counted-step most functions old new q e left enlarged with = record {
  lines = λ ks distinct.
      let a = grown-lines old new q e.1.lines (members-grow functions old new q e.1 enlarged) ks distinct in
      let b = with.lines ks distinct in
      omega (arith, a, b, entry_lines-cons e left);
  parts = λ k. subst (HasParts functions) (sym (enlarged k))
      (members-parts functions (same_key k q) (fin.get old k) e.1 (with.parts k));
}

-- behind the last entry
pub counted-end : (most : ℕ) (functions : List FilteredFunction) (t : Contents) (left : Entries) → left ≡ []
    → IsCountedWith most functions t left → IsCounted most functions t
counted-end most functions t left none with = record {
  lines = λ ks distinct. let a = with.lines ks distinct in let b = ap entry_lines none in omega (arith, a, b);
  parts = with.parts;
}

fitting-one : (functions : List FilteredFunction) (o : Option GroupState) (part : GroupState)
    → lines_of o + part.lines < 2 ^ 63
    → HasParts functions o → length part.parts ≡ length functions → IsFittingNew functions part o
fitting-one functions None part few h same = (tt, omega (arith, few), same)
fitting-one functions (Some group) part few h same = ((few, same ∙ sym h), omega (arith, few), same)

-- a group takes the part of the first entry, where the records are few
pub counted-fitting : (most : ℕ) (functions : List FilteredFunction) (old : Contents) (k : Key)
    (e : PackedKey × GroupState)
    (left : Entries) → most < 2 ^ 63 → length e.1.parts ≡ length functions → IsCountedWith most functions old (e ∷ left)
    → IsFittingNew functions e.1 (fin.get old k)
unfolding IsDistinct
counted-fitting most functions old k e left few same with =
    fitting-one functions (fin.get old k) e.1 (let a = with.lines (k ∷ []) (tt, tt) in omega (arith, a, few, entry_lines-cons e left)) (with.parts k) same

-- ---- all entries, put to one group

pub takes-counted : (n : ℕ) (group : GroupState) (es : Entries) → group.lines + entry_lines es < 2 ^ 63
    → length group.parts ≡ n
    → AllByRecursion (λ e. length e.1.parts ≡ n) es → TakesEach group es
takes-counted n group [] few same h = tt
takes-counted n group (e ∷ es) few same h = (
  omega (arith, few, entry_lines-cons e es),
  h.0 ∙ sym same,
  takes-counted n (joint_group group e.1) es (omega (arith, few, entry_lines-cons e es)) (joint_states-length group.parts e.1.parts ∙ same) h.1,
)

-- a group without members takes those of a table of few records
pub takes-few : (most : ℕ) (functions : List FilteredFunction) (t : Contents) (es : Entries) → most < 2 ^ 63
    → contents_of es ≡ t
    → IsDistinct key_eq (keys_of es) → IsCounted most functions t → TakesEach (no_group functions) es
takes-few most functions t es few view distinct counted =
    let a = entries-counted most functions t es view distinct counted in
    takes-counted (length functions) (no_group functions) es (omega (arith, a, few)) (no_group-parts functions)
    (all-parts most functions t es counted (get-each es t view distinct))

with_entries-lines : (group : GroupState) (es : Entries)
    → (group_with_entries group es).lines ≡ group.lines + entry_lines es
with_entries-lines group [] = omega arith
with_entries-lines group (e ∷ es) = omega (arith, with_entries-lines (joint_group group e.1) es, entry_lines-cons e es)

with_entries-parts : (group : GroupState) (es : Entries)
    → length (group_with_entries group es).parts ≡ length group.parts
with_entries-parts group [] = refl
with_entries-parts group (e ∷ es) = with_entries-parts (joint_group group e.1) es ∙ joint_states-length group.parts e.1.parts

put-lines : (b : Bool) (o : Option GroupState) (part : GroupState) → o ≡ None
    → lines_of (cond b (joint_option o (Some part)) o) ≡ cond b (lines_of o + part.lines) (lines_of o)
put-lines true None part none = omega arith
put-lines true (Some group) part none = cc
put-lines false o part none = refl

put-parts : (functions : List FilteredFunction) (b : Bool) (o : Option GroupState) (part : GroupState) → o ≡ None
    → length part.parts ≡ length functions → HasParts functions (cond b (joint_option o (Some part)) o)
put-parts functions true None part none same = same
put-parts functions true (Some group) part none same = cc
put-parts functions false None part none same = tt
put-parts functions false (Some group) part none same = cc

-- the table of one group, of the empty key, that has the records of all groups of another one
pub counted-one : (functions : List FilteredFunction) (t table : Contents) (es : Entries) → contents_of es ≡ t
    → IsDistinct key_eq (keys_of es) → ((k : Key) → IsPut fin.empty table [] (group_with_entries (no_group functions) es) k)
    → KeepsCount functions t table
counted-one functions t table es view distinct put most counted =
    let group = group_with_entries (no_group functions) es in
    let none : (k : Key) → fin.get (fin.empty {X = GroupState} {R = key_order}) k ≡ None = λ k. fin.get-empty key_order k in
    let grows : Grows fin.empty table [] group.lines =
    λ k. ap lines_of (put k) ∙ put-lines (same_key k []) (fin.get fin.empty k) group (none k) in
    let lines = with_entries-lines (no_group functions) es in
    let few = entries-counted most functions t es view distinct counted in
    record {
      lines = λ ks different.
          let a = grown-lines fin.empty table [] group.lines grows ks different in
          let b = none-lines fin.empty none ks in
          omega (arith, a, b, lines, few);
      parts = λ k. subst (HasParts functions) (sym (put k)) (put-parts functions (same_key k []) (fin.get fin.empty k) group (none k)
          (with_entries-parts (no_group functions) es ∙ no_group-parts functions));
    }

-- ---- the table of some records

not-any : (q : Key) (ks : List Key) → list_any (same_key q) ks ≡ false → AllByRecursion (λ k. same_key k q ≡ false) ks
not-any q [] h = tt
not-any q (k ∷ ks) h =
    elim (same_key q k) as (λ b. same_key q k ≡ b → (b || list_any (same_key q) ks) ≡ false
    → AllByRecursion (λ k. same_key k q ≡ false) (k ∷ ks)) [
      | true ↦ λ is n. absurd (cc)
      | false ↦ λ is n. (not_swapped q k is, not-any q ks n)
    ] refl h

-- the members of different keys are no more than all records, each once at most
spread-most : (set : List ℕ) (ks : List Key) → IsDistinct same_key ks → (rows : List Record)
    → sum_by (λ _. 1) (spread set rows ks) ≤ length rows
spread-most set ks distinct [] = let a = spread-none (λ _. 1) set ks in omega (arith, a)
spread-most set ks distinct (row ∷ rows) =
    let q = project set row in
    let rest = spread-most set ks distinct rows in
    elim (list_any (same_key q) ks) as (λ b. list_any (same_key q) ks ≡ b
    → sum_by (λ _. 1) (spread set (row ∷ rows) ks) ≤ length (row ∷ rows)) [
      | true ↦ λ is. let a = hit (λ _. 1) set row rows ks distinct is in omega (arith, a, rest)
      | false ↦ λ is. let a = missed (λ _. 1) set row rows ks (not-any q ks is) in omega (arith, a, rest)
    ] refl

group-lines : (fs : List AggregateFunction) (b : Bool) (rows : List Record)
    → lines_of (cond b (Some (group_state fs rows)) None) ≤ length rows
group-lines fs true rows = omega arith
group-lines fs false rows = omega arith

table-lines : (set : List ℕ) (fs : List AggregateFunction) (t : Contents) (rows : List Record) → IsTableOf set fs t rows
    → (ks : List Key) → sum_by (lines_at t) ks ≤ sum_by (λ _. 1) (spread set rows ks)
table-lines set fs t rows is [] = omega arith
table-lines set fs t rows is (k ∷ ks) =
    let m = members set k rows in
    let here : lines_at t k ≤ length m =
    subst (λ (o : Option GroupState). lines_of o ≤ length m) (sym (is k)) (group-lines fs (has_key set k rows) m) in
    let rest = table-lines set fs t rows is ks in
    let a = sum_by-append (λ _. 1) m (spread set rows ks) in
    let b = ones m in
    omega (arith, here, rest, a, b, sum_by-cons (lines_at t) k ks)

group-parts : (functions : List FilteredFunction) (fs : List AggregateFunction) (b : Bool) (rows : List Record)
    → length fs ≡ length functions
    → HasParts functions (cond b (Some (group_state fs rows)) None)
group-parts functions fs true rows same = length-map fs (λ f. accumulator_state f rows) ∙ same
group-parts functions fs false rows same = tt

-- the groups of a table have no more records than the table is of
pub records-counted : (most : ℕ) (set : List ℕ) (functions : List FilteredFunction) (filters : List (Record → Bool))
    (t : Contents)
    (rows : List Record) → IsTableUnder set functions filters t rows → length rows ≤ most → IsCounted most functions t
records-counted most set functions filters t rows is few =
    let fs = map (aggregate_of filters) functions in
    record {
      lines = λ ks distinct.
          let a = table-lines set fs t rows is ks in
          let b = spread-most set ks distinct rows in
          omega (arith, a, b, few);
      parts = λ k. subst (HasParts functions) (sym (is k))
          (group-parts functions fs (has_key set k rows) (members set k rows) (length-map functions (aggregate_of filters)));
    }

-- ---- two tables, put together

joint-lines : (a b : Option GroupState) → lines_of (joint_option a b) ≡ lines_of a + lines_of b
joint-lines None b = omega arith
joint-lines (Some g) None = omega arith
joint-lines (Some g) (Some h) = refl

joint-parts : (functions : List FilteredFunction) (a b : Option GroupState) → HasParts functions a
    → HasParts functions b
    → HasParts functions (joint_option a b)
joint-parts functions None b p q = q
joint-parts functions (Some g) None p q = p
joint-parts functions (Some g) (Some h) p q = joint_states-length g.parts h.parts ∙ p

both-lines : (a b c : Contents) → HasGroupsOfBoth a b c → (ks : List Key)
    → sum_by (lines_at c) ks ≡ sum_by (lines_at a) ks + sum_by (lines_at b) ks
both-lines a b c both [] = omega arith
both-lines a b c both (k ∷ ks) =
    let here = ap lines_of (both k) ∙ joint-lines (fin.get a k) (fin.get b k) in
    let rest = both-lines a b c both ks in
    omega (arith, here, rest, sum_by-cons (lines_at a) k ks, sum_by-cons (lines_at b) k ks, sum_by-cons (lines_at c) k ks)

-- have no more records than both
pub both-counted : (m n : ℕ) (functions : List FilteredFunction) (a b c : Contents) → IsCounted m functions a
    → IsCounted n functions b
    → HasGroupsOfBoth a b c → IsCounted (m + n) functions c
both-counted m n functions a b c p q both = record {
  lines = λ ks distinct.
      let x = both-lines a b c both ks in
      let y = p.lines ks distinct in
      let z = q.lines ks distinct in
      omega (arith, x, y, z);
  parts = λ k. subst (HasParts functions) (sym (both k))
      (joint-parts functions (fin.get a k) (fin.get b k) (p.parts k) (q.parts k));
}

-- ---- each group by itself

lines-within : (most : ℕ) (functions : List FilteredFunction) (o : Option GroupState) → lines_of o ≤ most
    → HasParts functions o
    → IfSome o (IsGroupWithin most functions)
lines-within most functions None few h = tt
lines-within most functions (Some group) few h = (few, h)

-- no group of a counted table has more records
pub counted-within : (most : ℕ) (functions : List FilteredFunction) (t : Contents) → IsCounted most functions t
    → AreGroupsWithin most functions t
unfolding IsDistinct
counted-within most functions t counted k =
    lines-within most functions (fin.get t k) (let a = counted.lines (k ∷ []) (tt, tt) in omega (arith, a)) (counted.parts k)
