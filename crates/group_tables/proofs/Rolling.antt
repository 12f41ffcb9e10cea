-- A table of another set, made of the groups of a finer table.
use Rattle.group_tables.specs.declared.packed_key.PackedKey.{PackedKey}
use Rattle.group_tables.specs.Keys.{key_in}
use Rattle.std.proofs.Common.{◌≡◌, ℕ, Bool, filter, true, false, ◌||◌, ◌&&◌, cond, List, [], ◌∷◌, ◌++◌, map, Option, Some, None, IsSome, unwrap_or, refl, sym, ap, subst, ◌∙◌, append_assoc}
use Rattle.std.specs.List.{list_any, IsDistinct, AllByRecursion}
use Rattle.std.specs.Map.{keys_of}
use Rattle.std.specs.FinMap as fin
use Rattle.query_resolve.specs.declared.function.FilteredFunction.{FilteredFunction}
use Rattle.semantics.specs.Groups.{Record, Key, project, key_order, same_key, members}
use Rattle.semantics.specs.Aggregates.{AggregateFunction}
use Rattle.group_tables.specs.Functions.{aggregate_of}
use Rattle.group_tables.specs.Group.{GroupState, group_state, joint_group}
use Rattle.group_tables.specs.Inside.Group.{no_group}
use Rattle.group_tables.specs.Bags.{SameBag}
use Rattle.group_tables.specs.Rolled.{rolled_key, AreAmong, finer_keys, finer_members}
use Rattle.group_tables.specs.Table.{Contents, IsTableOf, joint_option, group_of_keys, entries_by_key, contents_of}
use Rattle.group_tables.specs.Inside.Table.{IsEnlarged, IsPut, TakesEach, group_with_members, group_with_entries}
use Rattle.group_tables.proofs.Order.{key_total, same_key-Decides, key_eq-ties}
use Rattle.group_tables.proofs.Entries.{Entries, key_eq, find-first}
use Rattle.group_tables.proofs.Distinct.{distinct-shown}
use Rattle.group_tables.proofs.Meaning.{has_key, group_at, group_at-append, group_state-at, group_state-append, no_group-is, no_members, append-nil, any-key}
use Rattle.group_tables.proofs.AnyOrder.{group_at-bag, table-same}
use Rattle.group_tables.proofs.Covering.{spread, spread-bag, own-key}
use Rattle.group_tables.proofs.Rolled.{rolled_key-project, members-rolled, members-partition}

or-false : (b : Bool) → (b || false) ≡ b
or-false true = refl
or-false false = refl

and-true : (b : Bool) → (b && true) ≡ b
and-true true = refl
and-true false = refl

or-and : (a b : Bool) → (a || (a && b)) ≡ (a && true)
or-and true b = refl
or-and false b = refl

-- ---- the members of one key of the finer set, as records of the other set

any-rolled : (finer set : List ℕ) (k q : Key) (rows : List Record) → AreAmong set finer
    → list_any (same_key k) (map (project set) (members finer q rows)) ≡ (same_key k (rolled_key finer set q) && list_any (same_key q) (map (project finer) rows))
any-rolled finer set k q [] a = elim (same_key k (rolled_key finer set q)) as (λ b. false ≡ (b && false)) [ true ↦ refl | false ↦ refl ]
any-rolled finer set k q (row ∷ rows) a =
    elim (same_key q (project finer row)) as (λ b. same_key q (project finer row) ≡ b
    → list_any (same_key k) (map (project set) (cond b (row ∷ members finer q rows) (members finer q rows)))
    ≡ (same_key k (rolled_key finer set q) && (b || list_any (same_key q) (map (project finer) rows)))) [
      | true ↦ λ e.
          let is : project set row ≡ rolled_key finer set q = sym (rolled_key-project finer set row a) ∙ ap (rolled_key finer set) (sym ((same_key-Decides q (project finer row)).0 e)) in
          (λ i. same_key k (is i) || any-rolled finer set k q rows a i)
          ∙ or-and (same_key k (rolled_key finer set q)) (list_any (same_key q) (map (project finer) rows))
      | false ↦ λ e. any-rolled finer set k q rows a
    ] refl

has_key-rolled : (finer set : List ℕ) (k q : Key) (rows : List Record) → AreAmong set finer → has_key finer q rows ≡ true
    → has_key set k (members finer q rows) ≡ same_key k (rolled_key finer set q)
has_key-rolled finer [] k q rows a h = or-false (same_key k [])
has_key-rolled [] (s ∷ ss) k q rows a h = let n : false ≡ true = a.0 in cc
has_key-rolled (f ∷ fs) (s ∷ ss) k q rows a h =
    any-key k (map (project (s ∷ ss)) (members (f ∷ fs) q rows))
    ∙ any-rolled (f ∷ fs) (s ∷ ss) k q rows a
    ∙ ap (λ b. same_key k (rolled_key (f ∷ fs) (s ∷ ss) q) && b) (sym (any-key q (map (project (f ∷ fs)) rows)) ∙ h)
    ∙ and-true (same_key k (rolled_key (f ∷ fs) (s ∷ ss) q))

cond-both : (fs : List AggregateFunction) (c : Bool) (m : List Record) → cond c (Some (group_state fs (cond c m []))) None ≡ cond c (Some (group_state fs m)) None
cond-both fs true m = refl
cond-both fs false m = refl

group_at-rolled : (finer set : List ℕ) (fs : List AggregateFunction) (k q : Key) (rows : List Record) → AreAmong set finer → has_key finer q rows ≡ true
    → group_at set fs k (members finer q rows) ≡ cond (same_key k (rolled_key finer set q)) (Some (group_state fs (members finer q rows))) None
group_at-rolled finer set fs k q rows a h =
    (λ i. cond (has_key-rolled finer set k q rows a h i) (Some (group_state fs (members-rolled finer set k q rows a i))) None)
    ∙ cond-both fs (same_key k (rolled_key finer set q)) (members finer q rows)

-- ---- one more group of the finer table

group-there : (b : Bool) (x h : GroupState) → cond b (Some x) None ≡ Some h → (b ≡ true) × (x ≡ h)
group-there true x h e = (refl, ap (λ o. unwrap_or o x) e)
group-there false x h e = cc

-- a group of a table is that of the members of its key
group-of : (set : List ℕ) (fs : List AggregateFunction) (t : Contents) (rows : List Record) (q : Key) (h : GroupState) → IsTableOf set fs t rows → fin.get t q ≡ Some h
    → (has_key set q rows ≡ true) × (group_state fs (members set q rows) ≡ h)
group-of set fs t rows q h a e = group-there (has_key set q rows) (group_state fs (members set q rows)) h (sym (a q) ∙ e)

group_with_members-at : (functions : List FilteredFunction) (fs : List AggregateFunction) (c : Bool) (o : Option GroupState) (m : List Record) → no_group functions ≡ group_state fs []
    → cond c (Some (group_with_members functions o (group_state fs m))) o ≡ joint_option o (cond c (Some (group_state fs m)) None)
group_with_members-at functions fs true None m e = ap (λ g. Some (joint_group g (group_state fs m))) e ∙ ap Some (sym (group_state-append fs [] m))
group_with_members-at functions fs true (Some g) m e = refl
group_with_members-at functions fs false None m e = refl
group_with_members-at functions fs false (Some g) m e = refl

pub table-group_with_members : (finer set : List ℕ) (functions : List FilteredFunction) (filters : List (Record → Bool)) (t old new : Contents) (rows done : List Record) (q : Key) (h : GroupState)
    → AreAmong set finer → IsTableOf finer (map (aggregate_of filters) functions) t rows → fin.get t q ≡ Some h → IsTableOf set (map (aggregate_of filters) functions) old done
    → ((k : Key) → IsEnlarged functions old new (rolled_key finer set q) h k) → IsTableOf set (map (aggregate_of filters) functions) new (done ++ members finer q rows)
table-group_with_members finer set functions filters t old new rows done q h a is e b j k =
    let fs = map (aggregate_of filters) functions in
    let g = group-of finer fs t rows q h is e in
    let m = members finer q rows in
    let c = same_key k (rolled_key finer set q) in
    j k
    ∙ ap (λ x. cond c (Some (group_with_members functions (fin.get old k) x)) (fin.get old k)) (sym g.1)
    ∙ ap (λ o. cond c (Some (group_with_members functions o (group_state fs m))) o) (b k)
    ∙ group_with_members-at functions fs c (group_at set fs k done) m (no_group-is filters functions)
    ∙ ap (joint_option (group_at set fs k done)) (sym (group_at-rolled finer set fs k q rows a g.0))
    ∙ sym (group_at-append set fs k done m)

-- ---- the entries of the finer table

abbrev pub firsts : Entries → List Key
firsts es = map (λ e. e.0) (entries_by_key es)

find-any : (q : Key) (es : Entries) (h : GroupState) → fin.find key_order q (entries_by_key es) ≡ Some h → list_any (same_key q) (firsts es) ≡ true
find-any q [] h e = cc
find-any q (x ∷ es) h e =
    elim (same_key q (key_in x.0)) as (λ b. cond b (Some x.1) (fin.find key_order q (entries_by_key es)) ≡ Some h → (b || list_any (same_key q) (firsts es)) ≡ true) [
      | true ↦ λ i. refl
      | false ↦ λ i. find-any q es h i
    ] e

-- all keys of the records are among those of the entries
entries-cover : (set : List ℕ) (fs : List AggregateFunction) (es : Entries) (t : Contents) (rows : List Record) → contents_of es ≡ t → IsTableOf set fs t rows
    → (q : Key) → list_any (same_key q) (map (project set) rows) ≡ true → list_any (same_key q) (firsts es) ≡ true
entries-cover set fs es t rows v is q h =
    find-any q es (group_state fs (members set q rows))
    (sym (fin.get-from_entries key_total (entries_by_key es) q) ∙ ap (λ m. fin.get m q) v ∙ is q
    ∙ ap (λ b. cond b (Some (group_state fs (members set q rows))) None) (own-key set q rows h))

pub spread-entries : (set : List ℕ) (fs : List AggregateFunction) (es : Entries) (t : Contents) (rows : List Record) → contents_of es ≡ t → IsDistinct key_eq (keys_of es)
    → IsTableOf set fs t rows → SameBag (spread set rows (firsts es)) rows
spread-entries set fs es t rows v d is = spread-bag set (firsts es) (distinct-shown es d) rows (entries-cover set fs es t rows v is)

-- each entry is found by its key
still-found : (e : PackedKey × GroupState) (es xs : Entries) → AllByRecursion (λ y. key_eq e.0 y ≡ false) (keys_of xs)
    → AllByRecursion (λ x. fin.find key_order (key_in x.0) (entries_by_key es) ≡ Some x.1) xs
    → AllByRecursion (λ x. fin.find key_order (key_in x.0) (entries_by_key (e ∷ es)) ≡ Some x.1) xs
still-found e es [] d h = tt
still-found e es (x ∷ xs) d h = (
  elim (same_key (key_in x.0) (key_in e.0)) as (λ b. same_key (key_in x.0) (key_in e.0) ≡ b
      → cond b (Some e.1) (fin.find key_order (key_in x.0) (entries_by_key es)) ≡ Some x.1) [
        | true ↦ λ i.
            let same : same_key (key_in e.0) (key_in x.0) ≡ true = (same_key-Decides (key_in e.0) (key_in x.0)).1 (sym ((same_key-Decides (key_in x.0) (key_in e.0)).0 i)) in
            let other : same_key (key_in e.0) (key_in x.0) ≡ false = sym (key_eq-ties e.0 x.0) ∙ d.0 in
            cc
        | false ↦ λ i. h.0
      ] refl,
  still-found e es xs d.1 h.1,
)

find-each : (es : Entries) → IsDistinct key_eq (keys_of es) → AllByRecursion (λ x. fin.find key_order (key_in x.0) (entries_by_key es) ≡ Some x.1) es
unfolding IsDistinct
find-each [] d = tt
find-each (e ∷ es) d = (find-first e es, still-found e es es d.0 (find-each es d.1))

all-got : (es xs : Entries) (t : Contents) → contents_of es ≡ t
    → AllByRecursion (λ x. fin.find key_order (key_in x.0) (entries_by_key es) ≡ Some x.1) xs
    → AllByRecursion (λ x. fin.get t (key_in x.0) ≡ Some x.1) xs
all-got es [] t v h = tt
all-got es (x ∷ xs) t v h = (ap (λ m. fin.get m (key_in x.0)) (sym v) ∙ fin.get-from_entries key_total (entries_by_key es) (key_in x.0) ∙ h.0, all-got es xs t v h.1)

pub get-each : (es : Entries) (t : Contents) → contents_of es ≡ t → IsDistinct key_eq (keys_of es) → AllByRecursion (λ x. fin.get t (key_in x.0) ≡ Some x.1) es
get-each es t v d = all-got es es t v (find-each es d)

-- ---- the walk over them

-- the table is that of some records, which with the members of the keys that are left are those of
-- all keys
pub record IsRolled (finer set : List ℕ) (fs : List AggregateFunction) (table : Contents) (left all : Entries) (rows : List Record) : Type 0 where
  pub done : List Record
  pub is_table : IsTableOf set fs table done
  pub whole : done ++ spread finer rows (firsts left) ≡ spread finer rows (firsts all)

pub rolled-step : (finer set : List ℕ) (functions : List FilteredFunction) (filters : List (Record → Bool)) (t old new : Contents) (e : PackedKey × GroupState) (left all : Entries) (rows : List Record)
    → AreAmong set finer → IsTableOf finer (map (aggregate_of filters) functions) t rows → fin.get t (key_in e.0) ≡ Some e.1
    → ((k : Key) → IsEnlarged functions old new (rolled_key finer set (key_in e.0)) e.1 k)
    → IsRolled finer set (map (aggregate_of filters) functions) old (e ∷ left) all rows → IsRolled finer set (map (aggregate_of filters) functions) new left all rows
rolled-step finer set functions filters t old new e left all rows a is g j r = record {
  done = r.done ++ members finer (key_in e.0) rows;
  is_table = table-group_with_members finer set functions filters t old new rows r.done (key_in e.0) e.1 a is g r.is_table j;
  whole = append_assoc r.done (members finer (key_in e.0) rows) (spread finer rows (firsts left)) ∙ r.whole;
}

pub rolled-all : (finer set : List ℕ) (fs : List AggregateFunction) (t table : Contents) (left all : Entries) (rows : List Record) → contents_of all ≡ t → IsDistinct key_eq (keys_of all) → left ≡ []
    → IsTableOf finer fs t rows → IsRolled finer set fs table left all rows → IsTableOf set fs table rows
rolled-all finer set fs t table left all rows v d none is r =
    table-same set fs table (spread finer rows (firsts all)) rows (spread-entries finer fs all t rows v d is)
    (subst (λ (xs : List Record). IsTableOf set fs table xs)
    (sym (append-nil r.done) ∙ ap (λ es. r.done ++ spread finer rows (firsts es)) (sym none) ∙ r.whole) r.is_table)

-- ---- all groups, put to one

members-all : (rows : List Record) → members [] [] rows ≡ rows
members-all [] = refl
members-all (row ∷ rows) = ap (λ xs. row ∷ xs) (members-all rows)

group_state-bag : (fs : List AggregateFunction) (l m : List Record) → SameBag l m → group_state fs l ≡ group_state fs m
group_state-bag fs l m s =
    ap (group_state fs) (sym (members-all l))
    ∙ ap (λ (o : Option GroupState). unwrap_or o (group_state fs [])) (group_at-bag [] fs [] l m s)
    ∙ ap (group_state fs) (members-all m)

joined-spread : (finer : List ℕ) (fs : List AggregateFunction) (t : Contents) (rows done : List Record) (es : Entries) → IsTableOf finer fs t rows
    → AllByRecursion (λ e. fin.get t (key_in e.0) ≡ Some e.1) es → group_with_entries (group_state fs done) es ≡ group_state fs (done ++ spread finer rows (firsts es))
joined-spread finer fs t rows done [] is each = ap (group_state fs) (sym (append-nil done))
joined-spread finer fs t rows done (e ∷ es) is each =
    let m = members finer (key_in e.0) rows in
    let g = group-of finer fs t rows (key_in e.0) e.1 is each.0 in
    ap (λ (h : GroupState). group_with_entries (joint_group (group_state fs done) h) es) (sym g.1)
    ∙ ap (λ (h : GroupState). group_with_entries h es) (sym (group_state-append fs done m))
    ∙ joined-spread finer fs t rows (done ++ m) es is each.1
    ∙ ap (group_state fs) (append_assoc done m (spread finer rows (firsts es)))

pub group_with_entries-append : (g : GroupState) (xs ys : Entries) → group_with_entries g (xs ++ ys) ≡ group_with_entries (group_with_entries g xs) ys
group_with_entries-append g [] ys = refl
group_with_entries-append g (x ∷ xs) ys = group_with_entries-append (joint_group g x.1) xs ys

pub takes-append : (g : GroupState) (xs ys : Entries) → TakesEach g (xs ++ ys) → TakesEach g xs × TakesEach (group_with_entries g xs) ys
takes-append g [] ys h = (tt, h)
takes-append g (x ∷ xs) ys h = let more = takes-append (joint_group g x.1) xs ys h.2 in ((h.0, h.1, more.0), more.1)

all-kept : (rows : List Record) → filter (λ (row : Record). true) rows ≡ rows
all-kept [] = refl
all-kept (row ∷ rows) = ap (λ (xs : List Record). row ∷ xs) (all-kept rows)

one-at : (fs : List AggregateFunction) (b : Bool) (group : GroupState) (rows : List Record) → group ≡ group_state fs rows
    → cond b (Some group) None ≡ cond (b || false) (Some (group_state fs (filter (λ (row : Record). b) rows))) None
one-at fs true group rows is = ap Some (is ∙ ap (group_state fs) (sym (all-kept rows)))
one-at fs false group rows is = refl

-- a table with one group, of the empty key
table-of_one : (fs : List AggregateFunction) (t : Contents) (group : GroupState) (rows : List Record) → group ≡ group_state fs rows → ((k : Key) → IsPut fin.empty t [] group k) → IsTableOf [] fs t rows
table-of_one fs t group rows is h k =
    h k
    ∙ ap (λ (o : Option GroupState). cond (same_key k []) (joint_option o (Some group)) o) (fin.get-empty key_order k)
    ∙ one-at fs (same_key k []) group rows is

put-there : (o : Option GroupState) (group : GroupState) → IsSome (joint_option o (Some group))
put-there None group = refl
put-there (Some g) group = refl

-- it has that group
pub whole-one : (t : Contents) (group : GroupState) → ((k : Key) → IsPut fin.empty t [] group k) → IsSome (fin.get t [])
whole-one t group h =
    let none : Option GroupState = fin.get (fin.empty {X = GroupState} {R = key_order}) [] in
    let at : fin.get t [] ≡ joint_option none (Some group) =
    h [] ∙ ap (λ b. cond b (joint_option none (Some group)) none) ((same_key-Decides [] []).1 refl) in
    subst (λ (o : Option GroupState). IsSome o) (sym at) (put-there none group)

-- what all groups of a table come to is the one group of the empty set
pub rolled-to_one : (finer : List ℕ) (functions : List FilteredFunction) (filters : List (Record → Bool)) (t table : Contents) (es : Entries) (rows : List Record) → contents_of es ≡ t → IsDistinct key_eq (keys_of es)
    → IsTableOf finer (map (aggregate_of filters) functions) t rows → ((k : Key) → IsPut fin.empty table [] (group_with_entries (no_group functions) es) k) → IsTableOf [] (map (aggregate_of filters) functions) table rows
rolled-to_one finer functions filters t table es rows v d is h =
    let fs = map (aggregate_of filters) functions in
    let group = ap (λ (g : GroupState). group_with_entries g es) (no_group-is filters functions) ∙ joined-spread finer fs t rows [] es is (get-each es t v d)
    ∙ group_state-bag fs (spread finer rows (firsts es)) rows (spread-entries finer fs es t rows v d is) in
    table-of_one fs table (group_with_entries (no_group functions) es) rows group h

-- ---- what is kept of a group, by the groups of a finer table

kept-at : (set : List ℕ) (fs : List AggregateFunction) (t : Contents) (rows : List Record) (q : Key) → IsTableOf set fs t rows → group_state fs (members set q rows) ≡ unwrap_or (fin.get t q) (group_state fs [])
kept-at set fs t rows q is = sym (ap (λ (o : Option GroupState). unwrap_or o (group_state fs [])) (is q) ∙ group_state-at fs (has_key set q rows) (members set q rows) (no_members set q rows))

states-spread : (set : List ℕ) (fs : List AggregateFunction) (t : Contents) (rows : List Record) (qs : List Key) → IsTableOf set fs t rows
    → group_state fs (spread set rows qs) ≡ group_of_keys fs t qs
states-spread set fs t rows [] is = refl
states-spread set fs t rows (q ∷ qs) is =
    group_state-append fs (members set q rows) (spread set rows qs) ∙ (λ i. joint_group (kept-at set fs t rows q is i) (states-spread set fs t rows qs is i))

-- what is kept of the group of a key is what the finer table keeps of the keys that are rolled to
-- it, put together
pub group-rolled : (finer set : List ℕ) (fs : List AggregateFunction) (t table : Contents) (key : Key) (group : GroupState) (rows : List Record) → AreAmong set finer
    → IsTableOf finer fs t rows → IsTableOf set fs table rows → fin.get table key ≡ Some group → group ≡ group_of_keys fs t (finer_keys finer set key rows)
group-rolled finer set fs t table key group rows a is b e =
    sym ((group-of set fs table rows key group b e).1)
    ∙ sym (group_state-bag fs (finer_members finer set key rows) (members set key rows) (members-partition finer set key rows a))
    ∙ states-spread finer fs t rows (finer_keys finer set key rows) is
