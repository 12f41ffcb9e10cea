-- Tables of which each group is of the types of columns and set functions: that of records that
-- fit, two that are put together, and one that takes the parts of a finer one.
use Rattle.std.proofs.Common.{◌≡◌, ◌<◌, ◌==◌, ℕ, zero, suc, Bool, true, false, ◌||◌, cond, List, [], ◌∷◌, map, filter, length, Option, Some, None, IfSome, unwrap_or, refl, sym, subst, ◌∙◌, arith}
use Rattle.std.proofs.lemmas.Bool.{eqb-true}
use Rattle.std.specs.List.{AllByRecursion, AllZip, IsDistinct, find, list_any}
use Rattle.std.specs.Map.{keys_of}
use Rattle.std.specs.FinMap as fin
use Rattle.std.specs.Ordering.{is_lt}
use Rattle.query_resolve.specs.declared.function.FilteredFunction.{FilteredFunction}
use Rattle.semantics.specs.Columns.{Field}
use Rattle.semantics.specs.Names.{kind_at}
use Rattle.semantics.specs.Records.{Fits}
use Rattle.semantics.specs.Values.{Datum, null, value_order}
use Rattle.semantics.specs.Aggregates.{column_values, is_non_null}
use Rattle.semantics.specs.Groups.{Record, Key, key_order, members, project, same_key, value_at}
use Rattle.semantics.specs.declared.kind.Kind.{Kind}
use Rattle.semantics.specs.declared.function.ColumnFunction.{ColumnFunction}
use Rattle.semantics.specs.declared.function.ColumnFunction.TheVariants as function
use Rattle.group_tables.specs.Fitting.{HasType, IsHeld}
use Rattle.group_tables.specs.Functions.{aggregate_of, filter_at}
use Rattle.group_tables.specs.Rolled.{AreAmong, index_in, rolled_key}
use Rattle.group_tables.specs.Accumulator.{AccumulatorState, nothing, counted, summed, averaged, collected, lowest, highest, accumulator_state, joint_state, state_counted, state_over}
use Rattle.group_tables.specs.Inside.Accumulator.{no_state, summary}
use Rattle.group_tables.specs.Group.{GroupState, group_state, joint_group, joint_states}
use Rattle.group_tables.specs.Inside.Group.{no_group}
use Rattle.group_tables.specs.Table.{Contents, HasGroupsOfBoth, IsTableUnder, contents_of, joint_option}
use Rattle.group_tables.specs.Inside.Table.{IsEnlarged, IsPut, group_with_entries, group_with_members}
use Rattle.group_tables.specs.Typed.{AllFit, AreColumns, AreStatesOf, HasColumn, HaveColumns, IsKeyOf, IsStateBy, IsStateCounted, IsStateOver, IsTypedTable, KeepsTypes}
use Rattle.group_tables.specs.Values.{falling_order}
use Rattle.group_tables.specs.Keys.{key_in}
use Rattle.group_tables.proofs.Entries.{Entries, key_eq}
use Rattle.group_tables.proofs.Meaning.{any-key, has_key}
use Rattle.group_tables.proofs.Order.{same_key-Decides}
use Rattle.group_tables.proofs.Rolling.{get-each}

-- ---- what is shown has the type of its function

type-over : (fields : List Field) (f : ColumnFunction) (lines : ℕ) (k : AccumulatorState) → IsStateOver fields f k
    → HasType fields f (summary lines k)
type-over fields function.CountRows lines nothing h = tt
type-over fields (function.Count place) lines (counted n) h = tt
type-over fields (function.CountDistinct place) lines (collected s) h = tt
type-over fields (function.Sum place) lines (summed s zero) h = tt
type-over fields (function.Sum place) lines (summed s (suc n)) h = tt
type-over fields (function.Min place) lines (lowest d) h = h
type-over fields (function.Max place) lines (highest d) h = h
type-over fields (function.Avg place) lines (averaged s zero) h = tt
type-over fields (function.Avg place) lines (averaged s (suc n)) h = omega arith
type-over fields f lines k h = elim h [ ]

type-counted : (fields : List Field) (f : ColumnFunction) (lines : ℕ) (k : AccumulatorState) → IsStateCounted fields f k
    → HasType fields f (summary lines k)
type-counted fields function.CountRows lines (counted n) h = tt
type-counted fields function.CountRows lines k h = elim h [ ]
type-counted fields f lines k h = type-over fields f lines k h

type-by : (fields : List Field) (t : Option ℕ) (f : ColumnFunction) (lines : ℕ) (k : AccumulatorState)
    → IsStateBy fields t f k
    → HasType fields f (summary lines k)
type-by fields None f lines k h = type-over fields f lines k h
type-by fields (Some index) f lines k h = type-counted fields f lines k h

-- so do the cells of a group
pub states-type : (fields : List Field) (fs : List FilteredFunction) (lines : ℕ) (ks : List AccumulatorState)
    → AreStatesOf fields fs ks
    → AllZip (λ f cell. HasType fields f.function cell) fs (map (summary lines) ks)
states-type fields [] lines [] h = tt
states-type fields (f ∷ fs) lines (k ∷ ks) h = (type-by fields f.filter f.function lines k h.0, states-type fields fs lines ks h.1)
states-type fields fs lines ks h = elim h [ ]

-- ---- two parts of a group, put together

first-held : (o : Option Kind) (b : Bool) (x y : Datum) → IsHeld o x → IsHeld o y → IsHeld o (cond b y x)
first-held o true x y p q = q
first-held o false x y p q = p

joint-over : (fields : List Field) (f : ColumnFunction) (k l : AccumulatorState) → IsStateOver fields f k
    → IsStateOver fields f l
    → IsStateOver fields f (joint_state k l)
joint-over fields function.CountRows nothing nothing p q = tt
joint-over fields function.CountRows nothing l p q = elim q [ ]
joint-over fields (function.Count place) (counted m) (counted n) p q = tt
joint-over fields (function.Count place) (counted m) l p q = elim q [ ]
joint-over fields (function.CountDistinct place) (collected s) (collected t) p q = tt
joint-over fields (function.CountDistinct place) (collected s) l p q = elim q [ ]
joint-over fields (function.Sum place) (summed s m) (summed t n) p q = tt
joint-over fields (function.Sum place) (summed s m) l p q = elim q [ ]
joint-over fields (function.Min place) (lowest d) (lowest e) p q =
    first-held (kind_at fields place) (is_lt (value_order e d)) d e p q
joint-over fields (function.Min place) (lowest d) l p q = elim q [ ]
joint-over fields (function.Max place) (highest d) (highest e) p q =
    first-held (kind_at fields place) (is_lt (falling_order e d)) d e p q
joint-over fields (function.Max place) (highest d) l p q = elim q [ ]
joint-over fields (function.Avg place) (averaged s m) (averaged t n) p q = tt
joint-over fields (function.Avg place) (averaged s m) l p q = elim q [ ]
joint-over fields f k l p q = elim p [ ]

joint-counted : (fields : List Field) (f : ColumnFunction) (k l : AccumulatorState) → IsStateCounted fields f k
    → IsStateCounted fields f l
    → IsStateCounted fields f (joint_state k l)
joint-counted fields function.CountRows (counted m) (counted n) p q = tt
joint-counted fields function.CountRows (counted m) l p q = elim q [ ]
joint-counted fields function.CountRows k l p q = elim p [ ]
joint-counted fields f k l p q = joint-over fields f k l p q

joint-by : (fields : List Field) (t : Option ℕ) (f : ColumnFunction) (k l : AccumulatorState) → IsStateBy fields t f k
    → IsStateBy fields t f l → IsStateBy fields t f (joint_state k l)
joint-by fields None f k l p q = joint-over fields f k l p q
joint-by fields (Some index) f k l p q = joint-counted fields f k l p q

joint-states : (fields : List Field) (fs : List FilteredFunction) (ks ls : List AccumulatorState)
    → AreStatesOf fields fs ks
    → AreStatesOf fields fs ls → AreStatesOf fields fs (joint_states ks ls)
joint-states fields [] [] [] p q = tt
joint-states fields [] [] (l ∷ ls) p q = elim q [ ]
joint-states fields (f ∷ fs) (k ∷ ks) (l ∷ ls) p q =
    (joint-by fields f.filter f.function k l p.0 q.0, joint-states fields fs ks ls p.1 q.1)
joint-states fields (f ∷ fs) (k ∷ ks) [] p q = elim q [ ]
joint-states fields fs ks ls p q = elim p [ ]

-- ---- values of columns

-- each column holds NULL
null-held : (fields : List Field) (place : ℕ) → place < length fields → IsHeld (kind_at fields place) null
null-held [] place l = absurd (omega (arith, l))
null-held (f ∷ fields) zero l = tt
null-held (f ∷ fields) (suc place) l = null-held fields place (omega (arith, l))

-- and the value of a record that fits
value-held : (fields : List Field) (row : Record) (place : ℕ) → Fits fields row → place < length fields
    → IsHeld (kind_at fields place) (value_at place row)
value-held [] row place h l = absurd (omega (arith, l))
value-held (f ∷ fields) [] place h l = absurd h
value-held (f ∷ fields) (d ∷ row) zero h l = h.0
value-held (f ∷ fields) (d ∷ row) (suc place) h l = value-held fields row place h.1 (omega (arith, l))

all-filter : {X : Type 0} (P : X → Type 0) (test : X → Bool) (xs : List X) → AllByRecursion P xs
    → AllByRecursion P (filter test xs)
all-filter P test [] h = tt
all-filter P test (x ∷ xs) h = elim (test x) as (λ b. AllByRecursion P (cond b (x ∷ filter test xs) (filter test xs))) [
  | true ↦ (h.0, all-filter P test xs h.1)
  | false ↦ all-filter P test xs h.1
]

-- what is found is of the list, or else the other thing
find-such : {X : Type 0} (P : X → Type 0) (test : X → Bool) (xs : List X) (d : X) → P d → AllByRecursion P xs
    → P (unwrap_or (find test xs) d)
find-such P test [] d other h = other
find-such P test (x ∷ xs) d other h = elim (test x) as (λ b. P (unwrap_or (cond b (Some x) (find test xs)) d)) [
  | true ↦ h.0
  | false ↦ find-such P test xs d other h.1
]

values-held : (fields : List Field) (place : ℕ) (rows : List Record) → AllFit fields rows → place < length fields
    → AllByRecursion (IsHeld (kind_at fields place)) (map (value_at place) rows)
values-held fields place [] h l = tt
values-held fields place (row ∷ rows) h l = (value-held fields row place h.0 l, values-held fields place rows h.1 l)

column-held : (fields : List Field) (place : ℕ) (rows : List Record) → AllFit fields rows → place < length fields
    → AllByRecursion (IsHeld (kind_at fields place)) (column_values place rows)
column-held fields place rows h l =
    all-filter (IsHeld (kind_at fields place)) is_non_null (map (value_at place) rows) (values-held fields place rows h l)

-- so it holds what is found among the values of records that fit, or else NULL
found-held : (fields : List Field) (place : ℕ) (test : Datum → Bool) (rows : List Record) → AllFit fields rows
    → place < length fields
    → IsHeld (kind_at fields place) (unwrap_or (find test (column_values place rows)) null)
found-held fields place test rows h l =
    find-such (IsHeld (kind_at fields place)) test (column_values place rows) null (null-held fields place l)
    (column-held fields place rows h l)

-- ---- what is kept of records that fit

kept-over : (fields : List Field) (f : ColumnFunction) (rows : List Record) → AllFit fields rows → HasColumn fields f
    → IsStateOver fields f (state_over f rows)
kept-over fields function.CountRows rows h l = tt
kept-over fields (function.Count place) rows h l = tt
kept-over fields (function.CountDistinct place) rows h l = tt
kept-over fields (function.Sum place) rows h l = tt
kept-over fields (function.Min place) rows h l = found-held fields place _ rows h l
kept-over fields (function.Max place) rows h l = found-held fields place _ rows h l
kept-over fields (function.Avg place) rows h l = tt

kept-counted : (fields : List Field) (f : ColumnFunction) (rows : List Record) → AllFit fields rows → HasColumn fields f
    → IsStateCounted fields f (state_counted f rows)
kept-counted fields function.CountRows rows h l = tt
kept-counted fields f rows h l = kept-over fields f rows h l

state-of : (fields : List Field) (filters : List (Record → Bool)) (t : Option ℕ) (f : ColumnFunction) (rows : List Record)
    → AllFit fields rows
    → HasColumn fields f → IsStateBy fields t f (accumulator_state (aggregate_of filters (record { function = f; filter = t })) rows)
state-of fields filters None f rows h l = kept-over fields f rows h l
state-of fields filters (Some index) f rows h l =
    kept-counted fields f (filter (filter_at filters index) rows) (all-filter (Fits fields) (filter_at filters index) rows h) l

states-of : (fields : List Field) (filters : List (Record → Bool)) (fs : List FilteredFunction) (rows : List Record)
    → AllFit fields rows
    → HaveColumns fields fs → AreStatesOf fields fs (group_state (map (aggregate_of filters) fs) rows).parts
states-of fields filters [] rows h l = tt
states-of fields filters (f ∷ fs) rows h l =
    (state-of fields filters f.filter f.function rows h l.0, states-of fields filters fs rows h l.1)

-- of no record the same is kept, whatever the filters keep
no_state-of : (fields : List Field) (t : Option ℕ) (f : ColumnFunction) → HasColumn fields f
    → IsStateBy fields t f (no_state t f)
no_state-of fields None f l = kept-over fields f [] tt l
no_state-of fields (Some index) f l = kept-counted fields f [] tt l

no_states-of : (fields : List Field) (fs : List FilteredFunction) → HaveColumns fields fs
    → AreStatesOf fields fs (no_group fs).parts
no_states-of fields [] l = tt
no_states-of fields (f ∷ fs) l = (no_state-of fields f.filter f.function l.0, no_states-of fields fs l.1)

-- ---- keys

projected-held : (fields : List Field) (set : List ℕ) (row : Record) → Fits fields row → AreColumns fields set
    → IsKeyOf fields set (project set row)
projected-held fields [] row h l = tt
projected-held fields (p ∷ ps) row h l = (value-held fields row p h l.0, projected-held fields ps row h l.1)

any-held : (fields : List Field) (set : List ℕ) (k : Key) (rows : List Record) → AllFit fields rows → AreColumns fields set
    → list_any (same_key k) (map (project set) rows) ≡ true → IsKeyOf fields set k
any-held fields set k [] h l is = cc
any-held fields set k (row ∷ rows) h l is =
    elim (same_key k (project set row)) as (λ b. same_key k (project set row) ≡ b
    → (b || list_any (same_key k) (map (project set) rows)) ≡ true → IsKeyOf fields set k) [
      | true ↦ λ e n.
          subst (IsKeyOf fields set) (sym ((same_key-Decides k (project set row)).0 e)) (projected-held fields set row h.0 l)
      | false ↦ λ e n. any-held fields set k rows h.1 l n
    ] refl is

none-held : (fields : List Field) (k : Key) (b : Bool) → same_key k [] ≡ b → (b || false) ≡ true → IsKeyOf fields [] k
none-held fields k true e h = subst (IsKeyOf fields []) (sym ((same_key-Decides k []).0 e)) tt
none-held fields k false e h = cc

-- a key of records that fit has values of the columns
key-held : (fields : List Field) (set : List ℕ) (k : Key) (rows : List Record) → AllFit fields rows → AreColumns fields set
    → has_key set k rows ≡ true → IsKeyOf fields set k
key-held fields [] k rows h l is = none-held fields k (same_key k []) refl is
key-held fields (p ∷ ps) k rows h l is =
    any-held fields (p ∷ ps) k rows h l (sym (any-key k (map (project (p ∷ ps)) rows)) ∙ is)

value-among : (fields : List Field) (finer : List ℕ) (key : Key) (place : ℕ) → IsKeyOf fields finer key
    → list_any (λ p. p == place) finer ≡ true → IsHeld (kind_at fields place) (value_at (index_in finer place) key)
value-among fields [] key place h a = cc
value-among fields (p ∷ ps) [] place h a = elim h [ ]
value-among fields (p ∷ ps) (d ∷ key) place h a =
    elim (p == place) as (λ b. (p == place) ≡ b → (b || list_any (λ q. q == place) ps) ≡ true
    → IsHeld (kind_at fields place) (value_at (cond b zero (suc (index_in ps place))) (d ∷ key))) [
      | true ↦ λ e i. subst (λ (n : ℕ). IsHeld (kind_at fields n) d) (eqb-true p place e) h.0
      | false ↦ λ e i. value-among fields ps key place h.1 i
    ] refl a

-- a key of a finer set, rolled, is one of the set
rolled-held : (fields : List Field) (finer set : List ℕ) (key : Key) → AreAmong set finer → IsKeyOf fields finer key
    → IsKeyOf fields set (rolled_key finer set key)
rolled-held fields finer [] key a h = tt
rolled-held fields finer (p ∷ ps) key a h = (value-among fields finer key p h a.0, rolled-held fields finer ps key a.1 h)

-- ---- tables

abbrev pub HasKey : List Field → List ℕ → Key → Option GroupState → Type 0
HasKey fields set k o = IfSome o (λ _. IsKeyOf fields set k)

abbrev pub HasStates : List Field → List FilteredFunction → Option GroupState → Type 0
HasStates fields functions o = IfSome o (λ group. AreStatesOf fields functions group.parts)

-- what a typed table has at a key
pub key-typed : (fields : List Field) (set : List ℕ) (fs : List FilteredFunction) (t : Contents) (k : Key)
    (group : GroupState)
    → fin.get t k ≡ Some group → IsTypedTable fields set fs t → IsKeyOf fields set k
key-typed fields set fs t k group there typed = subst (HasKey fields set k) there (typed.keys k)

pub parts-typed : (fields : List Field) (set : List ℕ) (fs : List FilteredFunction) (t : Contents) (k : Key)
    (group : GroupState)
    → fin.get t k ≡ Some group → IsTypedTable fields set fs t → AreStatesOf fields fs group.parts
parts-typed fields set fs t k group there typed = subst (HasStates fields fs) there (typed.parts k)

-- a table without groups
pub none-typed : (fields : List Field) (set : List ℕ) (fs : List FilteredFunction) (t : Contents)
    → ((k : Key) → fin.get t k ≡ None)
    → IsTypedTable fields set fs t
none-typed fields set fs t none = record {
  keys = λ k. subst (HasKey fields set k) (sym (none k)) tt;
  parts = λ k. subst (HasStates fields fs) (sym (none k)) tt;
}

key-there : (fields : List Field) (set : List ℕ) (k : Key) (b : Bool) (group : GroupState)
    → (b ≡ true → IsKeyOf fields set k)
    → HasKey fields set k (cond b (Some group) None)
key-there fields set k true group h = h refl
key-there fields set k false group h = tt

states-there : (fields : List Field) (fs : List FilteredFunction) (b : Bool) (group : GroupState)
    → AreStatesOf fields fs group.parts
    → HasStates fields fs (cond b (Some group) None)
states-there fields fs true group h = h
states-there fields fs false group h = tt

-- the table of records that fit
pub records-typed : (fields : List Field) (set : List ℕ) (fs : List FilteredFunction) (filters : List (Record → Bool))
    (t : Contents)
    (rows : List Record) → IsTableUnder set fs filters t rows → AllFit fields rows → AreColumns fields set
    → HaveColumns fields fs
    → IsTypedTable fields set fs t
records-typed fields set fs filters t rows is fit columns have =
    let group : Key → GroupState = λ k. group_state (map (aggregate_of filters) fs) (members set k rows) in
    record {
      keys = λ k. subst (HasKey fields set k) (sym (is k))
          (key-there fields set k (has_key set k rows) (group k) (key-held fields set k rows fit columns));
      parts = λ k. subst (HasStates fields fs) (sym (is k))
          (states-there fields fs (has_key set k rows) (group k)
          (states-of fields filters fs (members set k rows)
          (all-filter (Fits fields) (λ row. same_key k (project set row)) rows fit) have));
    }

both-keys : (fields : List Field) (set : List ℕ) (k : Key) (a b : Option GroupState) → HasKey fields set k a
    → HasKey fields set k b
    → HasKey fields set k (joint_option a b)
both-keys fields set k None b p q = q
both-keys fields set k (Some g) None p q = p
both-keys fields set k (Some g) (Some h) p q = p

both-states : (fields : List Field) (fs : List FilteredFunction) (a b : Option GroupState) → HasStates fields fs a
    → HasStates fields fs b
    → HasStates fields fs (joint_option a b)
both-states fields fs None b p q = q
both-states fields fs (Some g) None p q = p
both-states fields fs (Some g) (Some h) p q = joint-states fields fs g.parts h.parts p q

-- two tables, put together
pub both-typed : (fields : List Field) (set : List ℕ) (fs : List FilteredFunction) (a b c : Contents)
    → IsTypedTable fields set fs a
    → IsTypedTable fields set fs b → HasGroupsOfBoth a b c → IsTypedTable fields set fs c
both-typed fields set fs a b c p q both = record {
  keys = λ k. subst (HasKey fields set k) (sym (both k))
      (both-keys fields set k (fin.get a k) (fin.get b k) (p.keys k) (q.keys k));
  parts = λ k. subst (HasStates fields fs) (sym (both k))
      (both-states fields fs (fin.get a k) (fin.get b k) (p.parts k) (q.parts k));
}

-- ---- one part more

members-states : (fields : List Field) (fs : List FilteredFunction) (b : Bool) (o : Option GroupState)
    (part : GroupState)
    → HaveColumns fields fs → HasStates fields fs o → AreStatesOf fields fs part.parts
    → HasStates fields fs (cond b (Some (group_with_members fs o part)) o)
members-states fields fs true None part have p q =
    joint-states fields fs (no_group fs).parts part.parts (no_states-of fields fs have) q
members-states fields fs true (Some group) part have p q = joint-states fields fs group.parts part.parts p q
members-states fields fs false o part have p q = p

key-any : (fields : List Field) (set : List ℕ) (k : Key) (o : Option GroupState) → IsKeyOf fields set k
    → HasKey fields set k o
key-any fields set k None h = tt
key-any fields set k (Some group) h = h

key-put : (fields : List Field) (set : List ℕ) (k q : Key) (o new : Option GroupState) → IsKeyOf fields set q
    → HasKey fields set k o
    → HasKey fields set k (cond (same_key k q) new o)
key-put fields set k q o new p h = elim (same_key k q) as (λ b. same_key k q ≡ b → HasKey fields set k (cond b new o)) [
  | true ↦ λ e. key-any fields set k new (subst (IsKeyOf fields set) (sym ((same_key-Decides k q).0 e)) p)
  | false ↦ λ e. h
] refl

-- a table that takes a part of a group of a finer table, under its key rolled
pub rolled-typed : (fields : List Field) (finer set : List ℕ) (fs : List FilteredFunction) (old new : Contents)
    (key : Key)
    (part : GroupState) → AreAmong set finer → HaveColumns fields fs → IsKeyOf fields finer key
    → AreStatesOf fields fs part.parts
    → ((k : Key) → IsEnlarged fs old new (rolled_key finer set key) part k) → IsTypedTable fields set fs old
    → IsTypedTable fields set fs new
rolled-typed fields finer set fs old new key part among have p q enlarged typed =
    let to = rolled_key finer set key in
    record {
      keys = λ k. subst (HasKey fields set k) (sym (enlarged k))
          (key-put fields set k to (fin.get old k) (Some (group_with_members fs (fin.get old k) part))
          (rolled-held fields finer set key among p) (typed.keys k));
      parts = λ k. subst (HasStates fields fs) (sym (enlarged k))
          (members-states fields fs (same_key k to) (fin.get old k) part have (typed.parts k) q);
    }

-- ---- all groups of a table, put to one

entries-states : (fields : List Field) (set : List ℕ) (fs : List FilteredFunction) (t : Contents) (es : Entries)
    → IsTypedTable fields set fs t
    → AllByRecursion (λ e. fin.get t (key_in e.0) ≡ Some e.1) es
    → AllByRecursion (λ e. AreStatesOf fields fs e.1.parts) es
entries-states fields set fs t [] typed h = tt
entries-states fields set fs t (e ∷ es) typed h =
    (parts-typed fields set fs t (key_in e.0) e.1 h.0 typed, entries-states fields set fs t es typed h.1)

with_entries-states : (fields : List Field) (fs : List FilteredFunction) (group : GroupState) (es : Entries)
    → AreStatesOf fields fs group.parts
    → AllByRecursion (λ e. AreStatesOf fields fs e.1.parts) es
    → AreStatesOf fields fs (group_with_entries group es).parts
with_entries-states fields fs group [] p h = p
with_entries-states fields fs group (e ∷ es) p h =
    with_entries-states fields fs (joint_group group e.1) es (joint-states fields fs group.parts e.1.parts p h.0) h.1

put-states : (fields : List Field) (fs : List FilteredFunction) (b : Bool) (o : Option GroupState) (part : GroupState)
    → o ≡ None
    → AreStatesOf fields fs part.parts → HasStates fields fs (cond b (joint_option o (Some part)) o)
put-states fields fs true None part none h = h
put-states fields fs true (Some group) part none h = cc
put-states fields fs false None part none h = tt
put-states fields fs false (Some group) part none h = cc

-- the table of one group, of the empty key, that has what all groups of a typed table have
pub one-typed : (finer : List ℕ) (fs : List FilteredFunction) (t table : Contents) (es : Entries) → contents_of es ≡ t
    → IsDistinct key_eq (keys_of es) → ((k : Key) → IsPut fin.empty table [] (group_with_entries (no_group fs) es) k)
    → KeepsTypes finer fs t [] table
one-typed finer fs t table es view distinct put fields have typed =
    let group = group_with_entries (no_group fs) es in
    let none : (k : Key) → fin.get (fin.empty {X = GroupState} {R = key_order}) k ≡ None = λ k. fin.get-empty key_order k in
    let states = entries-states fields finer fs t es typed (get-each es t view distinct) in
    record {
      keys = λ k. subst (HasKey fields [] k) (sym (put k))
          (key-put fields [] k [] (fin.get fin.empty k) (joint_option (fin.get fin.empty k) (Some group)) tt
          (subst (HasKey fields [] k) (sym (none k)) tt));
      parts = λ k. subst (HasStates fields fs) (sym (put k))
          (put-states fields fs (same_key k []) (fin.get fin.empty k) group (none k)
          (with_entries-states fields fs (no_group fs) es (no_states-of fields fs have) states));
    }
