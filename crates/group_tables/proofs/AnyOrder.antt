-- The order of the records does not matter to a table.
use Rattle.std.proofs.Common.{◌≡◌, ◌≢◌, ◌+◌, ℕ, ℤ, ◌+ℤ◌, Bool, true, false, cond, List, [], ◌∷◌, ◌++◌, length, map, filter, Option, Some, None, refl, sym, ap, ◌∙◌, sum_by, arith}
use Rattle.std.proofs.lemmas.List.Sums.{sum_by-append, sum_by-cons}
use Rattle.std.proofs.lemmas.Int.{ints}
use Rattle.semantics.specs.declared.function.ColumnFunction.{ColumnFunction}
use Rattle.semantics.specs.declared.function.ColumnFunction.TheVariants as function
use Rattle.semantics.specs.Groups.{Record, Key, members, same_key}
use Rattle.semantics.specs.Aggregates.{column_values, column_numbers, AggregateFunction, total, minimum, maximum}
use Rattle.group_tables.specs.Values.{set_of}
use Rattle.group_tables.specs.Accumulator.{counted, summed, averaged, collected, lowest, highest, accumulator_state, state_over, state_counted, state_by, joint_state}
use Rattle.group_tables.specs.Group.{group_state, joint_states, joint_group}
use Rattle.group_tables.specs.Bags.{SameBag}
use Rattle.group_tables.specs.Table.{Contents, IsTableOf, joint_option}
use Rattle.group_tables.proofs.Bags.{length-bag}
use Rattle.group_tables.proofs.Order.{same_key-Decides}
use Rattle.group_tables.proofs.Firsts.{less-flip, greater-flip}
use Rattle.group_tables.proofs.Sets.{union-flip}
use Rattle.group_tables.proofs.Meaning.{same_state, has_key, group_at, group_at-append}

pub plus_flip : (m n : ℕ) → m + n ≡ n + m
plus_flip m n = omega arith

pub sum_flip : (s t : ℤ) → s +ℤ t ≡ t +ℤ s
sum_flip s t = omega (arith, ints)

state_over-flip : (f : ColumnFunction) (l m : List Record) → joint_state (state_over f l) (state_over f m) ≡ joint_state (state_over f m) (state_over f l)
state_over-flip function.CountRows l m = refl
state_over-flip (function.Count place) l m = ap counted (plus_flip (length (column_values place l)) (length (column_values place m)))
state_over-flip (function.CountDistinct place) l m = ap collected (union-flip (set_of (column_values place l)) (set_of (column_values place m)))
state_over-flip (function.Sum place) l m = λ i. summed (sum_flip (total (column_numbers place l)) (total (column_numbers place m)) i) (plus_flip (length (column_numbers place l)) (length (column_numbers place m)) i)
state_over-flip (function.Min place) l m = ap lowest (less-flip (minimum (column_values place l)) (minimum (column_values place m)))
state_over-flip (function.Max place) l m = ap highest (greater-flip (maximum (column_values place l)) (maximum (column_values place m)))
state_over-flip (function.Avg place) l m = λ i. averaged (sum_flip (total (column_numbers place l)) (total (column_numbers place m)) i) (plus_flip (length (column_numbers place l)) (length (column_numbers place m)) i)

state_counted-flip : (f : ColumnFunction) (l m : List Record) → joint_state (state_counted f l) (state_counted f m) ≡ joint_state (state_counted f m) (state_counted f l)
state_counted-flip function.CountRows l m = ap counted (plus_flip (length l) (length m))
state_counted-flip (function.Count place) l m = state_over-flip (function.Count place) l m
state_counted-flip (function.CountDistinct place) l m = state_over-flip (function.CountDistinct place) l m
state_counted-flip (function.Sum place) l m = state_over-flip (function.Sum place) l m
state_counted-flip (function.Min place) l m = state_over-flip (function.Min place) l m
state_counted-flip (function.Max place) l m = state_over-flip (function.Max place) l m
state_counted-flip (function.Avg place) l m = state_over-flip (function.Avg place) l m

state_by-flip : (t : Option (Record → Bool)) (f : ColumnFunction) (l m : List Record) → joint_state (state_by t f l) (state_by t f m) ≡ joint_state (state_by t f m) (state_by t f l)
state_by-flip None f l m = state_over-flip f l m
state_by-flip (Some keeps) f l m = state_counted-flip f (filter keeps l) (filter keeps m)

parts-flip : (fs : List AggregateFunction) (l m : List Record) → joint_states (map (λ f. accumulator_state f l) fs) (map (λ f. accumulator_state f m) fs) ≡ joint_states (map (λ f. accumulator_state f m) fs) (map (λ f. accumulator_state f l) fs)
parts-flip [] l m = refl
parts-flip (f ∷ fs) l m = λ i. state_by-flip f.filter f.function l m i ∷ parts-flip fs l m i

group_state-flip : (fs : List AggregateFunction) (l m : List Record) → joint_group (group_state fs l) (group_state fs m) ≡ joint_group (group_state fs m) (group_state fs l)
group_state-flip fs l m = same_state (joint_group (group_state fs l) (group_state fs m)) (joint_group (group_state fs m) (group_state fs l)) (plus_flip (length l) (length m)) (parts-flip fs l m)

pub options-flip : (fs : List AggregateFunction) (a b : Bool) (x y : List Record) → joint_option (cond a (Some (group_state fs x)) None) (cond b (Some (group_state fs y)) None) ≡ joint_option (cond b (Some (group_state fs y)) None) (cond a (Some (group_state fs x)) None)
options-flip fs true true x y = ap Some (group_state-flip fs x y)
options-flip fs true false x y = refl
options-flip fs false true x y = refl
options-flip fs false false x y = refl

two : (set : List ℕ) (fs : List AggregateFunction) (k : Key) (x y : Record) → group_at set fs k (x ∷ y ∷ []) ≡ group_at set fs k (y ∷ x ∷ [])
two set fs k x y = group_at-append set fs k (x ∷ []) (y ∷ [])
    ∙ options-flip fs (has_key set k (x ∷ [])) (has_key set k (y ∷ [])) (members set k (x ∷ [])) (members set k (y ∷ []))
    ∙ sym (group_at-append set fs k (y ∷ []) (x ∷ []))

-- a record moves to the front
front-moved : (set : List ℕ) (fs : List AggregateFunction) (k : Key) (before : List Record) (x : Record) (after : List Record)
    → group_at set fs k (before ++ x ∷ after) ≡ group_at set fs k (x ∷ (before ++ after))
front-moved set fs k [] x after = refl
front-moved set fs k (y ∷ before) x after =
    group_at-append set fs k (y ∷ []) (before ++ x ∷ after)
    ∙ ap (joint_option (group_at set fs k (y ∷ []))) (front-moved set fs k before x after)
    ∙ sym (group_at-append set fs k (y ∷ []) (x ∷ (before ++ after)))
    ∙ group_at-append set fs k (y ∷ x ∷ []) (before ++ after)
    ∙ ap (λ o. joint_option o (group_at set fs k (before ++ after))) (two set fs k y x)
    ∙ sym (group_at-append set fs k (x ∷ y ∷ []) (before ++ after))

-- ---- a record of a list

record Within (x : Record) (rows : List Record) : Type 0 where
  before : List Record
  after : List Record
  parts : rows ≡ before ++ x ∷ after

-- a record weighs one where it is this one, and else nothing
abbrev is_this : Record → Record → ℕ
is_this x y = cond (same_key x y) 1 0

within : (x : Record) (rows : List Record) → sum_by (is_this x) rows ≢ 0 → Within x rows
within x [] h = absurd (h refl)
within x (y ∷ rows) h =
    elim (same_key x y) as (λ b. same_key x y ≡ b → cond b 1 0 + sum_by (is_this x) rows ≢ 0 → Within x (y ∷ rows)) [
      | true ↦ λ e i. record { before = []; after = rows; parts = ap (λ z. z ∷ rows) (sym ((same_key-Decides x y).0 e)) }
      | false ↦ λ e i. let r = within x rows (λ z. i (omega (arith, z))) in record { before = y ∷ r.before; after = r.after; parts = ap (λ zs. y ∷ zs) r.parts }
    ] refl (λ none. h (sum_by-cons (is_this x) y rows ∙ none))

pub group_at-bag : (set : List ℕ) (fs : List AggregateFunction) (k : Key) (l m : List Record) → SameBag l m → group_at set fs k l ≡ group_at set fs k m
group_at-bag set fs k [] [] s = refl
group_at-bag set fs k [] (y ∷ m) s = absurd (omega (arith, length-bag [] (y ∷ m) s))
group_at-bag set fs k (x ∷ l) m s =
    let own : is_this x x ≡ 1 = ap (λ b. cond b 1 0) ((same_key-Decides x x).1 refl) in
    let same = s (is_this x) in
    let front = sum_by-cons (is_this x) x l in
    let r = within x m (λ none. omega (arith, own, same, none, front)) in
    let rest : SameBag l (r.before ++ r.after) = λ w.
    let a = s w in
    let b = ap (sum_by w) r.parts in
    let c = sum_by-append w r.before (x ∷ r.after) in
    let d = sum_by-append w r.before r.after in
    omega (arith, a, b, c, d, sum_by-cons w x l, sum_by-cons w x r.after) in
    group_at-append set fs k (x ∷ []) l
    ∙ ap (joint_option (group_at set fs k (x ∷ []))) (group_at-bag set fs k l (r.before ++ r.after) rest)
    ∙ sym (group_at-append set fs k (x ∷ []) (r.before ++ r.after))
    ∙ sym (front-moved set fs k r.before x r.after)
    ∙ ap (group_at set fs k) (sym r.parts)

-- a table of records is that of the same records in another order
pub table-same : (set : List ℕ) (fs : List AggregateFunction) (t : Contents) (l m : List Record) → SameBag l m → IsTableOf set fs t l → IsTableOf set fs t m
table-same set fs t l m s h k = h k ∙ group_at-bag set fs k l m s
