-- Accumulators that take values and are put together.
use Rattle.std.proofs.Common.{◌≡◌, ◌+◌, ◌<◌, ◌^◌, ℕ, zero, suc, ℤ, pos, ◌+ℤ◌, Bool, true, false, Option, Some, None, List, [], ◌∷◌, length, map, refl, sym, ap, ◌∙◌, arith, subst, get_or, set}
use Rattle.std.proofs.lemmas.Int.{ints}
use Rattle.std.proofs.lemmas.List.{length-map}
use Rattle.semantics.specs.Values.{Datum, boolean, whole, text, null}
use Rattle.semantics.specs.declared.function.ColumnFunction.{ColumnFunction}
use Rattle.semantics.specs.declared.function.ColumnFunction.TheVariants as function
use Rattle.query_resolve.specs.declared.function.FilteredFunction.{FilteredFunction}
use Rattle.group_tables.specs.declared.accumulator.Accumulator.{Accumulator}
use Rattle.semantics.specs.Groups.{Record, value_at}
use Rattle.group_tables.specs.Rows.{IsNarrow, IsNarrowRow}
use Rattle.group_tables.specs.Accumulator.{AccumulatorState, nothing, counted, summed, averaged, collected, lowest, highest, state_over, joint_state}
use Rattle.group_tables.specs.Inside.Accumulator.{no_state, with_value, with_count, with_record, with_member, is_marked, state_in, HasRoom, IsWithin, IsUnbounded}
use Rattle.group_tables.specs.Inside.Group.{all_with_row, IsSound}
use Rattle.group_tables.specs.Group.{joint_states}
use Rattle.group_tables.proofs.Firsts.{less-null, greater-null}
use Rattle.group_tables.proofs.Sets.{union-empty}

plus_zero : (n : ℕ) → n + 0 ≡ n
plus_zero n = omega arith

sum_zero : (s : ℤ) → s +ℤ pos 0 ≡ s
sum_zero s = omega (arith, ints)

-- NULL changes nothing
pub with_value-null : (k : AccumulatorState) → with_value k null ≡ k
with_value-null nothing = refl
with_value-null (counted n) = ap counted (plus_zero n)
with_value-null (summed s n) = λ i. summed (sum_zero s i) (plus_zero n i)
with_value-null (averaged s n) = λ i. averaged (sum_zero s i) (plus_zero n i)
with_value-null (collected s) = ap collected (union-empty s)
with_value-null (lowest k) = ap lowest (less-null k)
with_value-null (highest k) = ap highest (greater-null k)

-- ---- sizes

within-room : (lines : ℕ) (k : AccumulatorState) → lines < 2 ^ 63 → IsWithin lines k → HasRoom k
within-room lines nothing h w = tt
within-room lines (counted n) h w = omega (arith, h, w)
within-room lines (summed s n) h w = (omega (arith, h, w), omega (arith, ints, h, w))
within-room lines (averaged s n) h w = (omega (arith, h, w), omega (arith, ints, h, w))
within-room lines (collected s) h w = tt
within-room lines (lowest k) h w = tt
within-room lines (highest k) h w = tt

pub unbounded-within : (lines : ℕ) (k : AccumulatorState) → IsUnbounded k → IsWithin lines k
unbounded-within lines nothing u = tt
unbounded-within lines (counted n) u = absurd u
unbounded-within lines (summed s n) u = absurd u
unbounded-within lines (averaged s n) u = absurd u
unbounded-within lines (collected s) u = tt
unbounded-within lines (lowest k) u = tt
unbounded-within lines (highest k) u = tt

pub with_value-within : (lines : ℕ) (k : AccumulatorState) (d : Datum) → IsWithin lines k → IsNarrow d → IsWithin (lines + 1) (with_value k d)
with_value-within lines nothing d w n = tt
with_value-within lines (counted m) (boolean b) w n = omega (arith, w)
with_value-within lines (counted m) (whole z) w n = omega (arith, w)
with_value-within lines (counted m) (text s) w n = omega (arith, w)
with_value-within lines (counted m) null w n = omega (arith, w)
with_value-within lines (summed s m) (boolean b) w n = (omega (arith, w), (omega (arith, ints, w), omega (arith, ints, w)))
with_value-within lines (summed s m) (whole z) w n = (omega (arith, w), (omega (arith, ints, w, n), omega (arith, ints, w, n)))
with_value-within lines (summed s m) (text t) w n = (omega (arith, w), (omega (arith, ints, w), omega (arith, ints, w)))
with_value-within lines (summed s m) null w n = (omega (arith, w), (omega (arith, ints, w), omega (arith, ints, w)))
with_value-within lines (averaged s m) (boolean b) w n = (omega (arith, w), (omega (arith, ints, w), omega (arith, ints, w)))
with_value-within lines (averaged s m) (whole z) w n = (omega (arith, w), (omega (arith, ints, w, n), omega (arith, ints, w, n)))
with_value-within lines (averaged s m) (text t) w n = (omega (arith, w), (omega (arith, ints, w), omega (arith, ints, w)))
with_value-within lines (averaged s m) null w n = (omega (arith, w), (omega (arith, ints, w), omega (arith, ints, w)))
with_value-within lines (collected s) d w n = tt
with_value-within lines (lowest k) d w n = tt
with_value-within lines (highest k) d w n = tt

more-within : (a b : ℕ) (k : AccumulatorState) → IsWithin a k → IsWithin (a + b) k
more-within a b nothing w = tt
more-within a b (counted n) w = omega (arith, w)
more-within a b (summed s n) w = (omega (arith, w), (omega (arith, ints, w), omega (arith, ints, w)))
more-within a b (averaged s n) w = (omega (arith, w), (omega (arith, ints, w), omega (arith, ints, w)))
more-within a b (collected s) w = tt
more-within a b (lowest k) w = tt
more-within a b (highest k) w = tt

pub joined-within : (a b : ℕ) (k l : AccumulatorState) → IsWithin a k → IsWithin b l → IsWithin (a + b) (joint_state k l)
joined-within a b (counted m) (counted n) v w = omega (arith, v, w)
joined-within a b (summed s m) (summed t n) v w = (omega (arith, v, w), (omega (arith, ints, v, w), omega (arith, ints, v, w)))
joined-within a b (averaged s m) (averaged t n) v w = (omega (arith, v, w), (omega (arith, ints, v, w), omega (arith, ints, v, w)))
joined-within a b (collected s) (collected t) v w = tt
joined-within a b (lowest k) (lowest l) v w = tt
joined-within a b (highest k) (highest l) v w = tt
joined-within a b k l v w = tt

pub more-sound : (a b : ℕ) (ks : List AccumulatorState) → IsSound a ks → IsSound (a + b) ks
more-sound a b [] s = tt
more-sound a b (k ∷ ks) s = (more-within a b k s.0, more-sound a b ks s.1)

value_at-narrow : (place : ℕ) (row : Record) → IsNarrowRow row → IsNarrow (value_at place row)
value_at-narrow place [] n = tt
value_at-narrow zero (d ∷ row) n = n.0
value_at-narrow (suc place) (d ∷ row) n = value_at-narrow place row n.1

with_count-within : (lines : ℕ) (k : AccumulatorState) → IsWithin lines k → IsWithin (lines + 1) (with_count k)
with_count-within lines nothing w = tt
with_count-within lines (counted n) w = omega (arith, w)
with_count-within lines (summed s n) w = more-within lines 1 (summed s n) w
with_count-within lines (averaged s n) w = more-within lines 1 (averaged s n) w
with_count-within lines (collected s) w = tt
with_count-within lines (lowest k) w = tt
with_count-within lines (highest k) w = tt

with_record-within : (lines : ℕ) (f : ColumnFunction) (k : AccumulatorState) (row : Record) → IsWithin lines k → IsNarrowRow row → IsWithin (lines + 1) (with_record f k row)
with_record-within lines function.CountRows k row w n = with_count-within lines k w
with_record-within lines (function.Count place) k row w n = with_value-within lines k (value_at place row) w (value_at-narrow place row n)
with_record-within lines (function.CountDistinct place) k row w n = with_value-within lines k (value_at place row) w (value_at-narrow place row n)
with_record-within lines (function.Sum place) k row w n = with_value-within lines k (value_at place row) w (value_at-narrow place row n)
with_record-within lines (function.Min place) k row w n = with_value-within lines k (value_at place row) w (value_at-narrow place row n)
with_record-within lines (function.Max place) k row w n = with_value-within lines k (value_at place row) w (value_at-narrow place row n)
with_record-within lines (function.Avg place) k row w n = with_value-within lines k (value_at place row) w (value_at-narrow place row n)

with_member-within : (lines : ℕ) (kept : Bool) (f : ColumnFunction) (k : AccumulatorState) (row : Record) → IsWithin lines k → IsNarrowRow row → IsWithin (lines + 1) (with_member kept f k row)
with_member-within lines true f k row w n = with_record-within lines f k row w n
with_member-within lines false f k row w n = more-within lines 1 k w

pub all_with_row-sound : (lines : ℕ) (fs : List FilteredFunction) (marks : List Bool) (ks : List AccumulatorState) (row : Record) → IsSound lines ks → IsNarrowRow row
    → IsSound (lines + 1) (all_with_row fs marks ks row)
all_with_row-sound lines [] marks ks row s n = more-sound lines 1 ks s
all_with_row-sound lines (f ∷ fs) marks [] row s n = tt
all_with_row-sound lines (f ∷ fs) marks (k ∷ ks) row s n = (with_member-within lines (is_marked marks f.filter) f.function k row s.0 n, all_with_row-sound lines fs marks ks row s.1 n)

pub joint_states-sound : (a b : ℕ) (ks ls : List AccumulatorState) → IsSound a ks → IsSound b ls → IsSound (a + b) (joint_states ks ls)
joint_states-sound a b [] ls s t = tt
joint_states-sound a b (k ∷ ks) [] s t = more-sound a b (k ∷ ks) s
joint_states-sound a b (k ∷ ks) (l ∷ ls) s t = (joined-within a b k l s.0 t.0, joint_states-sound a b ks ls s.1 t.1)

none_over-within : (f : ColumnFunction) → IsWithin 0 (state_over f [])
none_over-within function.CountRows = tt
none_over-within (function.Count place) = omega arith
none_over-within (function.CountDistinct place) = tt
none_over-within (function.Sum place) = (omega arith, (omega (arith, ints), omega (arith, ints)))
none_over-within (function.Min place) = tt
none_over-within (function.Max place) = tt
none_over-within (function.Avg place) = (omega arith, (omega (arith, ints), omega (arith, ints)))

none-within : (t : Option ℕ) (f : ColumnFunction) → IsWithin 0 (no_state t f)
none-within None f = none_over-within f
none-within (Some index) function.CountRows = omega arith
none-within (Some index) (function.Count place) = none_over-within (function.Count place)
none-within (Some index) (function.CountDistinct place) = none_over-within (function.CountDistinct place)
none-within (Some index) (function.Sum place) = none_over-within (function.Sum place)
none-within (Some index) (function.Min place) = none_over-within (function.Min place)
none-within (Some index) (function.Max place) = none_over-within (function.Max place)
none-within (Some index) (function.Avg place) = none_over-within (function.Avg place)

pub none-sound : (fs : List FilteredFunction) → IsSound 0 (map (λ f. no_state f.filter f.function) fs)
none-sound [] = tt
none-sound (f ∷ fs) = (none-within f.filter f.function, none-sound fs)

-- ---- one after another: the accumulators from a place on are still to take the record

abbrev pub taken_from : ℕ → List FilteredFunction → List Bool → List AccumulatorState → Record → List AccumulatorState
taken_from zero fs marks ks row = all_with_row fs marks ks row
taken_from (suc n) [] marks ks row = ks
taken_from (suc n) (f ∷ fs) marks [] row = []
taken_from (suc n) (f ∷ fs) marks (k ∷ ks) row = k ∷ taken_from n fs marks ks row

-- what one function keeps after one more record
abbrev pub taken_by : FilteredFunction → List Bool → AccumulatorState → Record → AccumulatorState
taken_by f marks k row = with_member (is_marked marks f.filter) f.function k row

pub taken_from-step : (n : ℕ) (fs : List FilteredFunction) (marks : List Bool) (parts : List Accumulator) (row : Record) (f : FilteredFunction) (a b : Accumulator) → n < length fs → n < length parts
    → a ≡ get_or parts n a → state_in b ≡ taken_by (get_or fs n f) marks (state_in a) row
    → taken_from (suc n) fs marks (map state_in (set parts n b)) row ≡ taken_from n fs marks (map state_in parts) row
taken_from-step zero [] marks parts row f a b h i e k = absurd (omega arith)
taken_from-step zero (g ∷ fs) marks [] row f a b h i e k = absurd (omega arith)
taken_from-step zero (g ∷ fs) marks (x ∷ parts) row f a b h i e k = ap (λ z. z ∷ all_with_row fs marks (map state_in parts) row) (k ∙ ap (λ z. taken_by g marks (state_in z) row) e)
taken_from-step (suc n) [] marks parts row f a b h i e k = absurd (omega arith)
taken_from-step (suc n) (g ∷ fs) marks [] row f a b h i e k = absurd (omega arith)
taken_from-step (suc n) (g ∷ fs) marks (x ∷ parts) row f a b h i e k = ap (λ js. state_in x ∷ js) (taken_from-step n fs marks parts row f a b (omega arith) (omega arith) e k)

pub taken_from-end : (fs : List FilteredFunction) (marks : List Bool) (ks : List AccumulatorState) (row : Record) → length ks ≡ length fs → taken_from (length fs) fs marks ks row ≡ ks
taken_from-end [] marks ks row e = refl
taken_from-end (f ∷ fs) marks [] row e = refl
taken_from-end (f ∷ fs) marks (k ∷ ks) row e = ap (λ js. k ∷ js) (taken_from-end fs marks ks row (omega (arith, e)))

pub taken_from-all : (n : ℕ) (fs : List FilteredFunction) (marks : List Bool) (parts : List Accumulator) (row : Record) (ks : List AccumulatorState) → n ≡ length fs → length parts ≡ length fs
    → taken_from n fs marks (map state_in parts) row ≡ ks → map state_in parts ≡ ks
taken_from-all n fs marks parts row ks h e i =
    sym (taken_from-end fs marks (map state_in parts) row (length-map parts state_in ∙ e)) ∙ ap (λ m. taken_from m fs marks (map state_in parts) row) (sym h) ∙ i

pub taken_from-within : (lines n : ℕ) (fs : List FilteredFunction) (marks : List Bool) (parts : List Accumulator) (row : Record) (f : FilteredFunction) (a : Accumulator) → n < length fs → n < length parts
    → a ≡ get_or parts n a → IsSound lines (taken_from n fs marks (map state_in parts) row) → IsWithin lines (taken_by (get_or fs n f) marks (state_in a) row)
taken_from-within lines zero [] marks parts row f a h i e s = absurd (omega arith)
taken_from-within lines zero (g ∷ fs) marks [] row f a h i e s = absurd (omega arith)
taken_from-within lines zero (g ∷ fs) marks (x ∷ parts) row f a h i e s = subst (λ z. IsWithin lines (taken_by g marks (state_in z) row)) (sym e) s.0
taken_from-within lines (suc n) [] marks parts row f a h i e s = absurd (omega arith)
taken_from-within lines (suc n) (g ∷ fs) marks [] row f a h i e s = absurd (omega arith)
taken_from-within lines (suc n) (g ∷ fs) marks (x ∷ parts) row f a h i e s = taken_from-within lines n fs marks parts row f a (omega arith) (omega arith) e s.1

pub taken_from-room : (lines n : ℕ) (fs : List FilteredFunction) (marks : List Bool) (parts : List Accumulator) (row : Record) (f : FilteredFunction) (a : Accumulator) → n < length fs → n < length parts
    → a ≡ get_or parts n a → lines < 2 ^ 63 → IsSound lines (taken_from n fs marks (map state_in parts) row) → HasRoom (taken_by (get_or fs n f) marks (state_in a) row)
taken_from-room lines n fs marks parts row f a h i e few s = within-room lines _ few (taken_from-within lines n fs marks parts row f a h i e s)

-- one accumulator is replaced by one that is within
pub sound-set : (lines n : ℕ) (parts : List Accumulator) (b : Accumulator) → IsSound lines (map state_in parts) → IsWithin lines (state_in b) → IsSound lines (map state_in (set parts n b))
sound-set lines n [] b s w = tt
sound-set lines zero (x ∷ parts) b s w = (w, s.1)
sound-set lines (suc n) (x ∷ parts) b s w = (s.0, sound-set lines n parts b s.1 w)

-- ---- one after another: the accumulators from a place on are still to take the rest

abbrev pub joint_states_from : ℕ → List AccumulatorState → List AccumulatorState → List AccumulatorState
joint_states_from zero ks rest = joint_states ks rest
joint_states_from (suc n) [] rest = []
joint_states_from (suc n) (k ∷ ks) rest = k ∷ joint_states_from n ks rest

pub joint_states_from-step : (n : ℕ) (parts : List Accumulator) (l : AccumulatorState) (rest : List AccumulatorState) (a b : Accumulator) → n < length parts
    → a ≡ get_or parts n a → state_in b ≡ joint_state (state_in a) l
    → joint_states_from (suc n) (map state_in (set parts n b)) rest ≡ joint_states_from n (map state_in parts) (l ∷ rest)
joint_states_from-step zero [] l rest a b h e k = absurd (omega arith)
joint_states_from-step zero (x ∷ parts) l rest a b h e k = ap (λ z. z ∷ joint_states (map state_in parts) rest) (k ∙ ap (λ z. joint_state (state_in z) l) e)
joint_states_from-step (suc n) [] l rest a b h e k = absurd (omega arith)
joint_states_from-step (suc n) (x ∷ parts) l rest a b h e k = ap (λ js. state_in x ∷ js) (joint_states_from-step n parts l rest a b (omega arith) e k)

joined-nothing : (ks : List AccumulatorState) → joint_states ks [] ≡ ks
joined-nothing [] = refl
joined-nothing (k ∷ ks) = refl

pub joint_states_from-end : (n : ℕ) (ks : List AccumulatorState) → joint_states_from n ks [] ≡ ks
joint_states_from-end zero ks = joined-nothing ks
joint_states_from-end (suc n) [] = refl
joint_states_from-end (suc n) (k ∷ ks) = ap (λ js. k ∷ js) (joint_states_from-end n ks)

pub joint_states_from-all : (n : ℕ) (parts rest : List Accumulator) (ks : List AccumulatorState) → length rest ≡ 0 → joint_states_from n (map state_in parts) (map state_in rest) ≡ ks → map state_in parts ≡ ks
joint_states_from-all n parts [] ks h e = sym (joint_states_from-end n (map state_in parts)) ∙ e
joint_states_from-all n parts (x ∷ rest) ks h e = absurd (omega (arith, h))

pub joint_states_from-within : (lines n : ℕ) (parts : List Accumulator) (l : AccumulatorState) (rest : List AccumulatorState) (a : Accumulator) → n < length parts
    → a ≡ get_or parts n a → IsSound lines (joint_states_from n (map state_in parts) (l ∷ rest)) → IsWithin lines (joint_state (state_in a) l)
joint_states_from-within lines zero [] l rest a h e s = absurd (omega arith)
joint_states_from-within lines zero (x ∷ parts) l rest a h e s = subst (λ z. IsWithin lines (joint_state (state_in z) l)) (sym e) s.0
joint_states_from-within lines (suc n) [] l rest a h e s = absurd (omega arith)
joint_states_from-within lines (suc n) (x ∷ parts) l rest a h e s = joint_states_from-within lines n parts l rest a (omega arith) e s.1

pub joint_states_from-room : (lines n : ℕ) (parts : List Accumulator) (l : AccumulatorState) (rest : List AccumulatorState) (a : Accumulator) → n < length parts
    → a ≡ get_or parts n a → lines < 2 ^ 63 → IsSound lines (joint_states_from n (map state_in parts) (l ∷ rest)) → HasRoom (joint_state (state_in a) l)
joint_states_from-room lines n parts l rest a h e few s = within-room lines _ few (joint_states_from-within lines n parts l rest a h e s)
