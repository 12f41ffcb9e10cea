-- Reading groups goes forward: behind what was read there are no more lines than before it.
use Rattle.std.proofs.Common.{◌≤◌, ◌+◌, ◌^◌, ℕ, zero, suc, ℤ, pos, negsuc, Bool, true, false, cond, List, [], ◌∷◌, length, Option, Some, None, Result, Ok, Err, arith}
use Rattle.std.specs.Prelude.{IfOk, nat_lt, nat_le, not}
use Rattle.semantics.specs.GroupStates.{EntryForm, FunctionState, summed, collected, counted, extreme}
use Rattle.part_lines.proofs.ReadAs.{then_known, then_passed}
use Rattle.part_lines.specs.Reading as groups
use Rattle.part_lines.specs.Reading.{Before, Stream, after, ascending_at, can_have_members, collected_at, count_at, count_in, count_within, different_at, each_at, group_at, groups_at, held_at, in_turn, is_above, is_held, is_sum_of, key_at, members_at, next_key_at, number_at, number_in, reading_of, state_at, summed_at, value_at, value_or_fault}
use Rattle.part_lines.specs.Faults.{Fault, out_of_order, out_of_range, unexpected_value}
use Rattle.part_lines.specs.Groups.{ShapeForm}
use Rattle.part_lines.specs.declared.shape.StateKind.{StateKind}
use Rattle.part_lines.specs.declared.shape.StateKind.TheVariants as kind
use Rattle.semantics.specs.Groups.{Key, key_order}
use Rattle.semantics.specs.Values.{Datum, boolean, whole, text, null, is_null, value_order}
use Rattle.semantics.specs.declared.kind.Kind.{Kind}
use Rattle.values.specs.Results.{◌>>=◌}

-- ---- groups

-- behind it there are no more lines
abbrev pub Forward : {A : Type 0} → ℕ → Result (A × Stream) Fault → Type 0
Forward lines read = IfOk read (λ r. length r.1.left ≤ lines)

value-less : (o : Option Datum) (s : Stream) (lines : ℕ) → length s.left + 1 ≤ lines → IfOk {T = Datum × Stream} (◌>>=◌ (value_or_fault o s) (λ d. Ok (d, s))) (λ r. length r.1.left + 1 ≤ lines)
value-less None s lines l = tt
value-less (Some d) s lines l = l

pub value-fewer : (left : List (List ℕ)) (place : ℕ) → IfOk (value_at (record { left = left; place = place })) (λ r. length r.1.left + 1 ≤ length left)
unfolding value_at
value-fewer [] place = tt
value-fewer (line ∷ more) place = value-less (reading_of line) (record { left = more; place = place + 1 }) (length (line ∷ more)) (omega arith)

weaker : {A : Type 0} (read : Result (A × Stream) Fault) (lines : ℕ) → IfOk read (λ r. length r.1.left + 1 ≤ lines) → Forward lines read
weaker (Ok x) lines l = omega (arith, l)
weaker (Err fault) lines l = tt

pub value-forward : (s : Stream) → Forward (length s.left) (value_at s)
value-forward s = weaker (value_at s) (length s.left) (value-fewer s.left s.place)

-- one reading and then another one
next : {A B : Type 0} (lines : ℕ) (read : Result (A × Stream) Fault) (f : A × Stream → Result (B × Stream) Fault) → Forward lines read → ((x : A × Stream) → length x.1.left ≤ lines → Forward lines (f x)) → Forward lines (◌>>=◌ read f)
next {A} {B} lines read f h k = then_known read f (λ (r : A × Stream). length r.1.left ≤ lines) (λ (r : B × Stream). length r.1.left ≤ lines) h k

held-forward : (k : Kind) (s : Stream) → Forward (length s.left) (held_at k s)
unfolding held_at
held-forward k s =
    next (length s.left) (value_at s) (λ d. ◌>>=◌ (groups.passed (is_held k d.0) unexpected_value d.1) (λ u. Ok d)) (value-forward s)
    (λ d l. then_passed (is_held k d.0) unexpected_value d.1 (λ u. Ok d) (λ (r : Datum × Stream). length r.1.left ≤ length s.left) l)

number-in : (d : Datum) (s : Stream) (lines : ℕ) → length s.left ≤ lines → IfOk {T = ℤ × Stream} (◌>>=◌ (number_in d s) (λ n. Ok (n, s))) (λ r. length r.1.left ≤ lines)
number-in (whole n) s lines l = l
number-in (boolean b) s lines l = tt
number-in (text t) s lines l = tt
number-in null s lines l = tt

number-forward : (s : Stream) → Forward (length s.left) (number_at s)
unfolding number_at
number-forward s = next (length s.left) (value_at s) (λ d. ◌>>=◌ (number_in d.0 d.1) (λ n. Ok (n, d.1))) (value-forward s) (λ d l. number-in d.0 d.1 (length s.left) l)

count-in : (z : ℤ) (s : Stream) (lines : ℕ) → length s.left ≤ lines → IfOk {T = ℕ × Stream} (◌>>=◌ (count_in z s) (λ n. Ok (n, s))) (λ r. length r.1.left ≤ lines)
count-in (negsuc n) s lines l = tt
count-in (pos n) s lines l = small (nat_lt n (2 ^ 64))
  where
    small : (b : Bool) → IfOk {T = ℕ × Stream} (◌>>=◌ (cond b (Ok n) (Err (groups.fault_at unexpected_value s))) (λ m. Ok (m, s))) (λ r. length r.1.left ≤ lines)
    small true = l
    small false = tt

pub count-forward : (s : Stream) → Forward (length s.left) (count_at s)
unfolding count_at
count-forward s = next (length s.left) (number_at s) (λ z. ◌>>=◌ (count_in z.0 z.1) (λ n. Ok (n, z.1))) (number-forward s) (λ z l. count-in z.0 z.1 (length s.left) l)

pub within-forward : (most : ℕ) (s : Stream) → Forward (length s.left) (count_within most s)
unfolding count_within
within-forward most s =
    next (length s.left) (count_at s) (λ n. ◌>>=◌ (groups.passed (nat_le n.0 most) out_of_range n.1) (λ u. Ok n)) (count-forward s)
    (λ n l. then_passed (nat_le n.0 most) out_of_range n.1 (λ u. Ok n) (λ (r : ℕ × Stream). length r.1.left ≤ length s.left) l)

-- from no more lines there are no more
from : {A : Type 0} (one : Stream → Result (A × Stream) Fault) (s : Stream) (lines : ℕ) → Forward (length s.left) (one s) → length s.left ≤ lines → Forward lines (one s)
from {A} one s lines h l = less (one s) h
  where
    less : (read : Result (A × Stream) Fault) → Forward (length s.left) read → Forward lines read
    less (Ok x) k = omega (arith, k, l)
    less (Err fault) k = tt

each-forward : {A B : Type 0} (one : A → Stream → Result (B × Stream) Fault) → ((a : A) (s : Stream) → Forward (length s.left) (one a s)) → (all : List A) (s : Stream) → Forward (length s.left) (each_at one all s)
unfolding each_at
each-forward one h [] s = omega arith
each-forward one h (a ∷ all) s =
    next (length s.left) (one a s) (λ x. ◌>>=◌ (each_at one all x.1) (λ xs. Ok (x.0 ∷ xs.0, xs.1))) (h a s)
    (λ x l. next (length s.left) (each_at one all x.1) (λ xs. Ok (x.0 ∷ xs.0, xs.1)) (from (each_at one all) x.1 (length s.left) (each-forward one h all x.1) l) (λ xs m. m))

turn-forward : {A C : Type 0} (one : C → Stream → Result (A × Stream) Fault) (step : C → A → C) → ((c : C) (s : Stream) → Forward (length s.left) (one c s)) → (n : ℕ) (c : C) (s : Stream) → Forward (length s.left) (in_turn one step n c s)
unfolding in_turn
turn-forward one step h zero c s = omega arith
turn-forward one step h (suc n) c s =
    next (length s.left) (one c s) (λ x. ◌>>=◌ (in_turn one step n (step c x.0) x.1) (λ xs. Ok (x.0 ∷ xs.0, xs.1))) (h c s)
    (λ x l.
    next (length s.left) (in_turn one step n (step c x.0) x.1) (λ xs. Ok (x.0 ∷ xs.0, xs.1)) (from (in_turn one step n (step c x.0)) x.1 (length s.left) (turn-forward one step h n (step c x.0) x.1) l) (λ xs m. m))

summed-forward : (members : ℕ) (s : Stream) → Forward (length s.left) (summed_at members s)
unfolding summed_at
summed-forward members s =
    next (length s.left) (number_at s) (λ z. ◌>>=◌ (count_within members z.1) (λ n. ◌>>=◌ (groups.passed (is_sum_of n.0 z.0) out_of_range n.1) (λ u. Ok (summed z.0 n.0, n.1)))) (number-forward s)
    (λ z l.
    next (length s.left) (count_within members z.1) (λ n. ◌>>=◌ (groups.passed (is_sum_of n.0 z.0) out_of_range n.1) (λ u. Ok (summed z.0 n.0, n.1))) (from (count_within members) z.1 (length s.left) (within-forward members z.1) l)
    (λ n m. then_passed (is_sum_of n.0 z.0) out_of_range n.1 (λ u. Ok (summed z.0 n.0, n.1)) (λ (r : FunctionState × Stream). length r.1.left ≤ length s.left) m))

different-forward : (k : Kind) (last : Option Datum) (s : Stream) → Forward (length s.left) (different_at k last s)
unfolding different_at
different-forward k last s =
    next (length s.left) (held_at k s) (λ d. ◌>>=◌ (groups.passed (not (is_null d.0)) unexpected_value d.1) (λ u. ◌>>=◌ (groups.passed (is_above value_order last d.0) out_of_order d.1) (λ v. Ok d))) (held-forward k s)
    (λ d l.
    then_passed (not (is_null d.0)) unexpected_value d.1 (λ u. ◌>>=◌ (groups.passed (is_above value_order last d.0) out_of_order d.1) (λ v. Ok d)) (λ (r : Datum × Stream). length r.1.left ≤ length s.left)
    (then_passed (is_above value_order last d.0) out_of_order d.1 (λ v. Ok d) (λ (r : Datum × Stream). length r.1.left ≤ length s.left) l))

collected-forward : (k : Kind) (members : ℕ) (s : Stream) → Forward (length s.left) (collected_at k members s)
unfolding collected_at
collected-forward k members s =
    next (length s.left) (count_within members s) (λ n. ◌>>=◌ (ascending_at k n.0 None n.1) (λ ds. Ok (collected ds.0, ds.1))) (within-forward members s)
    (λ n l.
    next (length s.left) (ascending_at k n.0 None n.1) (λ ds. Ok (collected ds.0, ds.1)) (from (ascending_at k n.0 None) n.1 (length s.left) (turn-forward (different_at k) (λ _ d. Some d) (different-forward k) n.0 None n.1) l) (λ ds m. m))

state-forward : (members : ℕ) (k : StateKind) (s : Stream) → Forward (length s.left) (state_at members k s)
state-forward members kind.Rows s = omega arith
state-forward members kind.Count s = next (length s.left) (count_within members s) (λ n. Ok (counted n.0, n.1)) (within-forward members s) (λ n l. l)
state-forward members kind.Sum s = summed-forward members s
state-forward members (kind.Extreme k) s = next (length s.left) (held_at k s) (λ d. Ok (extreme d.0, d.1)) (held-forward k s) (λ d l. l)
state-forward members (kind.Distinct k) s = collected-forward k members s

next-key-forward : (columns : List Kind) (last : Option Key) (s : Stream) → Forward (length s.left) (next_key_at columns last s)
unfolding next_key_at
next-key-forward columns last s =
    next (length s.left) (key_at columns s) (λ key. ◌>>=◌ (groups.passed (is_above key_order last key.0) out_of_order key.1) (λ u. Ok key)) (each-forward held_at held-forward columns s)
    (λ key l. then_passed (is_above key_order last key.0) out_of_order key.1 (λ u. Ok key) (λ (r : Key × Stream). length r.1.left ≤ length s.left) l)

-- what is left of a group behind its key and the number of its members
abbrev states-at : ShapeForm → Key × Stream → ℕ × Stream → Result (EntryForm × Stream) Fault
states-at shape key members = ◌>>=◌ (each_at (state_at members.0) shape.states members.1) (λ states. Ok (record { key = key.0; members = members.0; states = states.0 }, states.1))

states-forward : (shape : ShapeForm) (key : Key × Stream) (members : ℕ × Stream) (lines : ℕ) → length members.1.left ≤ lines → Forward lines (states-at shape key members)
states-forward shape key members lines l =
    next lines (each_at (state_at members.0) shape.states members.1) (λ states. Ok (record { key = key.0; members = members.0; states = states.0 }, states.1))
    (from (each_at (state_at members.0) shape.states) members.1 lines (each-forward (state_at members.0) (state-forward members.0) shape.states members.1) l) (λ states n. n)

members-forward : (columns : List Kind) (left : ℕ) (s : Stream) → Forward (length s.left) (members_at columns left s)
unfolding members_at
members-forward columns left s =
    next (length s.left) (count_within left s) (λ n. ◌>>=◌ (groups.passed (can_have_members columns n.0) out_of_range n.1) (λ u. Ok n)) (within-forward left s)
    (λ n m. then_passed (can_have_members columns n.0) out_of_range n.1 (λ u. Ok n) (λ (r : ℕ × Stream). length r.1.left ≤ length s.left) m)

group-forward : (shape : ShapeForm) (before : Before) (s : Stream) → Forward (length s.left) (group_at shape before.last before.left s)
unfolding group_at
group-forward shape before s =
    next (length s.left) (next_key_at shape.columns before.last s) (λ key. ◌>>=◌ (members_at shape.columns before.left key.1) (states-at shape key)) (next-key-forward shape.columns before.last s)
    (λ key l.
    next (length s.left) (members_at shape.columns before.left key.1) (states-at shape key) (from (members_at shape.columns before.left) key.1 (length s.left) (members-forward shape.columns before.left key.1) l)
    (λ members m. states-forward shape key members (length s.left) m))

pub groups-forward : (shape : ShapeForm) (n : ℕ) (last : Option Key) (left : ℕ) (s : Stream) → Forward (length s.left) (groups_at shape n last left s)
groups-forward shape n last left s = turn-forward (λ before. group_at shape before.last before.left) after (group-forward shape) n (record { last = last; left = left }) s
