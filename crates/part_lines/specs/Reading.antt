-- Reading groups from the front, line by line, as far as the first fault.
use Rattle.std.specs.Borrow.{Bor}
use Rattle.std.specs.Option.{option_copied}
use Rattle.std.specs.Ordering.{is_lt}
use Rattle.std.specs.Prelude.{◌≡◌, ◌+◌, ◌-◌, ◌*◌, ◌^◌, ⊤, ℕ, zero, suc, ℤ, pos, negsuc, Bool, true, false, not, nat_le, nat_lt, List, ◌∷◌, length, Option, Some, None, option_map, Result, Ok, Err, if◌then◌else◌, []}
use Rattle.std.specs.declared.cmp.Ordering.{Ordering}
use Rattle.semantics.specs.Groups.{Key, key_order}
use Rattle.semantics.specs.Records.{is_int64, max_line_len}
use Rattle.semantics.specs.Values.{Datum, boolean, whole, text, null, is_null, value_order}
use Rattle.semantics.specs.declared.kind.Kind.{Kind}
use Rattle.semantics.specs.declared.kind.Kind.TheVariants as type
use Rattle.values.specs.Datum.{data_of}
use Rattle.values.specs.declared.value.Value.{Value}
use Rattle.values.specs.Results.{◌>>=◌}
use Rattle.semantics.specs.GroupStates.{EntryForm, FunctionState, rows, counted, summed, extreme, collected}
use Rattle.part_lines.specs.LineValues.{line_value}
use Rattle.part_lines.specs.Faults.{Fault, FaultKind, fault_of, not_a_value, unexpected_value, out_of_order, out_of_range, ends_too_early}
use Rattle.part_lines.specs.declared.fault.PartRefusal.{PartRefusal}
use Rattle.part_lines.specs.declared.fault.PartRefusal.TheVariants as refusal
use Rattle.part_lines.specs.declared.shape.StateKind.{StateKind}
use Rattle.part_lines.specs.declared.shape.StateKind.TheVariants as kind
use Rattle.part_lines.specs.Groups.{ShapeForm}

-- Where a call is refused, the reading has that fault; where a read failed, or without memory,
-- nothing is known of it.
abbrev pub Refuses : {Y : Type 0} → PartRefusal → Result Y Fault → Type 0
Refuses (refusal.Fault fault) read = read ≡ Err (fault_of fault)
Refuses refusal.Reading read = ⊤
Refuses refusal.OutOfMemory read = ⊤

-- What a call answers, seen by `view`, is what the reading gives.
abbrev pub Gives : {X Y : Type 0} → (X → Y) → Result X PartRefusal → Result Y Fault → Type 0
Gives view (Ok x) read = read ≡ Ok (view x)
Gives view (Err why) read = Refuses why read

-- ---- the lines

-- The lines that are to come, and how many were read before.
pub record Stream : Type 0 where
  pub left : List (List ℕ)
  pub place : ℕ

-- The fault of this kind at the line that was read last. Lines have numbers from 1 on.
abbrev pub fault_at : FaultKind → Stream → Fault
fault_at kind s = record { line = s.place; kind = kind }

-- The first of these lines, behind so many that were read. Behind the last one it ends too early.
abbrev pub first_line : List (List ℕ) → ℕ → Result (List ℕ × Stream) Fault
first_line [] place = Err (record { line = place + 1; kind = ends_too_early })
first_line (line ∷ more) place = Ok (line, record { left = more; place = place + 1 })

-- The next line.
abbrev pub line_at : Stream → Result (List ℕ × Stream) Fault
line_at s = first_line s.left s.place

-- The stream behind the lines of these values, where these lines are left.
abbrev pub behind : List Datum → List (List ℕ) → Stream → Stream
behind ds rest s = record { left = rest; place = s.place + length ds }

-- ---- values

-- The value of a line, if it has one and is not longer than a line of an input may be.
abbrev pub reading_of : List ℕ → Option Datum
reading_of line = if nat_lt max_line_len (length line) then None else line_value line

-- Nothing where a test is passed, and else a fault of this kind at the line that was read last.
abbrev pub passed : Bool → FaultKind → Stream → Result (Unit {0}) Fault
passed test kind s = if test then Ok tt else Err (fault_at kind s)

-- The value of a line, if it has one.
abbrev pub value_or_fault : Option Datum → Stream → Result Datum Fault
value_or_fault None s = Err (fault_at not_a_value s)
value_or_fault (Some d) s = Ok d

-- The next value.
unfoldable pub value_at : Stream → Result (Datum × Stream) Fault
value_at s = do
  line ← line_at s
  d ← value_or_fault (reading_of line.0) line.1
  Ok (d, line.1)

-- Whether a column of this type holds a value: NULL, or a value of the type, a whole number in 64
-- bits.
abbrev pub is_held : Kind → Datum → Bool
is_held k null = true
is_held type.Int (whole n) = is_int64 n
is_held type.Text (text s) = true
is_held type.Bool (boolean b) = true
is_held k d = false

-- A value that a column of this type holds.
unfoldable pub held_at : Kind → Stream → Result (Datum × Stream) Fault
held_at k s = do
  d ← value_at s
  held ← passed (is_held k d.0) unexpected_value d.1
  Ok d

-- The number that a value is.
abbrev pub number_in : Datum → Stream → Result ℤ Fault
number_in (whole n) s = Ok n
number_in d s = Err (fault_at unexpected_value s)

-- A whole number.
unfoldable pub number_at : Stream → Result (ℤ × Stream) Fault
number_at s = do
  d ← value_at s
  n ← number_in d.0 d.1
  Ok (n, d.1)

-- The count that a number is: from 0 on, and of 64 bits.
abbrev pub count_in : ℤ → Stream → Result ℕ Fault
count_in (pos n) s = if nat_lt n (2 ^ 64) then Ok n else Err (fault_at unexpected_value s)
count_in (negsuc n) s = Err (fault_at unexpected_value s)

-- A count of 64 bits.
unfoldable pub count_at : Stream → Result (ℕ × Stream) Fault
count_at s = do
  z ← number_at s
  n ← count_in z.0 z.1
  Ok (n, z.1)

-- A count that is not above `most`.
unfoldable pub count_within : ℕ → Stream → Result (ℕ × Stream) Fault
count_within most s = do
  n ← count_at s
  within ← passed (nat_le n.0 most) out_of_range n.1
  Ok n

-- ---- one behind the other

-- A thing for each of these, one behind the other.
unfoldable pub each_at : {A B : Type 0} → (A → Stream → Result (B × Stream) Fault) → List A → Stream → Result (List B × Stream) Fault
each_at one [] s = Ok ([], s)
each_at one (a ∷ more) s = do
  x ← one a s
  xs ← each_at one more x.1
  Ok (x.0 ∷ xs.0, xs.1)

-- So many things, one behind the other, each read with what is known before it; `next` says what is
-- known behind it.
unfoldable pub in_turn : {A C : Type 0} → (C → Stream → Result (A × Stream) Fault) → (C → A → C) → ℕ → C → Stream → Result (List A × Stream) Fault
in_turn one next zero known s = Ok ([], s)
in_turn one next (suc n) known s = do
  x ← one known s
  xs ← in_turn one next n (next known x.0) x.1
  Ok (x.0 ∷ xs.0, xs.1)

-- Whether a thing is above the last one, where there is one.
abbrev pub is_above : {X : Type 0} → (X → X → Ordering) → Option X → X → Bool
is_above order None x = true
is_above order (Some last) x = is_lt (order last x)

abbrev pub last_key : Option (Bor (List Value)) → Option Key
last_key last = option_map data_of (option_copied last)

-- ---- states

-- A count of members.
abbrev pub counted_at : ℕ → Stream → Result (FunctionState × Stream) Fault
counted_at members s = do
  n ← count_within members s
  Ok (counted n.0, n.1)

-- Whether so many whole numbers of 64 bits can have this sum: each is from -2^63 to 2^63 - 1. (A
-- sum below 0 is -(s + 1).).
abbrev pub is_sum_of : ℕ → ℤ → Bool
is_sum_of count (pos s) = nat_le s (count * (2 ^ 63 - 1))
is_sum_of count (negsuc s) = nat_lt s (count * 2 ^ 63)

-- A sum, and how many numbers were added.
unfoldable pub summed_at : ℕ → Stream → Result (FunctionState × Stream) Fault
summed_at members s = do
  z ← number_at s
  n ← count_within members z.1
  bounded ← passed (is_sum_of n.0 z.0) out_of_range n.1
  Ok (summed z.0 n.0, n.1)

-- The least or the greatest value of a column of this type, or NULL of none.
abbrev pub extreme_at : Kind → Stream → Result (FunctionState × Stream) Fault
extreme_at k s = do
  d ← held_at k s
  Ok (extreme d.0, d.1)

-- One of the different values of a column of this type: it is not NULL, and above the last one.
unfoldable pub different_at : Kind → Option Datum → Stream → Result (Datum × Stream) Fault
different_at k last s = do
  d ← held_at k s
  known ← passed (not (is_null d.0)) unexpected_value d.1
  above ← passed (is_above value_order last d.0) out_of_order d.1
  Ok d

-- So many different values, ascending from above the last one.
abbrev pub ascending_at : Kind → ℕ → Option Datum → Stream → Result (List Datum × Stream) Fault
ascending_at k n last s = in_turn (different_at k) (λ _ d. Some d) n last s

-- How many different values there are, and these, ascending.
unfoldable pub collected_at : Kind → ℕ → Stream → Result (FunctionState × Stream) Fault
collected_at k members s = do
  n ← count_within members s
  ds ← ascending_at k n.0 None n.1
  Ok (collected ds.0, ds.1)

-- A state of this kind, of a group of so many members.
abbrev pub state_at : ℕ → StateKind → Stream → Result (FunctionState × Stream) Fault
state_at members kind.Rows s = Ok (rows, s)
state_at members kind.Count s = counted_at members s
state_at members kind.Sum s = summed_at members s
state_at members (kind.Extreme k) s = extreme_at k s
state_at members (kind.Distinct k) s = collected_at k members s

-- ---- groups

-- A key: a value for each grouping column, by its type.
abbrev pub key_at : List Kind → Stream → Result (Key × Stream) Fault
key_at columns s = each_at held_at columns s

-- A key that is above the last one.
unfoldable pub next_key_at : List Kind → Option Key → Stream → Result (Key × Stream) Fault
next_key_at columns last s = do
  key ← key_at columns s
  above ← passed (is_above key_order last key.0) out_of_order key.1
  Ok key

-- Whether a group of such a key can have so many members. With grouping columns a member gave the
-- group its key; without them there is one group, which may have none.
abbrev pub can_have_members : List Kind → ℕ → Bool
can_have_members [] n = true
can_have_members (k ∷ ks) n = nat_lt 0 n

-- How many members a group has: no more than are left, and as many as it can have.
unfoldable pub members_at : List Kind → ℕ → Stream → Result (ℕ × Stream) Fault
members_at columns left s = do
  n ← count_within left s
  possible ← passed (can_have_members columns n.0) out_of_range n.1
  Ok n

-- A group of this shape, its key above the last one, of no more members than are left.
unfoldable pub group_at : ShapeForm → Option Key → ℕ → Stream → Result (EntryForm × Stream) Fault
group_at shape last left s = do
  key ← next_key_at shape.columns last s
  members ← members_at shape.columns left key.1
  states ← each_at (state_at members.0) shape.states members.1
  Ok (record { key = key.0; members = members.0; states = states.0 }, states.1)

-- What is known before a group: the last key, and how many members are left.
pub record Before : Type 0 where
  pub last : Option Key
  pub left : ℕ

-- What is known behind a group.
abbrev pub after : Before → EntryForm → Before
after before g = record { last = Some g.key; left = before.left - g.members }

-- So many groups of this shape, keys ascending, of no more members together than are left.
abbrev pub groups_at : ShapeForm → ℕ → Option Key → ℕ → Stream → Result (List EntryForm × Stream) Fault
groups_at shape n last left s = in_turn (λ before. group_at shape before.last before.left) after n (record { last = last; left = left }) s
