-- Reading things one after the other, as a loop does: what was read before, and what is still read,
-- are what is read in all.
use Rattle.std.proofs.Common.{◌≡◌, ℕ, suc, ◌-◌, ◌+◌, ◌≤◌, ◌<◌, List, [], ◌∷◌, ◌++◌, Option, Some, Result, Ok, Err, refl, sym, ap, ◌∙◌, append_assoc, append-nil, arith}
use Rattle.part_lines.specs.Faults.{Fault}
use Rattle.part_lines.specs.declared.fault.PartRefusal.{PartRefusal}
use Rattle.part_lines.specs.declared.fault.PartRefusal.TheVariants as refusal
use Rattle.semantics.specs.Groups.{Key}
use Rattle.semantics.specs.GroupStates.{EntryForm}
use Rattle.values.specs.Results.{◌>>=◌}
use Rattle.part_lines.specs.Groups.{ShapeForm}
use Rattle.part_lines.specs.Reading.{Refuses, Stream, after, each_at, group_at, groups_at, in_turn}

-- what was read before, and what is still read
abbrev pub with_front : {A : Type 0} → List A → Result (List A × Stream) Fault → Result (List A × Stream) Fault
with_front front read = read >>= λ x. Ok (front ++ x.0, x.1)

regroup : {A : Type 0} (front : List A) (a : A) (read : Result (List A × Stream) Fault) → with_front front (read >>= λ x. Ok (a ∷ x.0, x.1)) ≡ with_front (front ++ a ∷ []) read
regroup {A} front a (Ok x) = ap (λ (xs : List A). Ok (xs, x.1)) (simp append_assoc)
regroup front a (Err f) = refl

-- where a reading is refused, so is what goes on from it
pub refused_on : {X Y : Type 0} (e : PartRefusal) (now : Result X Fault) (f : X → Result Y Fault) → Refuses e now → Refuses e (now >>= f)
refused_on (refusal.Fault d) now f h = ap (λ r. r >>= f) h
refused_on refusal.Reading now f h = tt
refused_on refusal.OutOfMemory now f h = tt

-- a fault of what is read next is one of the whole
refused : {A B : Type 0} (e : PartRefusal) (front : List B) (now : Result (A × Stream) Fault) (f : A × Stream → Result (List B × Stream) Fault) (total : Result (List B × Stream) Fault)
    → Refuses e now → with_front front (now >>= f) ≡ total → Refuses e total
refused (refusal.Fault d) front now f total h so_far = sym so_far ∙ ap (λ r. with_front front (r >>= f)) h
refused refusal.Reading front now f total h so_far = tt
refused refusal.OutOfMemory front now f total h so_far = tt

-- ---- so many things, in turn

module _ {A C : Type 0} (one : C → Stream → Result (A × Stream) Fault) (next : C → A → C) where
  turn : (count i : ℕ) (known : C) (s : Stream) → i < count → in_turn one next (count - i) known s ≡ (one known s >>= λ x. in_turn one next (count - (i + 1)) (next known x.0) x.1 >>= λ xs. Ok (x.0 ∷ xs.0, xs.1))
  unfolding in_turn
  turn count i known s lt =
      let k : count - i ≡ suc (count - (i + 1)) = omega (arith, lt) in
      ap (λ n. in_turn one next n known s) k

  -- one more was read
  pub goes_on : (front : List A) (count i : ℕ) (known : C) (s : Stream) (a : A) (after : Stream) (total : Result (List A × Stream) Fault) → i < count → one known s ≡ Ok (a, after)
      → with_front front (in_turn one next (count - i) known s) ≡ total → with_front (front ++ a ∷ []) (in_turn one next (count - (i + 1)) (next known a) after) ≡ total
  goes_on front count i known s a after total lt h so_far =
      let read = λ (x : A × Stream). in_turn one next (count - (i + 1)) (next known x.0) x.1 >>= λ xs. Ok (x.0 ∷ xs.0, xs.1) in
      sym (regroup front a (in_turn one next (count - (i + 1)) (next known a) after))
      ∙ sym (ap (with_front front) (turn count i known s lt ∙ ap (λ r. r >>= read) h))
      ∙ so_far

  -- none more was read
  pub ends : (e : PartRefusal) (front : List A) (count i : ℕ) (known : C) (s : Stream) (total : Result (List A × Stream) Fault) → i < count → Refuses e (one known s)
      → with_front front (in_turn one next (count - i) known s) ≡ total → Refuses e total
  ends e front count i known s total lt h so_far =
      refused e front (one known s) (λ x. in_turn one next (count - (i + 1)) (next known x.0) x.1 >>= λ xs. Ok (x.0 ∷ xs.0, xs.1)) total h (sym (ap (with_front front) (turn count i known s lt)) ∙ so_far)

  -- all were read
  pub is_done : (front : List A) (count i : ℕ) (known : C) (s : Stream) (total : Result (List A × Stream) Fault) → count ≤ i → with_front front (in_turn one next (count - i) known s) ≡ total → total ≡ Ok (front, s)
  unfolding in_turn
  is_done front count i known s total le so_far =
      let k : count - i ≡ 0 = omega (arith, le) in
      sym so_far ∙ ap (λ n. with_front front (in_turn one next n known s)) k ∙ ap (λ (xs : List A). Ok (xs, s)) (append-nil front)

-- ---- one for each

module _ {A B : Type 0} (one : A → Stream → Result (B × Stream) Fault) where
  each : (a : A) (all more : List A) (s : Stream) → all ≡ a ∷ more → each_at one all s ≡ (one a s >>= λ x. each_at one more x.1 >>= λ xs. Ok (x.0 ∷ xs.0, xs.1))
  unfolding each_at
  each a all more s left = ap (λ l. each_at one l s) left

  pub each_goes_on : (front : List B) (a : A) (all more : List A) (s : Stream) (b : B) (after : Stream) (total : Result (List B × Stream) Fault) → all ≡ a ∷ more → one a s ≡ Ok (b, after)
      → with_front front (each_at one all s) ≡ total → with_front (front ++ b ∷ []) (each_at one more after) ≡ total
  each_goes_on front a all more s b after total left h so_far =
      let read = λ (x : B × Stream). each_at one more x.1 >>= λ xs. Ok (x.0 ∷ xs.0, xs.1) in
      sym (regroup front b (each_at one more after)) ∙ sym (ap (with_front front) (each a all more s left ∙ ap (λ r. r >>= read) h)) ∙ so_far

  pub each_ends : (e : PartRefusal) (front : List B) (a : A) (all more : List A) (s : Stream) (total : Result (List B × Stream) Fault) → all ≡ a ∷ more → Refuses e (one a s)
      → with_front front (each_at one all s) ≡ total → Refuses e total
  each_ends e front a all more s total left h so_far =
      refused e front (one a s) (λ x. each_at one more x.1 >>= λ xs. Ok (x.0 ∷ xs.0, xs.1)) total h (sym (ap (with_front front) (each a all more s left)) ∙ so_far)

  pub each_is_done : (front : List B) (all : List A) (s : Stream) (total : Result (List B × Stream) Fault) → all ≡ [] → with_front front (each_at one all s) ≡ total → total ≡ Ok (front, s)
  unfolding each_at
  each_is_done front all s total none so_far = sym so_far ∙ ap (λ l. with_front front (each_at one l s)) none ∙ ap (λ (xs : List B). Ok (xs, s)) (append-nil front)

-- ---- groups

-- Of the groups of a shape, of which some were read, one more was read.
pub groups_go_on : (shape : ShapeForm) (front : List EntryForm) (count i : ℕ) (last : Option Key) (left : ℕ) (s : Stream) (g : EntryForm) (rest : Stream) (total : Result (List EntryForm × Stream) Fault)
    → i < count → group_at shape last left s ≡ Ok (g, rest)
    → with_front front (groups_at shape (count - i) last left s) ≡ total
    → with_front (front ++ g ∷ []) (groups_at shape (count - (i + 1)) (Some g.key) (left - g.members) rest) ≡ total
groups_go_on shape front count i last left s g rest total = goes_on (λ before. group_at shape before.last before.left) after front count i (record { last = last; left = left }) s g rest total

-- None more was read.
pub groups_end : (shape : ShapeForm) (e : PartRefusal) (front : List EntryForm) (count i : ℕ) (last : Option Key) (left : ℕ) (s : Stream) (total : Result (List EntryForm × Stream) Fault)
    → i < count → Refuses e (group_at shape last left s) → with_front front (groups_at shape (count - i) last left s) ≡ total → Refuses e total
groups_end shape e front count i last left s total = ends (λ before. group_at shape before.last before.left) after e front count i (record { last = last; left = left }) s total

-- All were read.
pub groups_are_done : (shape : ShapeForm) (front : List EntryForm) (count i : ℕ) (last : Option Key) (left : ℕ) (s : Stream) (total : Result (List EntryForm × Stream) Fault)
    → count ≤ i → with_front front (groups_at shape (count - i) last left s) ≡ total → total ≡ Ok (front, s)
groups_are_done shape front count i last left s total = is_done (λ before. group_at shape before.last before.left) after front count i (record { last = last; left = left }) s total
