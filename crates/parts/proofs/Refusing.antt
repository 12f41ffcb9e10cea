-- Reading refused lines one after the other, as a loop does: those before and those that are still
-- read are all.
use Rattle.std.proofs.Common.{◌≡◌, ℕ, suc, ◌-◌, ◌+◌, ◌≤◌, ◌<◌, List, [], ◌∷◌, ◌++◌, Result, Ok, Err, refl, sym, ap, ◌∙◌, append_assoc, append-nil, arith}
use Rattle.part_lines.specs.Faults.{Fault}
use Rattle.part_lines.specs.Reading.{Refuses, Stream}
use Rattle.part_lines.specs.declared.fault.PartRefusal.{PartRefusal}
use Rattle.part_lines.specs.declared.fault.PartRefusal.TheVariants as refusal
use Rattle.semantics.specs.Columns.{Field}
use Rattle.semantics.specs.declared.line_fault.LineFault.{LineFault}
use Rattle.values.specs.Results.{◌>>=◌}
use Rattle.parts.specs.ReadingParts.{refused_at, refused_line_at}

abbrev Refused : Type 0
Refused = List (ℕ × LineFault)

-- those that were read before, and those that are still read
abbrev pub with_front : Refused → Result (Refused × Stream) Fault → Result (Refused × Stream) Fault
with_front front read = read >>= λ x. Ok (front ++ x.0, x.1)

regroup : (front : Refused) (a : ℕ × LineFault) (read : Result (Refused × Stream) Fault) → with_front front (read >>= λ x. Ok (a ∷ x.0, x.1)) ≡ with_front (front ++ a ∷ []) read
regroup front a (Ok x) = ap (λ (xs : Refused). Ok (xs, x.1)) (simp append_assoc)
regroup front a (Err f) = refl

module _ (fields : List Field) (lines : ℕ) where
  abbrev others : ℕ → (ℕ × LineFault) × Stream → Result (Refused × Stream) Fault
  others n x = refused_at fields lines n x.0.0 x.1 >>= λ xs. Ok (x.0 ∷ xs.0, xs.1)

  turn : (count i last : ℕ) (s : Stream) → i < count → refused_at fields lines (count - i) last s ≡ (refused_line_at fields lines last s >>= others (count - (i + 1)))
  unfolding refused_at
  turn count i last s lt =
      let k : count - i ≡ suc (count - (i + 1)) = omega (arith, lt) in
      ap (λ n. refused_at fields lines n last s) k

  -- one more was read
  pub goes_on : (front : Refused) (count i last : ℕ) (s : Stream) (a : ℕ × LineFault) (after : Stream) (total : Result (Refused × Stream) Fault) → i < count → refused_line_at fields lines last s ≡ Ok (a, after)
      → with_front front (refused_at fields lines (count - i) last s) ≡ total → with_front (front ++ a ∷ []) (refused_at fields lines (count - (i + 1)) a.0 after) ≡ total
  goes_on front count i last s a after total lt h so_far =
      sym (regroup front a (refused_at fields lines (count - (i + 1)) a.0 after))
      ∙ sym (ap (with_front front) (turn count i last s lt ∙ ap (λ r. r >>= others (count - (i + 1))) h))
      ∙ so_far

  -- none more was read
  pub ends : (e : PartRefusal) (front : Refused) (count i last : ℕ) (s : Stream) (total : Result (Refused × Stream) Fault) → i < count → Refuses e (refused_line_at fields lines last s)
      → with_front front (refused_at fields lines (count - i) last s) ≡ total → Refuses e total
  ends (refusal.Fault f) front count i last s total lt h so_far = sym so_far ∙ ap (with_front front) (turn count i last s lt ∙ ap (λ r. r >>= others (count - (i + 1))) h)
  ends refusal.Reading front count i last s total lt h so_far = tt
  ends refusal.OutOfMemory front count i last s total lt h so_far = tt

  -- all were read
  pub is_done : (front : Refused) (count i last : ℕ) (s : Stream) (total : Result (Refused × Stream) Fault) → count ≤ i → with_front front (refused_at fields lines (count - i) last s) ≡ total → total ≡ Ok (front, s)
  unfolding refused_at
  is_done front count i last s total le so_far =
      let k : count - i ≡ 0 = omega (arith, le) in
      sym so_far ∙ ap (λ n. with_front front (refused_at fields lines n last s)) k ∙ ap (λ (xs : Refused). Ok (xs, s)) (append-nil front)
