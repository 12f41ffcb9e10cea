-- What is read of the next line of what a reader gives.
use Rattle.std.proofs.Common.{◌≡◌, ◌+◌, ℕ, List, [], ◌∷◌, drop, Option, Some, None, Result, Ok, Err, refl, sym, ap, subst, ◌∙◌}
use Rattle.std.specs.Io.KnownBytes.{IsAtEnd, Keeps, prepend_known}
use Rattle.std.specs.Prelude.{IfSome, IsSome, unwrap_or}
use Rattle.part_lines.specs.Reading.{Gives, Refuses, reading_of, value_at}
use Rattle.part_lines.specs.Faults.{fault_at_line}
use Rattle.part_lines.specs.LineValues.{Tells}
use Rattle.lines.specs.Rounds.{RoundsState}
use Rattle.semantics.specs.Lines.{lines}
use Rattle.semantics.specs.declared.parts_fault.PartsFaultKind.TheVariants.{EndsTooEarly}
use Rattle.std.specs.declared.alloc.AllocError.{AllocError}
use Rattle.values.specs.Datum.{datum_of}
use Rattle.values.specs.declared.value.Value.{Value}
use Rattle.parts.specs.Inside.Reader.{HasTaken, left_at, refused_at}

-- behind the last line
pub ends-there : (known : Option (List ℕ)) (line : ℕ) → IsSome known → IsAtEnd known
    → Refuses (fault_at_line (line + 1) EndsTooEarly) (value_at (record { left = lines (unwrap_or known []); place = line }))
unfolding value_at
ends-there None line is end = absurd cc
ends-there (Some bytes) line is end = rw (ap lines end) refl

-- the value of a line is what is read of it
value-there : (l : List ℕ) (more : List (List ℕ)) (line : ℕ) (value : Result (Option Value) AllocError) → Tells value (reading_of l)
    → Gives (λ v. (datum_of v, record { left = more; place = line + 1 })) (refused_at (line + 1) value) (value_at (record { left = l ∷ more; place = line }))
unfolding value_at
value-there l more line (Ok (Some v)) tells = rw tells refl
value-there l more line (Ok None) tells = rw tells refl
value-there l more line (Err refused) tells = tt

next-there : (known there behind : Option (List ℕ)) (l : List ℕ) (line : ℕ) (value : Result (Option Value) AllocError) → IsSome known → Keeps known there
    → IfSome there (λ bytes. IfSome behind (λ rest. lines bytes ≡ l ∷ lines rest)) → IsSome behind → Tells value (reading_of l)
    → Gives (λ v. (datum_of v, record { left = lines (unwrap_or behind []); place = line + 1 })) (refused_at (line + 1) value) (value_at (record { left = lines (unwrap_or known []); place = line }))
next-there None there behind l line value is keeps stands so tells = absurd cc
next-there (Some bytes) None behind l line value is keeps stands so tells = absurd keeps
next-there (Some bytes) (Some same) None l line value is keeps stands so tells = absurd cc
next-there (Some bytes) (Some same) (Some rest) l line value is keeps stands so tells =
    subst (λ (ls : List (List ℕ)). Gives (λ v. (datum_of v, record { left = lines rest; place = line + 1 })) (refused_at (line + 1) value) (value_at (record { left = ls; place = line })))
    (sym stands ∙ ap lines keeps) (value-there l (lines rest) line value tells)

still-known : (known left : Option (List ℕ)) (front other : List ℕ) → IsSome known → Keeps known (prepend_known front left) → IsSome (prepend_known other left)
still-known None left front other is keeps = absurd cc
still-known (Some bytes) None front other is keeps = absurd keeps
still-known (Some bytes) (Some rest) front other is keeps = refl

pub taken-there : {R : Type 0} (rounds : RoundsState R) (known : Option (List ℕ)) (place next line : ℕ) (value : Result (Option Value) AllocError) → Keeps known (left_at rounds place) → HasTaken rounds place value next → IsSome known
    → Gives (λ v. (datum_of v, record { left = lines (unwrap_or (left_at rounds next) []); place = line + 1 })) (refused_at (line + 1) value) (value_at (record { left = lines (unwrap_or known []); place = line }))
taken-there rounds known place next line value keeps taken is =
    next-there known (left_at rounds place) (left_at rounds next) taken.line line value is keeps taken.stands
    (still-known known rounds.left (drop place rounds.round) (drop next rounds.round) is keeps) taken.tells
