-- The faults of parts, and what they are in the code.
use Rattle.std.specs.Prelude.{◌≡◌, ⊤, ℕ, Result, Ok, Err}
use Rattle.part_lines.specs.declared.fault.PartRefusal.{PartRefusal}
use Rattle.part_lines.specs.declared.fault.PartRefusal.TheVariants as refusal
use Rattle.semantics.specs.declared.parts_fault.PartsFaultKind.TheVariants.{NotAPart}
use Rattle.parts.specs.declared.fault.PartsRefusal.{PartsRefusal}
use Rattle.parts.specs.declared.fault.PartsRefusal.TheVariants as of_parts
use Rattle.parts.specs.Faults.{PartedFault, parted_of}

-- a refusal at the mark of a part, of which each fault is that it is no part
abbrev pub refusal_of_mark : PartRefusal → PartRefusal
refusal_of_mark (refusal.Fault fault) = refusal.Fault (record { line = fault.line; kind = NotAPart })
refusal_of_mark refusal.Reading = refusal.Reading
refusal_of_mark refusal.OutOfMemory = refusal.OutOfMemory

-- a refusal of the part of this number
abbrev pub refusal_in : ℕ → PartRefusal → PartsRefusal
refusal_in part (refusal.Fault fault) = of_parts.Fault (record { part = part; line = fault.line; kind = fault.kind })
refusal_in part refusal.Reading = of_parts.Reading
refusal_in part refusal.OutOfMemory = of_parts.OutOfMemory

-- ---- what a call says of a reading

-- Where a call is refused, the reading has that fault; where a read failed, or without memory,
-- nothing is known of it.
abbrev pub RefusesParts : {Y : Type 0} → PartsRefusal → Result Y PartedFault → Type 0
RefusesParts (of_parts.Fault fault) read = read ≡ Err (parted_of fault)
RefusesParts of_parts.Reading read = ⊤
RefusesParts of_parts.OutOfMemory read = ⊤

-- What a call answers, seen by `view`, is what the reading gives.
abbrev pub GivesParts : {X Y : Type 0} → (X → Y) → Result X PartsRefusal → Result Y PartedFault → Type 0
GivesParts view (Ok x) read = read ≡ Ok (view x)
GivesParts view (Err why) read = RefusesParts why read
