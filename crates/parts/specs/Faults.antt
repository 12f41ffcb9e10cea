-- The faults of parts, and what they are in the code.
use Rattle.std.specs.Prelude.{ℕ}
use Rattle.part_lines.specs.Faults.{Fault, FaultKind, kind_of}
use Rattle.semantics.specs.declared.parts_fault.PartsFault.{PartsFault}

-- The first fault of parts, with the numbers of its part and its line, both from 1 on.
pub record PartedFault : Type 0 where
  pub part : ℕ
  pub line : ℕ
  pub kind : FaultKind

-- The same fault, said to be in a part.
abbrev pub in_part : ℕ → Fault → PartedFault
in_part part fault = record { part = part; line = fault.line; kind = fault.kind }

-- What a fault says.
abbrev pub parted_of : PartsFault → PartedFault
parted_of fault = record { part = fault.part; line = fault.line; kind = kind_of fault.kind }
