-- The faults of a part, and what they are in the code.
use Rattle.std.specs.Prelude.{ℕ, List, string_bytes}
use Rattle.semantics.specs.declared.parts_fault.PartsFaultKind.{PartsFaultKind}
use Rattle.semantics.specs.declared.parts_fault.PartsFaultKind.TheVariants as kind
use Rattle.part_lines.specs.declared.fault.PartFault.{PartFault}
use Rattle.part_lines.specs.declared.fault.PartRefusal.{PartRefusal}
use Rattle.part_lines.specs.declared.fault.PartRefusal.TheVariants as refusal

-- What is wrong with a line.
pub data FaultKind : Type 0 where
  no_part : FaultKind
  not_a_part : FaultKind
  other_version : List ℕ → FaultKind
  other_columns : List ℕ → FaultKind
  other_query : List ℕ → FaultKind
  not_a_value : FaultKind
  unexpected_value : FaultKind
  out_of_order : FaultKind
  out_of_range : FaultKind
  ends_too_early : FaultKind
  wrong_checksum : FaultKind
  too_many_lines : FaultKind

-- The first fault of a part, with the number of its line.
pub record Fault : Type 0 where
  pub line : ℕ
  pub kind : FaultKind

-- What the kind of a fault says.
abbrev pub kind_of : PartsFaultKind → FaultKind
kind_of kind.NoPart = no_part
kind_of kind.NotAPart = not_a_part
kind_of (kind.OtherVersion version) = other_version (string_bytes version)
kind_of (kind.OtherColumns columns) = other_columns (string_bytes columns)
kind_of (kind.OtherQuery query) = other_query (string_bytes query)
kind_of kind.NotAValue = not_a_value
kind_of kind.UnexpectedValue = unexpected_value
kind_of kind.OutOfOrder = out_of_order
kind_of kind.OutOfRange = out_of_range
kind_of kind.EndsTooEarly = ends_too_early
kind_of kind.WrongChecksum = wrong_checksum
kind_of kind.TooManyLines = too_many_lines

-- What a fault says.
abbrev pub fault_of : PartFault → Fault
fault_of fault = record { line = fault.line; kind = kind_of fault.kind }

-- The refusal by a fault of this kind at a line.
abbrev pub fault_at_line : ℕ → PartsFaultKind → PartRefusal
fault_at_line line kind = refusal.Fault (record { line = line; kind = kind })
