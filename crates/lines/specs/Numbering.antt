-- Refused lines that stand behind others.
use Rattle.std.specs.Prelude.{ℕ, ◌+◌, List, map}
use Rattle.semantics.specs.declared.line_fault.LineFault.{LineFault}

-- Refused lines, numbered on from so many lines before theirs.
abbrev pub refused_from : ℕ → List (ℕ × LineFault) → List (ℕ × LineFault)
refused_from count refused = map (λ line. (count + line.0, line.1)) refused
