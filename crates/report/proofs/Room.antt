-- The room that a refused line takes.
use Rattle.std.proofs.Common.{◌+◌, ◌<◌, ◌≤◌, ◌^◌, ℕ, zero, suc, List, [], ◌∷◌, length, slice_get, unwrap_or, length-append, arith}
use Rattle.std.specs.Prelude.{codes, decimal}
use Rattle.std.proofs.lemmas.Fmt.{length-decimal-le}
use Rattle.semantics.specs.Canonical.{name_at}
use Rattle.semantics.specs.Columns.{Field, names_of}
use Rattle.semantics.specs.Texts.{fault_text, refused_line}
use Rattle.semantics.specs.declared.line_fault.LineFault.{LineFault}
use Rattle.semantics.specs.declared.line_fault.LineFault.TheVariants.{TooLong, NoJson, NoObject, BadValue}
use Rattle.report.specs.Report.{line_room, longest}

name-fits : (names : List (List ℕ)) (place : ℕ) → length (unwrap_or (slice_get names place) []) ≤ longest names
name-fits [] place = omega arith
name-fits (name ∷ names) zero = omega arith
name-fits (name ∷ names) (suc place) = let rest = name-fits names place in omega (arith, rest)

fault-fits : (fields : List Field) (fault : LineFault) → length (fault_text fields fault) ≤ 20 + longest (names_of fields)
fault-fits fields TooLong = omega arith
fault-fits fields NoJson = omega arith
fault-fits fields NoObject = omega arith
fault-fits fields (BadValue place) =
    let name = name-fits (names_of fields) place in
    let all = length-append (codes "bad value in column ") (name_at fields place) in
    omega (arith, name, all)

-- each refused line has room there
pub line-fits : (fields : List Field) (number : ℕ) (fault : LineFault) → number < 2 ^ 64 → length (refused_line fields (number, fault)) ≤ line_room fields
line-fits fields number fault small =
    let digits : length (decimal number) ≤ 20 = search (arith, length-decimal-le 20) in
    let words = fault-fits fields fault in
    simp length-append (omega (arith, digits, words))
