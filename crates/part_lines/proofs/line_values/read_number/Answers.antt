use Rattle.std.proofs.Common.{◌≡◌, List, ℕ, true, bytes_eq, of_z, to_z, sym, ap, ◌∙◌}
use Rattle.std.proofs.lemmas.Bool.{false≢true}
use Rattle.std.proofs.lemmas.Int.{to_z-of_z}
use Rattle.std.proofs.lemmas.Slice.Eq.{bytes_eq-Decides}
use Rattle.std.specs.Fmt.{signed_decimal}
use Rattle.std.specs.Int.{w128}
use Rattle.part_lines.proofs.Numerals.{fits-signed, parse-signed}
use Rattle.part_lines.proofs.line_values.read_number.Goals as goal

pub returns-in_default : goal.returns-in_default
returns-in_default c n t = c.in_default.not-Ok n (parse-signed n c.args.line.now c.parse.result t.0 t.1 c.parse.ensures.value.0)

pub returns-else-eq : goal.returns-else-eq
returns-else-eq c n t =
    let line : List ℕ = c.args.line.now in
    let parsed = parse-signed n line c.parse.result t.0 t.1 c.parse.ensures.value.0 in
    let number : c.in-Ok.number ≡ n = let is = c.in-Ok.is in cc in
    let written : c.format.result.now ≡ line =
    c.format.ensures.text ∙ ap (λ m. signed_decimal (to_z w128 (of_z w128 m))) number ∙ ap signed_decimal (to_z-of_z w128 n (fits-signed n t.0)) ∙ sym t.1 in
    let equal : bytes_eq c.format.result.now line ≡ true = (bytes_eq-Decides c.format.result.now line).1 written in
    false≢true (sym (sym c.eq.ensures ∙ c.if-eq.false) ∙ equal)
