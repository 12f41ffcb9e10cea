use Rattle.std.proofs.Common.{◌≡◌, ◌+◌, false, sym, subst, arith}
use Rattle.std.proofs.lemmas.Bool.Decides.{nat_tests}
use Rattle.std.proofs.lemmas.Option.{IfSome_then}
use Rattle.std.specs.Char.{encode_utf8}
use Rattle.json.specs.Lex.{in_string}
use Rattle.json.specs.Text.{after_u, is_low_surrogate}
use Rattle.lines_json.specs.Inside.Contents.{IsPartAt}
use Rattle.lines_json.proofs.PartsAt.{high-at, unit-at}
use Rattle.lines_json.proofs.escapes.unit_at.Goals as goal

pub returns-then-is_high_surrogate : goal.returns-then-is_high_surrogate
returns-then-is_high_surrogate c =
    IfSome_then c.low_half_at.result c.low_half_at.ensures
    (λ r p. high-at c.args.text.now c.args.at c.in_ok-unit.unit r.1 (encode_utf8 r.0) (omega arith) c.in_ok-unit.ensures (sym c.if-is_high_surrogate.ensures) p)

pub returns : goal.returns
returns c =
    let text = c.args.text.now in
    let at = c.args.at in
    let unit = c.in_ok-unit.unit in
    let meant = c.in_ok-meant.ensures in
    let no_half : is_low_surrogate unit ≡ false = grind (arith, nat_tests, meant.cases) in
    subst (λ x. IsPartAt in_string after_u text at (at + 4) (encode_utf8 x)) (sym meant.value.1)
    (unit-at text at unit (omega arith) c.in_ok-unit.ensures (sym c.if-is_high_surrogate.ensures) no_half)
