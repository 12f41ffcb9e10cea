use Rattle.std.proofs.Common.{rules, ◌≡◌, FitsSigned, w64, Some, to_z, of_z, sym, ap, ◌∙◌}
use Rattle.std.specs.Int.{w128}
use Rattle.json.specs.Token as token
use Rattle.serde_json.specs.Data.{number}
use Rattle.serde_json.specs.Read.{number_of}
use Rattle.values.specs.declared.value.Value.TheVariants as value
use Rattle.semantics.specs.declared.kind.Kind.TheVariants as kind
use Rattle.semantics.specs.Values.{whole}
use Rattle.lines_json.proofs.Meaning.{first-number}
use Rattle.lines.proofs.Lexing.{placed-number}
use Rattle.lines.proofs.Numbers.{whole_taken, widened}
use Rattle.lines.proofs.Objects.{token-taken}
use Rattle.lines.proofs.bytes.member.int_at.Goals as goal

pub returns : goal.returns
returns c =
    let z = c.in_ok-number.number in
    let found = c.in_ok-number.ensures in
    let fits : FitsSigned w64 z = search rules in
    let wide : FitsSigned w128 c.from.result = search rules in
    let same : to_z w128 (of_z w128 c.from.result) ≡ z = widened z c.from.result fits wide c.from.ensures in
    let n = whole_taken (number_of found.0) z found.2 fits in
    token-taken c.args.line.now kind.Int c.args.at c.in_ok-number.stop (value.Int (to_z w128 (of_z w128 c.from.result))) (token.number found.0) (number n.0) found.1 (placed-number found.0)
    (λ rest. first-number 126 found.0 n.0 rest n.1) (n.2 ∙ ap (λ x. Some (whole x)) (sym same))
