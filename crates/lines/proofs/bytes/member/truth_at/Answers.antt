use Rattle.std.proofs.Common.{refl}
use Rattle.json.specs.Token as token
use Rattle.serde_json.specs.Data.{boolean}
use Rattle.values.specs.declared.value.Value.TheVariants as value
use Rattle.semantics.specs.declared.kind.Kind.TheVariants as kind
use Rattle.lines_json.proofs.Meaning.{first-boolean}
use Rattle.lines.proofs.Lexing.{placed-boolean}
use Rattle.lines.proofs.Objects.{token-taken}
use Rattle.lines.proofs.bytes.member.truth_at.Goals as goal

pub returns : goal.returns
returns c =
    let truth = c.in_ok-truth.truth in
    token-taken c.args.line.now kind.Bool c.args.at c.in_ok-truth.stop (value.Bool truth) (token.boolean truth) (boolean truth) c.in_ok-truth.ensures.stands (placed-boolean truth) (λ rest. first-boolean 126 truth rest) refl
