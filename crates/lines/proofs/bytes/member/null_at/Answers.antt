use Rattle.json.specs.Token as token
use Rattle.serde_json.specs.Data.{null}
use Rattle.values.specs.declared.value.Value.TheVariants as value
use Rattle.lines_json.proofs.Meaning.{first-null}
use Rattle.lines.proofs.Lexing.{placed-null}
use Rattle.lines.proofs.Objects.{token-taken}
use Rattle.lines.proofs.Placing.{null_taken}
use Rattle.lines.proofs.bytes.member.null_at.Goals as goal

pub returns : goal.returns
returns c = λ kind. token-taken c.args.line.now kind c.args.at c.in_ok-stop.stop value.Null token.null null c.in_ok-stop.ensures.stands placed-null (λ rest. first-null 126 rest) (null_taken kind)
