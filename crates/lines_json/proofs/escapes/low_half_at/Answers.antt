use Rattle.std.proofs.Common.{sym, ◌∙◌, ◌+◌, subst, arith}
use Rattle.std.specs.Char.{encode_utf8}
use Rattle.json.specs.Lex.{in_string}
use Rattle.json.specs.Text.{after_high}
use Rattle.lines_json.specs.Inside.Contents.{IsPartAt}
use Rattle.lines_json.proofs.PartsAt.{low-at}
use Rattle.lines_json.proofs.escapes.low_half_at.Goals as goal

pub returns-in_ok-meant : goal.returns-in_ok-meant
returns-in_ok-meant c =
    let text = c.args.text.now in
    let at = c.args.at in
    let meant = c.in_ok-meant.ensures in
    subst (λ x. IsPartAt in_string (after_high c.args.high) text at (at + 6) (encode_utf8 x)) (sym (meant.value.1 ∙ c.surrogate_pair.ensures))
    (low-at text at c.args.high c.in_ok-low.low (omega arith) (omega arith) (omega arith) c.in_ok-low.ensures (sym c.if-is_low_surrogate.ensures))
