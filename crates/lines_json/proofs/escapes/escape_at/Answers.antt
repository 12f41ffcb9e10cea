use Rattle.std.proofs.Common.{sym, ◌∙◌}
use Rattle.std.proofs.lemmas.Option.{IfSome_then}
use Rattle.std.specs.Char.{encode_utf8}
use Rattle.lines_json.proofs.PartsAt.{behind_u-at, letter-at}
use Rattle.lines_json.proofs.escapes.escape_at.Goals as goal

pub returns-then-letter-eq117 : goal.returns-then-letter-eq117
returns-then-letter-eq117 c =
    IfSome_then c.unit_at.result c.unit_at.ensures
    (λ r p. behind_u-at c.args.text.now c.args.at r.1 (encode_utf8 r.0) (sym c.byte_at-letter.ensures ∙ c.if-letter-eq117.true) p)

pub returns : goal.returns
returns c = letter-at c.args.text.now c.args.at c.byte_at-letter.result c.in_ok-meant.meant (sym c.byte_at-letter.ensures) c.in_ok-meant.ensures
