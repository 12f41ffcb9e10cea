use Rattle.std.proofs.Common.{◌≡◌, ◌+◌, ◌-◌, ◌∷◌, take, drop, get_or, refl, sym, ap, ◌∙◌, arith}
use Rattle.json.specs.Token.{string}
use Rattle.json.specs.Lex.{token, colon}
use Rattle.lines_json.proofs.Lexemes.{lexemes-operator}
use Rattle.lines.proofs.Lexing.{string-token}
use Rattle.lines.proofs.bytes.name.name_at.Goals as goal

pub returns : goal.returns
returns c =
    let line = c.args.line.now in
    let at = c.args.at in
    let quote = c.in_ok-quote.quote in
    let mark_at = c.space_end-colon.result in
    let s = take (quote - (at + 1)) (drop (at + 1) line) in
    let opens : get_or line at 32 ≡ 34 = omega (arith, c.byte_at.ensures) in
    let mark : get_or line mark_at 32 ≡ 58 = omega (arith, c.byte_at-2.ensures) in
    let name = string-token line at quote s opens c.in_ok-quote.ensures in
    record {
      later = omega (arith, name.later, c.space_end-colon.ensures.later, c.space_end.ensures.later);
      within = c.space_end.ensures.within;
      stands =
          name.stands ∙ ap (λ ls. token (string s) ∷ ls)
          (sym c.space_end-colon.ensures.same ∙ lexemes-operator line mark_at 58 refl refl mark ∙ ap (λ ls. colon ∷ ls) (sym c.space_end.ensures.same));
    }
