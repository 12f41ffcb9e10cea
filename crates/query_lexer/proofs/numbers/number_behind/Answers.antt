use Rattle.std.proofs.Common.{refl, Err}
use Rattle.std.proofs.lemmas.Str.Parse.{parse_digits}
use Rattle.query_lexer.specs.Steps.{number_behind}
use Rattle.query_lexer.proofs.Digits.{own, too_large}
use Rattle.query_lexer.proofs.numbers.number_behind.Goals as goal

pub returns-in_default-clause-exact : goal.returns-in_default-clause-exact
unfolding number_behind
returns-in_default-clause-exact c =
    let d = c.in_ok-front.ensures.digits in
    let e = too_large c.args.minus c.in_ok-front.front.now d (parse_digits own 64 c.in_ok-front.front.now (Err c.in_default.field-0) c.in_default.ensures.value.0 d.1) in
    rw (c.in_ok-front.ensures.exact, e) refl
