use Rattle.std.proofs.Common.{◌≡◌, ◌∙◌, [], ◌∷◌, ◌++◌, ap, inl, inr, arith}
use Rattle.std.proofs.lemmas.Bool.Decides.{nat_tests}
use Rattle.std.proofs.lemmas.List.{nil_from_length}
use Rattle.test_partials.proofs.tests.follow.are_whole_lines.Goals as goal

pub returns-in-Some : goal.returns-in-Some
returns-in-Some c = λ e.
    let feed : c.in-Some.last.now ≡ 10 = grind (arith, nat_tests, e) in
    inr record { front = c.in-Some.field-0-1.now; is = c.in-Some.ensures.cases.0 ∙ ap (λ byte. c.in-Some.field-0-1.now ++ byte ∷ []) feed }

pub returns-in-None : goal.returns-in-None
returns-in-None c = λ _. inl (nil_from_length c.args.bytes.now c.in-None.ensures.cases)
