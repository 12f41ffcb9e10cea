use Rattle.std.proofs.Common.{◌≡◌, [], sym, arith, append-nil}
use Rattle.std.proofs.lemmas.Bool.Decides.{nat_tests}
use Rattle.std.proofs.lemmas.List.{nil_from_length}
use Rattle.std.proofs.lemmas.Result.{IfOk-weaker}
use Rattle.tables.specs.Partials.{whole_piece}
use Rattle.test_partials.proofs.tests.follow.over.Goals as goal

pub returns-then-is_empty : goal.returns-then-is_empty
returns-then-is_empty c =
    let none : c.args.input.now ≡ [] = nil_from_length c.args.input.now (grind (arith, nat_tests, c.is_empty.ensures, c.if-is_empty.true)) in
    IfOk-weaker c.empty.result _ _
    (λ _ stands. record { pieces = []; stands = stands; cut = record { in_order = λ k lt. absurd (omega (arith, lt)); joined = sym none; feeds = tt } })
    c.empty.ensures

pub returns : goal.returns
returns c =
    let input = c.args.input.now in
    IfOk-weaker c.fold_piece.result _ _
    (λ _ stands. record { pieces = whole_piece input; stands = stands; cut = record { in_order = λ k lt. absurd (omega (arith, lt)); joined = append-nil input; feeds = tt } })
    c.fold_piece.ensures
