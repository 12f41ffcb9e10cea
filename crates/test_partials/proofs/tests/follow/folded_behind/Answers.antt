use Rattle.std.proofs.Common.{◌++◌}
use Rattle.std.proofs.lemmas.Result.{IfOk-weaker}
use Rattle.tables.specs.Partials.{whole_piece}
use Rattle.tables.proofs.OnePiece.{own-input, rest-stands}
use Rattle.test_partials.proofs.tests.follow.folded_behind.Goals as goal

pub fold_behind-requires-clause-of_plan : goal.fold_behind-requires-clause-of_plan
fold_behind-requires-clause-of_plan g c = let s = c.in_ok-whole.ensures in ∣ (s.pieces, s.stands) ∣₁

pub returns : goal.returns
returns g c =
    let plan = c.args.plan.now in
    let front = c.args.front.now in
    let rest = c.args.rest.now in
    IfOk-weaker c.fold_behind.result _ _
    (λ _ is. ∣ (whole_piece (front ++ rest), rest-stands plan _ _ rest (λ _. is) front c.in_ok-whole.ensures c.requires) ∣₁)
    (c.fold_behind.ensures.stands (own-input plan _ front c.in_ok-whole.ensures))
