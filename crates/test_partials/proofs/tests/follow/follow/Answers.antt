use Rattle.std.proofs.Common.{◌++◌, ◌∙◌}
use Rattle.std.proofs.lemmas.Result.{IfOk-weaker}
use Rattle.tables.specs.Partials.{whole_piece}
use Rattle.tables.proofs.OnePiece.{behind-stands, own-input}
use Rattle.test_partials.proofs.tests.follow.follow.Goals as goal

pub returns-in-Ok : goal.returns-in-Ok
returns-in-Ok g c =
    let plan = c.args.plan.now in
    let front = c.args.front.now in
    let rest = c.args.rest.now in
    IfOk-weaker c.follow.result _ _
    (λ _ is. ∣ (whole_piece (front ++ rest), is ∙ behind-stands plan _ _ front rest c.in-Ok.ensures c.in_ok-behind.ensures c.requires) ∣₁)
    (c.follow.ensures.stands (own-input plan _ front c.in-Ok.ensures) (own-input plan _ rest c.in_ok-behind.ensures))
