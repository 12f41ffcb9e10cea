use Rattle.tables.specs.Partials.{one_piece}
use Rattle.tables.proofs.OnePiece.{as_one-stands}
use Rattle.test_partials.proofs.tests.follow.folded_onto_one_piece.Goals as goal

pub result_with_piece-requires-clause-of_plan : goal.result_with_piece-requires-clause-of_plan
result_with_piece-requires-clause-of_plan g c =
    ∣ (one_piece c.args.front.now, as_one-stands c.args.plan.now _ _ c.in_ok-whole.ensures.stands c.args.front.now c.in_ok-over.ensures) ∣₁
