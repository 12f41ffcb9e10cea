use Rattle.std.proofs.Common.{◌≡◌, arith}
use Rattle.std.proofs.Math.Nat.{le-mul_of_pos_right}
use Rattle.std.proofs.lemmas.Result.{IfOk-weaker}
use Rattle.std.specs.Vec.{vec_capacity}
use Rattle.jlreport_engine.proofs.writer.list_buffer.Goals as goal

pub returns : goal.returns
returns c =
    IfOk-weaker c.with_capacity.result _ _
    (λ v exact some.
    let size : vec_capacity v ≡ c.min.result = exact in
    let room = c.refused_line_room-room.ensures.room in
    let below = c.refused_line_room-room.type_inv in
    let grown = le-mul_of_pos_right c.refused_line_room-room.result some in
    let whole = c.saturating_mul.ensures in
    let most = c.saturating_add.ensures in
    let least = c.min.ensures in
    omega (arith, size, room, below, grown, whole, most, least)) c.with_capacity.ensures.exact
