use Rattle.std.proofs.Common.{◌∙◌, refl}
use Rattle.pool.proofs.Works.{gained_pieces, piece_fits_on, piece_load, piece_room, did_piece, did_nothing, did_twice, may_again}
use Rattle.pool.proofs.worker.take_pieces.Goals as goal

pub loop-init : goal.loop-init
loop-init g c = (refl, λ begin its may. (record { follows = λ names pieces hands number b. b; part = may.part; sum = refl }, may))

pub add_piece-requires-clause-fits : goal.add_piece-requires-clause-fits
add_piece-requires-clause-fits g c κs within =
    let r = c.requires in
    piece_fits_on (g.met.W.Work.lawful c.args.crew.now.work.now) r.0 r.1 c.loop.hand c.loop.share.sum (g.W.Work.meaning c.loop.part) c.next-in-loop.new.self c.in-Piece.i (c.loop.invariant.1 r.0 r.1 r.2).1 c.in-Piece.ensures.answer c.in-Piece.ensures.holding

pub add_piece-requires-clause-room : goal.add_piece-requires-clause-room
add_piece-requires-clause-room g c κs within =
    let r = c.requires in
    piece_load (g.met.W.Work.lawful c.args.crew.now.work.now) r.0 r.1 c.loop.hand c.loop.share.sum (g.W.Work.meaning c.loop.part) c.next-in-loop.new.self c.in-Piece.i (c.loop.invariant.1 r.0 r.1 r.2).1 c.in-Piece.ensures.answer c.in-Piece.ensures.holding

pub add_piece-requires-clause-sum : goal.add_piece-requires-clause-sum
add_piece-requires-clause-sum g c κs within =
    let r = c.requires in
    piece_room (g.met.W.Work.lawful c.args.crew.now.work.now) r.0 r.1 c.loop.hand c.loop.share.sum (g.W.Work.meaning c.loop.part) c.next-in-loop.new.self c.in-Piece.i (c.loop.invariant.1 r.0 r.1 r.2).1 c.in-Piece.ensures.answer c.in-Piece.ensures.holding

pub returns-in-Spent-clause-did : goal.returns-in-Spent-clause-did
returns-in-Spent-clause-did g c = λ begin its may.
    let so_far = c.loop.invariant.1 begin its may in
    did_twice begin (g.W.Work.reduction c.args.crew.now.work.now) c.args.hand.now c.args.share.now.sum c.loop.hand c.loop.share.sum (g.W.Work.meaning c.loop.part) c.next-in-loop.new.self c.loop.share.sum (g.W.Work.meaning c.loop.part) so_far.0
    (did_nothing (g.met.W.Work.lawful c.args.crew.now.work.now) begin its c.loop.hand c.next-in-loop.new.self c.loop.share.sum (g.W.Work.meaning c.loop.part) so_far.1 c.in-Spent.ensures.answer c.in-Spent.ensures.holding)

pub returns-then-number-crew-clause-did : goal.returns-then-number-crew-clause-did
returns-then-number-crew-clause-did g c = λ begin its may.
    let so_far = c.loop.invariant.1 begin its may in
    did_twice begin (g.W.Work.reduction c.args.crew.now.work.now) c.args.hand.now c.args.share.now.sum c.loop.hand c.loop.share.sum (g.W.Work.meaning c.loop.part) c.next-in-loop.new.self c.add_piece.new.share.sum (g.W.Work.meaning c.in_ok-more-in-Piece.more) so_far.0 (did_piece (g.met.W.Work.lawful c.args.crew.now.work.now) begin its c.loop.hand c.loop.share.sum (g.W.Work.meaning c.loop.part) c.next-in-loop.new.self c.in-Piece.i so_far.1 c.in-Piece.ensures.answer c.in-Piece.ensures.holding (g.W.Work.meaning c.in_ok-more-in-Piece.more) c.add_piece.new.share.sum c.in_ok-more-in-Piece.ensures.part c.in_ok-more-in-Piece.ensures.sum)

pub loop-preserved : goal.loop-preserved
loop-preserved g c =
    let same = gained_pieces c.loop.hand c.next-in-loop.new.self c.in-Piece.i c.in-Piece.ensures.answer in (
      same ∙ c.loop.invariant.0,
      λ begin its may.
          let so_far = c.loop.invariant.1 begin its may in
          let did = did_piece (g.met.W.Work.lawful c.args.crew.now.work.now) begin its c.loop.hand c.loop.share.sum (g.W.Work.meaning c.loop.part) c.next-in-loop.new.self c.in-Piece.i so_far.1 c.in-Piece.ensures.answer c.in-Piece.ensures.holding (g.W.Work.meaning c.in_ok-more-in-Piece.more) c.add_piece.new.share.sum c.in_ok-more-in-Piece.ensures.part c.in_ok-more-in-Piece.ensures.sum in (
            did_twice begin (g.W.Work.reduction c.args.crew.now.work.now) c.args.hand.now c.args.share.now.sum c.loop.hand c.loop.share.sum (g.W.Work.meaning c.loop.part) c.next-in-loop.new.self c.add_piece.new.share.sum (g.W.Work.meaning c.in_ok-more-in-Piece.more) so_far.0 did,
            may_again (g.met.W.Work.lawful c.args.crew.now.work.now) begin its c.loop.hand c.loop.share.sum (g.W.Work.meaning c.loop.part) c.next-in-loop.new.self c.add_piece.new.share.sum (g.W.Work.meaning c.in_ok-more-in-Piece.more) same so_far.1 did,
          ),
    )
