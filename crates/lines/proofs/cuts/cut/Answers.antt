use Rattle.std.proofs.Common.{◌≡◌, ◌<◌, ◌≤◌, length, arith, subst}
use Rattle.std.proofs.lemmas.List.Elements.{All-push, recursion_from_All}
use Rattle.lines.specs.declared.pieces.Piece.{Piece}
use Rattle.lines.specs.Pieces.{AreConsecutive, IsStop}
use Rattle.lines.proofs.CutLemmas.{consecutive_more, joined_more, lines_more, joined_all, lines_all}
use Rattle.lines.proofs.Ends.{pieces-feeds}
use Rattle.lines.proofs.cuts.cut.Goals as goal

pub loop-start-preserved : goal.loop-start-preserved
loop-start-preserved c =
    let before = c.loop-start.invariant in
    let pieces = c.loop-start.pieces.items in
    let start = c.loop-start.start in
    let stop = c.stop_of-stop.result in
    let piece : Piece = record { start = start; stop = stop } in
    rw c.in_ok-push.ensures.items (record {
      in_range = c.stop_of-stop.ensures.within;
      consecutive = consecutive_more pieces start stop before.consecutive;
      not_empty = All-push (λ p. p.start < p.stop) pieces piece before.not_empty c.stop_of-stop.ensures.not_empty;
      within = All-push (λ p. p.stop ≤ length c.args.input.now) pieces piece before.within c.stop_of-stop.ensures.within;
      stops = All-push (λ p. IsStop c.args.input.now c.args.target p.start p.stop) pieces piece before.stops c.stop_of-stop.ensures.stops;
      joined = joined_more c.args.input.now pieces start stop (omega (arith, c.stop_of-stop.ensures.not_empty)) before.joined;
      lines = lines_more c.args.input.now c.args.target pieces start stop c.requires c.stop_of-stop.ensures.stops before.lines;
    })

pub returns-clause-consecutive : goal.returns-clause-consecutive
returns-clause-consecutive c =
    let end : c.loop-start.start ≡ length c.args.input.now = omega (arith, c.loop-start.invariant.in_range, c.loop-start-test.false) in
    subst (AreConsecutive c.loop-start.pieces.items) end c.loop-start.invariant.consecutive

pub returns-clause-joined : goal.returns-clause-joined
returns-clause-joined c = joined_all c.args.input.now c.loop-start.pieces.items c.loop-start.start c.loop-start-test.false c.loop-start.invariant.joined

pub returns-clause-lines : goal.returns-clause-lines
returns-clause-lines c = lines_all c.args.input.now c.loop-start.pieces.items c.loop-start.start c.loop-start-test.false c.loop-start.invariant.lines

pub returns-clause-feeds : goal.returns-clause-feeds
returns-clause-feeds c =
    let before = c.loop-start.invariant in
    let pieces = c.loop-start.pieces.items in
    let input = c.args.input.now in
    pieces-feeds input c.args.target pieces c.loop-start.start before.consecutive
    (recursion_from_All (λ p. p.start < p.stop) pieces before.not_empty)
    (recursion_from_All (λ p. p.stop ≤ length input) pieces before.within)
    (recursion_from_All (λ p. IsStop input c.args.target p.start p.stop) pieces before.stops)
