use Rattle.std.proofs.Common.{◌≤◌, arith}
use Rattle.std.proofs.lemmas.Result.{err_from_is_err_and}
use Rattle.std.proofs.lemmas.List.Elements.{All-push}
use Rattle.values.specs.Schema.{fields_of}
use Rattle.parts.specs.ReadingParts.{refused_at}
use Rattle.parts.proofs.Refusing.{ends, goes_on, is_done}
use Rattle.parts.proofs.refused_lines.next_refused_lines.Goals as goal

pub returns-in_err-line-clause-read : goal.returns-in_err-line-clause-read
returns-in_err-line-clause-read g c = λ known.
    let so_far = c.loop.invariant.read known in
    let p = err_from_is_err_and c.from_residual.result c.from_residual.ensures.1 in
    rw (p.1, p.2)
    (ends (fields_of c.args.columns.now) c.args.lines c.in_err-line.field-0.0 c.loop.refused.items c.args.count c.loop.counter c.loop.last (g.S.ValueReader.stream c.loop.source) (refused_at (fields_of c.args.columns.now) c.args.lines c.args.count 0 (g.S.ValueReader.stream c.args.source.now)) c.loop-test.true (c.in_err-line.ensures.read so_far.0) so_far.1)

pub loop-preserved : goal.loop-preserved
loop-preserved g c =
    let line = c.in_ok-line.line in record {
      read = λ known.
          let so_far = c.loop.invariant.read known in (
            c.in_ok-line.ensures.known so_far.0,
            rw c.in_ok-push.ensures.items
                (goes_on (fields_of c.args.columns.now) c.args.lines c.loop.refused.items c.args.count c.loop.counter c.loop.last (g.S.ValueReader.stream c.loop.source) line (g.S.ValueReader.stream c.next_refused_line.new.source) (refused_at (fields_of c.args.columns.now) c.args.lines c.args.count 0 (g.S.ValueReader.stream c.args.source.now)) c.loop-test.true (c.in_ok-line.ensures.read so_far.0) so_far.1),
          );
      count = omega (arith, c.in_ok-push.ensures.len, c.loop.invariant.count);
      within = rw c.in_ok-push.ensures.items (All-push (λ l. l.0 ≤ c.args.lines) c.loop.refused.items line c.loop.invariant.within c.in_ok-line.ensures.within);
      onward = omega (arith, c.loop.invariant.onward, c.in_ok-line.ensures.onward);
    }

pub returns-clause-read : goal.returns-clause-read
returns-clause-read g c = λ known.
    is_done (fields_of c.args.columns.now) c.args.lines c.loop.refused.items c.args.count c.loop.counter c.loop.last (g.S.ValueReader.stream c.loop.source) (refused_at (fields_of c.args.columns.now) c.args.lines c.args.count 0 (g.S.ValueReader.stream c.args.source.now)) c.loop-test.false (c.loop.invariant.read known).1
