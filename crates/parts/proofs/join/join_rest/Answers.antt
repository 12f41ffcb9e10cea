use Rattle.std.proofs.Common.{◌≢◌, [], sym, ap, ◌∙◌, arith}
use Rattle.std.proofs.lemmas.Result.{err_from_is_err_and}
use Rattle.tables.specs.Partials.{both}
use Rattle.parts.specs.Inside.Reader.{IsKnown, stream_of}
use Rattle.parts.proofs.Joins.{a-fault, begins, no-more, one-more}
use Rattle.parts.proofs.join.join_rest.Goals as goal

pub loop-whole-init : goal.loop-whole-init
loop-whole-init g c = (begins c.args.plan.now c.args.reader.now c.args.first c.requires.sound, omega arith)

pub returns-clause-joins : goal.returns-clause-joins
returns-clause-joins g c = λ known.
    no-more c.args.plan.now c.args.reader.now c.args.first c.loop-whole.reader c.loop-whole.part c.loop-whole.whole c.loop-whole.invariant.0 known ((c.in_ok-has_line.ensures.none (c.loop-whole.invariant.0.read known).0).0 c.if-branch.false)

pub returns-in_err-rest-clause-joins : goal.returns-in_err-rest-clause-joins
returns-in_err-rest-clause-joins g c = λ known.
    let here = (c.loop-whole.invariant.0.read known).0 in
    let seen = c.in_ok-has_line.ensures.same here in
    let p = err_from_is_err_and c.from_residual-in_err-rest.result c.from_residual-in_err-rest.ensures.1 in
    let some : (stream_of c.has_line.new.self).left ≢ [] = λ e. let none = (c.in_ok-has_line.ensures.none here).1 (ap (λ s. s.left) (sym seen) ∙ e) in absurd cc in
    let refused = rw c.lines-before.ensures.lines at (c.in_err-rest.ensures.read (c.in_ok-has_line.ensures.known here)) in
    rw (p.1, p.2)
    (a-fault c.args.plan.now c.args.reader.now c.args.first c.loop-whole.reader c.loop-whole.part c.loop-whole.whole c.loop-whole.invariant.0 (stream_of c.has_line.new.self) c.in_err-rest.field-0.0 (sym seen) some known refused)

pub loop-whole-preserved : goal.loop-whole-preserved
loop-whole-preserved g c =
    let rest = c.in_ok-rest.ensures in
    let some : IsKnown c.loop-whole.reader → (stream_of c.has_line.new.self).left ≢ [] = λ here e. let none = (c.in_ok-has_line.ensures.none here).1 (ap (λ s. s.left) (sym (c.in_ok-has_line.ensures.same here)) ∙ e) in absurd cc in (
      one-more c.args.plan.now c.args.reader.now c.args.first c.loop-whole.reader c.loop-whole.part c.loop-whole.whole c.loop-whole.invariant.0 c.contents_law.ensures (stream_of c.has_line.new.self) c.next_numbered.new.reader c.in_ok-rest.rest c.in_ok-whole.whole
          (λ here. sym (c.in_ok-has_line.ensures.same here)) some (λ here. rest.known (c.in_ok-has_line.ensures.known here)) (λ here. rw c.lines-before.ensures.lines at (rest.read (c.in_ok-has_line.ensures.known here))) rest.sound rest.one
          c.in_ok-whole.ensures.stands c.in_ok-whole.ensures.groups.lines
          (c.sound_law.ensures.of_notes c.args.plan.now (both c.loop-whole.whole c.in_ok-rest.rest) c.in_ok-whole.whole
          (c.sound_law.ensures.of_both c.args.plan.now c.loop-whole.whole c.in_ok-rest.rest c.loop-whole.invariant.0.sound rest.sound) c.in_ok-whole.ensures.groups),
      omega (arith, c.loop-whole.invariant.1, c.in_ok-has_line.ensures.line, rest.onward),
    )
