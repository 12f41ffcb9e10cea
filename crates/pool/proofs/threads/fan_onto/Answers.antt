use Rattle.std.proofs.Common.{◌≡◌, ◌∙◌, vec_len, length, ap, ⊎_elim, inl, inr, arith}
use Rattle.std.proofs.lemmas.Result.{IfOk-weaker}
use Rattle.pool.specs.Settled.{pieces_of}
use Rattle.pool.proofs.Fans.{came_back_of, length-hands_of}
use Rattle.pool.proofs.Parts.{ready_new}
use Rattle.pool.proofs.threads.fan_onto.Goals as goal

pub fan_ready-requires-clause-ready : goal.fan_ready-requires-clause-ready
fan_ready-requires-clause-ready g c κs within =
    let made = c.in_ok-parts.ensures in
    let ready = c.in_ok-ready.ensures in
    ready_new ((g.met.W.Work g.world.𝓛 g.world.𝓜 g.world.𝓡 ((λ s x. x), (λ x. x), (λ x. x), λ x. x)).lawful c.args.crew.work.now) g.W.Work.meaning (λ s. s.sum) c.in_ok-ready.ready.items c.args.hands.items c.args.shares.items c.in_ok-parts.parts.items (vec_len c.args.hands) (g.W.Work.meaning c.args.part) ready.hands ready.sums ready.parts c.requires.deal made.parts made.together
    c.requires.loads c.requires.room

pub returns-clause-decided : goal.returns-clause-decided
returns-clause-decided g c = let ready = c.in_ok-ready.ensures in rw (← c.in_ok-parts.ensures.together, ← ready.parts, ← ready.hands) c.fan_ready.ensures.decided

pub returns-clause-deal : goal.returns-clause-deal
returns-clause-deal g c = rw (← c.in_ok-ready.ensures.hands) c.fan_ready.ensures.deal

pub returns-clause-back : goal.returns-clause-back
returns-clause-back g c =
    let ready = c.in_ok-ready.ensures in
    IfOk-weaker c.fan_ready.result _ _
    (λ r back. came_back_of _ (λ s. s.sum) c.args.hands.items c.args.shares.items r.1.items r.2.items (rw (← ready.hands, ← ready.sums) back))
    c.fan_ready.ensures.back

pub returns-clause-over : goal.returns-clause-over
returns-clause-over g c = rw (← c.in_ok-parts.ensures.together, ← c.in_ok-ready.ensures.parts) c.fan_ready.ensures.over

pub returns-clause-alone : goal.returns-clause-alone
returns-clause-alone g c = λ few.
    let hands = c.in_ok-ready.ensures.hands in
    let made = c.in_ok-ready.ready.ok in
    let given = c.args.hands.ok in
    let count = length-hands_of c.in_ok-ready.ready.items in
    let same = ap length hands in
    c.fan_ready.ensures.alone
    (⊎_elim (λ (one : vec_len c.args.hands ≡ 1). inl (omega (arith, made, given, count, same, one))) (λ (none : pieces_of c.args.hands.items ≡ 0). inr (ap pieces_of hands ∙ none)) few)
