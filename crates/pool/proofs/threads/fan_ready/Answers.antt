use Rattle.std.proofs.Common.{◌≡◌, All, vec_len, length, map, sym, ◌∙◌, subst, ⊎_elim, inl, inr, arith}
use Rattle.std.proofs.lemmas.Result.{err_from_is_err_and}
use Rattle.pool.specs.Inside.Done.{hands_of}
use Rattle.pool.specs.Inside.Combination.{combination_of}
use Rattle.pool.specs.Outcomes.{Decides}
use Rattle.pool.specs.Settled.{pieces_of}
use Rattle.pool.proofs.Fans.{length-hands_of, no_thread_new}
use Rattle.pool.proofs.Parts.{came_fit, came_light}
use Rattle.pool.proofs.Fanning.{fanned_above, fanned_back, fanned_counted, fanned_deal, fanned_decided, fanned_once, fanned_room, fanned_settled}
use Rattle.pool.proofs.threads.fan_ready.Goals as goal

pub returns-in_err-finished-clause-alone : goal.returns-in_err-finished-clause-alone
returns-in_err-finished-clause-alone g c = λ few.
    let ok = c.args.ready.ok in
    let count = length-hands_of c.args.ready.items in
    let p = err_from_is_err_and c.from_residual.result c.from_residual.ensures.1 in
    rw (p.1, p.2) (c.in_err-finished.ensures.alone (no_thread_new (pieces_of (hands_of c.args.ready.items)) (length (hands_of c.args.ready.items)) (hands_of c.args.ready.items) c.requires.ready.deal (⊎_elim (λ (one : vec_len c.args.ready ≡ 1). inl (omega (arith, ok, count, one))) (λ (none : pieces_of (hands_of c.args.ready.items) ≡ 0). inr none) few)))

pub weigh-weight-requires-after_bounds : goal.weigh-weight-requires-after_bounds
weigh-weight-requires-after_bounds g c κs within = came_light ((g.met.W.Work g.world.𝓛 g.world.𝓜 g.world.𝓡 ((λ s x. x), (λ x. x), (λ x. x), λ x. x)).lawful c.args.crew.work.now) g.W.Work.meaning c.args.ready.items c.requires.ready c.in_ok-finished.finished.items c.in_ok-finished.ensures.did

pub keep_apart-requires : goal.keep_apart-requires
keep_apart-requires g c = (fanned_deal ((g.met.W.Work g.world.𝓛 g.world.𝓜 g.world.𝓡 ((λ s x. x), (λ x. x), (λ x. x), λ x. x)).lawful c.args.crew.work.now) g.W.Work.meaning c.args.ready.items c.requires.ready c.in_ok-finished.finished.items c.in_ok-finished.ensures.did c.in_ok-hands.hands.items c.in_ok-hands.ensures.hands).0

pub conclude-requires-clause-weight : goal.conclude-requires-clause-weight
conclude-requires-clause-weight g c κs within =
    rw c.in_ok-hands.ensures.parts (fanned_counted ((g.met.W.Work g.world.𝓛 g.world.𝓜 g.world.𝓡 ((λ s x. x), (λ x. x), (λ x. x), λ x. x)).lawful c.args.crew.work.now) g.W.Work.meaning c.args.ready.items c.requires.ready c.in_ok-finished.finished.items c.in_ok-finished.ensures.did c.keep_apart.new.hands.items (c.keep_apart.ensures.same ∙ c.in_ok-hands.ensures.hands) c.keep_apart.ensures.apart c.weigh-weight.result c.weigh-weight.ensures)

pub conclude-requires-clause-parts : goal.conclude-requires-clause-parts
conclude-requires-clause-parts g c κs within =
    subst (λ ps. All (λ p. (g.W.Work.reduction c.args.crew.work.now).fits (g.W.Work.meaning p)) ps) (sym c.in_ok-hands.ensures.parts) (came_fit ((g.met.W.Work g.world.𝓛 g.world.𝓜 g.world.𝓡 ((λ s x. x), (λ x. x), (λ x. x), λ x. x)).lawful c.args.crew.work.now) g.W.Work.meaning c.args.ready.items c.requires.ready c.in_ok-finished.finished.items c.in_ok-finished.ensures.did)

pub conclude-requires-clause-room : goal.conclude-requires-clause-room
conclude-requires-clause-room g c κs within = rw c.in_ok-hands.ensures.parts (fanned_room ((g.met.W.Work g.world.𝓛 g.world.𝓜 g.world.𝓡 ((λ s x. x), (λ x. x), (λ x. x), λ x. x)).lawful c.args.crew.work.now) g.W.Work.meaning c.args.ready.items c.requires.ready c.in_ok-finished.finished.items c.in_ok-finished.ensures.did c.keep_apart.new.hands.items (c.keep_apart.ensures.same ∙ c.in_ok-hands.ensures.hands) c.keep_apart.ensures.apart)

pub returns-clause-decided : goal.returns-clause-decided
returns-clause-decided g c =
    let told = (subst (λ ps. Decides g.W.Work.meaning (combination_of (g.W.Work.reduction c.args.crew.work.now) (map g.W.Work.meaning ps)) ((g.W.Work.reduction c.args.crew.work.now).weight (combination_of (g.W.Work.reduction c.args.crew.work.now) (map g.W.Work.meaning ps))) c.args.limit c.in_ok-outcome.outcome) c.in_ok-hands.ensures.parts c.in_ok-outcome.ensures) in
    fanned_decided ((g.met.W.Work g.world.𝓛 g.world.𝓜 g.world.𝓡 ((λ s x. x), (λ x. x), (λ x. x), λ x. x)).lawful c.args.crew.work.now) g.W.Work.meaning c.args.ready.items c.requires.ready c.in_ok-finished.finished.items c.in_ok-finished.ensures.did c.keep_apart.new.hands.items (c.keep_apart.ensures.same ∙ c.in_ok-hands.ensures.hands) c.keep_apart.ensures.apart c.args.limit c.in_ok-finished.ensures.spent c.in_ok-outcome.outcome told

pub returns-clause-deal : goal.returns-clause-deal
returns-clause-deal g c = fanned_deal ((g.met.W.Work g.world.𝓛 g.world.𝓜 g.world.𝓡 ((λ s x. x), (λ x. x), (λ x. x), λ x. x)).lawful c.args.crew.work.now) g.W.Work.meaning c.args.ready.items c.requires.ready c.in_ok-finished.finished.items c.in_ok-finished.ensures.did c.keep_apart.new.hands.items (c.keep_apart.ensures.same ∙ c.in_ok-hands.ensures.hands)

pub returns-clause-back : goal.returns-clause-back
returns-clause-back g c = fanned_back ((g.met.W.Work g.world.𝓛 g.world.𝓜 g.world.𝓡 ((λ s x. x), (λ x. x), (λ x. x), λ x. x)).lawful c.args.crew.work.now) g.W.Work.meaning c.args.ready.items c.requires.ready c.in_ok-finished.finished.items c.in_ok-finished.ensures.did c.keep_apart.new.hands.items (c.keep_apart.ensures.same ∙ c.in_ok-hands.ensures.hands) _ c.in_ok-hands.ensures.sums

pub returns-clause-once : goal.returns-clause-once
returns-clause-once g c = fanned_once ((g.met.W.Work g.world.𝓛 g.world.𝓜 g.world.𝓡 ((λ s x. x), (λ x. x), (λ x. x), λ x. x)).lawful c.args.crew.work.now) g.W.Work.meaning c.args.ready.items c.requires.ready c.in_ok-finished.finished.items c.in_ok-finished.ensures.did c.keep_apart.new.hands.items (c.keep_apart.ensures.same ∙ c.in_ok-hands.ensures.hands) c.keep_apart.ensures.apart

pub returns-clause-settled : goal.returns-clause-settled
returns-clause-settled g c =
    let told = (subst (λ ps. Decides g.W.Work.meaning (combination_of (g.W.Work.reduction c.args.crew.work.now) (map g.W.Work.meaning ps)) ((g.W.Work.reduction c.args.crew.work.now).weight (combination_of (g.W.Work.reduction c.args.crew.work.now) (map g.W.Work.meaning ps))) c.args.limit c.in_ok-outcome.outcome) c.in_ok-hands.ensures.parts c.in_ok-outcome.ensures) in
    fanned_settled ((g.met.W.Work g.world.𝓛 g.world.𝓜 g.world.𝓡 ((λ s x. x), (λ x. x), (λ x. x), λ x. x)).lawful c.args.crew.work.now) g.W.Work.meaning c.args.ready.items c.requires.ready c.in_ok-finished.finished.items c.in_ok-finished.ensures.did c.keep_apart.new.hands.items (c.keep_apart.ensures.same ∙ c.in_ok-hands.ensures.hands) c.keep_apart.ensures.apart c.args.limit c.in_ok-finished.ensures.spent c.in_ok-outcome.outcome told

pub returns-clause-over : goal.returns-clause-over
returns-clause-over g c =
    let told = (subst (λ ps. Decides g.W.Work.meaning (combination_of (g.W.Work.reduction c.args.crew.work.now) (map g.W.Work.meaning ps)) ((g.W.Work.reduction c.args.crew.work.now).weight (combination_of (g.W.Work.reduction c.args.crew.work.now) (map g.W.Work.meaning ps))) c.args.limit c.in_ok-outcome.outcome) c.in_ok-hands.ensures.parts c.in_ok-outcome.ensures) in
    fanned_above ((g.met.W.Work g.world.𝓛 g.world.𝓜 g.world.𝓡 ((λ s x. x), (λ x. x), (λ x. x), λ x. x)).lawful c.args.crew.work.now) g.W.Work.meaning c.args.ready.items c.requires.ready c.in_ok-finished.finished.items c.in_ok-finished.ensures.did c.keep_apart.new.hands.items (c.keep_apart.ensures.same ∙ c.in_ok-hands.ensures.hands) c.args.limit c.in_ok-outcome.outcome told
