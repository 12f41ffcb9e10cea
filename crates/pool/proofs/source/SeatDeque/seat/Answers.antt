use Rattle.std.proofs.Common.{◌<◌, ap, subst, sym, arith}
use Rattle.crossbeam_deque.specs.Handles.{worker_view}
use Rattle.pool.specs.declared.view.View.{View}
use Rattle.pool.specs.Rule.{IsSeated}
use Rattle.pool.specs.Views.{Offer}
use Rattle.pool.proofs.Rules.{seats}
use Rattle.pool.proofs.source.SeatDeque.seat.Goals as goal

pub another-pass-requires : goal.another-pass-requires
another-pass-requires c =
    let is = c.self.invariant.1 in
    let made : (worker_view c.self.inside.worker).made < c.self.inside.hands = subst (λ (o : Offer). o.made < o.hands) (sym c.self.view_is) c.requires in
    let ends = ap (λ (v : View). v.ends) is in
    seats _ _ (ap (λ (v : View). v.owner) is) (ap (λ (v : View). v.filling) is) (subst IsSeated (sym (ap (λ (v : View). v.known) is)) tt) (omega (arith, ends, made))
