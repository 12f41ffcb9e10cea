use Rattle.std.proofs.Common.{◌∙◌, vec_len, sym, subst, arith}
use Rattle.pool.specs.Inside.Assembly.{IsAt, AreFilled, AreOffers}
use Rattle.pool.proofs.Assemblies.{first_place}
use Rattle.pool.proofs.seats.Deal.new.Goals as goal

pub seat_everyone-requires-clause-at : goal.seat_everyone-requires-clause-at
seat_everyone-requires-clause-at c =
    let dc = c.in_ok-deques.ensures.count in
    let fc = c.in_ok-fill_all.ensures.count in
    let sc = c.in_ok-sources.ensures.count in
    let rc = c.in_ok-rounds.ensures.count in
    let oks = c.in_ok-sources.sources.ok in
    let okr = c.in_ok-rounds.rounds.ok in
    let h = c.requires.hands.0 in
    let filled = subst (λ n. AreFilled n c.args.pieces c.fill_all.new.deques.items) dc c.in_ok-fill_all.ensures.filled in
    let offers = subst (λ n. AreOffers n c.args.pieces 1 c.in_ok-sources.sources.items) (sym (sc ∙ fc ∙ dc)) (c.in_ok-sources.ensures.offers c.args.pieces filled) in
    let begins = first_place (vec_len c.in_ok-sources.sources) c.args.pieces c.in_ok-sources.sources.items c.in_ok-rounds.rounds.items (omega (arith, h, sc, fc, dc)) (omega (arith, oks)) (omega (arith, okr, rc, sc, fc, dc)) offers c.in_ok-rounds.ensures.empty in
    (c.args.pieces, begins)

pub make_hands-requires-clause-at : goal.make_hands-requires-clause-at
make_hands-requires-clause-at c =
    let dc = c.in_ok-deques.ensures.count in
    let fc = c.in_ok-fill_all.ensures.count in
    let sc = c.in_ok-sources.ensures.count in
    let rc = c.in_ok-rounds.ensures.count in
    let oks = c.in_ok-sources.sources.ok in
    let okr = c.in_ok-rounds.rounds.ok in
    let h = c.requires.hands.0 in
    let filled = subst (λ n. AreFilled n c.args.pieces c.fill_all.new.deques.items) dc c.in_ok-fill_all.ensures.filled in
    let offers = subst (λ n. AreOffers n c.args.pieces 1 c.in_ok-sources.sources.items) (sym (sc ∙ fc ∙ dc)) (c.in_ok-sources.ensures.offers c.args.pieces filled) in
    let begins = first_place (vec_len c.in_ok-sources.sources) c.args.pieces c.in_ok-sources.sources.items c.in_ok-rounds.rounds.items (omega (arith, h, sc, fc, dc)) (omega (arith, oks)) (omega (arith, okr, rc, sc, fc, dc)) offers c.in_ok-rounds.ensures.empty in
    let e = c.in_ok-seat_everyone.ensures in
    subst (λ n. IsAt n c.args.pieces n c.seat_everyone.new.sources.items c.seat_everyone.new.rounds.items) (sym e.count) (e.at c.args.pieces begins)
