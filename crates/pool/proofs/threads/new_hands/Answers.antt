use Rattle.std.proofs.Common.{◌≡◌, vec_len, sym, subst, arith}
use Rattle.pool.specs.Assembly.{IsNewDeal}
use Rattle.pool.proofs.Fans.{new_pieces}
use Rattle.pool.proofs.threads.new_hands.Goals as goal

pub returns-clause-deal : goal.returns-clause-deal
returns-clause-deal c =
    let new = subst (λ l. IsNewDeal c.args.pieces c.args.hands l) (sym c.into_hands.ensures) c.in_ok-deal.ensures in
    let some_one = c.requires.hands.0 in
    let pieces = new_pieces c.args.pieces c.args.hands c.into_hands.result.items new (omega (arith, some_one)) in
    let ok = c.into_hands.result.ok in
    let len = new.0 in
    let count : vec_len c.into_hands.result ≡ c.args.hands = omega (arith, ok, len) in
    subst (λ n. IsNewDeal n (vec_len c.into_hands.result) c.into_hands.result.items) (sym pieces) (subst (λ n. IsNewDeal c.args.pieces n c.into_hands.result.items) (sym count) new)

pub returns-clause-pieces : goal.returns-clause-pieces
returns-clause-pieces c =
    let some_one = c.requires.hands.0 in
    new_pieces c.args.pieces c.args.hands c.into_hands.result.items (subst (λ l. IsNewDeal c.args.pieces c.args.hands l) (sym c.into_hands.ensures) c.in_ok-deal.ensures) (omega (arith, some_one))
