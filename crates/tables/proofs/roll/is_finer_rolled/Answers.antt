use Rattle.std.proofs.Common.{◌≡◌, ◌<◌, Bool, true, false, List, [], ◌∷◌, ℕ, MatchBool, length, slice_index_or, arith, rules, tests}
use Rattle.std.specs.List.{AllWithin, Any, HoldsAt}
use Rattle.std.proofs.lemmas.List.{get_or_default}
use Rattle.std.proofs.lemmas.Iterator.{cases_from_any, YieldsList-from_slice}
use Rattle.group_tables.specs.Rolled.{AreAmong}
use Rattle.tables.specs.declared.roll.Roll.{Roll}
use Rattle.tables.proofs.roll.is_finer_rolled.Goals as goal

some-at : (P : Roll → Type 0) (rolls : List Roll) (k : ℕ) → k < length rolls → HoldsAt P rolls k → Any P rolls
some-at P [] k lt at = absurd (omega (arith, lt))
some-at P (roll ∷ rolls) k lt at =
    let it = slice_index_or (roll ∷ rolls) k roll in
    (k, it, lt, get_or_default (roll ∷ rolls) k it roll lt, at roll)

some-of : (P Q : Roll → Type 0) (rolls : List Roll) (r : Bool) → MatchBool r ((k : ℕ) × (k < length rolls) × HoldsAt P rolls k) (AllWithin Q rolls 0 (length rolls)) → r ≡ true → Any P rolls
some-of P Q rolls true h e = some-at P rolls h.0 h.1 h.2
some-of P Q rolls false h e = cc

pub returns : goal.returns
returns c =
    let set = c.args.set.now in
    let rolls = c.args.rolls.now in
    let P : Roll → Type 0 = λ roll. AreAmong set roll.set.items in
    let Q : Roll → Type 0 = λ roll. Unit {0} in
    some-of P Q rolls c.any.result
    (cases_from_any _ _ _ P Q c.any.ensures.ran (YieldsList-from_slice rolls (search rules)) (λ x q k. search (rules, tests)) (λ x q k. search (rules, tests)))
