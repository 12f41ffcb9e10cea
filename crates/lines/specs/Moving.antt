-- What a call that lends a round leaves once the round is no longer borrowed.
use Rattle.std.specs.Prelude.{◌≡◌, ℕ, List, Bool, Option, Result, Ok, Err, IfOk, IfSome, is_some}
use Rattle.std.specs.Borrow.{Fml, RattleType, Bor, MutBor}
use Rattle.std.specs.Io.BufRead.{Rests}
use Rattle.std.specs.declared.io.traits.Read.{Ghosts}
use Rattle.lines.specs.declared.fault.ReadFault.{ReadFault}
use Rattle.lines.specs.contracts.rounds.Rounds.{the_row}
use Rattle.lines.specs.Rounds.{RoundsState, HasMoved}

-- Whether a round was lent, or the fault.
abbrev pub was_lent : Result (Option (Bor (List ℕ))) ReadFault → Result Bool ReadFault
was_lent (Ok lent) = Ok (is_some lent)
was_lent (Err fault) = Err fault

-- a round is lent where there is one
pub record HasLent {R : Type 0} (old : RoundsState R) (result : Result (Option (Bor (List ℕ))) ReadFault) (new : RoundsState R) : Type 0 where
  pub moved : HasMoved old (was_lent result) new
  pub round : IfOk result (λ lent. IfSome lent (λ r. r.now ≡ new.round))

abbrev pub EndsAs : (R : RattleType) → Ghosts R.Denot → MutBor (RoundsState R.Denot) → Result (Option (Bor (List ℕ))) ReadFault → Fml
EndsAs R reads rounds result = Rests (the_row R reads) rounds (HasLent rounds.now result)
