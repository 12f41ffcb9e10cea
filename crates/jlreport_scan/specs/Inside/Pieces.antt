-- The result over the rounds so far, and over a round behind them.
use Rattle.std.specs.Prelude.{◌≡◌, ◌⊎◌, ◌<◌, ◌≤◌, ◌+◌, ◌-◌, ◌*◌, ◌++◌, Bool, true, false, if◌then◌else◌, ℕ, All, List, Ok, Option, length, option_map, vec_len}
use Rattle.std.specs.Io.KnownBytes.{Consumes}
use Rattle.lines.specs.declared.pieces.Piece.{Piece}
use Rattle.lines.specs.Pieces.{AreWholeLines}
use Rattle.lines.specs.Rounds.{HasMoved, RoundsState}
use Rattle.lines.specs.Clip.{clip_lines}
use Rattle.pool.specs.declared.laws.Outcome.{Outcome}
use Rattle.pool.specs.declared.laws.Outcome.TheVariants.{Whole, Over}
use Rattle.pool.specs.Holding.{Holding}
use Rattle.pool.specs.Settled.{AreAll, AreRun, HaveEachOnce, pieces_of}
use Rattle.tables.specs.Pieces.{indexed_pieces, IsCutInto}
use Rattle.semantics.specs.declared.options.Options.{Options}
use Rattle.jlreport_scan.specs.declared.rounds.Ahead.{Ahead}
use Rattle.jlreport_scan.specs.Gathered.{IsWhole, limit_number}
use Rattle.query_plan.specs.Planned.{PlannedQuery}
use Rattle.tables.specs.declared.partial.Partial.{Partial}
use Rattle.tables.specs.Partials.{StandsForInput}
use Rattle.tables.specs.States.{PartialState}

-- a pool's answer over parts that weigh so much under a limit: a result where that is not more than
-- the limit, and Over where it is more
abbrev pub IsUnder : ℕ → ℕ → Outcome Partial → Type 0
IsUnder count limit (Whole partial) = count ≤ limit
IsUnder count limit Over = limit < count

-- a round is cut into these pieces, which were dealt to these hands, all hands of one deal to so
-- many workers; one schedule of that deal gave each hand what it has, and each piece is in the list
-- of one of them, once
pub record IsTaken (workers : ℕ) (round : List ℕ) (pieces : List Piece) (hands : List Holding) : Type 0 where
  pub cut : IsCutInto round (indexed_pieces round pieces)
  pub deal : AreAll hands × (length hands ≡ workers) × (pieces_of hands ≡ length pieces)
  pub run : AreRun hands
  pub once : HaveEachOnce hands

-- a result stands for whatever another one stands for, where that is whole lines, with the rest
-- behind it
pub record StandsBehind (plan : PlannedQuery) (before : PartialState) (rest : List ℕ) (partial : PartialState) : Type 0 where
  pub behind : (front : List ℕ) → StandsForInput plan before front → AreWholeLines front → StandsForInput plan partial (front ++ rest)

-- Between two rounds the partial result stands for the bytes of all rounds so far. Where it is
-- known what the reader gives, these and what is left make up that, clipped. They are counted; they
-- are whole lines, unless the last round was given; and not more of their lines are refused than
-- the limit.
pub record StandsForRounds {R : Type 0} (plan : PlannedQuery) (known : Option (List ℕ)) (limit : ℕ) (rounds : RoundsState R) (partial : PartialState) : Type 0 where
  pub bytes : List ℕ
  pub stands : StandsForInput plan partial bytes
  pub left : Consumes (option_map clip_lines known) rounds.left bytes
  pub count : rounds.given ≡ length bytes
  pub ends : AreWholeLines bytes ⊎ (rounds.over ≡ true)
  pub within : partial.refused ≤ limit

-- While a round is worked on, the next one is read. Where one was read, the result stands for all
-- rounds before it; else it stands for all that the reader gives. The buffers are as long as a
-- round may be; there are as many shares as workers, and none has reported more lines than were
-- refused, which are within the limit.
pub record IsAheadUnder {L R : Type 0} (plan : PlannedQuery) (options : Options) (known : Option (List ℕ)) (ahead : Ahead L R) : Type 0 where
  pub size : ahead.rounds.size ≡ options.round
  pub spare : ahead.spare.size ≡ options.round
  pub more : ahead.found ≡ true → (old : RoundsState R) × StandsForRounds plan known (limit_number options.max_refused) old ahead.whole × HasMoved old (Ok true) ahead.rounds
  pub none : ahead.found ≡ false → IsWhole plan known ahead.whole
  pub within : ahead.whole.refused ≤ limit_number options.max_refused
  pub hands : vec_len ahead.shares ≡ options.workers
  pub reported : All (λ share. share.sum ≤ ahead.whole.refused) ahead.shares.items

-- At most so many turns are left: each reads a round, which has a byte of an input of fewer than
-- 2^63, or finds that there is none and is the last.
abbrev pub most_turns : {R : Type 0} → RoundsState R → Bool → ℕ
most_turns rounds found = 2 * (9223372036854775808 - rounds.given) + (if found then 1 else 0)
