-- What a job is, which a pool is given to work on, and what its pieces come to.
use Rattle.std.specs.Prelude.{ℕ, List}
use Rattle.lines.specs.declared.pieces.Piece.{Piece}
use Rattle.pool.specs.Reduction.{Reduction}
use Rattle.pool.specs.Totals.{total}
use Rattle.query_plan.specs.Planned.{PlannedQuery}
use Rattle.tables.specs.Partials.{StandsFor, both, none, of_piece}
use Rattle.tables.specs.Pieces.{IndexedPiece, piece_at, piece_from}
use Rattle.tables.specs.States.{PartialState}
use Rattle.tables.specs.declared.job.Job.{Job}
use Rattle.tables.specs.declared.job.JobBy.{JobBy}
use Rattle.group_tables.specs.declared.executor.Executor as Executor

-- The plan whose query is answered.
abbrev pub plan_of_job : Job → PlannedQuery
plan_of_job job = job.plan.now

-- The input, of which the job has the pieces.
abbrev pub input_of_job : Job → List ℕ
input_of_job job = job.input.now

-- Where the pieces of the input start and stop.
abbrev pub pieces_of_job : Job → List Piece
pieces_of_job job = job.pieces.now

-- What so many pieces come to, put together one after the other.
abbrev pub total_of : PlannedQuery → (ℕ → IndexedPiece) → ℕ → PartialState
total_of plan piece count = total (none plan) both (λ i. of_piece plan (piece i)) count

-- What a fold over pieces combines, by their numbers: results of the plan, weighed by their refused
-- lines, whose load is that of their lines
abbrev pub reduction_of : PlannedQuery → (ℕ → IndexedPiece) → Reduction PartialState
reduction_of plan piece = record {
  fits = λ partial. (pieces : List IndexedPiece) × StandsFor plan partial pieces;
  unit = none plan;
  combine = both;
  piece = λ i. of_piece plan (piece i);
  weight = λ partial. partial.refused;
  load = λ partial. partial.lines;
}

-- So over the job's pieces.
abbrev pub reduction_of_job : Job → Reduction PartialState
reduction_of_job job = reduction_of (plan_of_job job) (piece_at (input_of_job job) (pieces_of_job job))

-- So where the job's first piece has the index `first`.
abbrev pub reduction_of_job_from : ℕ → Job → Reduction PartialState
reduction_of_job_from first job = reduction_of (plan_of_job job) (piece_from first (input_of_job job) (pieces_of_job job))

-- ---- a job whose results an executor merges

-- The job
abbrev pub joined_job : {J : Type 0} {executor : Executor.Ghosts J} → JobBy J executor → Job
joined_job it = it.job

-- The index of its first piece.
abbrev pub first_of_job : {J : Type 0} {executor : Executor.Ghosts J} → JobBy J executor → ℕ
first_of_job it = it.first
