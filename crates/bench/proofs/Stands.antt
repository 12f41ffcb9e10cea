-- What a pool makes of all pieces of a job stands for them.
use Rattle.std.proofs.Common.{◌≡◌, ◌∙◌, ◌+◌, ◌≤◌, ◌<◌, ◌^◌, ℕ, List, length, sym, subst, arith}
use Rattle.lines.specs.declared.pieces.Piece.{Piece}
use Rattle.pool.specs.declared.laws.Outcome.{Outcome}
use Rattle.pool.specs.declared.laws.Outcome.TheVariants.{Whole}
use Rattle.pool.specs.Outcomes.{Decides}
use Rattle.pool.specs.Totals.{sum_below}
use Rattle.query_plan.specs.Planned.{PlannedQuery}
use Rattle.tables.specs.declared.job.Job.{Job}
use Rattle.tables.specs.declared.partial.Partial.{Partial}
use Rattle.tables.specs.Jobs.{total_of}
use Rattle.tables.specs.Partials.{IsPartialOf, of_piece, of_pieces}
use Rattle.tables.specs.Pieces.{indexed_pieces_from, piece_from}
use Rattle.jlreport_scan.proofs.Pooled.{IsJobOf}

-- what a pool decides of so many pieces of a job, with indexes from a first one on
abbrev pub DecidesAll : PlannedQuery → ℕ → List ℕ → List Piece → ℕ → ℕ → Outcome Partial → Type 0
DecidesAll plan first input pieces n limit outcome =
    Decides (λ (partial : Partial). partial) (total_of plan (piece_from first input pieces) n)
    (sum_below (λ i. (of_piece plan (piece_from first input pieces i)).refused) n) limit outcome

-- a job that was made of a plan, an input and pieces, and handed on, is over these
pub is-job : (plan : PlannedQuery) (input : List ℕ) (pieces ps : List Piece) (made job : Job)
    → job ≡ made → made.plan.now ≡ plan → made.input.now ≡ input → made.pieces.now ≡ ps → ps ≡ pieces → IsJobOf plan input pieces job
is-job plan input pieces ps made job is e f g h = subst (IsJobOf plan input pieces) (sym is) record { plan_is = e; input_is = f; pieces_are = g ∙ h }

pub stands-for : (plan : PlannedQuery) (input : List ℕ) (pieces : List Piece) (job : Job) (first n limit : ℕ) (outcome : Outcome Partial) (partial : Partial)
    → IsJobOf plan input pieces job → first ≡ 1 → n ≡ length pieces → length pieces ≤ 1048576
    → ((plan : PlannedQuery) (first : ℕ) (input : List ℕ) (pieces : List Piece) → first + length pieces < 2 ^ 32
    → total_of plan (piece_from first input pieces) (length pieces) ≡ of_pieces plan (indexed_pieces_from first input pieces))
    → outcome ≡ Whole partial → DecidesAll job.plan.now first job.input.now job.pieces.now n limit outcome → IsPartialOf plan partial
stands-for plan input pieces job first n limit outcome partial of e count few law is d =
    let d1 = subst (λ (x : PlannedQuery). DecidesAll x first job.input.now job.pieces.now n limit outcome) of.plan_is d in
    let d2 = subst (λ (x : ℕ). DecidesAll plan x job.input.now job.pieces.now n limit outcome) e d1 in
    let d3 = subst (λ (x : List ℕ). DecidesAll plan 1 x job.pieces.now n limit outcome) of.input_is d2 in
    let d4 = subst (λ (x : List Piece). DecidesAll plan 1 input x n limit outcome) of.pieces_are d3 in
    let d5 = subst (λ (x : ℕ). DecidesAll plan 1 input pieces x limit outcome) count d4 in
    let whole = subst (DecidesAll plan 1 input pieces (length pieces) limit) is d5 in
    ∣ (indexed_pieces_from 1 input pieces, whole.0 ∙ law plan 1 input pieces (omega (arith, few))) ∣₁
