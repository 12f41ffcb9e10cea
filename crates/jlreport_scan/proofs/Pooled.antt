-- What a pool answers over a front and the pieces of a round behind it.
use Rattle.std.proofs.Common.{◌≡◌, ◌∙◌, ◌+◌, ◌≤◌, ◌<◌, ◌^◌, ◌++◌, ℕ, List, length, sym, ap, subst, arith}
use Rattle.std.specs.List.{All}
use Rattle.lines.specs.declared.pieces.Piece.{Piece}
use Rattle.semantics.specs.Lines.{lines}
use Rattle.semantics.specs.Records.{refused_lines}
use Rattle.pool.specs.declared.laws.Outcome.{Outcome}
use Rattle.pool.specs.declared.laws.Outcome.TheVariants.{Whole, Over}
use Rattle.pool.specs.Outcomes.{Decides}
use Rattle.pool.specs.Totals.{sum_below}
use Rattle.pool.proofs.Sums.{total_weight}
use Rattle.query_plan.specs.Planned.{PlannedQuery}
use Rattle.tables.specs.declared.job.Job.{Job}
use Rattle.tables.specs.declared.partial.Partial.{Partial}
use Rattle.tables.specs.Jobs.{total_of}
use Rattle.tables.specs.Laws.{pieces-append, results_lawful}
use Rattle.tables.specs.Partials.{HasOwnIndexes, as_one, both, of_piece, of_pieces, one_piece}
use Rattle.tables.specs.Pieces.{IsCutInto, all_lines, indexed_pieces, indexed_pieces_from, piece_at, piece_from, refused_lines_within}
use Rattle.tables.specs.States.{PartialState}
use Rattle.tables.proofs.OnePiece.{as_one-stands}
use Rattle.jlreport_scan.specs.Inside.Pieces.{IsUnder, StandsBehind}
use Rattle.jlreport_scan.proofs.Cuts.{cut-behind}
use Rattle.jlreport_scan.proofs.Tallies.{length-lines, refused-counted}

-- what a pool decides of a part and the pieces of the rest of an input behind it, with indexes from
-- a first one on, under a plan
abbrev pub DecidesBehind : PartialState → PlannedQuery → ℕ → List ℕ → List Piece → ℕ → ℕ → Outcome Partial → Type 0
DecidesBehind front plan first rest pieces n limit outcome =
    Decides (λ (partial : Partial). partial) (both front (total_of plan (piece_from first rest pieces) n))
    (front.refused + sum_below (λ i. (of_piece plan (piece_from first rest pieces i)).refused) n) limit outcome

-- a job is over the pieces of an input under a plan
pub record IsJobOf (plan : PlannedQuery) (input : List ℕ) (pieces : List Piece) (job : Job) : Type 0 where
  pub plan_is : job.plan.now ≡ plan
  pub input_is : job.input.now ≡ input
  pub pieces_are : job.pieces.now ≡ pieces

-- how many lines the pieces have
abbrev pub loads_of : PlannedQuery → List ℕ → List Piece → ℕ → ℕ
loads_of plan input pieces n = sum_below (λ i. (of_piece plan (piece_from 1 input pieces i)).lines) n

-- how many refused lines the pieces have
abbrev pub weights_of : PlannedQuery → List ℕ → List Piece → ℕ → ℕ
weights_of plan input pieces n = sum_below (λ i. (of_piece plan (piece_from 1 input pieces i)).refused) n

-- the laws of a job's pieces
abbrev Stands : Type 0
Stands = (plan : PlannedQuery) (first : ℕ) (input : List ℕ) (pieces : List Piece) → first + length pieces < 2 ^ 32
    → total_of plan (piece_from first input pieces) (length pieces) ≡ of_pieces plan (indexed_pieces_from first input pieces)

abbrev Weighs : Type 0
Weighs = (plan : PlannedQuery) (input : List ℕ) (pieces : List Piece)
    → sum_below (λ i. (of_piece plan (piece_at input pieces i)).refused) (length pieces) ≡ length (refused_lines_within plan.fields (indexed_pieces input pieces))

abbrev Loads : Type 0
Loads = (plan : PlannedQuery) (input : List ℕ) (pieces : List Piece)
    → sum_below (λ i. (of_piece plan (piece_at input pieces i)).lines) (length pieces) ≡ length (all_lines (indexed_pieces input pieces))

-- the parts weigh so much under the limit
decided-under : {P M : Type 0} (meaning : P → M) (whole : M) (count limit : ℕ) (outcome : Outcome P) (Under : ℕ → ℕ → Outcome P → Type 0)
    → ((p : P) → count ≤ limit → Under count limit (Whole p)) → (limit < count → Under count limit Over) → Decides meaning whole count limit outcome → Under count limit outcome
decided-under meaning whole count limit (Whole p) Under is over d = is p d.1
decided-under meaning whole count limit Over Under is over d = over d

pub under-of : (front : PartialState) (p : PlannedQuery) (first : ℕ) (b : List ℕ) (ps : List Piece) (n limit count : ℕ) (outcome : Outcome Partial)
    → front.refused + weights_of p b ps n ≡ count → DecidesBehind front p first b ps n limit outcome → IsUnder count limit outcome
under-of front p first b ps n limit count outcome same d =
    subst (λ (c : ℕ). IsUnder c limit outcome) same (decided-under (λ (partial : Partial). partial) _ _ limit outcome IsUnder (λ _ low. low) (λ high. high) d)

pub under-same : (count l m : ℕ) (outcome : Outcome Partial) → l ≡ m → IsUnder count l outcome → IsUnder count m outcome
under-same count l m outcome e under = subst (λ (limit : ℕ). IsUnder count limit outcome) e under

-- what is Whole has as many refused lines as the front and the pieces, and these are within the
-- limit
pub refused-whole : (front : PartialState) (p : PlannedQuery) (first : ℕ) (b : List ℕ) (ps : List Piece) (n limit : ℕ) (outcome : Outcome Partial) (partial : Partial)
    → outcome ≡ Whole partial → DecidesBehind front p first b ps n limit outcome → (partial.refused ≡ front.refused + weights_of p b ps n) × (partial.refused ≤ limit)
refused-whole front p first b ps n limit outcome partial is d =
    let whole = subst (DecidesBehind front p first b ps n limit) is d in
    let laws = results_lawful p (piece_from first b ps) in
    let count : partial.refused ≡ front.refused + weights_of p b ps n = ap (λ (m : PartialState). m.refused) whole.0 ∙ ap (λ k. front.refused + k) (total_weight laws n) in
    let few = whole.1 in
    (count, omega (arith, count, few))

-- and it stands for the front and the rest
pub stands-behind : (before front : PartialState) (plan p : PlannedQuery) (first : ℕ) (rest b : List ℕ) (pieces ps : List Piece) (n limit : ℕ) (outcome : Outcome Partial) (partial : Partial)
    → p ≡ plan → first ≡ 1 → b ≡ rest → ps ≡ pieces → n ≡ length pieces → length pieces ≤ 1048576 → Stands → IsCutInto rest (indexed_pieces rest pieces)
    → (HasOwnIndexes before → front ≡ as_one before)
    → outcome ≡ Whole partial → DecidesBehind front p first b ps n limit outcome → StandsBehind plan before rest partial
stands-behind before front plan p first rest b pieces ps n limit outcome partial e a f g h few stands cut one is d =
    let d1 = subst (λ (x : PlannedQuery). DecidesBehind front x first b ps n limit outcome) e d in
    let d2 = subst (λ (x : ℕ). DecidesBehind front plan x b ps n limit outcome) a d1 in
    let d3 = subst (λ (x : List ℕ). DecidesBehind front plan 1 x ps n limit outcome) f d2 in
    let d4 = subst (λ (x : List Piece). DecidesBehind front plan 1 rest x n limit outcome) g d3 in
    let d5 = subst (λ (x : ℕ). DecidesBehind front plan 1 rest pieces x limit outcome) h d4 in
    let whole = subst (DecidesBehind front plan 1 rest pieces (length pieces) limit) is d5 in
    record {
      behind = λ input given lines. record {
        pieces = one_piece input ++ indexed_pieces_from 1 rest pieces;
        stands = whole.0
            ∙ (λ i. both (as_one-stands plan before front one input given i) (stands plan 1 rest pieces (omega (arith, few)) i))
            ∙ sym (pieces-append plan (one_piece input) (indexed_pieces_from 1 rest pieces));
        cut = cut-behind input rest pieces lines cut;
      };
    }

-- with some more they are few
pub few-loads : (plan p : PlannedQuery) (input b : List ℕ) (pieces ps : List Piece) (n more : ℕ)
    → p ≡ plan → b ≡ input → ps ≡ pieces → n ≡ length pieces → Loads → all_lines (indexed_pieces input pieces) ≡ lines input → more + length input < 2 ^ 63
    → loads_of p b ps n + more < 2 ^ 63
few-loads plan p input b pieces ps n more e f g h loads same short =
    let is = ap (λ (x : PlannedQuery). loads_of x b ps n) e ∙ ap (λ (x : List ℕ). loads_of plan x ps n) f ∙ ap (λ (x : List Piece). loads_of plan input x n) g
    ∙ ap (λ (x : ℕ). loads_of plan input pieces x) h ∙ loads plan input pieces ∙ ap length same in
    omega (arith, is, length-lines input, short)

pub weights-counted : (plan p : PlannedQuery) (input b : List ℕ) (pieces ps : List Piece) (n : ℕ)
    → p ≡ plan → b ≡ input → ps ≡ pieces → n ≡ length pieces → Weighs → all_lines (indexed_pieces input pieces) ≡ lines input
    → weights_of p b ps n ≡ length (refused_lines plan.fields input)
weights-counted plan p input b pieces ps n e f g h weighs same =
    ap (λ (x : PlannedQuery). weights_of x b ps n) e ∙ ap (λ (x : List ℕ). weights_of plan x ps n) f ∙ ap (λ (x : List Piece). weights_of plan input x n) g
    ∙ ap (λ (x : ℕ). weights_of plan input pieces x) h ∙ weighs plan input pieces
    ∙ refused-counted plan.fields (indexed_pieces input pieces) input same

-- with each share below some number, and so many loads beside, there is room
pub room-beside : {S : Type 0} (sum : S → ℕ) (shares : List S) (before loads : ℕ) → loads + before < 2 ^ 63 → All (λ share. sum share ≤ before) shares → All (λ share. loads + sum share < 2 ^ 63) shares
room-beside sum shares before loads short all = λ k d l. let most = all k d l in omega (arith, most, short)

pub grown-by : {S : Type 0} (sum : S → ℕ) (shares : List S) (most more : ℕ) → most ≤ more → All (λ share. sum share ≤ most) shares → All (λ share. sum share ≤ more) shares
grown-by sum shares most more few all = λ k d l. let at_most = all k d l in omega (arith, at_most, few)
