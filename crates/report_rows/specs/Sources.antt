-- Where the rows of a grouping set have what they show.
use Rattle.std.specs.Prelude.{◌≡◌, ℕ, ⊤, List, ◌∷◌, map, slice_get, slice_index_or, unwrap_or, []}
use Rattle.std.specs.Global.{Vec}
use Rattle.values.specs.Datum.{datum_of}
use Rattle.semantics.specs.Values.{null}
use Rattle.query_plan.specs.Planned.{PlannedQuery}
use Rattle.semantics.specs.Aggregates.{CellValue, plain}
use Rattle.semantics.specs.Groups.{Key}
use Rattle.semantics.specs.ResultRows.{ResultRow}
use Rattle.report_rows.specs.declared.source.ValueSource.{ValueSource}
use Rattle.report_rows.specs.declared.source.ValueSource.TheVariants.{KeyAt, CellAt, Always}
use Rattle.semantics.specs.Rows.{expression_value}

-- What a row with this key and these cells has there, and NULL where it has nothing.
abbrev pub shown_at : Key → List CellValue → ValueSource → CellValue
shown_at key cells (KeyAt place) = plain (slice_index_or key place null)
shown_at key cells (CellAt place) = unwrap_or (slice_get cells place) (plain null)
shown_at key cells (Always value) = plain (datum_of value)

-- Each row of the grouping set has there what it shows for the items of SELECT.
abbrev pub AreSourcesOf : PlannedQuery → List ℕ → List ValueSource → Type 0
AreSourcesOf plan set sources = (key : Key) (cells : List CellValue) → map (shown_at key cells) sources ≡ map (λ item. expression_value plan.fields plan.query set key cells item.expression) plan.query.items

-- For each grouping set, in the order of the sets, there is a list of places, of which this holds.
abbrev pub ForEachSet : (List ℕ → List ValueSource → Type 0) → List (List ℕ) → List (Vec ValueSource) → Type 0
ForEachSet Are [] [] = ⊤
ForEachSet Are [] (sources ∷ others) = ⊥
ForEachSet Are (set ∷ sets) [] = ⊥
ForEachSet Are (set ∷ sets) (sources ∷ others) = Are set sources.items × ForEachSet Are sets others

-- The rows of each grouping set have there what they show for the items of SELECT.
abbrev pub AreSourcesOfEach : PlannedQuery → List (List ℕ) → List (Vec ValueSource) → Type 0
AreSourcesOfEach plan sets all = ForEachSet (AreSourcesOf plan) sets all

-- Those of the grouping set at an index.
abbrev pub sources_at : List (Vec ValueSource) → ℕ → List ValueSource
sources_at all index = slice_index_or (map (λ sources. sources.items) all) index []

-- What the row of a group has where its grouping set has what it shows.
abbrev pub cells_at : List (Vec ValueSource) → ResultRow → List CellValue
cells_at all row = map (shown_at row.1.key row.1.cells) (sources_at all row.0)
