-- Where the rows of a grouping set have what they show.
use Rattle.std.specs.Prelude.{◌≡◌, ◌<◌, ℕ, ⊤, List, map}
use Rattle.std.specs.Borrow.{Bor}
use Rattle.semantics.specs.Syntax as syntax
use Rattle.query_ast.specs.declared.expression.Expression.{Expression}
use Rattle.query_ast.specs.Syntax.{expression_form}
use Rattle.query_plan.specs.Planned.{PlannedQuery}
use Rattle.semantics.specs.Aggregates.{CellValue}
use Rattle.semantics.specs.Groups.{Key}
use Rattle.report_rows.specs.declared.source.ValueSource.{ValueSource}
use Rattle.report_rows.specs.declared.source.ValueSource.TheVariants.{KeyAt, CellAt, Always}
use Rattle.semantics.specs.Rows.{expression_value}
use Rattle.report_rows.specs.Sources.{shown_at}

-- Each row of the grouping set has there what it shows for the expression.
abbrev pub IsSourceOf : PlannedQuery → List ℕ → syntax.Expression → ValueSource → Type 0
IsSourceOf plan set e source = (key : Key) (cells : List CellValue) → shown_at key cells source ≡ expression_value plan.fields plan.query set key cells e

-- a place is one of the values of a key of so many columns, or one of so many cells
abbrev pub IsWithin : ℕ → ℕ → ValueSource → Type 0
IsWithin columns functions (KeyAt place) = place < columns
IsWithin columns functions (CellAt place) = place < functions
IsWithin columns functions (Always value) = ⊤

-- ---- places for a list of expressions

-- The forms of expressions of the code.
abbrev pub expression_forms : List (Bor Expression) → List syntax.Expression
expression_forms expressions = map (λ e. expression_form e.now) expressions

-- Each row of the grouping set has there what it shows for these expressions.
abbrev pub AreSourcesFor : PlannedQuery → List syntax.Expression → List ℕ → List ValueSource → Type 0
AreSourcesFor plan es set sources = (key : Key) (cells : List CellValue) → map (shown_at key cells) sources ≡ map (expression_value plan.fields plan.query set key cells) es

-- ---- places for one expression

-- The rows of each of these grouping sets have there, at one place for each set, what they show for
-- the expression
abbrev pub AreSourcesBySet : PlannedQuery → syntax.Expression → List (List ℕ) → List ValueSource → Type 0
AreSourcesBySet plan e sets sources = (key : Key) (cells : List CellValue) → map (shown_at key cells) sources ≡ map (λ set. expression_value plan.fields plan.query set key cells e) sets
