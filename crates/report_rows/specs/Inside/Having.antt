-- What HAVING is bound to for the rows of a grouping set.
use Rattle.std.specs.Prelude.{◌≡◌, ◌+◌, ℕ, true, Option, Some, None, List, ◌++◌, drop, length, map, take}
use Rattle.std.specs.Global.{Vec}
use Rattle.std.specs.List.{AllZip}
use Rattle.std.specs.Option.{option_map_or}
use Rattle.semantics.specs.declared.truth.Truth.{Truth}
use Rattle.semantics.specs.declared.truth.Truth.TheVariants.{True}
use Rattle.semantics.specs.Values.{Datum}
use Rattle.semantics.specs.Conditions.{truth}
use Rattle.semantics.specs.Sets.{sets_of}
use Rattle.semantics.specs.SetFunctions.{functions_of}
use Rattle.query_typecheck.specs.declared.scope.Clause.TheVariants as clause
use Rattle.query_eval.specs.declared.condition.Condition.{Condition}
use Rattle.query_eval.specs.Binding.{ScopeForm}
use Rattle.query_eval.specs.Meaning.{condition_truth, is_safe}
use Rattle.query_plan.specs.Planned.{PlannedQuery}
use Rattle.semantics.specs.Aggregates.{CellValue, plain}
use Rattle.semantics.specs.Groups.{Key}
use Rattle.semantics.specs.ResultRows.{ResultRow, set_of}
use Rattle.semantics.specs.Rows.{cell_value, expression_value, value_in_row}
use Rattle.report_rows.specs.Inside.Planned.{FitsUnder}

-- The values of a row with this key and these cells: those of the key, and behind them those of the
-- cells
abbrev pub row_values : Key → List CellValue → List Datum
row_values key cells = key ++ map cell_value cells

-- In HAVING the values are those of a row of the grouping set, and an expression has the value that
-- the row shows for it.
abbrev pub row_scope : PlannedQuery → List ℕ → ScopeForm
row_scope plan set = record {
  fields = plan.fields;
  clause = clause.Having;
  count = length set + length (functions_of plan.fields plan.query);
  value = λ values e. cell_value (expression_value plan.fields plan.query set (take (length set) values) (map plain (drop (length set) values)) e);
}

-- What HAVING is worth for a row; it is True where it is not written.
abbrev pub having_truth : PlannedQuery → ResultRow → Truth
having_truth plan row = option_map_or (truth (value_in_row plan.fields plan.query row)) plan.query.having_condition True

-- a condition is that of HAVING for the rows of a grouping set: for each that fits the query it can
-- be evaluated, and is worth what HAVING is worth
pub record IsHavingFor (plan : PlannedQuery) (set : List ℕ) (c : Condition) : Type 0 where
  pub safe : (row : ResultRow) → FitsUnder plan row → set_of plan.fields plan.query row ≡ set → is_safe c (row_values row.1.key row.1.cells) ≡ true
  pub worth : (row : ResultRow) → FitsUnder plan row → set_of plan.fields plan.query row ≡ set → condition_truth c (row_values row.1.key row.1.cells) ≡ having_truth plan row

-- The conditions of HAVING, one for each grouping set; there are none where it is not written.
abbrev pub AreHaving : PlannedQuery → Option (Vec Condition) → Type 0
AreHaving plan None = plan.query.having_condition ≡ None
AreHaving plan (Some conditions) = AllZip (IsHavingFor plan) (sets_of plan.fields plan.query) conditions.items
