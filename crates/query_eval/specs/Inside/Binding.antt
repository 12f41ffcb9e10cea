-- What is made of a predicate whose names are resolved.
use Rattle.std.specs.Prelude.{◌≡◌, ℕ, true, List, length, map}
use Rattle.std.specs.List.{list_all}
use Rattle.semantics.specs.Values.{Datum}
use Rattle.semantics.specs.Columns.{Field}
use Rattle.semantics.specs.Syntax.{Predicates}
use Rattle.query_typecheck.specs.declared.scope.Clause.TheVariants as clause
use Rattle.query_typecheck.specs.Typing.{AreTypedParts}
use Rattle.query_eval.specs.declared.condition.Condition.{Condition}
use Rattle.semantics.specs.Conditions.{truth, truths, record_value}
use Rattle.query_eval.specs.Meaning.{condition_truth, is_safe}
use Rattle.query_eval.specs.Binding.{ScopeForm, AreValuesOf}

-- ---- under a scope

-- In WHERE and in FILTER the values are those of a record.
abbrev pub record_scope : List Field → ScopeForm
record_scope fields = record { fields = fields; clause = clause.Where; count = length fields; value = record_value fields }

-- The same of the parts of an OR or an AND.
abbrev pub GivesParts : ScopeForm → Predicates → List Condition → Type 0
GivesParts scope ps cs = (values : List Datum) → map (λ truth. truth values) (map condition_truth cs) ≡ truths (scope.value values) ps

abbrev pub AreSafeWhereTyped : ScopeForm → Predicates → List Condition → Type 0
AreSafeWhereTyped scope ps cs =
    (grouped : List ℕ) → AreTypedParts scope.fields grouped scope.clause ps → (values : List Datum) → AreValuesOf scope values
    → list_all (λ safe. safe values) (map is_safe cs) ≡ true
