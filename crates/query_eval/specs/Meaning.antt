-- What a resolved predicate is worth under values, and when it can be evaluated. Contracts within
-- the language's crates alone speak of it: what a predicate is worth is said in Truth.
use Rattle.std.specs.Prelude.{Bool, true, ◌&&◌, List, map, length, nat_lt, slice_get, unwrap_or}
use Rattle.std.specs.List.{list_all}
use Rattle.semantics.specs.declared.kind.Kind.{Kind}
use Rattle.semantics.specs.declared.kind.Kind.TheVariants as kind
use Rattle.semantics.specs.declared.truth.Truth.{Truth}
use Rattle.semantics.specs.Values.{Datum, boolean, whole, text, null, comparison, is_null}
use Rattle.values.specs.Datum.{datum_of}
use Rattle.semantics.specs.Truth.{negation}
use Rattle.semantics.specs.Conditions.{any_of, all_of, known_truth, with_not, same_truth, between_truth, member_truth, value_truth}
use Rattle.query_eval.specs.declared.condition.OperandSource.{OperandSource}
use Rattle.query_eval.specs.declared.condition.OperandSource.TheVariants as source
use Rattle.query_eval.specs.declared.condition.Condition.{Condition}
use Rattle.query_eval.specs.declared.condition.Condition.TheOpen.{Condition-F}
use Rattle.query_eval.specs.declared.condition.Condition.TheOpen as layer
use Rattle.query_eval.specs.declared.condition.Condition.TheFolds.{fold-Condition}

-- The value of a source, NULL where there is none.
abbrev pub source_value : List Datum → OperandSource → Datum
source_value values (source.Value place) = unwrap_or (slice_get values place) null
source_value values (source.Literal a) = datum_of a

-- Whether there is a value at the place of a source.
abbrev pub is_there : List Datum → OperandSource → Bool
is_there values (source.Value place) = nat_lt place (length values)
is_there values (source.Literal a) = true

-- Whether a value is of a type, or NULL.
abbrev pub is_of : Kind → Datum → Bool
is_of k null = true
is_of kind.Int (whole n) = true
is_of kind.Text (text s) = true
is_of kind.Bool (boolean b) = true
is_of k d = Bool.false

-- Whether two values can be compared: they are of one type, or one of them is NULL.
abbrev pub comparable : Datum → Datum → Bool
comparable null b = true
comparable a null = true
comparable (boolean a) (boolean b) = true
comparable (whole a) (whole b) = true
comparable (text a) (text b) = true
comparable a b = Bool.false

-- Whether a value is a truth value, or NULL.
abbrev pub is_truth_value : Datum → Bool
is_truth_value null = true
is_truth_value (boolean b) = true
is_truth_value (whole n) = Bool.false
is_truth_value (text s) = Bool.false

-- a condition whose parts are worth this already
abbrev pub truth_step : Condition-F (List Datum → Truth) → List Datum → Truth
truth_step (layer.Or ps) values = any_of (map (λ p. p values) ps.items)
truth_step (layer.And ps) values = all_of (map (λ p. p values) ps.items)
truth_step (layer.Not p) values = negation (p.value values)
truth_step (layer.Is p n t) values = with_not n (known_truth (same_truth (p.value values) t))
truth_step (layer.Compare x o y) values = comparison o (source_value values x) (source_value values y)
truth_step (layer.Between x n y z) values = with_not n (between_truth (source_value values x) (source_value values y) (source_value values z))
truth_step (layer.In x n ls) values = with_not n (member_truth (source_value values x) (map datum_of ls.items))
truth_step (layer.IsNull x n) values = with_not n (known_truth (is_null (source_value values x)))
truth_step (layer.Holds x) values = value_truth (source_value values x)

-- What a condition is worth under values.
abbrev pub condition_truth : Condition → List Datum → Truth
condition_truth = fold-Condition (List Datum → Truth) truth_step

-- Whether a condition can be evaluated under values, where its parts tell it already.
abbrev pub safe_step : Condition-F (List Datum → Bool) → List Datum → Bool
safe_step (layer.Or ps) values = list_all (λ p. p values) ps.items
safe_step (layer.And ps) values = list_all (λ p. p values) ps.items
safe_step (layer.Not p) values = p.value values
safe_step (layer.Is p n t) values = p.value values
safe_step (layer.Compare x o y) values =
    is_there values x && (is_there values y && comparable (source_value values x) (source_value values y))
safe_step (layer.Between x n y z) values =
    is_there values x && (is_there values y && (is_there values z
    && (comparable (source_value values x) (source_value values y) && comparable (source_value values x) (source_value values z))))
safe_step (layer.In x n ls) values = is_there values x && list_all (comparable (source_value values x)) (map datum_of ls.items)
safe_step (layer.IsNull x n) values = is_there values x
safe_step (layer.Holds x) values = is_there values x && is_truth_value (source_value values x)

-- Whether a condition can be evaluated under values: these are there, only values of one type, or
-- NULL, are compared, and what stands alone is a truth value, or NULL.
abbrev pub is_safe : Condition → List Datum → Bool
is_safe = fold-Condition (List Datum → Bool) safe_step
