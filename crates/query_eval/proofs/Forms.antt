-- What conditions are worth, and whether they can be evaluated, by their cases.
use Rattle.std.proofs.Common.{◌≡◌, ◌∙◌, ℕ, Bool, ◌&&◌, List, map, sym, ap}
use Rattle.std.specs.Global.{Vec}
use Rattle.std.specs.List.{list_all}
use Rattle.semantics.specs.declared.comparison.Op.{Op}
use Rattle.semantics.specs.declared.truth.Truth.{Truth}
use Rattle.values.specs.declared.value.Value.{Value}
use Rattle.semantics.specs.Values.{Datum}
use Rattle.values.specs.Datum.{datum_of}
use Rattle.query_ast.specs.declared.expression.Predicate.{Predicate}
use Rattle.query_ast.specs.declared.expression.Predicate.TheVariants as predicate
use Rattle.query_ast.specs.declared.expression.Expression.TheOpen as predicate_layer
use Rattle.query_ast.specs.declared.expression.Expression.TheFolds.{fold-roll-Predicate}
use Rattle.query_ast.specs.declared.expression.Expression.TheViews.{roll-Predicate}
use Rattle.semantics.specs.Syntax as syntax
use Rattle.semantics.specs.Syntax.{and_of, column, or_of, predicate_forms}
use Rattle.query_ast.specs.Syntax.{expression_step, function_step, operand_step, predicate_form, predicate_step}
use Rattle.query_eval.specs.declared.condition.OperandSource.{OperandSource}
use Rattle.query_eval.specs.declared.condition.Condition.{Condition}
use Rattle.query_eval.specs.declared.condition.Condition.TheVariants as variant
use Rattle.query_eval.specs.declared.condition.Condition.TheOpen as layer
use Rattle.query_eval.specs.declared.condition.Condition.TheViews.{roll-Condition}
use Rattle.query_eval.specs.declared.condition.Condition.TheFolds.{fold-roll-Condition}
use Rattle.query_eval.specs.Meaning.{comparable, condition_truth, is_safe, is_there, is_truth_value, safe_step, source_value, truth_step}
use Rattle.semantics.specs.Conditions.{all_of, any_of}

at : {A : Type 0} (values : List Datum) {f g : List Datum → A} → f ≡ g → f values ≡ g values
at values e = ap (λ h. h values) e

pub or-worth : (v : Vec Condition) (values : List Datum) → condition_truth (variant.Or v) values ≡ any_of (map (λ truth. truth values) (map condition_truth v.items))
or-worth v values = at values (ap condition_truth (sym (variant.rolls-Or v)) ∙ fold-roll-Condition (List Datum → Truth) truth_step (layer.Or v))

pub and-worth : (v : Vec Condition) (values : List Datum) → condition_truth (variant.And v) values ≡ all_of (map (λ truth. truth values) (map condition_truth v.items))
and-worth v values = at values (ap condition_truth (sym (variant.rolls-And v)) ∙ fold-roll-Condition (List Datum → Truth) truth_step (layer.And v))

pub comparison-safe : (x : OperandSource) (o : Op) (y : OperandSource) (values : List Datum)
    → is_safe (variant.Compare x o y) values ≡ (is_there values x && (is_there values y && comparable (source_value values x) (source_value values y)))
unfolding roll-Condition denote.Hole.Carrier.roll
comparison-safe x o y values = at values (fold-roll-Condition (List Datum → Bool) safe_step (layer.Compare x o y))

pub between-safe : (x : OperandSource) (n : Bool) (y z : OperandSource) (values : List Datum)
    → is_safe (variant.Between x n y z) values
    ≡ (is_there values x && (is_there values y && (is_there values z
    && (comparable (source_value values x) (source_value values y) && comparable (source_value values x) (source_value values z)))))
unfolding roll-Condition denote.Hole.Carrier.roll
between-safe x n y z values = at values (fold-roll-Condition (List Datum → Bool) safe_step (layer.Between x n y z))

pub member-safe : (x : OperandSource) (n : Bool) (v : Vec Value) (values : List Datum)
    → is_safe (variant.In x n v) values ≡ (is_there values x && list_all (comparable (source_value values x)) (map datum_of v.items))
unfolding roll-Condition denote.Hole.Carrier.roll
member-safe x n v values = at values (fold-roll-Condition (List Datum → Bool) safe_step (layer.In x n v))

pub null-safe : (x : OperandSource) (n : Bool) (values : List Datum) → is_safe (variant.IsNull x n) values ≡ is_there values x
unfolding roll-Condition denote.Hole.Carrier.roll
null-safe x n values = at values (fold-roll-Condition (List Datum → Bool) safe_step (layer.IsNull x n))

pub name-safe : (x : OperandSource) (values : List Datum) → is_safe (variant.Holds x) values ≡ (is_there values x && is_truth_value (source_value values x))
unfolding roll-Condition denote.Hole.Carrier.roll
name-safe x values = at values (fold-roll-Condition (List Datum → Bool) safe_step (layer.Holds x))

-- ---- the form of an OR and of an AND

pub or_form : (v : Vec Predicate) → predicate_form (predicate.Or v) ≡ or_of (predicate_forms (map predicate_form v.items))
or_form v = ap predicate_form (sym (predicate.rolls-Or v))
    ∙ fold-roll-Predicate syntax.Expression syntax.Operand syntax.Predicate syntax.SetFunction expression_step operand_step predicate_step function_step (predicate_layer.Or v)

pub and_form : (v : Vec Predicate) → predicate_form (predicate.And v) ≡ and_of (predicate_forms (map predicate_form v.items))
and_form v = ap predicate_form (sym (predicate.rolls-And v))
    ∙ fold-roll-Predicate syntax.Expression syntax.Operand syntax.Predicate syntax.SetFunction expression_step operand_step predicate_step function_step (predicate_layer.And v)

-- ---- the form of a bare name

pub column_form : (n : List ℕ) → predicate_form (predicate.Column n) ≡ column n
unfolding roll-Predicate denote.Hole.Carrier.roll
column_form n = fold-roll-Predicate syntax.Expression syntax.Operand syntax.Predicate syntax.SetFunction expression_step operand_step predicate_step function_step (predicate_layer.Column n)
