-- The values of a row in HAVING, and where they have what the row shows.
use Rattle.std.proofs.Common.{◌≡◌, ◌∙◌, ◌+◌, ◌<◌, ◌++◌, ℕ, zero, suc, true, Option, Some, None, List, [], ◌∷◌, drop, get_or, length, map, nat_lt, take, slice_index_or, refl, sym, ap, subst, arith}
use Rattle.std.specs.Prelude.{slice_get, unwrap_or}
use Rattle.std.specs.Global.{Vec}
use Rattle.std.specs.List.{AllZip}
use Rattle.std.specs.Option.{option_and_then, option_map_or}
use Rattle.std.proofs.lemmas.Bool.Decides.{nat_tests}
use Rattle.std.proofs.Math.Seq.{drop-append_seam, take-append_seam}
use Rattle.std.proofs.lemmas.List.{get_or-drop, get_or-take, length-append, length-map, take_more}
use Rattle.std.proofs.lemmas.Option.{unwrap_or-slice_get}
use Rattle.std.proofs.lemmas.Slice.Zip.{all_zipped_more}
use Rattle.std.proofs.lemmas.List.Elements.{recursion_from_All}
use Rattle.semantics.specs.declared.truth.Truth.TheVariants.{True}
use Rattle.semantics.specs.Values.{Datum, null}
use Rattle.semantics.specs.Syntax.{Expression, Predicate, name, grouping, function}
use Rattle.semantics.specs.Conditions.{Valuation, truth}
use Rattle.semantics.specs.Sets.{grouping_places, sets_of}
use Rattle.semantics.specs.SetFunctions.{functions_of, place_among}
use Rattle.semantics.specs.Aggregates.{CellValue, plain}
use Rattle.semantics.specs.Groups.{Key}
use Rattle.semantics.specs.ResultRows.{ResultRow, set_of}
use Rattle.semantics.specs.Rows.{cell_value, expression_value, value_in_row}
use Rattle.query_typecheck.specs.declared.scope.Clause.TheVariants as clause
use Rattle.query_typecheck.specs.Typing.{IsTypedPredicate}
use Rattle.query_eval.specs.declared.condition.OperandSource.TheVariants as value
use Rattle.query_eval.specs.declared.condition.Condition.{Condition}
use Rattle.query_eval.specs.Binding.{AreValuesOf, GivesExpression, GivesPredicate, IsSafeWhereTyped}
use Rattle.query_eval.specs.Meaning.{condition_truth, is_of, is_safe}
use Rattle.query_plan.specs.Planned.{PlannedQuery}
use Rattle.group_tables.specs.declared.group.Group.{Group}
use Rattle.group_tables.specs.Fitting.{AreFitting}
use Rattle.group_tables.specs.GroupRows.{row_of}
use Rattle.report_rows.specs.declared.source.ValueSource.TheVariants.{KeyAt, CellAt}
use Rattle.report_rows.specs.Inside.Having.{AreHaving, IsHavingFor, having_truth, row_scope, row_values}
use Rattle.report_rows.specs.Inside.Planned.{FitsUnder}
use Rattle.report_rows.specs.Inside.Sources.{IsSourceOf}
use Rattle.report_rows.proofs.Keeping.{group-fits}
use Rattle.report_rows.proofs.RowValues.{shown-of, within}

-- ---- where the values are

-- a value of the key is among the first ones
key-at : (n : ℕ) (values : List Datum) (i : ℕ) → i < n → unwrap_or (slice_get values i) null ≡ slice_index_or (take n values) i null
key-at n values i below = unwrap_or-slice_get values i null ∙ sym (get_or-take n values i null below)

-- the value of a cell, where the cells have these values
cell-at : (values : List Datum) (i : ℕ) → unwrap_or (slice_get values i) null ≡ cell_value (unwrap_or (slice_get (map plain values) i) (plain null))
cell-at [] i = refl
cell-at (d ∷ values) zero = refl
cell-at (d ∷ values) (suc i) = cell-at values i

-- it is behind those of the key
behind-at : (n : ℕ) (values : List Datum) (i : ℕ) → unwrap_or (slice_get values (n + i)) null ≡ cell_value (unwrap_or (slice_get (map plain (drop n values)) i) (plain null))
behind-at n values i = unwrap_or-slice_get values (n + i) null ∙ sym (get_or-drop n values i null) ∙ sym (unwrap_or-slice_get (drop n values) i null) ∙ cell-at (drop n values) i

below-is : (i n m : ℕ) → i < n → m ≡ n → nat_lt i m ≡ true
below-is i n m lt e = grind (arith, nat_tests)

pub key-source : (plan : PlannedQuery) (set : List ℕ) (e : Expression) (place : ℕ) → place < length set → IsSourceOf plan set e (KeyAt place)
    → GivesExpression (row_scope plan set) e (value.Value place)
key-source plan set e place below is = record {
  value = λ values. key-at (length set) values place below ∙ ap cell_value (is (take (length set) values) (map plain (drop (length set) values)));
  there = λ values count. below-is place (length set + length (functions_of plan.fields plan.query)) (length values) (omega (arith, below)) count;
}

pub cell-source : (plan : PlannedQuery) (set : List ℕ) (e : Expression) (place : ℕ) → place < length (functions_of plan.fields plan.query) → IsSourceOf plan set e (CellAt place)
    → GivesExpression (row_scope plan set) e (value.Value (length set + place))
cell-source plan set e place below is = record {
  value = λ values. behind-at (length set) values place ∙ ap cell_value (is (take (length set) values) (map plain (drop (length set) values)));
  there = λ values count. below-is (length set + place) (length set + length (functions_of plan.fields plan.query)) (length values) (omega (arith, below)) count;
}

-- ---- the values of a row

-- its key has a value for each column of the set
key-long : (plan : PlannedQuery) (row : ResultRow) → FitsUnder plan row → length row.1.key ≡ length (set_of plan.fields plan.query row)
key-long plan row fit = (recursion_from_All (λ (r : ResultRow). length r.1.key ≡ length (set_of plan.fields plan.query r)) (row ∷ []) fit.keys).0

-- a cell that is the value of another cell has the same value
same-cell : (cells : List CellValue) (i : ℕ) → cell_value (unwrap_or (slice_get (map plain (map cell_value cells)) i) (plain null)) ≡ cell_value (unwrap_or (slice_get cells i) (plain null))
same-cell [] i = refl
same-cell (c ∷ cells) zero = refl
same-cell (c ∷ cells) (suc i) = same-cell cells i

same-place : (cells : List CellValue) (o : Option ℕ)
    → cell_value (unwrap_or (option_and_then (slice_get (map plain (map cell_value cells))) o) (plain null)) ≡ cell_value (unwrap_or (option_and_then (slice_get cells) o) (plain null))
same-place cells None = refl
same-place cells (Some i) = same-cell cells i

same-shown : (plan : PlannedQuery) (set : List ℕ) (key : Key) (cells : List CellValue) (e : Expression)
    → cell_value (expression_value plan.fields plan.query set key (map plain (map cell_value cells)) e) ≡ cell_value (expression_value plan.fields plan.query set key cells e)
same-shown plan set key cells (name n) = refl
same-shown plan set key cells (grouping ns) = refl
same-shown plan set key cells (function f) = same-place cells (place_among plan.fields plan.query f)

-- under the values of a row an expression has the value that the row shows for it
value-row : (plan : PlannedQuery) (row : ResultRow) → FitsUnder plan row → (e : Expression)
    → (row_scope plan (set_of plan.fields plan.query row)).value (row_values row.1.key row.1.cells) e ≡ value_in_row plan.fields plan.query row e
value-row plan row fit e =
    let set = set_of plan.fields plan.query row in
    let key = row.1.key in
    let values = map cell_value row.1.cells in
    let shown = λ (k : Key) (ds : List Datum). cell_value (expression_value plan.fields plan.query set k (map plain ds) e) in
    ap (λ (n : ℕ). shown (take n (key ++ values)) (drop n (key ++ values))) (sym (key-long plan row fit))
    ∙ (λ i. shown (take-append_seam key values i) (drop-append_seam key values i))
    ∙ same-shown plan set row.1.key row.1.cells e

-- they are values of HAVING
values-row : (plan : PlannedQuery) (row : ResultRow) → FitsUnder plan row → AreValuesOf (row_scope plan (set_of plan.fields plan.query row)) (row_values row.1.key row.1.cells)
values-row plan row fit = record {
  count = length-append row.1.key (map cell_value row.1.cells) ∙ (λ i. key-long plan row fit i + (length-map row.1.cells cell_value ∙ wide) i);
  kinds = λ grouped e k typed has. ap (is_of k) (value-row plan row fit e) ∙ shown-of plan.fields plan.query row grouped k e fit typed has;
}
  where
    wide : length row.1.cells ≡ length (functions_of plan.fields plan.query)
    wide = (recursion_from_All (λ (r : ResultRow). length r.1.cells ≡ length (functions_of plan.fields plan.query)) (row ∷ []) fit.cells).0

-- ---- the condition of HAVING

-- a condition that is bound for a grouping set is that of HAVING for its rows
pub bound-having : (plan : PlannedQuery) (set : List ℕ) (p : Predicate) (c : Condition) → plan.query.having_condition ≡ Some p
    → IsTypedPredicate plan.fields (grouping_places plan.fields plan.query) clause.Having p
    → GivesPredicate (row_scope plan set) p c → IsSafeWhereTyped (row_scope plan set) p c → IsHavingFor plan set c
bound-having plan set p c written typed gives safe = record {
  safe = λ row fit same.
      safe (grouping_places plan.fields plan.query) typed (row_values row.1.key row.1.cells)
      (subst (λ (s : List ℕ). AreValuesOf (row_scope plan s) (row_values row.1.key row.1.cells)) same (values-row plan row fit));
  worth = λ row fit same.
      let values = row_values row.1.key row.1.cells in
      let shown : (row_scope plan set).value values ≡ value_in_row plan.fields plan.query row =
      (λ i. (row_scope plan (sym same i)).value values) ∙ (λ i e. value-row plan row fit e i) in
      gives values
      ∙ ap (λ (v : Valuation). truth v p) shown
      ∙ ap (λ (o : Option Predicate). option_map_or (truth (value_in_row plan.fields plan.query row)) o True) (sym written);
}

-- the one of a grouping set
pub zip-at : {A B : Type 0} (R : A → B → Type 0) (xs : List A) (ys : List B) (i : ℕ) (d : A) (e : B) → AllZip R xs ys → i < length xs → R (get_or xs i d) (get_or ys i e)
zip-at R [] ys i d e all below = absurd (omega (arith, below))
zip-at R (x ∷ xs) [] i d e all below = absurd all
zip-at R (x ∷ xs) (y ∷ ys) zero d e all below = all.0
zip-at R (x ∷ xs) (y ∷ ys) (suc i) d e all below = zip-at R xs ys i d e all.1 (omega (arith, below))

-- one more of the grouping sets
pub zip-next : {A B : Type 0} (R : A → B → Type 0) (xs : List A) (ys more : List B) (i : ℕ) (d : A) (y : B) → i < length xs → more ≡ ys ++ y ∷ []
    → AllZip R (take i xs) ys → R (get_or xs i d) y → AllZip R (take (i + 1) xs) more
zip-next {A} {B} R xs ys more i d y below is all r =
    subst (λ (firsts : List A). AllZip R firsts more) (sym (take_more xs i d below))
    (subst (λ (zs : List B). AllZip R (take i xs ++ get_or xs i d ∷ []) zs) (sym is) (all_zipped_more R (take i xs) ys (get_or xs i d) y all r))

-- for a group of which HAVING is asked, the condition at its index can be evaluated, and is worth
-- what HAVING is worth for its row
pub having-of : (plan : PlannedQuery) (rows : List (ℕ × Group)) (i : ℕ) (x : ℕ × Group) (conditions : Vec Condition) (c : Condition) (values : List Datum) → i < length rows → x ≡ get_or rows i x
    → AreFitting plan.fields plan.query (map row_of rows) → AreHaving plan (Some conditions) → c ≡ get_or conditions.items x.0 c → values ≡ row_values (row_of x).1.key (row_of x).1.cells
    → (is_safe c values ≡ true) × (condition_truth c values ≡ having_truth plan (row_of x))
having-of plan rows i x conditions c values below is fit all at are =
    let row = row_of x in
    let alone = group-fits plan.fields plan.query rows i x below is fit in
    let set = set_of plan.fields plan.query row in
    let bound : IsHavingFor plan set c =
    subst (IsHavingFor plan set) (sym at) (zip-at (IsHavingFor plan) (sets_of plan.fields plan.query) conditions.items row.0 [] c all (within plan.fields plan.query row alone)) in (
      ap (is_safe c) are ∙ bound.safe row alone refl,
      ap (condition_truth c) are ∙ bound.worth row alone refl,
    )
