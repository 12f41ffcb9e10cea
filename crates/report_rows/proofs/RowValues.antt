-- The value that a row shows for an expression that is typed in HAVING is of the type of the
-- expression, or NULL.
use Rattle.std.proofs.Common.{◌≡◌, ◌∙◌, ◌<◌, inl, inr, ℕ, zero, suc, pos, negsuc, ◌==◌, Bool, true, false, cond, Option, Some, None, List, [], ◌∷◌, get_or, length, nat_lt, position, refl, sym, ap, subst, arith}
use Rattle.std.proofs.lemmas.Bool.Decides.{nat_tests}
use Rattle.std.proofs.lemmas.List.Elements.{recursion_from_All}
use Rattle.std.proofs.lemmas.List.Quantifiers.{position-Some}
use Rattle.std.specs.List.{AllZip}
use Rattle.std.specs.Option.{option_and_then, option_map, option_map_or}
use Rattle.std.specs.Prelude.{IfSome, slice_get, unwrap_or}
use Rattle.semantics.specs.declared.kind.Kind.{Kind}
use Rattle.semantics.specs.declared.kind.Kind.TheVariants as kind
use Rattle.semantics.specs.Values.{Datum, boolean, whole, text, null}
use Rattle.semantics.specs.Columns.{Field}
use Rattle.semantics.specs.declared.aggregate.Aggregate.{Aggregate}
use Rattle.semantics.specs.declared.aggregate.Aggregate.TheVariants as aggregate
use Rattle.semantics.specs.Syntax.{Expression, SetFunction, Predicate, Query, name, grouping, function, over_all, over_filtered}
use Rattle.semantics.specs.declared.function.ColumnFunction.{ColumnFunction}
use Rattle.semantics.specs.declared.function.ColumnFunction.TheVariants as at
use Rattle.query_typecheck.specs.declared.scope.Clause.TheVariants as clause
use Rattle.semantics.specs.Names.{column_kind, kind_at, place_of, PlannedFunction, column_function, planned_function}
use Rattle.semantics.specs.SetFunctions.{functions_of, place_among}
use Rattle.semantics.specs.Inside.Same.{same_planned}
use Rattle.query_resolve.proofs.SameTrees.{planned_are_same}
use Rattle.semantics.specs.Sets.{sets_of}
use Rattle.query_typecheck.specs.Typing.{IsTypedExpression, may_stand}
use Rattle.semantics.specs.Types.{aggregate_kind, expression_kind}
use Rattle.query_eval.specs.Meaning.{is_of}
use Rattle.query_eval.proofs.Safety.{cases, is_of-held}
use Rattle.semantics.specs.Aggregates.{CellValue, plain, ratio}
use Rattle.semantics.specs.Groups.{Key}
use Rattle.group_tables.specs.Fitting.{AreFitting, HasType, IsHeld}
use Rattle.semantics.specs.ResultRows.{set_of, ResultRow}
use Rattle.semantics.specs.Rows.{cell_value, value_in_row, grouping_number, value_of_grouping, grouping_column_value, value_in}
use Rattle.report_rows.proofs.Places.{value_in-first, value_in-missing, value_in-other}

-- the index of a row that fits is that of a grouping set
pub within : (fields : List Field) (t : Query) (row : ResultRow) → AreFitting fields t (row ∷ []) → row.0 < length (sets_of fields t)
within fields t row fit = (recursion_from_All (λ (r : ResultRow). r.0 < length (sets_of fields t)) (row ∷ []) fit.indexes).0

-- ---- places

-- the place that is found is one of the list's
pub position-within : {X : Type 0} (p : X → Bool) (xs : List X) (o : Option ℕ) → o ≡ position p xs → IfSome o (λ at. at < length xs)
position-within p [] None e = tt
position-within p xs None e = tt
position-within p (x ∷ xs) (Some i) e = (position-Some p (x ∷ xs) i x (sym e)).0
position-within p [] (Some i) e = absurd cc

-- that of a set function is one of the query's functions
pub place-within : (fields : List Field) (t : Query) (g : SetFunction) (place : ℕ) → Some place ≡ place_among fields t g → place < length (functions_of fields t)
place-within fields t g place e =
    elim (planned_function fields g) as (λ (o : Option PlannedFunction). Some place ≡ option_and_then (λ f. position (same_planned f) (functions_of fields t)) o → place < length (functions_of fields t)) [
      | None ↦ λ h. absurd cc
      | Some f ↦ λ h. (position-Some (same_planned f) (functions_of fields t) place f (sym h)).0
    ] e

-- ---- NULL and what a column holds

null-of : (k : Kind) → is_of k null ≡ true
null-of k = refl

some-is : {A : Type 0} (x y : A) → Some x ≡ Some y → x ≡ y
some-is x y h = cc

held-of : (k : Kind) (o : Option Kind) (d : Datum) → o ≡ Some k → IsHeld o d → is_of k d ≡ true
held-of k None d e h = absurd h
held-of k (Some l) d e h = subst (λ (j : Kind). is_of j d ≡ true) (some-is l k e) (is_of-held l d h)

-- ---- grouping columns

same-place : (g p : ℕ) → (g == p) ≡ true → g ≡ p
same-place g p h = grind (arith, nat_tests)

-- what a key has for a column
value_in-of : (fields : List Field) (p : ℕ) (k : Kind) (set : List ℕ) (key : Key)
    → AllZip (λ place d. IsHeld (kind_at fields place) d) set key → kind_at fields p ≡ Some k → is_of k (value_in set key p) ≡ true
value_in-of fields p k [] key held has = ap (is_of k) (value_in-missing p [] key tt) ∙ null-of k
value_in-of fields p k (g ∷ set) [] held has = absurd held
value_in-of fields p k (g ∷ set) (d ∷ key) held has =
    elim (g == p) as (λ (b : Bool). (g == p) ≡ b → is_of k (value_in (g ∷ set) (d ∷ key) p) ≡ true) [
      | true ↦ λ e.
          let same = same-place g p e in
          ap (λ (q : ℕ). is_of k (value_in (g ∷ set) (d ∷ key) q)) (sym same)
          ∙ ap (is_of k) (value_in-first g set d key)
          ∙ held-of k (kind_at fields g) d (ap (kind_at fields) same ∙ has) held.0
      | false ↦ λ e. ap (is_of k) (value_in-other g p set d key e) ∙ value_in-of fields p k set key held.1 has
    ] refl

name-of : (fields : List Field) (k : Kind) (set : List ℕ) (key : Key) (n : List ℕ)
    → AllZip (λ place d. IsHeld (kind_at fields place) d) set key → column_kind fields n ≡ Some k → is_of k (grouping_column_value fields set key n) ≡ true
name-of fields k set key n held has =
    elim (place_of fields n) as (λ (o : Option ℕ). option_and_then (kind_at fields) o ≡ Some k → is_of k (option_map_or (value_in set key) o null) ≡ true) [
      | None ↦ λ e. null-of k
      | Some p ↦ λ e. value_in-of fields p k set key held e
    ] has

grouping-of : (fields : List Field) (k : Kind) (set : List ℕ) (names : List (List ℕ)) → Some kind.Int ≡ Some k → is_of k (value_of_grouping fields set names) ≡ true
grouping-of fields k set names e =
    subst (λ (j : Kind). is_of j (value_of_grouping fields set names) ≡ true) (some-is kind.Int k e)
    (elim (nat_lt 8 (length names)) as (λ (b : Bool). is_of kind.Int (cond b null (whole (pos (grouping_number fields set names)))) ≡ true) [ true ↦ refl | false ↦ refl ])

-- ---- set functions

-- a cell has the type of its set function, apart from the filter
abbrev HasTypeOf : List Field → PlannedFunction → CellValue → Type 0
HasTypeOf fields f cell = HasType fields f.function cell

-- the function that stands for one past the last
abbrev no_function : PlannedFunction
no_function = record { function = at.CountRows; filter = None }

typed-at : (fields : List Field) (fs : List PlannedFunction) (cells : List CellValue) (i : ℕ) → AllZip (HasTypeOf fields) fs cells → i < length fs
    → HasType fields (get_or fs i no_function).function (unwrap_or (slice_get cells i) (plain null))
typed-at fields [] cells i h lt = absurd (omega (arith, lt))
typed-at fields (f ∷ fs) [] i h lt = absurd h
typed-at fields (f ∷ fs) (c ∷ cells) zero h lt = h.0
typed-at fields (f ∷ fs) (c ∷ cells) (suc i) h lt = typed-at fields fs cells i h.1 (omega (arith, lt))

-- the type of a set function of a column
function_kind : List Field → ColumnFunction → Option Kind
function_kind fields at.CountRows = Some kind.Int
function_kind fields (at.Count p) = Some kind.Int
function_kind fields (at.CountDistinct p) = Some kind.Int
function_kind fields (at.Sum p) = Some kind.Int
function_kind fields (at.Min p) = kind_at fields p
function_kind fields (at.Max p) = kind_at fields p
function_kind fields (at.Avg p) = None

count-of : (k : Kind) (cell : CellValue) → Some kind.Int ≡ Some k → HasType [] at.CountRows cell → is_of k (cell_value cell) ≡ true
count-of k cell e h = subst (λ (j : Kind). is_of j (cell_value cell) ≡ true) (some-is kind.Int k e) (go cell h)
  where
    go : (cell : CellValue) → HasType [] at.CountRows cell → is_of kind.Int (cell_value cell) ≡ true
    go (plain (whole (pos n))) h = refl
    go (plain (whole (negsuc n))) h = absurd h
    go (plain (boolean b)) h = absurd h
    go (plain (text s)) h = absurd h
    go (plain null) h = absurd h
    go (ratio s n) h = absurd h

sum-of : (k : Kind) (cell : CellValue) → Some kind.Int ≡ Some k → HasType [] (at.Sum 0) cell → is_of k (cell_value cell) ≡ true
sum-of k cell e h = subst (λ (j : Kind). is_of j (cell_value cell) ≡ true) (some-is kind.Int k e) (go cell h)
  where
    go : (cell : CellValue) → HasType [] (at.Sum 0) cell → is_of kind.Int (cell_value cell) ≡ true
    go (plain (whole n)) h = refl
    go (plain (boolean b)) h = absurd h
    go (plain (text s)) h = absurd h
    go (plain null) h = refl
    go (ratio s n) h = absurd h

extreme-of : (fields : List Field) (k : Kind) (p : ℕ) (cell : CellValue) → kind_at fields p ≡ Some k → HasType fields (at.Min p) cell → is_of k (cell_value cell) ≡ true
extreme-of fields k p (plain d) e h = held-of k (kind_at fields p) d e h
extreme-of fields k p (ratio s n) e h = absurd h

cell-of : (fields : List Field) (k : Kind) (f : ColumnFunction) (cell : CellValue) → function_kind fields f ≡ Some k → HasType fields f cell → is_of k (cell_value cell) ≡ true
unfolding function_kind
cell-of fields k at.CountRows cell e h = count-of k cell e h
cell-of fields k (at.Count p) cell e h = count-of k cell e h
cell-of fields k (at.CountDistinct p) cell e h = count-of k cell e h
cell-of fields k (at.Sum p) cell e h = sum-of k cell e h
cell-of fields k (at.Min p) cell e h = extreme-of fields k p cell e h
cell-of fields k (at.Max p) cell e h = extreme-of fields k p cell e h
cell-of fields k (at.Avg p) cell e h = absurd cc

-- the cell at the place of a set function
placed-of : (fields : List Field) (k : Kind) (f : PlannedFunction) (fs : List PlannedFunction) (cells : List CellValue) → AllZip (HasTypeOf fields) fs cells → function_kind fields f.function ≡ Some k
    → is_of k (cell_value (unwrap_or (option_and_then (slice_get cells) (position (same_planned f) fs)) (plain null))) ≡ true
placed-of fields k f fs cells h has =
    elim (cases (position (same_planned f) fs)) [
      | inl e ↦ ap (λ (o : Option ℕ). is_of k (cell_value (unwrap_or (option_and_then (slice_get cells) o) (plain null)))) e ∙ null-of k
      | inr found ↦ (
          let i = found.0 in
          let there = position-Some (same_planned f) fs i no_function found.1 in
          let same : f.function ≡ (get_or fs i no_function).function = ap (λ (p : PlannedFunction). p.function) (planned_are_same f (get_or fs i no_function) there.1) in
          ap (λ (o : Option ℕ). is_of k (cell_value (unwrap_or (option_and_then (slice_get cells) o) (plain null)))) found.1
          ∙ cell-of fields k (get_or fs i no_function).function (unwrap_or (slice_get cells i) (plain null)) (ap (function_kind fields) (sym same) ∙ has) (typed-at fields fs cells i h there.0))
    ]

-- a set function of the column of a name, if there is one
column-of : (fields : List Field) (k : Kind) (make : ℕ → ColumnFunction) (filter : Option Predicate) (fs : List PlannedFunction) (cells : List CellValue) (o : Option ℕ) → AllZip (HasTypeOf fields) fs cells
    → ((p : ℕ) → o ≡ Some p → function_kind fields (make p) ≡ Some k)
    → is_of k (cell_value (unwrap_or (option_and_then (slice_get cells) (option_and_then (λ f. position (same_planned f) fs) (option_map (λ g. record { function = g; filter = filter }) (option_map make o)))) (plain null))) ≡ true
column-of fields k make filter fs cells None h has = null-of k
column-of fields k make filter fs cells (Some p) h has = placed-of fields k (record { function = make p; filter = filter }) fs cells h (has p refl)

function-of : (fields : List Field) (t : Query) (k : Kind) (cells : List CellValue) (a : Aggregate) (filter : Option Predicate) → AllZip (HasTypeOf fields) (functions_of fields t) cells
    → may_stand clause.Having a ≡ true → aggregate_kind fields a ≡ Some k
    → is_of k (cell_value (unwrap_or (option_and_then (slice_get cells) (option_and_then (λ f. position (same_planned f) (functions_of fields t)) (option_map (λ g. record { function = g; filter = filter }) (column_function fields a)))) (plain null))) ≡ true
unfolding function_kind
function-of fields t k cells aggregate.CountRows filter h may has = placed-of fields k (record { function = at.CountRows; filter = filter }) (functions_of fields t) cells h has
function-of fields t k cells (aggregate.Count x) filter h may has = column-of fields k at.Count filter (functions_of fields t) cells (place_of fields x) h (λ p e. has)
function-of fields t k cells (aggregate.CountDistinct x) filter h may has = column-of fields k at.CountDistinct filter (functions_of fields t) cells (place_of fields x) h (λ p e. has)
function-of fields t k cells (aggregate.Sum x) filter h may has = column-of fields k at.Sum filter (functions_of fields t) cells (place_of fields x) h (λ p e. has)
function-of fields t k cells (aggregate.Min x) filter h may has =
    column-of fields k at.Min filter (functions_of fields t) cells (place_of fields x) h (λ p e. sym (ap (option_and_then (kind_at fields)) e) ∙ has)
function-of fields t k cells (aggregate.Max x) filter h may has =
    column-of fields k at.Max filter (functions_of fields t) cells (place_of fields x) h (λ p e. sym (ap (option_and_then (kind_at fields)) e) ∙ has)
function-of fields t k cells (aggregate.Avg x) filter h may has = absurd cc

-- ---- expressions

pub shown-of : (fields : List Field) (t : Query) (row : ResultRow) (grouped : List ℕ) (k : Kind) (e : Expression) → AreFitting fields t (row ∷ [])
    → IsTypedExpression fields grouped clause.Having e → expression_kind fields e ≡ Some k → is_of k (value_in_row fields t row e) ≡ true
shown-of fields t row grouped k (name n) fit typed has =
    name-of fields k (set_of fields t row) row.1.key n (recursion_from_All (λ (r : ResultRow). AllZip (λ place d. IsHeld (kind_at fields place) d) (set_of fields t r) r.1.key) (row ∷ []) fit.key_types).0 has
shown-of fields t row grouped k (grouping ns) fit typed has = grouping-of fields k (set_of fields t row) ns has
shown-of fields t row grouped k (function (over_all a)) fit typed has =
    function-of fields t k row.1.cells a None (recursion_from_All (λ (r : ResultRow). AllZip (HasTypeOf fields) (functions_of fields t) r.1.cells) (row ∷ []) fit.cell_types).0 typed.0 has
shown-of fields t row grouped k (function (over_filtered a p)) fit typed has =
    function-of fields t k row.1.cells a (Some p) (recursion_from_All (λ (r : ResultRow). AllZip (HasTypeOf fields) (functions_of fields t) r.1.cells) (row ∷ []) fit.cell_types).0 typed.0 has
