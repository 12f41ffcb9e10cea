-- What HAVING asks of the rows of a query.
use Rattle.std.proofs.Common.{◌≡◌, ◌≢◌, ◌∙◌, ◌<◌, ℕ, Bool, true, false, Option, Some, None, List, [], ◌∷◌, get_or, is_some, length, map, refl, sym, ap, subst, arith, All, AllPairs}
use Rattle.std.specs.Prelude.{filter}
use Rattle.std.proofs.Math.Logic.{∥∥₁_elim}
use Rattle.std.specs.Coded.{Coded-set, coded_bool}
use Rattle.std.specs.List.{AllByRecursion, AllZip}
use Rattle.std.proofs.lemmas.List.{get_or-map, length-map}
use Rattle.std.proofs.lemmas.List.Elements.{All-from_recursion, recursion_from_All}
use Rattle.semantics.specs.Columns.{Field}
use Rattle.semantics.specs.Syntax.{Predicate, Query}
use Rattle.query_typecheck.specs.declared.scope.Clause.TheVariants as clause
use Rattle.semantics.specs.Names.{kind_at}
use Rattle.query_typecheck.specs.FirstFaults.{query_fault}
use Rattle.semantics.specs.SetFunctions.{functions_of}
use Rattle.semantics.specs.Sets.{grouping_places, sets_of}
use Rattle.query_typecheck.specs.Typing.{IsTyped, IsTypedClause, IsTypedPredicate}
use Rattle.query_typecheck.proofs.WholeLemmas.{none_from_typed, typed_from_none}
use Rattle.group_tables.specs.declared.group.Group.{Group}
use Rattle.group_tables.specs.Fitting.{AreFitting, HasType, IsHeld}
use Rattle.semantics.specs.ResultRows.{set_of, ResultRow}
use Rattle.group_tables.specs.GroupRows.{row_of}
use Rattle.semantics.specs.Rows.{is_having_true, rows_having_true}
use Rattle.semantics.specs.Order.{sorted_rows, row_order}
use Rattle.report_rows.proofs.Filtering.{fit-having_true}
use Rattle.group_tables.proofs.Sorting.{all-in_order}

-- ---- typing

is-none : {A : Type 0} (o : Option A) → is_some o ≡ false → o ≡ None
is-none None e = refl
is-none (Some x) e = absurd cc

-- whether a query is typed is told by a test, so it is typed where that is merely known
pub is-typed : (fields : List Field) (t : Query) → ∥ IsTyped fields t ∥₁ → IsTyped fields t
is-typed fields t typed =
    let one : IsProp (is_some (query_fault fields t) ≡ false) = Coded-set coded_bool _ _ in
    typed_from_none fields t (is-none (query_fault fields t) (∥∥₁_elim typed one (λ h. ap is_some (none_from_typed fields t h))))

pub having-typed : (fields : List Field) (t : Query) (p : Predicate) → ∥ IsTyped fields t ∥₁ → t.having_condition ≡ Some p → IsTypedPredicate fields (grouping_places fields t) clause.Having p
having-typed fields t p typed e = subst (IsTypedClause fields (grouping_places fields t) clause.Having) e (is-typed fields t typed).having_condition

-- ---- one row

all-alone : (P : ResultRow → Type 0) (found : List ResultRow) (i : ℕ) (x : ResultRow) → i < length found → x ≡ get_or found i x → All P found → All P (x ∷ [])
all-alone P found i x lt is h = All-from_recursion P (x ∷ []) (subst P (sym is) (h i x lt), tt)

-- each of the rows fits alone
pub fits-alone : (fields : List Field) (t : Query) (found : List ResultRow) (i : ℕ) (x : ResultRow) → i < length found → x ≡ get_or found i x → AreFitting fields t found → AreFitting fields t (x ∷ [])
fits-alone fields t found i x lt is fit = record {
  indexes = all-alone (λ (row : ResultRow). row.0 < length (sets_of fields t)) found i x lt is fit.indexes;
  keys = all-alone (λ (row : ResultRow). length row.1.key ≡ length (set_of fields t row)) found i x lt is fit.keys;
  key_types = all-alone (λ (row : ResultRow). AllZip (λ place d. IsHeld (kind_at fields place) d) (set_of fields t row) row.1.key) found i x lt is fit.key_types;
  cells = all-alone (λ (row : ResultRow). length row.1.cells ≡ length (functions_of fields t)) found i x lt is fit.cells;
  cell_types = all-alone (λ (row : ResultRow). AllZip (λ f cell. HasType fields f.function cell) (functions_of fields t) row.1.cells) found i x lt is fit.cell_types;
  distinct = none-below;
}
  where
    none-below : AllPairs (λ (a b : ResultRow). a.0 ≡ b.0 → a.1.key ≢ b.1.key) (x ∷ [])
    none-below j k d below within = absurd (omega (arith, below, within))

-- the same of the code's groups
pub group-fits : (fields : List Field) (t : Query) (rows : List (ℕ × Group)) (i : ℕ) (x : ℕ × Group) → i < length rows → x ≡ get_or rows i x → AreFitting fields t (map row_of rows) → AreFitting fields t (row_of x ∷ [])
group-fits fields t rows i x lt is fit =
    let n = length-map rows row_of in
    fits-alone fields t (map row_of rows) i (row_of x) (omega (arith, lt, n)) (ap row_of is ∙ sym (get_or-map row_of rows i x (row_of x) lt)) fit

-- ---- without HAVING

filter-all : (p : ResultRow → Bool) (xs : List ResultRow) → ((x : ResultRow) → p x ≡ true) → filter p xs ≡ xs
filter-all p [] h = refl
filter-all p (x ∷ xs) h = rw (h x) (ap (λ (ys : List ResultRow). x ∷ ys) (filter-all p xs h))

-- HAVING is True of all rows
pub all-having_true : (fields : List Field) (t : Query) (found : List ResultRow) → t.having_condition ≡ None → rows_having_true fields t found ≡ found
all-having_true fields t found e = filter-all (is_having_true fields t) found (λ x. rw e refl)

-- ---- the rows of which HAVING is True, in their order

-- they have indexes of sets
pub within-having_true : (fields : List Field) (t : Query) (found : List ResultRow) → AreFitting fields t found → AllByRecursion (λ x. x.0 < length (sets_of fields t)) (sorted_rows fields t found)
within-having_true fields t found fit =
    let rows = rows_having_true fields t found in
    all-in_order (row_order fields t) (λ x. x.0 < length (sets_of fields t)) rows (recursion_from_All (λ (x : ResultRow). x.0 < length (sets_of fields t)) rows (fit-having_true fields t found fit).indexes)
