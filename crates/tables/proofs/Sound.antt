-- How many records the groups of a partial result have, and of which types they are.
use Rattle.std.proofs.Common.{◌≡◌, ◌+◌, ◌-◌, ◌<◌, ◌≤◌, ◌^◌, ℕ, List, [], ◌∷◌, length, map, Option, IfSome, refl, sym, ap, subst, ◌∙◌, sum_by, arith}
use Rattle.std.proofs.lemmas.List.Sums.{sum_by-cons}
use Rattle.std.proofs.lemmas.List.{nil_from_length}
use Rattle.std.specs.FinMap as fin
use Rattle.query_resolve.specs.declared.function.FilteredFunction.{FilteredFunction}
use Rattle.query_resolve.specs.Functions.{indexed_functions}
use Rattle.semantics.specs.Aggregates.{AggregateFunction}
use Rattle.semantics.specs.Columns.{Field}
use Rattle.semantics.specs.ResultRows.{aggregate_functions}
use Rattle.semantics.specs.Groups.{Key, Record, key_order}
use Rattle.semantics.specs.Sets.{grouping_places}
use Rattle.group_tables.specs.Entries.{entry_at, table_entries}
use Rattle.group_tables.specs.Group.{GroupState}
use Rattle.group_tables.specs.Table.{CanJoin, Contents, HasFewRecords, IsCounted, IsTableOf, both_tables, lines_of}
use Rattle.group_tables.specs.Typed.{AllFit, IsTypedTable}
use Rattle.group_tables.proofs.Counted.{both-counted, counted-within, records-counted}
use Rattle.group_tables.proofs.Joint.{both_tables-has}
use Rattle.group_tables.proofs.Meaning.{within-can_join}
use Rattle.group_tables.proofs.Typed.{both-typed, none-typed, records-typed}
use Rattle.tables.specs.Functions.{filter_tests}
use Rattle.tables.proofs.Bound.{bound-functions}
use Rattle.tables.proofs.Columns.{functions-columns, grouping-columns}
use Rattle.query_plan.specs.Planned.{PlannedQuery}

-- ---- of records

-- the groups of a query's table have no more records than the table is of
pub table-counted : (plan : PlannedQuery) (table : Contents) (rows : List Record) (most : ℕ)
    → IsTableOf (grouping_places plan.fields plan.query) (aggregate_functions plan.fields plan.query) table rows → length rows ≤ most → IsCounted most (indexed_functions plan.fields plan.query) table
table-counted plan table rows most is few =
    records-counted most (grouping_places plan.fields plan.query) (indexed_functions plan.fields plan.query) (filter_tests plan) table rows
    (subst (λ (fs : List AggregateFunction). IsTableOf (grouping_places plan.fields plan.query) fs table rows) (sym (bound-functions plan)) is) few

-- and have the types of its columns and set functions, where the records fit the columns
pub table-typed : (plan : PlannedQuery) (table : Contents) (rows : List Record)
    → IsTableOf (grouping_places plan.fields plan.query) (aggregate_functions plan.fields plan.query) table rows → AllFit plan.fields rows
    → IsTypedTable plan.fields (grouping_places plan.fields plan.query) (indexed_functions plan.fields plan.query) table
table-typed plan table rows is fit =
    records-typed plan.fields (grouping_places plan.fields plan.query) (indexed_functions plan.fields plan.query) (filter_tests plan) table rows
    (subst (λ (fs : List AggregateFunction). IsTableOf (grouping_places plan.fields plan.query) fs table rows) (sym (bound-functions plan)) is) fit
    (grouping-columns plan.fields plan.query) (functions-columns plan.fields plan.query)

-- ---- whatever the records are

pub counted-more : (functions : List FilteredFunction) (m n : ℕ) (table : Contents) → m ≤ n → IsCounted m functions table → IsCounted n functions table
counted-more functions m n table more counted = record { lines = λ ks distinct. (let a = counted.lines ks distinct in omega (arith, a, more)); parts = counted.parts }

pub counted-few : (functions others : List FilteredFunction) (lines : ℕ) (table : Contents) → functions ≡ others → lines < 2 ^ 63 → IsCounted lines functions table
    → HasFewRecords others table
counted-few functions others lines table e few counted =
    subst (λ (fs : List FilteredFunction). HasFewRecords fs table) e (counted-more functions lines (2 ^ 63 - 1) table (omega (arith, few)) counted)

-- ---- of a table without groups

empty-lines : (ks : List Key) → sum_by (λ k. lines_of (fin.get (fin.empty {X = GroupState} {R = key_order}) k)) ks ≡ 0
empty-lines [] = refl
empty-lines (k ∷ ks) =
    let here = ap lines_of (fin.get-empty {X = GroupState} key_order k) in
    let rest = empty-lines ks in
    omega (arith, here, rest, sum_by-cons (λ j. lines_of (fin.get (fin.empty {X = GroupState} {R = key_order}) j)) k ks)

pub empty-counted : (functions : List FilteredFunction) (table : Contents) → table ≡ fin.empty → IsCounted 0 functions table
empty-counted functions table e = subst (IsCounted 0 functions) (sym e) (record {
  lines = λ ks distinct. (let a = empty-lines ks in omega (arith, a));
  parts = λ k. subst (λ (o : Option GroupState). IfSome o (λ group. length group.parts ≡ length functions)) (sym (fin.get-empty key_order k)) tt;
})

pub empty-typed : (fields : List Field) (set : List ℕ) (functions : List FilteredFunction) (table : Contents) → table ≡ fin.empty → IsTypedTable fields set functions table
empty-typed fields set functions table e = subst (IsTypedTable fields set functions) (sym e) (none-typed fields set functions fin.empty (λ k. fin.get-empty key_order k))

pub empty-entries : (table : Contents) → table ≡ fin.empty → table_entries table ≡ []
empty-entries table e =
    ap table_entries e
    ∙ ap (map entry_at) (nil_from_length (fin.entries (fin.empty {X = GroupState} {R = key_order}))
    (sym (fin.len-entries (fin.empty {X = GroupState} {R = key_order})) ∙ fin.len-empty key_order GroupState))

-- ---- of two tables, put together

module _ (functions others : List FilteredFunction) (m n : ℕ) (first second : Contents) (same : functions ≡ others)
    (a : IsCounted m functions first) (b : IsCounted n others second) where
  moved : IsCounted n functions second
  moved = subst (λ (fs : List FilteredFunction). IsCounted n fs second) (sym same) b

  pub counted-can_join : m + n < 2 ^ 63 → CanJoin first second
  counted-can_join few =
      within-can_join functions m n first second few (counted-within m functions first a) (counted-within n functions second moved)

  pub counted-both : IsCounted (m + n) functions (both_tables first second)
  counted-both = both-counted m n functions first second (both_tables first second) a moved (both_tables-has first second)

pub typed-both : (fields : List Field) (set : List ℕ) (functions : List FilteredFunction) (first second : Contents)
    → IsTypedTable fields set functions first → IsTypedTable fields set functions second → IsTypedTable fields set functions (both_tables first second)
typed-both fields set functions first second a b = both-typed fields set functions first second (both_tables first second) a b (both_tables-has first second)
