-- Where the rows of grouping sets have what they show.
use Rattle.std.proofs.Common.{◌≡◌, ◌∙◌, ◌+◌, ◌<◌, ◌++◌, ℕ, zero, suc, List, [], ◌∷◌, length, map, take, get_or, slice_index_or, refl, sym, ap, subst, add-one, arith}
use Rattle.std.specs.Global.{Vec}
use Rattle.std.proofs.lemmas.List.{get_or-map}
use Rattle.semantics.specs.Syntax.{Expression, SelectItem, SortKey}
use Rattle.semantics.specs.Types.{key_expression}
use Rattle.semantics.specs.Values.{Datum, null}
use Rattle.semantics.specs.Sets.{sets_of}
use Rattle.semantics.specs.ResultRows.{ResultRow}
use Rattle.semantics.specs.Order.{key_value}
use Rattle.semantics.specs.Rows.{cell_value, expression_value}
use Rattle.query_plan.specs.Planned.{PlannedQuery}
use Rattle.report_rows.specs.declared.source.ValueSource.{ValueSource}
use Rattle.report_rows.specs.Inside.SortEntries.{coded_value, value_there}
use Rattle.report_rows.specs.Inside.Sources.{AreSourcesBySet, AreSourcesFor}
use Rattle.report_rows.specs.Sources.{AreSourcesOf, AreSourcesOfEach, ForEachSet, shown_at, sources_at}
use Rattle.report_rows.proofs.Maps.{map-twice}

-- ---- a list for each grouping set

module _ (Are : List ℕ → List ValueSource → Type 0) where
  next : (sets : List (List ℕ)) (all : List (Vec ValueSource)) (i : ℕ) (sources : Vec ValueSource) → i < length sets → ForEachSet Are (take i sets) all → Are (get_or sets i []) sources.items
      → ForEachSet Are (take (suc i) sets) (all ++ sources ∷ [])
  next [] all i sources within each is = absurd (omega (arith, within))
  next (set ∷ sets) [] zero sources within each is = (is, tt)
  next (set ∷ sets) (first ∷ all) zero sources within each is = absurd each
  next (set ∷ sets) [] (suc i) sources within each is = absurd each
  next (set ∷ sets) (first ∷ all) (suc i) sources within each is = (each.0, next sets all i sources (omega (arith, within)) each.1 is)

  -- that of one more grouping set
  pub each-next : (sets : List (List ℕ)) (all : List (Vec ValueSource)) (i : ℕ) (sources : Vec ValueSource) → i < length sets → ForEachSet Are (take i sets) all → Are (get_or sets i []) sources.items
      → ForEachSet Are (take (i + 1) sets) (all ++ sources ∷ [])
  each-next sets all i sources within each is = subst (λ n. ForEachSet Are (take n sets) (all ++ sources ∷ [])) (sym (add-one i)) (next sets all i sources within each is)

  -- there are as many as grouping sets
  pub each-count : (sets : List (List ℕ)) (all : List (Vec ValueSource)) → ForEachSet Are sets all → length all ≡ length sets
  each-count [] [] each = refl
  each-count [] (first ∷ all) each = absurd each
  each-count (set ∷ sets) [] each = absurd each
  each-count (set ∷ sets) (first ∷ all) each = ap suc (each-count sets all each.1)

  -- the one at an index is that of the set at it
  pub each-at : (sets : List (List ℕ)) (all : List (Vec ValueSource)) (i : ℕ) → i < length sets → ForEachSet Are sets all → Are (get_or sets i []) (sources_at all i)
  each-at [] all i within each = absurd (omega (arith, within))
  each-at (set ∷ sets) [] i within each = absurd each
  each-at (set ∷ sets) (first ∷ all) zero within each = each.0
  each-at (set ∷ sets) (first ∷ all) (suc i) within each = each-at sets all i (omega (arith, within)) each.1

-- ---- the items of SELECT

-- what a set has for the expressions of the items is what it has for the items
pub items-each : (plan : PlannedQuery) (es : List Expression) (sets : List (List ℕ)) (all : List (Vec ValueSource)) → es ≡ map (λ item. item.expression) plan.query.items
    → ForEachSet (AreSourcesFor plan es) sets all → AreSourcesOfEach plan sets all
items-each plan es [] [] is each = tt
items-each plan es [] (first ∷ all) is each = absurd each
items-each plan es (set ∷ sets) [] is each = absurd each
items-each plan es (set ∷ sets) (first ∷ all) is each = (
  λ key cells.
      each.0 key cells
      ∙ ap (map (expression_value plan.fields plan.query set key cells)) is
      ∙ map-twice (expression_value plan.fields plan.query set key cells) (λ (item : SelectItem). item.expression) plan.query.items,
  items-each plan es sets all is each.1,
)

pub sources-count : (plan : PlannedQuery) (sets : List (List ℕ)) (all : List (Vec ValueSource)) → AreSourcesOfEach plan sets all → length all ≡ length sets
sources-count plan sets all each = each-count (AreSourcesOf plan) sets all each

pub sources-at : (plan : PlannedQuery) (sets : List (List ℕ)) (all : List (Vec ValueSource)) (i : ℕ) → i < length sets → AreSourcesOfEach plan sets all → AreSourcesOf plan (get_or sets i []) (sources_at all i)
sources-at plan sets all i within each = each-at (AreSourcesOf plan) sets all i within each

-- ---- the keys of ORDER BY

-- the value that a row has for a key at such places is that of the key
pub value-by-set : (plan : PlannedQuery) (k : SortKey) (sources : List ValueSource) (row : ResultRow) → AreSourcesBySet plan (key_expression plan.query.items k.expression) (sets_of plan.fields plan.query) sources
    → row.0 < length (sets_of plan.fields plan.query) → coded_value row (k, sources) ≡ key_value plan.fields plan.query row k
value-by-set plan k sources row each within =
    let sets = sets_of plan.fields plan.query in
    let there = shown_at row.1.key row.1.cells in
    let shown = λ (set : List ℕ). expression_value plan.fields plan.query set row.1.key row.1.cells (key_expression plan.query.items k.expression) in
    let value = λ (set : List ℕ). cell_value (shown set) in
    let values : map (value_there row) sources ≡ map value sets = sym (map-twice cell_value there sources) ∙ ap (map cell_value) (each row.1.key row.1.cells) ∙ map-twice cell_value shown sets in
    ap (λ (vs : List Datum). slice_index_or vs row.0 null) values
    ∙ get_or-map value sets row.0 [] null within
