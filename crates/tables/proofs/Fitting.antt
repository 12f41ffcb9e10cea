-- Groups of the types of columns and set functions, those of each grouping set, fit the query.
use Rattle.std.proofs.Common.{◌≡◌, ◌≢◌, ◌+◌, ◌<◌, ◌≤◌, ℕ, zero, suc, List, [], ◌∷◌, ◌++◌, length, map, get_or, Vec, Global, ap, subst, sym, ◌∙◌, arith}
use Rattle.std.proofs.lemmas.List.Elements.{All-from_recursion, recursion_from_All}
use Rattle.std.proofs.lemmas.List.Kept.{AllPairs-cons}
use Rattle.std.proofs.lemmas.Slice.Zip.{AllZip-long}
use Rattle.std.specs.Prelude.{⊤, All}
use Rattle.std.specs.List.{AllByRecursion, AllPairs, AllZip, slice_index_or}
use Rattle.query_resolve.specs.declared.function.FilteredFunction.{FilteredFunction}
use Rattle.query_resolve.specs.Functions.{filters_of, indexed_function, indexed_functions}
use Rattle.semantics.specs.Aggregates.{CellValue}
use Rattle.semantics.specs.Columns.{Field}
use Rattle.semantics.specs.ResultRows.{ResultRow, GroupSummary}
use Rattle.semantics.specs.Names.{PlannedFunction}
use Rattle.semantics.specs.SetFunctions.{functions_of}
use Rattle.semantics.specs.Sets.{sets_of}
use Rattle.semantics.specs.Syntax.{Predicate, Query}
use Rattle.group_tables.specs.declared.group.Group.{Group}
use Rattle.group_tables.specs.Fitting.{AreFitting, HasType}
use Rattle.group_tables.specs.GroupRows.{rows_from}
use Rattle.group_tables.specs.GroupSummaries.{group_summary_in}
use Rattle.group_tables.specs.Typed.{AreOfTypes, IsKeyOf}
use Rattle.tables.proofs.Bags.{all-append}

-- ---- things of which each is apart from all later ones

abbrev ArePairs : {X : Type 0} → (X → X → Type 0) → List X → Type 0
ArePairs R [] = ⊤
ArePairs R (x ∷ xs) = AllByRecursion (R x) xs × ArePairs R xs

all-pairs : {X : Type 0} (R : X → X → Type 0) (xs : List X) → ArePairs R xs → AllPairs R xs
all-pairs R [] h = λ i j d l m. absurd (omega (arith, m))
all-pairs R (x ∷ xs) h = AllPairs-cons R x xs (All-from_recursion (R x) xs h.0) (all-pairs R xs h.1)

pairs-from : {X : Type 0} (R : X → X → Type 0) (xs : List X) → AllPairs R xs → ArePairs R xs
pairs-from R [] h = tt
pairs-from R (x ∷ xs) h = (
  recursion_from_All (R x) xs (λ k d l. h zero (suc k) d (omega arith) (omega (arith, l))),
  pairs-from R xs (λ i j d l m. h (suc i) (suc j) d (omega (arith, l)) (omega (arith, m))),
)

pairs-append : {X : Type 0} (R : X → X → Type 0) (xs ys : List X) → ArePairs R xs → ArePairs R ys → AllByRecursion (λ x. AllByRecursion (R x) ys) xs
    → ArePairs R (xs ++ ys)
pairs-append R [] ys a b c = b
pairs-append R (x ∷ xs) ys a b c = (all-append (R x) xs ys a.0 c.0, pairs-append R xs ys a.1 b c.1)

-- ---- the groups of one set

abbrev with_index : ℕ → Group → ResultRow
with_index n group = (n, group_summary_in group)

-- a row is of another group than another one
abbrev Differs : ResultRow → ResultRow → Type 0
Differs x y = x.0 ≡ y.0 → x.1.key ≢ y.1.key

abbrev DifferInKey : GroupSummary → GroupSummary → Type 0
DifferInKey x y = x.key ≢ y.key

others-differ : (n : ℕ) (x : GroupSummary) (gs : List Group) → AllByRecursion (DifferInKey x) (map group_summary_in gs)
    → AllByRecursion (Differs (n, x)) (map (with_index n) gs)
others-differ n x [] h = tt
others-differ n x (g ∷ gs) h = (λ _. h.0, others-differ n x gs h.1)

set-differs : (n : ℕ) (gs : List Group) → ArePairs DifferInKey (map group_summary_in gs) → ArePairs Differs (map (with_index n) gs)
set-differs n [] h = tt
set-differs n (g ∷ gs) h = (others-differ n (group_summary_in g) gs h.0, set-differs n gs h.1)

later-differ : (n m : ℕ) (x : GroupSummary) (rows : List ResultRow) → n < m → AllByRecursion (λ row. m ≤ row.0) rows → AllByRecursion (Differs (n, x)) rows
later-differ n m x [] l h = tt
later-differ n m x (row ∷ rows) l h = (λ e. absurd (let a = h.0 in omega (arith, e, a, l)), later-differ n m x rows l h.1)

all-later : (n m : ℕ) (gs : List Group) (rows : List ResultRow) → n < m → AllByRecursion (λ row. m ≤ row.0) rows
    → AllByRecursion (λ x. AllByRecursion (Differs x) rows) (map (with_index n) gs)
all-later n m [] rows l h = tt
all-later n m (g ∷ gs) rows l h = (later-differ n m (group_summary_in g) rows l h, all-later n m gs rows l h)

at-index : (n m : ℕ) (gs : List Group) → n ≤ m → AllByRecursion (λ (row : ResultRow). n ≤ row.0) (map (with_index m) gs)
at-index n m [] l = tt
at-index n m (g ∷ gs) l = (l, at-index n m gs l)

-- the rows of the later sets have the later indexes
from-index : (n m : ℕ) (groups : List (Vec Group Global)) → n ≤ m → AllByRecursion (λ (row : ResultRow). n ≤ row.0) (rows_from m groups)
from-index n m [] l = tt
from-index n m (gs ∷ groups) l =
    all-append (λ (row : ResultRow). n ≤ row.0) (map (with_index m) gs.items) (rows_from (m + 1) groups) (at-index n m gs.items l) (from-index n (m + 1) groups (omega (arith, l)))

-- ---- the groups of all sets

module _ (fields : List Field) (functions : List FilteredFunction) where
  abbrev HaveTypes : List CellValue → Type 0
  HaveTypes cells = AllZip (λ f cell. HasType fields f.function cell) functions cells

  abbrev pub AreTyped : List ℕ → Vec Group Global → Type 0
  AreTyped set groups = AreOfTypes fields set functions (map group_summary_in groups.items)

  rows-differ : (n : ℕ) (sets : List (List ℕ)) (groups : List (Vec Group Global)) → AllZip AreTyped sets groups → ArePairs Differs (rows_from n groups)
  rows-differ n [] [] h = tt
  rows-differ n [] (gs ∷ groups) h = absurd h
  rows-differ n (set ∷ sets) [] h = absurd h
  rows-differ n (set ∷ sets) (gs ∷ groups) h =
      let later = rows_from (n + 1) groups in
      pairs-append Differs (map (with_index n) gs.items) later
      (set-differs n gs.items (pairs-from DifferInKey (map group_summary_in gs.items) h.0.distinct))
      (rows-differ (n + 1) sets groups h.1)
      (all-later n (n + 1) gs.items later (omega arith) (from-index (n + 1) (n + 1) groups (omega arith)))

  module _ (whole : List (List ℕ)) where
    -- the index of a row is that of a set, and its key and its cells have the types of the set and
    -- of the functions
    abbrev Fits : ResultRow → Type 0
    Fits row = (row.0 < length whole) × IsKeyOf fields (slice_index_or whole row.0 []) row.1.key × HaveTypes row.1.cells

    set-fits : (n : ℕ) (set : List ℕ) (gs : List Group) → n < length whole → slice_index_or whole n [] ≡ set
        → AllByRecursion (λ g. IsKeyOf fields set g.key) (map group_summary_in gs) → AllByRecursion (λ g. HaveTypes g.cells) (map group_summary_in gs)
        → AllByRecursion Fits (map (with_index n) gs)
    set-fits n set [] l e keys cells = tt
    set-fits n set (g ∷ gs) l e keys cells = ((l, subst (λ s. IsKeyOf fields s (group_summary_in g).key) (sym e) keys.0, cells.0), set-fits n set gs l e keys.1 cells.1)

    pub rows-fit : (n : ℕ) (sets : List (List ℕ)) (groups : List (Vec Group Global)) → n + length sets ≡ length whole
        → ((i : ℕ) → i < length sets → slice_index_or whole (n + i) [] ≡ slice_index_or sets i [])
        → AllZip AreTyped sets groups → AllByRecursion Fits (rows_from n groups)
    rows-fit n [] [] l at h = tt
    rows-fit n [] (gs ∷ groups) l at h = absurd h
    rows-fit n (set ∷ sets) [] l at h = absurd h
    rows-fit n (set ∷ sets) (gs ∷ groups) l at h =
        let first : slice_index_or whole n [] ≡ set = ap (λ m. slice_index_or whole m []) (let e : n ≡ n + 0 = omega arith in e) ∙ at 0 (omega arith) in
        let summaries = map group_summary_in gs.items in
        all-append Fits (map (with_index n) gs.items) (rows_from (n + 1) groups)
        (set-fits n set gs.items (omega (arith, l)) first
        (recursion_from_All (λ g. IsKeyOf fields set g.key) summaries h.0.keys)
        (recursion_from_All (λ g. HaveTypes g.cells) summaries h.0.cells))
        (rows-fit (n + 1) sets groups (omega (arith, l))
        (λ i m. ap (λ k. slice_index_or whole k []) (let e : n + 1 + i ≡ n + suc i = omega arith in e) ∙ at (suc i) (omega (arith, m))) h.1)

-- ---- they fit the query

-- each cell has the type of its set function, whatever the index of its filter
cells-of : (fields : List Field) (filters : List Predicate) (fs : List PlannedFunction) (cells : List CellValue)
    → AllZip (λ f cell. HasType fields f.function cell) (map (indexed_function filters) fs) cells → AllZip (λ f cell. HasType fields f.function cell) fs cells
cells-of fields filters [] [] h = h
cells-of fields filters [] (cell ∷ cells) h = h
cells-of fields filters (f ∷ fs) [] h = h
cells-of fields filters (f ∷ fs) (cell ∷ cells) h = (h.0, cells-of fields filters fs cells h.1)

pub fitting-from_types : (fields : List Field) (t : Query) (groups : List (Vec Group Global)) → AllZip (AreTyped fields (indexed_functions fields t)) (sets_of fields t) groups
    → AreFitting fields t (rows_from 0 groups)
fitting-from_types fields t groups h =
    let sets = sets_of fields t in
    let found = rows_from 0 groups in
    let each : All (Fits fields (indexed_functions fields t) sets) found = All-from_recursion (Fits fields (indexed_functions fields t) sets) found
    (rows-fit fields (indexed_functions fields t) sets 0 sets groups (omega arith) (λ i l. ap (λ m. slice_index_or sets m []) (let e : 0 + i ≡ i = omega arith in e)) h) in
    let cells : All (λ row. AllZip (λ f cell. HasType fields f.function cell) (functions_of fields t) row.1.cells) found = λ k d l. cells-of fields (filters_of fields t) (functions_of fields t) (get_or found k d).1.cells (each k d l).2 in
    record {
      indexes = λ k d l. (each k d l).0;
      keys = λ k d l. AllZip-long _ _ _ (each k d l).1;
      key_types = λ k d l. (each k d l).1;
      cells = λ k d l. AllZip-long _ _ _ (cells k d l);
      cell_types = cells;
      distinct = all-pairs Differs found (rows-differ fields (indexed_functions fields t) 0 sets groups h);
    }
