-- The grouping sets of a query (ISO/IEC 9075-2, <group by clause>). What ROLLUP and CUBE mean, set
-- by set, is said by `rollup_law` and `cube_law` of query_resolve; how the elements of GROUP BY are
-- put together, by `cross_product_law`; what DISTINCT leaves, by `distinct_law`.
use Rattle.std.specs.List.{flat_map, list_all, list_any}
use Rattle.std.specs.Prelude.{ℕ, ◌==◌, Bool, ◌&&◌, List, [], ◌∷◌, ◌++◌, map, filter, if◌then◌else◌}
use Rattle.semantics.specs.Columns.{Field}
use Rattle.semantics.specs.Names.{group_names, places_of}
use Rattle.semantics.specs.Lists.{distinct}
use Rattle.semantics.specs.Syntax.{GroupingElement, GroupingElements, Query, set, rollup, cube, sets, no_groups, group}

-- ROLLUP stands for the sets of its first n units, of its first n-1, and so on to the empty set.
abbrev pub rollup_sets : {A : Type 0} → List (List A) → List (List A)
rollup_sets [] = [] ∷ []
rollup_sets (unit ∷ units) = map (λ s. unit ++ s) (rollup_sets units) ++ ([] ∷ [])

-- CUBE stands for the sets of all subsets of its units: those with the first unit, then those
-- without it.
abbrev pub cube_sets : {A : Type 0} → List (List A) → List (List A)
cube_sets [] = [] ∷ []
cube_sets (unit ∷ units) = map (λ s. unit ++ s) (cube_sets units) ++ cube_sets units

-- The union of each set of the first list with each of the second, the first list varying slowest.
abbrev pub cross_product : {A : Type 0} → List (List A) → List (List A) → List (List A)
cross_product firsts seconds = flat_map (λ first. map (λ second. first ++ second) seconds) firsts

abbrev mutual
  -- The sets that an element of GROUP BY stands for, each as its names are written.
  pub group_sets : GroupingElement → List (List (List ℕ))
  group_sets (set names) = names ∷ []
  group_sets (rollup units) = rollup_sets units
  group_sets (cube units) = cube_sets units
  group_sets (sets gs) = groups_sets gs

  -- Those of the elements of GROUPING SETS, one after the other.
  pub groups_sets : GroupingElements → List (List (List ℕ))
  groups_sets no_groups = []
  groups_sets (group g gs) = group_sets g ++ groups_sets gs

-- The sets that a GROUP BY list stands for: the cross product of its elements, of which the
-- leftmost varies slowest. Without GROUP BY there is one set, the empty one.
abbrev pub expansion : List GroupingElement → List (List (List ℕ))
expansion [] = [] ∷ []
expansion (g ∷ gs) = cross_product (group_sets g) (expansion gs)

-- The names in GROUP BY, from left to right.
abbrev pub grouping_names : Query → List (List ℕ)
grouping_names t = flat_map group_names t.groups

-- The places of the grouping columns, in the order in which GROUP BY first names them.
abbrev pub grouping_places : List Field → Query → List ℕ
grouping_places fields t = distinct (λ a b. a == b) (places_of fields (grouping_names t))

-- A set of columns in the order of the grouping columns, each once.
abbrev pub ordered_set : List ℕ → List ℕ → List ℕ
ordered_set grouping places = filter (λ c. list_any (λ p. p == c) places) grouping

-- The expanded list of grouping sets of a query, each as the places of its columns, in the order in
-- which GROUP BY first names them.
abbrev pub expanded_sets : List Field → Query → List (List ℕ)
expanded_sets fields t =
    map (λ names. ordered_set (grouping_places fields t) (places_of fields names))
    (expansion t.groups)

-- Whether two sets have the same columns, in whatever order and however often.
abbrev pub same_columns : List ℕ → List ℕ → Bool
same_columns first second =
    list_all (λ c. list_any (λ p. p == c) second) first
    && list_all (λ c. list_any (λ p. p == c) first) second

-- The grouping sets of a query: its expanded list, and if GROUP BY DISTINCT is written, that
-- list without each set that has the same columns as an earlier one.
abbrev pub sets_of : List Field → Query → List (List ℕ)
sets_of fields t =
    if t.distinct_sets then distinct same_columns (expanded_sets fields t)
    else expanded_sets fields t
