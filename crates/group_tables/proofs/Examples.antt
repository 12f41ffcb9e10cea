-- The definitions, computed on examples: the records of three lines with the columns d, r and q.
use Rattle.std.proofs.Common.{◌≡◌, List, [], ◌∷◌, pos, negsuc, Bool, true, false, Some, None, refl, codes}
use Rattle.semantics.specs.Values.{boolean, whole, text, null}
use Rattle.semantics.specs.declared.function.ColumnFunction.{ColumnFunction}
use Rattle.semantics.specs.declared.function.ColumnFunction.TheVariants as function
use Rattle.semantics.specs.Groups.{Record, value_at, groups, keys, members}
use Rattle.semantics.specs.Aggregates.{AggregateFunction, agg, plain, ratio, same_value}

abbrev first : Record
first = text (codes "x") ∷ text (codes "n") ∷ whole (pos 5) ∷ []

abbrev second : Record
second = text (codes "x") ∷ null ∷ whole (pos 2) ∷ []

abbrev third : Record
third = text (codes "y") ∷ text (codes "n") ∷ null ∷ []

abbrev rows : List Record
rows = first ∷ second ∷ third ∷ []

-- a set function without FILTER
abbrev all : ColumnFunction → AggregateFunction
all f = record { function = f; filter = None }

-- a set function with FILTER
abbrev over : ColumnFunction → (Record → Bool) → AggregateFunction
over f keeps = record { function = f; filter = Some keeps }

-- GROUP BY d
keys_of_d : keys (0 ∷ []) rows ≡ (text (codes "x") ∷ []) ∷ (text (codes "y") ∷ []) ∷ []
keys_of_d = refl

members_of_x : members (0 ∷ []) (text (codes "x") ∷ []) rows ≡ first ∷ second ∷ []
members_of_x = refl

count_of_x : agg (all function.CountRows) (first ∷ second ∷ []) ≡ plain (whole (pos 2))
count_of_x = refl

sum_of_x : agg (all (function.Sum 2)) (first ∷ second ∷ []) ≡ plain (whole (pos 7))
sum_of_x = refl

-- the sum of no number is NULL
sum_of_y : agg (all (function.Sum 2)) (third ∷ []) ≡ plain null
sum_of_y = refl

-- NULL is the same as NULL: two records without r are in one group
keys_of_r : keys (1 ∷ []) (second ∷ second ∷ first ∷ []) ≡ (null ∷ []) ∷ (text (codes "n") ∷ []) ∷ []
keys_of_r = refl

members_of_null : members (1 ∷ []) (null ∷ []) (second ∷ first ∷ second ∷ []) ≡ second ∷ second ∷ []
members_of_null = refl

-- without GROUP BY there is one group, also over no records
one_group : groups ([] ∷ []) [] ≡ record { index = 0; key = []; members = [] } ∷ []
one_group = refl

-- a set of columns has no group over no records
no_group : groups ((0 ∷ []) ∷ []) [] ≡ []
no_group = refl

-- the sets have their groups by themselves
two_sets : groups ((0 ∷ []) ∷ [] ∷ []) (third ∷ []) ≡ record { index = 0; key = text (codes "y") ∷ []; members = third ∷ [] } ∷ record { index = 1; key = []; members = third ∷ [] } ∷ []
two_sets = refl

count_of_none : agg (all function.CountRows) [] ≡ plain (whole (pos 0))
count_of_none = refl

-- a sum of numbers of 64 bits that needs more than 64 bits
wide : Record
wide = whole (pos 9223372036854775807) ∷ []

wide_sum : agg (all (function.Sum 0)) (wide ∷ wide ∷ wide ∷ []) ≡ plain (whole (pos 27670116110564327421))
unfolding wide
wide_sum = refl

-- ---- the other functions, over the numbers -3, 4, -3, NULL and 10

abbrev numbers : List Record
numbers = (whole (negsuc 2) ∷ []) ∷ (whole (pos 4) ∷ []) ∷ (whole (negsuc 2) ∷ []) ∷ (null ∷ []) ∷ (whole (pos 10) ∷ []) ∷ []

count_numbers : agg (all (function.Count 0)) numbers ≡ plain (whole (pos 4))
count_numbers = refl

count_different : agg (all (function.CountDistinct 0)) numbers ≡ plain (whole (pos 3))
count_different = refl

least_number : agg (all (function.Min 0)) numbers ≡ plain (whole (negsuc 2))
least_number = refl

greatest_number : agg (all (function.Max 0)) numbers ≡ plain (whole (pos 10))
greatest_number = refl

average_number : agg (all (function.Avg 0)) numbers ≡ ratio (pos 8) 4
average_number = refl

-- ---- two columns, of texts and of truth values

abbrev both : List Record
both = (text (codes "b") ∷ boolean true ∷ []) ∷ (text (codes "Z") ∷ boolean false ∷ []) ∷ (null ∷ null ∷ []) ∷ (text (codes "ba") ∷ boolean true ∷ []) ∷ []

least_text : agg (all (function.Min 0)) both ≡ plain (text (codes "Z"))
least_text = refl

greatest_text : agg (all (function.Max 0)) both ≡ plain (text (codes "ba"))
greatest_text = refl

different_texts : agg (all (function.CountDistinct 0)) both ≡ plain (whole (pos 3))
different_texts = refl

least_truth_value : agg (all (function.Min 1)) both ≡ plain (boolean false)
least_truth_value = refl

greatest_truth_value : agg (all (function.Max 1)) both ≡ plain (boolean true)
greatest_truth_value = refl

different_truth_values : agg (all (function.CountDistinct 1)) both ≡ plain (whole (pos 2))
different_truth_values = refl

-- the order of the columns of a set is that of its list, and NULL in one column is not NULL in the
-- other
turned_keys : keys (1 ∷ 0 ∷ []) ((text (codes "a") ∷ null ∷ []) ∷ (null ∷ text (codes "a") ∷ []) ∷ (null ∷ null ∷ []) ∷ [])
    ≡ (null ∷ text (codes "a") ∷ []) ∷ (text (codes "a") ∷ null ∷ []) ∷ (null ∷ null ∷ []) ∷ []
turned_keys = refl

-- ---- over no value

sum_of_none : agg (all (function.Sum 0)) ((null ∷ []) ∷ []) ≡ plain null
sum_of_none = refl

count_different_of_none : agg (all (function.CountDistinct 0)) ((null ∷ []) ∷ []) ≡ plain (whole (pos 0))
count_different_of_none = refl

greatest_of_none : agg (all (function.Max 0)) ((null ∷ []) ∷ []) ≡ plain null
greatest_of_none = refl

least_of_none : agg (all (function.Min 0)) ((null ∷ []) ∷ []) ≡ plain null
least_of_none = refl

average_of_none : agg (all (function.Avg 0)) ((null ∷ []) ∷ []) ≡ plain null
average_of_none = refl

-- ---- with FILTER

-- FILTER (WHERE r IS NULL)
abbrev without_r : Record → Bool
without_r row = same_value (value_at 1 row) null

-- no record
abbrev none : Record → Bool
none row = false

count_without_r : agg (over function.CountRows without_r) rows ≡ plain (whole (pos 1))
count_without_r = refl

sum_without_r : agg (over (function.Sum 2) without_r) rows ≡ plain (whole (pos 2))
sum_without_r = refl

-- where the filter leaves nothing, the value is that of no record
count_of_nothing : agg (over function.CountRows none) rows ≡ plain (whole (pos 0))
count_of_nothing = refl

least_of_nothing : agg (over (function.Min 2) none) rows ≡ plain null
least_of_nothing = refl

different_of_nothing : agg (over (function.CountDistinct 0) none) rows ≡ plain (whole (pos 0))
different_of_nothing = refl
