-- The places of a query's grouping columns, and those that its set functions take, are places of
-- columns.
use Rattle.std.proofs.Common.{◌≡◌, ◌==◌, ◌<◌, ℕ, List, [], length, Option, Some, None, refl, subst, arith}
use Rattle.std.proofs.lemmas.List.{length-map}
use Rattle.std.proofs.lemmas.List.Quantifiers.{position-Some}
use Rattle.std.specs.List.{filter_map}
use Rattle.std.specs.Option.{option_map}
use Rattle.std.specs.Str.{bytes_eq}
use Rattle.query_resolve.specs.Functions.{filters_of, indexed_function, indexed_functions}
use Rattle.semantics.specs.Columns.{Field, names_of}
use Rattle.semantics.specs.declared.aggregate.Aggregate.{Aggregate}
use Rattle.semantics.specs.declared.aggregate.Aggregate.TheVariants as aggregate
use Rattle.semantics.specs.declared.function.ColumnFunction.{ColumnFunction}
use Rattle.semantics.specs.declared.function.ColumnFunction.TheVariants as function
use Rattle.semantics.specs.Inside.Same.{same_planned}
use Rattle.semantics.specs.Names.{place_of, places_of, PlannedFunction, aggregate_of, column_function, filter_of, planned_function}
use Rattle.semantics.specs.SetFunctions.{functions_of, set_functions}
use Rattle.semantics.specs.Sets.{grouping_names, grouping_places}
use Rattle.semantics.specs.Syntax.{SetFunction, Predicate, Query}
use Rattle.group_tables.specs.Typed.{AreColumns, HasColumn, HaveColumns}
use Rattle.tables.proofs.Bags.{all-distinct, all-everywhere, all-filter_map, all-map}

abbrev IsPlace : List Field → ℕ → Type 0
IsPlace fields place = place < length fields

place-within : (fields : List Field) (name : List ℕ) (place : ℕ) → place_of fields name ≡ Some place → IsPlace fields place
place-within fields name place e =
    let at = position-Some (bytes_eq name) (names_of fields) place [] e in
    let long = length-map fields (λ (f : Field). f.name) in
    omega (arith, at.0, long)

-- the grouping columns are columns
pub grouping-columns : (fields : List Field) (t : Query) → AreColumns fields (grouping_places fields t)
grouping-columns fields t =
    all-distinct (IsPlace fields) (λ a b. a == b) (places_of fields (grouping_names t))
    (all-filter_map (IsPlace fields) (place_of fields) (grouping_names t)
    (all-everywhere _ (grouping_names t) (place-within fields)))

-- ---- the columns of set functions

same_function_of : (f g : ColumnFunction) → Some f ≡ Some g → f ≡ g
same_function_of f g e = cc

placed : (P : ColumnFunction → Type 0) (at : ℕ → ColumnFunction) (o : Option ℕ) (f : ColumnFunction) → option_map at o ≡ Some f
    → ((place : ℕ) → o ≡ Some place → P (at place)) → P f
placed P at None f e h = cc
placed P at (Some place) f e h = subst P (same_function_of (at place) f e) (h place refl)

of_column : (fields : List Field) (a : Aggregate) (f : ColumnFunction) → column_function fields a ≡ Some f → HasColumn fields f
of_column fields aggregate.CountRows f e = subst (HasColumn fields) (same_function_of function.CountRows f e) tt
of_column fields (aggregate.Count x) f e = placed (HasColumn fields) function.Count (place_of fields x) f e (λ place is. tt)
of_column fields (aggregate.CountDistinct x) f e = placed (HasColumn fields) function.CountDistinct (place_of fields x) f e (λ place is. tt)
of_column fields (aggregate.Sum x) f e = placed (HasColumn fields) function.Sum (place_of fields x) f e (λ place is. tt)
of_column fields (aggregate.Min x) f e = placed (HasColumn fields) function.Min (place_of fields x) f e (place-within fields x)
of_column fields (aggregate.Max x) f e = placed (HasColumn fields) function.Max (place_of fields x) f e (place-within fields x)
of_column fields (aggregate.Avg x) f e = placed (HasColumn fields) function.Avg (place_of fields x) f e (λ place is. tt)

same_planned_of : (f g : PlannedFunction) → Some f ≡ Some g → f ≡ g
same_planned_of f g e = cc

planned : (fields : List Field) (o : Option ColumnFunction) (t : Option Predicate) (f : PlannedFunction) → option_map (λ g. record { function = g; filter = t }) o ≡ Some f
    → ((g : ColumnFunction) → o ≡ Some g → HasColumn fields g) → HasColumn fields f.function
planned fields None t f e h = cc
planned fields (Some g) t f e h = subst (λ (p : PlannedFunction). HasColumn fields p.function) (same_planned_of (record { function = g; filter = t }) f e) (h g refl)

of_function : (fields : List Field) (g : SetFunction) (f : PlannedFunction) → planned_function fields g ≡ Some f → HasColumn fields f.function
of_function fields g f e = planned fields (column_function fields (aggregate_of g)) (filter_of g) f e (of_column fields (aggregate_of g))

abbrev Takes : List Field → PlannedFunction → Type 0
Takes fields f = HasColumn fields f.function

-- the set functions of a query have their columns
pub functions-columns : (fields : List Field) (t : Query) → HaveColumns fields (indexed_functions fields t)
functions-columns fields t =
    all-map (λ f. HasColumn fields f.function) (indexed_function (filters_of fields t)) (functions_of fields t)
    (all-distinct (Takes fields) same_planned (filter_map (planned_function fields) (set_functions t))
    (all-filter_map (Takes fields) (planned_function fields) (set_functions t)
    (all-everywhere _ (set_functions t) (of_function fields))))
