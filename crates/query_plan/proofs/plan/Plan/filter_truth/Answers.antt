use Rattle.std.proofs.Common.{◌∙◌, List, None, [], get_or, slice_get, sym, ap, arith}
use Rattle.std.specs.Option.{option_and_then}
use Rattle.values.specs.Datum.{data_of}
use Rattle.semantics.specs.declared.truth.Truth.{Truth}
use Rattle.semantics.specs.declared.function.ColumnFunction.TheVariants.{CountRows}
use Rattle.query_resolve.specs.declared.function.FilteredFunction.{FilteredFunction}
use Rattle.query_resolve.specs.Functions.{filter_at, filters_of}
use Rattle.query_plan.proofs.Filtering.{as_many, filter_read, index_below, no_filter, place_within, read_at, worth_read}
use Rattle.query_plan.proofs.plan.Plan.filter_truth.Goals as goal

-- What is read past the end, which is never.
abbrev past : FilteredFunction
past = record { function = CountRows; filter = None }

pub bounds : goal.bounds
bounds c = place_within c.args.self.now.fields c.args.self.now.query c.args.place c.set_functions.result.now c.set_functions.ensures.functions c.requires.place

pub bounds-set_functions-place : goal.bounds-set_functions-place
bounds-set_functions-place c = place_within c.args.self.now.fields c.args.self.now.query c.args.place c.set_functions.result.now c.set_functions.ensures.functions c.requires.place

pub condition_truth_at-requires-clause-place : goal.condition_truth_at-requires-clause-place
condition_truth_at-requires-clause-place c =
    let fields = c.args.self.now.fields in
    let q = c.args.self.now.query in
    let x = get_or c.set_functions.result.now c.args.place past in
    let below = index_below fields q c.args.place c.in-Some.index x c.requires.place (read_at fields q c.args.place c.set_functions.result.now past c.set_functions.ensures.functions c.requires.place) c.in-Some.is in
    let many = as_many fields (filters_of fields q) c.conditions.result.now (c.conditions.ensures.worth []) in
    omega (arith, below, many)

pub returns-in-Some : goal.returns-in-Some
returns-in-Some c =
    let fields = c.args.self.now.fields in
    let q = c.args.self.now.query in
    let values = data_of c.args.values.now in
    let x = get_or c.set_functions.result.now c.args.place past in
    let here = read_at fields q c.args.place c.set_functions.result.now past c.set_functions.ensures.functions c.requires.place in
    worth_read fields values (filters_of fields q) c.in-Some.index (filter_at fields q c.args.place) c.condition_truth_at.result
    (ap (option_and_then (slice_get (filters_of fields q))) (sym c.in-Some.is) ∙ filter_read fields q c.args.place x here (c.filters_law.ensures.back fields q))
    (c.condition_truth_at.ensures ∙ ap (λ (ts : List Truth). slice_get ts c.in-Some.index) (c.conditions.ensures.worth values))

pub returns-in-None : goal.returns-in-None
returns-in-None c =
    let fields = c.args.self.now.fields in
    let q = c.args.self.now.query in
    let x = get_or c.set_functions.result.now c.args.place past in
    no_filter fields q c.args.place x (data_of c.args.values.now)
    (read_at fields q c.args.place c.set_functions.result.now past c.set_functions.ensures.functions c.requires.place)
    (c.filters_law.ensures.back fields q) c.in-None.is
