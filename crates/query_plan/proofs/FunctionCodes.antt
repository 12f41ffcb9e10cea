-- Equations of lists of set functions are propositions.
use Rattle.std.specs.Prelude.{◌≡◌, List}
use Rattle.std.specs.Coded.{Coded-set, coded_list}
use Rattle.query_resolve.specs.declared.function.FilteredFunction.{FilteredFunction}
use Rattle.query_resolve.specs.contracts.function.FilteredFunction as filtered

-- an equation of two lists of set functions is a proposition
pub functions-same : (fs gs : List FilteredFunction) → IsProp (fs ≡ gs)
functions-same fs gs = Coded-set (coded_list filtered.the_row.coded) fs gs
