use Rattle.std.proofs.Common.{rules, ◌≡◌, List, IfOk, subst}
use Rattle.std.specs.List.{filter_map}
use Rattle.values.specs.Schema.{fields_of}
use Rattle.query_ast.specs.Syntax.{tree_form}
use Rattle.semantics.specs.Inside.Same.{same_planned}
use Rattle.semantics.specs.Names.{planned_function}
use Rattle.semantics.specs.Lists.{distinct}
use Rattle.semantics.specs.Syntax.{SetFunction}
use Rattle.query_resolve.specs.Planning.{planned_forms}
use Rattle.query_resolve.proofs.AtomFunctions.{collected}
use Rattle.query_resolve.proofs.plan.planned_functions.Goals as goal

pub returns : goal.returns
returns c =
    subst (λ (fs : List SetFunction). IfOk c.distinct_functions.result (λ v. planned_forms v.items ≡ distinct same_planned (filter_map (planned_function (fields_of c.args.columns.now)) fs)))
    (collected (tree_form c.args.tree.now)) (search rules)
