-- A plan says the same to every thread, and a predicate.
use denote.Param.Send.{IsSync, sendable}
use Rattle.std.proofs.Crossing as std
use Rattle.query_ast.proofs.group.GroupingElement.TheLaws.TheKnot as group
use Rattle.query_ast.proofs.expression.Expression.TheLaws.TheKnot as expression
use Rattle.query_eval.proofs.condition.Condition.TheLaws.TheKnot as condition
use Rattle.query_ast.specs.contracts.group.GroupingElement as GroupingElement
use Rattle.query_ast.specs.contracts.expression.Expression as Expression
use Rattle.query_ast.specs.contracts.expression.Predicate as Predicate
use Rattle.query_ast.specs.contracts.tree.Tree as Tree
use Rattle.query_eval.specs.contracts.condition.Condition as Condition
use Rattle.query_plan.specs.contracts.plan.Plan as Plan

group_sync : IsSync (GroupingElement.the_field).row
group_sync = search (std.crosses, group.crosses, sendable) depth 60 fits 20000

expression_sync : IsSync (Expression.the_field).row
expression_sync = search (std.crosses, expression.crosses, sendable) depth 60 fits 20000

pub predicate_sync : IsSync (Predicate.the_field).row
predicate_sync = search (std.crosses, expression.crosses, sendable) depth 60 fits 20000

condition_sync : IsSync (Condition.the_field).row
condition_sync = search (std.crosses, condition.crosses, sendable) depth 60 fits 20000

tree_sync : IsSync (Tree.the_field).row
tree_sync = search (group_sync, expression_sync, predicate_sync, std.crosses, sendable) depth 60 fits 20000

pub plan_sync : IsSync (Plan.the_field).row
plan_sync = search (tree_sync, condition_sync, std.crosses, sendable) depth 60 fits 20000
