use Rattle.std.proofs.Common.{drop}
use Rattle.query_eval.proofs.Parts.{AreBound}
use Rattle.query_eval.proofs.binder.+bind.Given as goal

abbrev pub invariant-bind_parts-loop-part : goal.invariant-bind_parts-loop-part
invariant-bind_parts-loop-part g l = AreBound (g.S.Scope.form l.scope) l.conditions.items (drop l.part-index l.parts) l.parts
