use Rattle.std.proofs.Common.{◌∙◌, ℕ, List, ap, subst}
use Rattle.semantics.specs.Reading.{Derives}
use Rattle.semantics.specs.Syntax.{Query}
use Rattle.query_ast.specs.Syntax.{tree_form}
use Rattle.query_plan.proofs.query.Query.tree.Goals as goal

pub returns : goal.returns
returns c = record {
  form = ap tree_form c.deref.ensures ∙ c.self.view_is;
  derived = subst (λ (t : Query). ∥ ((text : List ℕ) × Derives text t) ∥₁) c.self.view_is c.self.inside.derived;
}
