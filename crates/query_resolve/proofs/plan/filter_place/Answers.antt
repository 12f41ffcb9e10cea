use Rattle.std.proofs.Common.{rules, tests, ◌∙◌}
use Rattle.std.specs.Borrow.{Bor}
use Rattle.std.proofs.lemmas.Iterator.{YieldsList-from_slice}
use Rattle.std.proofs.lemmas.Iterator.Search.{position_from_yields_List}
use Rattle.query_ast.specs.declared.expression.Predicate.{Predicate}
use Rattle.query_ast.specs.Syntax.{predicate_form}
use Rattle.semantics.specs.Inside.Same.{same_predicate}
use Rattle.query_resolve.proofs.Places.{position-map}
use Rattle.query_resolve.proofs.plan.filter_place.Goals as goal

pub returns : goal.returns
returns c =
    position_from_yields_List (λ (p : Bor Predicate). same_predicate (predicate_form c.args.filter.now) (predicate_form p.now)) _ _ _ c.position.ensures.ran (YieldsList-from_slice c.args.filters.now (search rules)) (λ x b q k. search (rules, tests))
    ∙ position-map (same_predicate (predicate_form c.args.filter.now)) (λ (p : Bor Predicate). predicate_form p.now) c.args.filters.now
