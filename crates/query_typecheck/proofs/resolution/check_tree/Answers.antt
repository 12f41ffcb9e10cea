use Rattle.query_ast.specs.Syntax.{tree_form}
use Rattle.query_typecheck.proofs.FirstLemmas.{answers_query}
use Rattle.query_typecheck.proofs.StandingWhole.{stands_err}
use Rattle.query_typecheck.proofs.WholeLemmas.{typed_ok, untyped_err}
use Rattle.query_typecheck.proofs.resolution.check_tree.Goals as goal

pub returns : goal.returns
returns c =
    let answers = answers_query c.args.schema.now (tree_form c.args.tree.now) c.resolve.result c.resolve.ensures.fault in
    record {
      typed = typed_ok c.args.schema.now (tree_form c.args.tree.now) c.resolve.result answers;
      resolved = c.resolve.ensures.resolved;
      untyped = untyped_err c.args.schema.now (tree_form c.args.tree.now) c.resolve.result answers;
      fault = answers;
      stands = stands_err c.args.schema.now (tree_form c.args.tree.now) c.resolve.result answers;
    }
