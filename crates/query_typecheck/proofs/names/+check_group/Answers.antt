use Rattle.std.proofs.Common.{map, refl}
use Rattle.std.proofs.lemmas.Result.{err_from_is_err_and}
use Rattle.values.specs.Schema.{fields_of}
use Rattle.query_ast.specs.Syntax.{element_form}
use Rattle.semantics.specs.Syntax.{element_forms}
use Rattle.semantics.specs.Names.{group_names, groups_names}
use Rattle.query_typecheck.proofs.Rows.{goes_on, stops}
use Rattle.query_typecheck.proofs.names.+check_group.Goals as goal

pub returns-in_err-check_group-in-Sets : goal.returns-in_err-check_group-in-Sets
returns-in_err-check_group-in-Sets t c =
    let p = err_from_is_err_and c.from_residual.result c.from_residual.ensures.1 in
    record {
      fault = rw (p.1, p.2) (λ other. stops (fields_of c.args.columns.now) (λ gs. groups_names (element_forms (map element_form gs))) c.deref-group-items.result.now c.loop-group.group-index c.group-item.result (group_names (element_form c.group-item.result)) _ _
          (λ gs. refl) c.loop-group-test.true c.group-item.is (c.in_err-check_group-in-Sets.ensures.fault other) c.loop-group.invariant);
    }

pub loop-group-preserved : goal.loop-group-preserved
loop-group-preserved t c =
    goes_on (fields_of c.args.columns.now) (λ gs. groups_names (element_forms (map element_form gs))) c.deref-group-items.result.now c.loop-group.group-index c.group-item.result (group_names (element_form c.group-item.result)) _
    (λ gs. refl) c.loop-group-test.true c.group-item.is c.in_ok-check_group-in-Sets.ensures.fault c.loop-group.invariant
