use Rattle.std.proofs.Common.{map, refl}
use Rattle.std.specs.List.{flat_map}
use Rattle.std.proofs.lemmas.Result.{err_from_is_err_and}
use Rattle.values.specs.Schema.{fields_of}
use Rattle.query_ast.specs.Syntax.{element_form}
use Rattle.semantics.specs.Names.{group_names}
use Rattle.query_typecheck.proofs.Rows.{goes_on, stops}
use Rattle.query_typecheck.proofs.names.check_groups.Goals as goal

pub returns-in_err-check_group : goal.returns-in_err-check_group
returns-in_err-check_group c =
    let p = err_from_is_err_and c.from_residual.result c.from_residual.ensures.1 in
    record {
      fault = rw (p.1, p.2) (λ other. stops (fields_of c.args.columns.now) (λ gs. flat_map group_names (map element_form gs)) c.args.groups.now c.loop-group.group-index c.group-item.result (group_names (element_form c.group-item.result)) _ _
          (λ gs. refl) c.loop-group-test.true c.group-item.is (c.in_err-check_group.ensures.fault other) c.loop-group.invariant);
    }

pub loop-group-preserved : goal.loop-group-preserved
loop-group-preserved c =
    goes_on (fields_of c.args.columns.now) (λ gs. flat_map group_names (map element_form gs)) c.args.groups.now c.loop-group.group-index c.group-item.result (group_names (element_form c.group-item.result)) _
    (λ gs. refl) c.loop-group-test.true c.group-item.is c.in_ok-check_group.ensures.fault c.loop-group.invariant
