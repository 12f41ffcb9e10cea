use Rattle.std.proofs.Common.{◌++◌, sym, ap}
use Rattle.std.specs.List.{flat_map}
use Rattle.std.proofs.lemmas.Result.{err_from_is_err_and}
use Rattle.values.specs.Schema.{fields_of}
use Rattle.query_ast.specs.Syntax.{units_form}
use Rattle.query_typecheck.proofs.Rows.{goes_on, stops}
use Rattle.query_typecheck.proofs.names.check_units.Goals as goal

pub returns-in_err-check_columns : goal.returns-in_err-check_columns
returns-in_err-check_columns c =
    let p = err_from_is_err_and c.from_residual.result c.from_residual.ensures.1 in
    record {
      fault = rw (p.1, p.2) (λ other. stops (fields_of c.args.columns.now) (λ us. flat_map (λ unit. unit) (units_form us)) c.args.units.now c.loop-unit.unit-index c.unit-item.result c.deref.result.now _ _
          (λ us. ap (λ names. names ++ flat_map (λ unit. unit) (units_form us)) (sym c.deref.ensures.value)) c.loop-unit-test.true c.unit-item.is (c.in_err-check_columns.ensures.fault other) c.loop-unit.invariant);
    }

pub loop-unit-preserved : goal.loop-unit-preserved
loop-unit-preserved c =
    goes_on (fields_of c.args.columns.now) (λ us. flat_map (λ unit. unit) (units_form us)) c.args.units.now c.loop-unit.unit-index c.unit-item.result c.deref.result.now _
    (λ us. ap (λ names. names ++ flat_map (λ unit. unit) (units_form us)) (sym c.deref.ensures.value)) c.loop-unit-test.true c.unit-item.is c.in_ok-check_columns.ensures.fault c.loop-unit.invariant
