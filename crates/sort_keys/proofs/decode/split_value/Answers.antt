use Rattle.values.specs.Datum.{datum_of}
use Rattle.sort_keys.proofs.Decoding.{split-above, split-below, split-number}
use Rattle.sort_keys.proofs.decode.split_value.Goals as goal

pub returns-in-3-clause-value : goal.returns-in-3-clause-value
returns-in-3-clause-value c =
    split-below c.args.code.now c.in-Some.first.now c.in-Some.rest.now c.split_wide.result.1.now (datum_of c.split_wide.result.0) c.in-Some.ensures.cases.0 c.in-3.is c.split_wide.ensures.value

pub returns-in-4-clause-value : goal.returns-in-4-clause-value
returns-in-4-clause-value c =
    split-number c.args.code.now c.in-Some.first.now c.in-Some.rest.now c.split_number.result.1.now (datum_of c.split_number.result.0) c.in-Some.ensures.cases.0 c.in-4.is c.split_number.ensures.value

pub returns-in-5-clause-value : goal.returns-in-5-clause-value
returns-in-5-clause-value c =
    split-above c.args.code.now c.in-Some.first.now c.in-Some.rest.now c.split_wide-in-5.result.1.now (datum_of c.split_wide-in-5.result.0) c.in-Some.ensures.cases.0 c.in-5.is c.split_wide-in-5.ensures.value
