use Rattle.std.proofs.Common.{◌∙◌, List, ap, map, subst}
use Rattle.std.specs.List.{AllByRecursion}
use Rattle.std.proofs.lemmas.Result.{IfOk-weaker}
use Rattle.values.specs.Datum.{data_of}
use Rattle.values.specs.declared.value.Value.{Value}
use Rattle.sort_keys.specs.Codes.{IsCodable}
use Rattle.sort_keys.specs.SortKeys.{parts_of}
use Rattle.group_tables.specs.GroupRows.{row_of}
use Rattle.report_rows.specs.Inside.SortEntries.{coded_form}
use Rattle.report_rows.proofs.Placed.{on-ok, row-whole}
use Rattle.report_rows.proofs.keys.row_key.Goals as goal

pub returns-clause-key : goal.returns-clause-key
returns-clause-key c =
    let cs = map coded_form c.args.keys.now in
    let row = row_of c.args.found.now in
    let code = row-whole cs row (data_of c.as_slice.result.now)
    c.clear.new.self.items c.put_keys.new.code.items c.put_index.new.code.items c.put_values.new.code.items c.as_slice-2.result.now
    c.clear.ensures.items c.in_ok-put_keys.ensures.code c.in_ok-put_index.ensures.code c.in_ok-put_values.ensures.code c.as_slice-2.ensures.value
    (ap data_of c.as_slice.ensures.value) in
    IfOk-weaker c.new.result _ _ (λ key e. e ∙ ap parts_of code) c.new.ensures

pub returns-clause-codable : goal.returns-clause-codable
returns-clause-codable c =
    on-ok c.new.result (record {
      values = c.in_ok-put_keys.ensures.codable;
      index = c.in_ok-put_index.ensures.fits;
      key = subst (λ (vs : List Value). AllByRecursion IsCodable (data_of vs)) c.as_slice.ensures.value c.in_ok-put_values.ensures.codable;
    })
