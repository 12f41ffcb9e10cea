use Rattle.std.proofs.Common.{◌∙◌, ◌++◌, List, append-nil, ap, map, subst, sym}
use Rattle.std.proofs.lemmas.List.{at_drop_all}
use Rattle.group_tables.specs.GroupRows.{row_of}
use Rattle.report_rows.specs.declared.coded_key.CodedKey.{CodedKey}
use Rattle.report_rows.specs.Inside.SortEntries.{AreCodable, coded_form, keys_code}
use Rattle.report_rows.proofs.Placed.{code-next, keys-next}
use Rattle.report_rows.proofs.keys.put_keys.Goals as goal

pub loop-key-preserved : goal.loop-key-preserved
loop-key-preserved c =
    let keys = c.args.keys.now in
    let row = row_of c.args.found.now in
    let i = c.loop-key.key-index in
    let key = c.key-item.result in
    let here = keys-next keys i key c.loop-key-test.true c.key-item.is in
    record {
      code = code-next row _ c.loop-key.code.items c.put_key.new.code.items keys i key here c.in_ok-put_key.ensures.code c.loop-key.invariant.code;
      codable = λ all. c.loop-key.invariant.codable (subst (λ (ks : List CodedKey). AreCodable row (map coded_form ks)) (sym here) (c.in_ok-put_key.ensures.codable, all));
    }

pub returns : goal.returns
returns c =
    let row = row_of c.args.found.now in
    let none = at_drop_all (λ (ks : List CodedKey). ks) c.args.keys.now c.loop-key.key-index c.loop-key-test.false in
    record {
      code = sym (append-nil c.loop-key.code.items) ∙ sym (ap (λ (ks : List CodedKey). c.loop-key.code.items ++ keys_code row (map coded_form ks)) none) ∙ c.loop-key.invariant.code;
      codable = c.loop-key.invariant.codable (subst (λ (ks : List CodedKey). AreCodable row (map coded_form ks)) (sym none) tt);
    }
