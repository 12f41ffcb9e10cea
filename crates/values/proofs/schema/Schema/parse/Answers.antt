use Rattle.std.proofs.Common.{◌≡◌, ◌++◌, [], ◌∷◌, ◌<◌, length, rules, arith, sym, ap, ◌∙◌, lit<}
use Rattle.std.proofs.lemmas.Bool.Decides.{nat_tests}
use Rattle.std.proofs.lemmas.List.{map-append, length_push}
use Rattle.std.proofs.lemmas.Iterator.Consumers.{YieldsList-turn, YieldsList-end}
use Rattle.std.proofs.lemmas.Iterator.Splits.{YieldsList-from_str_split}
use Rattle.std.proofs.lemmas.Result.{err_from_is_err_and}
use Rattle.std.specs.Str.Iter.{split_text, split_has_more, split_pattern}
use Rattle.semantics.specs.Columns.{fault_of, names_of}
use Rattle.values.specs.Schema.{field_of, fields_of}
use Rattle.values.proofs.PartByPart.{faulty_turn, good_turn, last_turn, IsSchema-from_text}
use Rattle.values.proofs.schema.Schema.parse.Goals as goal

pub returns-in_err-column-clause-fault : goal.returns-in_err-column-clause-fault
returns-in_err-column-clause-fault c =
    let split = c.split-part-items.ensures in
    let is = c.into_iter-part-iterator.ensures.into_iter_gives in
    let road = YieldsList-from_str_split 44 c.args.text.now (lit< tt) (ap split_text is ∙ split.text) (ap split_has_more is ∙ split.has_more) (ap split_pattern is ∙ split.pattern) in
    let here = YieldsList-turn road c.loop-part.yielded _ c.loop-part.yielded_by _ _ c.in-Some.part c.in-Some.is c.next.ensures.steps in
    let p = err_from_is_err_and c.from_residual.result c.from_residual.ensures.1 in
    let some : 0 < length c.args.text.now = let e = sym c.is_empty.ensures ∙ c.if-is_empty.false in grind (arith, nat_tests, e) in
    let same = ap (λ columns. fault_of (names_of (fields_of columns)) c.in-Some.part.now) (sym c.deref.ensures.value) in
    rw (p.1, p.2) (λ h. faulty_turn c.args.text.now (fields_of c.loop-part.columns.items) (length c.loop-part.yielded) c.in-Some.part.now _ some here c.loop-part.invariant (same ∙ c.in_err-column.ensures.fault h))

pub loop-part-preserved : goal.loop-part-preserved
loop-part-preserved c =
    let split = c.split-part-items.ensures in
    let is = c.into_iter-part-iterator.ensures.into_iter_gives in
    let road = YieldsList-from_str_split 44 c.args.text.now (lit< tt) (ap split_text is ∙ split.text) (ap split_has_more is ∙ split.has_more) (ap split_pattern is ∙ split.pattern) in
    let here = YieldsList-turn road c.loop-part.yielded _ c.loop-part.yielded_by _ _ c.in-Some.part c.in-Some.is c.next.ensures.steps in
    let same = ap (λ columns. fault_of (names_of (fields_of columns)) c.in-Some.part.now) (sym c.deref.ensures.value) in
    let turned = good_turn c.args.text.now (fields_of c.loop-part.columns.items) (length c.loop-part.yielded) c.in-Some.part.now (field_of c.in_ok-column.column) here c.loop-part.invariant (same ∙ c.in_ok-column.ensures.sound) c.in_ok-column.ensures.column in
    let n = length_push c.loop-part.yielded c.in-Some.part in
    let pushed : c.push.new.self.items ≡ c.loop-part.columns.items ++ c.in_ok-column.column ∷ [] = search rules in
    rw (pushed, n) (rw (map-append field_of c.loop-part.columns.items (c.in_ok-column.column ∷ [])) turned)

pub returns-clause-columns : goal.returns-clause-columns
returns-clause-columns c =
    let split = c.split-part-items.ensures in
    let is = c.into_iter-part-iterator.ensures.into_iter_gives in
    let road = YieldsList-from_str_split 44 c.args.text.now (lit< tt) (ap split_text is ∙ split.text) (ap split_has_more is ∙ split.has_more) (ap split_pattern is ∙ split.pattern) in
    let end = YieldsList-end road c.loop-part.yielded _ c.loop-part.yielded_by _ _ c.in-None.is c.next.ensures.steps in
    let some : 0 < length c.args.text.now = let e = sym c.is_empty.ensures ∙ c.if-is_empty.false in grind (arith, nat_tests, e) in
    last_turn c.args.text.now (fields_of c.loop-part.columns.items) (length c.loop-part.yielded) some (omega (arith, end.1)) c.loop-part.invariant

pub invariant_of-result : goal.invariant_of-result
invariant_of-result c =
    let split = c.split-part-items.ensures in
    let is = c.into_iter-part-iterator.ensures.into_iter_gives in
    let road = YieldsList-from_str_split 44 c.args.text.now (lit< tt) (ap split_text is ∙ split.text) (ap split_has_more is ∙ split.has_more) (ap split_pattern is ∙ split.pattern) in
    let end = YieldsList-end road c.loop-part.yielded _ c.loop-part.yielded_by _ _ c.in-None.is c.next.ensures.steps in
    let some : 0 < length c.args.text.now = let e = sym c.is_empty.ensures ∙ c.if-is_empty.false in grind (arith, nat_tests, e) in
    IsSchema-from_text c.args.text.now (fields_of c.loop-part.columns.items)
    (last_turn c.args.text.now (fields_of c.loop-part.columns.items) (length c.loop-part.yielded) some (omega (arith, end.1)) c.loop-part.invariant)
