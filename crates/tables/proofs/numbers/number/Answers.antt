use Rattle.std.proofs.Common.{arith}
use Rattle.std.proofs.lemmas.Result.{IfOk-weaker}
use Rattle.tables.proofs.InOrder.{count-sorted, lines-sorted, well-sorted}
use Rattle.tables.proofs.numbers.number.Goals as goal

pub list_in_order-requires-clause-few : goal.list_in_order-requires-clause-few
list_in_order-requires-clause-few c = omega (arith, c.requires.few, count-sorted c.args.notes.items c.sort_by_index-notes.result.items c.sort_by_index-notes.ensures.permutation)

pub list_in_order-requires-clause-numbered : goal.list_in_order-requires-clause-numbered
list_in_order-requires-clause-numbered c = well-sorted c.args.notes.items c.sort_by_index-notes.result.items c.sort_by_index-notes.ensures.permutation c.requires.numbered

pub returns : goal.returns
returns c = IfOk-weaker c.list_in_order.result _ _ (λ lines is. lines-sorted c.args.notes.items c.sort_by_index-notes.result.items lines.items
    c.sort_by_index-notes.ensures.permutation c.sort_by_index-notes.ensures.ascending is) c.list_in_order.ensures
