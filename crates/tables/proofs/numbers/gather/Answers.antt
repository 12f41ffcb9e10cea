use Rattle.std.proofs.Common.{arith}
use Rattle.std.proofs.lemmas.Result.{IfOk-weaker}
use Rattle.tables.proofs.InOrder.{count-sorted, lines-sorted, well-sorted}
use Rattle.tables.proofs.numbers.gather.Goals as goal

pub gather_in_order-requires-clause-few : goal.gather_in_order-requires-clause-few
gather_in_order-requires-clause-few c = omega (arith, c.requires.few, count-sorted c.args.notes.items c.sort_by_index-notes.result.items c.sort_by_index-notes.ensures.permutation)

pub gather_in_order-requires-clause-numbered : goal.gather_in_order-requires-clause-numbered
gather_in_order-requires-clause-numbered c = well-sorted c.args.notes.items c.sort_by_index-notes.result.items c.sort_by_index-notes.ensures.permutation c.requires.numbered

pub returns : goal.returns
returns c = IfOk-weaker c.gather_in_order.result _ _ (λ lines is. lines-sorted c.args.notes.items c.sort_by_index-notes.result.items lines
    c.sort_by_index-notes.ensures.permutation c.sort_by_index-notes.ensures.ascending is) c.gather_in_order.ensures
