use Rattle.std.proofs.Common.{◌∙◌, ℕ, map, sym}
use Rattle.report_rows.specs.Inside.SortEntries.{are_default_behind, coded_form}
use Rattle.report_rows.proofs.CodedKeys.{keys-behind, none-more}
use Rattle.report_rows.proofs.telling_keys.keys_in_front.Goals as goal

pub returns-then-are_default-clause-behind : goal.returns-then-are_default-clause-behind
returns-then-are_default-clause-behind c = sym (keys-behind c.args.keys.now c.loop-count.count) ∙ sym c.are_default.ensures ∙ c.if-are_default.true

pub loop-count-preserved : goal.loop-count-preserved
loop-count-preserved c =
    let count = c.loop-count.count in
    none-more (λ (n : ℕ). are_default_behind n (map coded_form c.args.keys.now)) count c.loop-count.invariant
    (sym (keys-behind c.args.keys.now count) ∙ sym c.are_default.ensures ∙ c.if-are_default.false)
