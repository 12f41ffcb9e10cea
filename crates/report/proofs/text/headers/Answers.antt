use Rattle.std.proofs.Common.{◌∙◌, [], ◌∷◌, ◌++◌, sym, string_bytes}
use Rattle.semantics.specs.Canonical.{header_text}
use Rattle.report_rows.proofs.Maps.{map-next}
use Rattle.report.proofs.text.headers.Goals as goal

pub loop-item-preserved : goal.loop-item-preserved
loop-item-preserved c = record {
  texts = c.in_ok-push_field.ensures.fields
      ∙ (λ k. c.loop-item.invariant.texts k ++ ((c.loop-item.invariant.whole k ++ c.as_bytes.ensures.value k) ∷ []))
      ∙ sym (map-next header_text c.args.plan.now.query.items c.loop-item.item (string_bytes c.in_ok-text.text) c.in_ok-text.ensures.text);
  whole = c.in_ok-push_field.ensures.partial;
}
