use Rattle.std.proofs.Common.{◌≡◌, ◌∙◌, ◌<◌, ℕ, List, Some, length, map, option_map, slice_get, string_bytes, arith, ap, sym}
use Rattle.std.proofs.lemmas.List.{length-map}
use Rattle.std.proofs.lemmas.Result.{IfOk-weaker}
use Rattle.semantics.specs.Syntax.{SelectItem, Query}
use Rattle.query_ast.specs.Syntax.{item_form}
use Rattle.query_ast.specs.declared.tree.Item.{Item}
use Rattle.semantics.specs.Canonical.{header_text}
use Rattle.query_plan.proofs.Filtering.{mapped_at}
use Rattle.query_plan.proofs.printer.header.Goals as goal

-- there are as many items as forms of them
within : (items : List Item) (forms : List SelectItem) (i : ℕ) → map item_form items ≡ forms → i < length forms → i < length items
within items forms i same below = let n = length-map items item_form in let e = ap length same in omega (arith, below, n, e)

pub bounds-items-item : goal.bounds-items-item
bounds-items-item c =
    within c.as_slice-items.result.now c.args.plan.now.query.items c.args.item
    (ap (map item_form) c.as_slice-items.ensures.value ∙ ap (λ (t : Query). t.items) (c.tree.ensures.form ∙ c.query.ensures.query)) c.requires

pub returns : goal.returns
returns c =
    let items = c.as_slice-items.result.now in
    let forms = c.args.plan.now.query.items in
    let same : map item_form items ≡ forms = ap (map item_form) c.as_slice-items.ensures.value ∙ ap (λ (t : Query). t.items) (c.tree.ensures.form ∙ c.query.ensures.query) in
    let below = within items forms c.args.item same c.requires in
    let here : slice_get forms c.args.item ≡ Some (item_form c.index-items-item.result) =
    ap (λ fs. slice_get fs c.args.item) (sym same) ∙ mapped_at item_form items c.args.item c.index-items-item.result below c.index-items-item.is in
    record {
      text = IfOk-weaker c.header.result
          (λ text. string_bytes text ≡ header_text (item_form c.index-items-item.result))
          (λ text. Some (string_bytes text) ≡ option_map header_text (slice_get forms c.args.item))
          (λ text h. ap Some h ∙ sym (ap (option_map header_text) here))
          c.header.ensures;
    }
