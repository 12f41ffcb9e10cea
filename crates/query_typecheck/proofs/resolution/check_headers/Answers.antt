use Rattle.std.proofs.Common.{◌≡◌, ◌∙◌, ◌++◌, ◌∷◌, [], ℕ, List, true, false, map, take, sym, ap, string_bytes, Some}
use Rattle.std.specs.List.{list_any}
use Rattle.std.specs.Str.{bytes_eq}
use Rattle.std.proofs.lemmas.List.{map-append}
use Rattle.query_ast.specs.Syntax.{item_form}
use Rattle.semantics.specs.Canonical.{header_text}
use Rattle.semantics.specs.declared.query_fault.QueryFault.TheVariants.{RepeatedHeader}
use Rattle.query_typecheck.proofs.Headers.{header_at, header_met, header_new, headers_more, headers_of, within_headers}
use Rattle.query_typecheck.proofs.resolution.check_headers.Goals as goal

pub returns-then-has_header : goal.returns-then-has_header
returns-then-has_header c = record {
  fault = λ _.
      let items = c.args.items.now in
      let i = c.loop-item.item-index in
      let h = header_text (item_form c.item-item.result) in
      let so_far = ap (map string_bytes) c.deref.ensures.value ∙ c.loop-item.invariant.0 in
      let met : list_any (bytes_eq h) (take i (headers_of items)) ≡ true =
      ap (λ (t : List ℕ). list_any (bytes_eq t) (take i (headers_of items))) (sym (c.as_str.ensures.value ∙ c.in_ok-text.ensures))
      ∙ ap (list_any (bytes_eq c.as_str.result.now)) (sym so_far)
      ∙ sym c.if-has_header.ensures in
      header_met (headers_of items) i h (within_headers items i c.loop-item-test.true) (header_at items i c.item-item.result c.loop-item-test.true c.item-item.is) c.loop-item.invariant.1 met
      ∙ ap (λ (t : List ℕ). Some (RepeatedHeader t)) (sym (c.from_string.ensures ∙ c.in_ok-text.ensures));
}

pub loop-item-preserved : goal.loop-item-preserved
loop-item-preserved c =
    let items = c.args.items.now in
    let i = c.loop-item.item-index in
    let h = header_text (item_form c.item-item.result) in
    let so_far = ap (map string_bytes) c.deref.ensures.value ∙ c.loop-item.invariant.0 in
    let below = within_headers items i c.loop-item-test.true in
    let here = header_at items i c.item-item.result c.loop-item-test.true c.item-item.is in
    let new : list_any (bytes_eq h) (take i (headers_of items)) ≡ false =
    ap (λ (t : List ℕ). list_any (bytes_eq t) (take i (headers_of items))) (sym (c.as_str.ensures.value ∙ c.in_ok-text.ensures))
    ∙ ap (list_any (bytes_eq c.as_str.result.now)) (sym so_far)
    ∙ sym c.if-has_header.ensures in (
      ap (map string_bytes) c.in_ok-push.ensures.items
          ∙ map-append string_bytes c.loop-item.headers.items (c.in_ok-text.text ∷ [])
          ∙ ap (λ (t : List ℕ). map string_bytes c.loop-item.headers.items ++ t ∷ []) c.in_ok-text.ensures
          ∙ headers_more (headers_of items) (map string_bytes c.loop-item.headers.items) i h below here c.loop-item.invariant.0,
      header_new (headers_of items) i h below here c.loop-item.invariant.1 new,
    )
