use Rattle.std.proofs.Common.{◌≡◌, ◌∙◌, ◌*◌, List, IfOk, length, map, take, drop, get_or, ap, sym, subst, arith}
use denote.Param.Send.{sendable}
use Rattle.std.proofs.Crossing as std
use Rattle.std.proofs.lemmas.List.{drop-map, length-map, take-map}
use Rattle.semantics.specs.ResultRows.{ResultRow}
use Rattle.report_rows.specs.Inside.SortEntries.{AreEntriesOf, coded_form}
use Rattle.report_rows.proofs.InParts.{parts-cover, parts-made}
use Rattle.report_rows.proofs.Rows.{row_at}
use Rattle.report_rows.proofs.Sharing.{key_sync}
use Rattle.report_rows.proofs.order.parts_in_order.Goals as goal

pub map_chunks-requires-sync-F : goal.map_chunks-requires-sync-F
map_chunks-requires-sync-F g c κs within = search (key_sync, std.crosses, sendable) depth 60 fits 20000

pub returns : goal.returns
returns g c =
    let size = c.args.size in
    let groups = c.args.rows.now in
    let are = AreEntriesOf (map coded_form c.args.keys.now) in
    let parts = c.in_ok-parts.parts.items in
    let count = length-map groups row_at in
    let ok = c.in_ok-parts.parts.ok in
    let made : length parts ≡ c.in_ok-parts.parts.len = omega (arith, ok) in
    let cover = parts-cover (length groups) size (length parts) c.requires (made ∙ c.in_ok-parts.ensures.len) in
    parts-made are size (map row_at groups) parts
    (λ n d low.
    let k = (c.in_ok-parts.ensures.each n d low).1 in
    let part : map row_at k.argument.now ≡ take size (drop (n * size) (map row_at groups)) =
    ap (map row_at) k.argument_is.value ∙ sym (take-map row_at size (drop (n * size) groups)) ∙ ap (take size) (sym (drop-map row_at (n * size) groups)) in
    subst (λ (rows : List ResultRow). IfOk (get_or parts n d) (λ made. are rows made.items)) part k.call)
    (omega (arith, count, cover))
