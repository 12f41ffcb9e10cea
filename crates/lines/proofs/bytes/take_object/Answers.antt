use Rattle.std.proofs.Common.{◌≡◌, ◌≤◌, length, get_or, ap, arith}
use Rattle.lines_json.specs.Standing.{lexemes}
use Rattle.lines.proofs.Objects.{read-members}
use Rattle.lines.proofs.bytes.take_object.Goals as goal

pub returns : goal.returns
returns c =
    let text = c.args.text.now in
    let brace = c.space_end-brace.result in
    let stop = c.in_ok-stop.stop in
    let end = c.space_end.result in
    let all = c.in_ok-stop.ensures in
    let same : lexemes text brace ≡ lexemes text 0 = rw (← c.as_bytes-line.ensures.value) c.space_end-brace.ensures.same in
    let mark : get_or text brace 32 ≡ 123 = omega (arith, c.byte_at.ensures, ap (λ t. get_or t brace 32) c.as_bytes-line.ensures.value) in
    let again : lexemes text end ≡ lexemes text stop = rw (← c.as_bytes-line.ensures.value) c.space_end.ensures.same in
    let past : length text ≤ end = omega (arith, c.as_bytes-line.ensures.len, c.if-space_end-line.false) in
    let within : end ≤ length text = omega (arith, c.as_bytes-line.ensures.len, c.space_end.ensures.within) in (
      all.found,
      read-members text brace stop end c.args.columns.now c.take_members.new.values.items same mark all again past within,
      all.taken,
    )
