use Rattle.std.proofs.Common.{◌≡◌, ◌+◌, ◌≤◌, length, get_or, ap, arith}
use Rattle.lines_json.specs.Standing.{lexemes}
use Rattle.lines.proofs.Objects.{members-begin, members-end, members-more, members-none}
use Rattle.lines.proofs.bytes.members.take_members.Goals as goal

pub returns-then-byte_at-eq125 : goal.returns-then-byte_at-eq125
returns-then-byte_at-eq125 c =
    let text = c.args.text.now in
    let at = c.space_end-at.result in
    let same : lexemes text at ≡ lexemes text c.args.from = rw (← c.as_bytes-line.ensures.value) c.space_end-at.ensures.same in
    let mark : get_or text at 32 ≡ 125 = omega (arith, c.byte_at.ensures, ap (λ t. get_or t at 32) c.as_bytes-line.ensures.value) in
    members-none text c.args.from c.args.columns.now at c.args.values.now.items same c.requires.missing mark

pub members-init : goal.members-init
members-init c =
    let text = c.args.text.now in
    let at = c.space_end-at.result in
    let same : lexemes text at ≡ lexemes text c.args.from = rw (← c.as_bytes-line.ensures.value) c.space_end-at.ensures.same in
    let within : at ≤ length text = rw (← c.as_bytes-line.ensures.value) c.space_end-at.ensures.within in
    record {
      members = members-begin text c.args.from c.args.columns.now at c.args.values.now.items within same c.requires.missing;
      next_within = omega arith;
    }

pub returns-then-mark-eq125 : goal.returns-then-mark-eq125
returns-then-mark-eq125 c =
    let text = c.args.text.now in
    let stop = c.in_ok-stop.stop in
    let end = c.space_end-end.result in
    let same : lexemes text end ≡ lexemes text stop = rw (← c.as_bytes-line.ensures.value) c.space_end-end.ensures.same in
    let mark : get_or text end 32 ≡ 125 = omega (arith, c.byte_at-mark.ensures, ap (λ t. get_or t end 32) c.as_bytes-line.ensures.value) in
    members-end text c.args.from c.args.columns.now c.members.at stop end c.members.values.items c.take_member.new.values.items c.members.invariant.members c.in_ok-stop.ensures.taken same mark

pub members-preserved : goal.members-preserved
members-preserved c =
    let text = c.args.text.now in
    let stop = c.in_ok-stop.stop in
    let end = c.space_end-end.result in
    let at = c.space_end-at-in-members.result in
    let same : lexemes text end ≡ lexemes text stop = rw (← c.as_bytes-line.ensures.value) c.space_end-end.ensures.same in
    let mark : get_or text end 32 ≡ 44 = omega (arith, c.byte_at-mark.ensures, ap (λ t. get_or t end 32) c.as_bytes-line.ensures.value) in
    let within : at ≤ length text = rw (← c.as_bytes-line.ensures.value) c.space_end-at-in-members.ensures.within in
    let again : lexemes text at ≡ lexemes text (end + 1) = rw (← c.as_bytes-line.ensures.value) c.space_end-at-in-members.ensures.same in
    record {
      members = members-more text c.args.from c.args.columns.now c.members.at stop end c.members.values.items c.take_member.new.values.items c.members.invariant.members c.in_ok-stop.ensures.taken same at mark within again;
      next_within = c.in_ok-stop.ensures.next_within;
    }
