use Rattle.std.proofs.Common.{◌∙◌, ◌≡◌, ◌+◌, ap, take, drop, sym, subst, arith}
use Rattle.std.proofs.lemmas.List.{with_items_is}
use Rattle.std.specs.Io.KnownBytes.{Consumes}
use Rattle.std.specs.Vec.{with_items}
use Rattle.lines.proofs.Leaving.{GoesOn-read}
use Rattle.lines.proofs.input.Input.read_more.Goals as goal

pub returns-clause-goes_on : goal.returns-clause-goes_on
returns-clause-goes_on g c =
    let held = c.args.self.now.held in
    let n = c.in_ok-count.count in
    let got = c.in_ok-count.ensures.got in
    let before = g.R.Read.remaining c.args.self.now.source.reader in
    let after = g.R.Read.remaining c.read.new.self.reader in
    let longer = c.make_room.new.self in
    let room = c.make_room.ensures in
    let read = c.read.new.buffer in
    let items = (with_items longer.buffer read).items in
    let same : items ≡ read = with_items_is longer.buffer read (omega (arith, c.read.ensures.length, c.as_mut_slice.ensures.len)) in
    let front : take held.filled read ≡ take held.filled longer.buffer.items =
    subst (λ m. take m read ≡ take m longer.buffer.items) room.filled (c.read.ensures.front ∙ ap (take longer.filled) c.as_mut_slice.ensures.value) in
    GoesOn-read g.R.Read.remaining c.args.self.now _ n c.requires.ready
    (record { cut = room.front.cut; full = room.front.full; size = room.front.size; front = ap (take held.filled) same ∙ front ∙ room.front.front })
    (record { filled = ap (λ m. m + n) room.filled; taken = got.taken; end = got.end })
    (subst (λ l. Consumes before after (take n (drop held.filled l))) (sym same) (subst (λ m. Consumes before after (take n (drop m read))) room.filled got.bytes))
    got.limit
