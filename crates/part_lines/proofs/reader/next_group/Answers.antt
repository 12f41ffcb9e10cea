use Rattle.std.proofs.Common.{refl}
use Rattle.std.proofs.lemmas.Result.{err_from_is_err_and}
use Rattle.part_lines.specs.Reading.{each_at, group_at, state_at}
use Rattle.part_lines.proofs.Loop.{refused_on}
use Rattle.part_lines.proofs.reader.next_group.Goals as goal

pub returns-in_err-states-clause-read : goal.returns-in_err-states-clause-read
unfolding group_at
returns-in_err-states-clause-read g c = λ known.
    let key = c.in_ok-key.ensures.read known in
    let members = c.in_ok-members.ensures.read (c.in_ok-key.ensures.known known) in
    let states = c.in_err-states.ensures.read (c.in_ok-members.ensures.known (c.in_ok-key.ensures.known known)) in
    let columns = c.as_slice-columns.ensures.value in
    let kinds = c.as_slice.ensures.value in
    let p = err_from_is_err_and c.from_residual-in_err-states.result c.from_residual-in_err-states.ensures.1 in
    rw (p.1, p.2) (rw (← columns, key, members, ← kinds) (refused_on c.in_err-states.field-0.0 (each_at (state_at c.in_ok-members.members) c.as_slice.result.now (g.S.ValueReader.stream c.next_members.new.source)) _ states))

pub returns-clause-read : goal.returns-clause-read
unfolding group_at
returns-clause-read g c = λ known.
    let key = c.in_ok-key.ensures.read known in
    let members = c.in_ok-members.ensures.read (c.in_ok-key.ensures.known known) in
    let states = c.in_ok-states.ensures.read (c.in_ok-members.ensures.known (c.in_ok-key.ensures.known known)) in
    let columns = c.as_slice-columns.ensures.value in
    let kinds = c.as_slice.ensures.value in
    rw (← columns, key, members, ← kinds, states) refl
