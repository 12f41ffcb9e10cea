use Rattle.std.proofs.Common.{◌++◌, ◌∷◌, [], None, option_map, arith, length-append}
use Rattle.std.proofs.lemmas.Result.{err_from_is_err_and}
use Rattle.values.specs.GroupStates.{entry_of}
use Rattle.part_lines.specs.Groups.{shape_of}
use Rattle.semantics.specs.Parts.{groups_values, text_of}
use Rattle.part_lines.specs.Reading.{groups_at}
use Rattle.part_lines.proofs.Loop.{groups_are_done, groups_end, groups_go_on}
use Rattle.parts.specs.Inside.Gathering.{groups_of, key_of}
use Rattle.parts.proofs.OfGroups.{differs-more, hashed-group}
use Rattle.parts.proofs.groups.next_groups.Goals as goal

pub returns-in_err-group-clause-read : goal.returns-in_err-group-clause-read
returns-in_err-group-clause-read g c = λ known.
    let so_far = c.loop.invariant.read known in
    let p = err_from_is_err_and c.from_residual.result c.from_residual.ensures.1 in
    let shape = shape_of c.args.shape.now in
    let last = option_map key_of c.loop.so_far.last in
    let here = rw c.last_key.ensures at (c.in_err-group.ensures.read so_far.0) in
    let total = groups_at shape c.args.count None c.args.start.left (g.S.ValueReader.stream c.args.source.now) in
    rw (p.1, p.2)
    (groups_end shape c.in_err-group.field-0.0 (groups_of c.loop.so_far) c.args.count c.loop.counter last c.loop.so_far.left (g.S.ValueReader.stream c.loop.source) total c.loop-test.true here so_far.1)

pub loop-preserved : goal.loop-preserved
loop-preserved g c =
    let next = c.in_ok-so_far.ensures in
    let group = entry_of c.in_ok-group.group in
    let shape = shape_of c.args.shape.now in
    let last = option_map key_of c.loop.so_far.last in
    let total = groups_at shape c.args.count None c.args.start.left (g.S.ValueReader.stream c.args.source.now) in record {
      read = λ known.
          let so_far = c.loop.invariant.read known in
          let here = rw c.last_key.ensures at (c.in_ok-group.ensures.read so_far.0) in (
            c.in_ok-group.ensures.known so_far.0,
            rw (next.groups, next.last, next.left)
                (groups_go_on shape (groups_of c.loop.so_far) c.args.count c.loop.counter last c.loop.so_far.left (g.S.ValueReader.stream c.loop.source) group (g.S.ValueReader.stream c.next_group.new.source) total c.loop-test.true here so_far.1),
          );
      count = rw next.groups (omega (arith, c.loop.invariant.count, length-append (groups_of c.loop.so_far) (group ∷ [])));
      gathering = next.gathering;
      hashed = λ bytes holds.
          rw next.groups
          (hashed-group c.in_ok-so_far.so_far.hasher bytes (groups_of c.loop.so_far) group (next.hashed (bytes ++ text_of (groups_values (groups_of c.loop.so_far))) (c.loop.invariant.hashed bytes holds)));
      others = differs-more c.args.start.partial c.loop.so_far.partial c.in_ok-so_far.so_far.partial c.loop.invariant.others next.others;
      onward = omega (arith, c.loop.invariant.onward, c.in_ok-group.ensures.onward);
    }

pub returns-clause-read : goal.returns-clause-read
returns-clause-read g c = λ known.
    let shape = shape_of c.args.shape.now in
    let total = groups_at shape c.args.count None c.args.start.left (g.S.ValueReader.stream c.args.source.now) in
    groups_are_done shape (groups_of c.loop.so_far) c.args.count c.loop.counter (option_map key_of c.loop.so_far.last) c.loop.so_far.left (g.S.ValueReader.stream c.loop.source) total c.loop-test.false (c.loop.invariant.read known).1
