use Rattle.std.proofs.Common.{ap, ◌∙◌}
use Rattle.semantics.specs.Records.{datum_taken}
use Rattle.lines_json.specs.Standing.{IsValueAt}
use Rattle.lines.specs.Inside.Members.{IsNameAt}
use Rattle.lines.proofs.Placing.{taken-other, taken-place}
use Rattle.lines.proofs.bytes.members.take_member.Goals as goal

pub returns-in_ok-value-in-Some-clause-taken : goal.returns-in_ok-value-in-Some-clause-taken
returns-in_ok-value-in-Some-clause-taken c =
    let columns = c.args.columns.now in
    let name = c.in_ok-name.name.now in
    let old = c.args.values.now.items in
    let place = c.in-Some.ensures in
    let column = c.index-columns-place in
    let v = c.in_ok-value-in-Some.ensures in
    let named : IsNameAt c.args.text.now c.args.at c.in_ok-name.start name = rw (← c.as_bytes-line.ensures.value) c.in_ok-name.ensures in
    record {
      start = c.in_ok-name.start;
      name = name;
      named = named;
      value = v.value;
      takes = λ found taken. rw (c.put_at.ensures) (taken-place columns old found name v.value.meant taken c.in-Some.place column.result c.in_ok-value-in-Some.value c.requires.schema.names_differ place.0 column.is place.1 (ap (λ at_place. datum_taken at_place.kind v.value.meant) column.is ∙ v.taken));
    }

pub returns-in_ok-stop-in-None-clause-taken : goal.returns-in_ok-stop-in-None-clause-taken
returns-in_ok-stop-in-None-clause-taken c =
    let columns = c.args.columns.now in
    let name = c.in_ok-name.name.now in
    let start = c.in_ok-name.start in
    let named : IsNameAt c.args.text.now c.args.at start name = rw (← c.as_bytes-line.ensures.value) c.in_ok-name.ensures in
    let value : IsValueAt c.args.text.now 126 start c.in_ok-stop-in-None.stop = rw (← c.as_bytes-line.ensures.value) c.in_ok-stop-in-None.ensures in
    record {
      start = start;
      name = name;
      named = named;
      value = value;
      takes = λ found taken. taken-other columns c.args.values.now.items found name value.meant taken c.in-None.ensures;
    }
