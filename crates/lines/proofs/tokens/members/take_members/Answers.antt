use Rattle.std.proofs.Common.{◌≡◌, get_or, length, Some, None, ap, ◌∙◌, arith}
use Rattle.std.proofs.lemmas.List.{length-map}
use Rattle.json.specs.Json.{members, read_key, value}
use Rattle.serde_json.specs.Data.{no_members, put}
use Rattle.serde_json.specs.Read.{of_members}
use Rattle.semantics.specs.Columns.{Field}
use Rattle.values.specs.Datum.{datum_of, data_of}
use Rattle.values.specs.Schema.{field_of, fields_of}
use Rattle.semantics.specs.Records.{data_taken, datum_taken, member_of}
use Rattle.lines.proofs.Taking.{somes}
use Rattle.lines_json.proofs.Meaning.{begins, member-next, members-closed}
use Rattle.lines.proofs.Placing.{taken-other, taken-place}
use Rattle.lines.proofs.tokens.members.take_members.Goals as goal

pub members-init : goal.members-init
members-init c = record {
  found = no_members;
  at = begins (members (value 126)) c.args.reader.now (λ ms. of_members ms no_members);
  taken = c.in_ok-values.ensures;
  next_within = omega arith;
}

pub put_at-requires : goal.put_at-requires
put_at-requires c =
    let values = c.members.values.items in
    let columns = c.args.columns.now in
    let found = c.members.invariant.found in
    let same : length (somes (data_of values)) ≡ length (data_taken (fields_of columns) found) = ap length c.members.invariant.taken in
    omega (arith, c.in-Some-place_found_from.ensures.0, same, length-map values datum_of, length-map (data_of values) (λ d. Some d), length-map columns field_of, length-map (fields_of columns) (λ f. datum_taken f.kind (member_of found f.name)))

pub members-preserved-in-Some-place_found_from : goal.members-preserved-in-Some-place_found_from
members-preserved-in-Some-place_found_from c =
    let loop = c.members in
    let found = loop.invariant.found in
    let name = c.in-Some.name.now in
    let behind = c.next_key.new.self in
    let key : read_key loop.reader ≡ Some (Some name, behind) = grind arith in
    let value_taken = c.in_ok-value-in-Some-place_found_from.ensures in
    let d = value_taken.taken.0 in
    let place = c.in-Some-place_found_from.ensures in
    let column = c.index-columns-place.is in
    let named : (x : Field) → (get_or (fields_of c.args.columns.now) c.in-Some-place_found_from.place x).name ≡ name = λ x. place.1 x ∙ c.as_bytes.ensures.value in
    record {
      found = put name d found;
      at = member-next (value 126) c.args.reader.now loop.reader found name behind c.take_value.new.reader d loop.invariant.at key value_taken.taken.1 value_taken.shorter;
      taken = rw (c.put_at.ensures) (taken-place c.args.columns.now loop.values.items found name d loop.invariant.taken c.in-Some-place_found_from.place c.index-columns-place.result c.in_ok-value-in-Some-place_found_from.value c.requires.names_differ place.0 column named (ap (λ column. datum_taken column.kind d) column ∙ value_taken.taken.2));
      next_within = omega (arith, place.0);
    }

pub members-preserved : goal.members-preserved
members-preserved c =
    let loop = c.members in
    let found = loop.invariant.found in
    let name = c.in-Some.name.now in
    let behind = c.next_key.new.self in
    let key : read_key loop.reader ≡ Some (Some name, behind) = grind arith in
    let passed = c.in_ok-skip_value-in-None.ensures in
    record {
      found = put name passed.passed.0 found;
      at = member-next (value 126) c.args.reader.now loop.reader found name behind c.skip_value.new.reader passed.passed.0 loop.invariant.at key passed.passed.1 passed.shorter;
      taken = taken-other c.args.columns.now loop.values.items found name passed.passed.0 loop.invariant.taken (rw (← c.as_bytes.ensures.value) c.in-None.ensures);
      next_within = loop.invariant.next_within;
    }

pub returns : goal.returns
returns c =
    let loop = c.members in
    let closed : read_key loop.reader ≡ Some (None, c.next_key.new.self) = grind arith in
    record { taken = (loop.invariant.found, members-closed (value 126) c.args.reader.now loop.reader loop.invariant.found c.next_key.new.self loop.invariant.at closed, loop.invariant.taken) }
