use Rattle.std.proofs.Common.{length, string_bytes}
use Rattle.values.specs.Schema.{fields_of}
use Rattle.semantics.specs.Parts.{header_of, number, refused_values}
use Rattle.parts.proofs.Joined.{text-front}
use Rattle.parts.proofs.write.front_text.Goals as goal

pub returns : goal.returns
returns c =
    text-front (header_of (string_bytes c.args.header.now.columns) (string_bytes c.args.header.now.query)) (refused_values (fields_of c.args.columns.now) c.args.refused.now) (number c.args.lines) (number (length c.args.refused.now)) (number c.args.groups)
    c.new-text.result.items c.push_header.new.text.items c.push_number.new.text.items c.push_number-2.new.text.items c.push_refused.new.text.items c.push_number-3.new.text.items
    c.new-text.ensures.items c.in_ok-push_header.ensures c.in_ok-push_number.ensures c.in_ok-push_number-2.ensures c.in_ok-push_refused.ensures c.in_ok-push_number-3.ensures
