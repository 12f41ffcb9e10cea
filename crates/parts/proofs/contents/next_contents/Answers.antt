use Rattle.std.proofs.Common.{◌∙◌, string_bytes}
use Rattle.values.specs.Schema.{fields_of}
use Rattle.parts.proofs.OfGroups.{contents-hashed}
use Rattle.parts.proofs.contents.next_contents.Goals as goal

pub returns-clause-hashed : goal.returns-clause-hashed
returns-clause-hashed g c =
    contents-hashed c.next_groups.result c.in_ok-start.start c.as_slice-2.result.now c.args.plan.now.fields (fields_of c.columns-columns.result.now) c.args.plan.now.query (string_bytes c.args.header.now.columns) (string_bytes c.args.header.now.query) c.in_ok-lines.lines c.in_ok-count.count c.in_ok-refused.refused.items c.as_slice.result.now
    c.next_groups.ensures.hashed c.next_groups.ensures.count c.next_groups.ensures.others c.in_ok-start.ensures.hashed c.in_ok-start.ensures.refusals (c.as_slice-2.ensures.value ∙ c.in_ok-text.ensures) c.as_slice.ensures.value (c.columns-columns.ensures.columns ∙ c.schema.ensures.schema) c.requires.columns c.requires.query
