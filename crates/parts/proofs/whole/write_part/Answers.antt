use Rattle.std.proofs.Common.{◌∙◌, length, refl, string_bytes}
use Rattle.values.specs.Schema.{fields_of}
use Rattle.tables.specs.Contents.{contents_of}
use Rattle.tables.specs.Partials.{StandsForInput}
use Rattle.parts.proofs.Parted.{lines-of, parted}
use Rattle.parts.proofs.whole.write_part.Goals as goal

pub returns : goal.returns
returns c =
    let fields = c.args.plan.now.fields in
    let q = c.args.plan.now.query in
    let contents = c.in_ok-contents.contents in
    let columns = string_bytes c.in_ok-header.header.columns in
    let query = string_bytes c.in_ok-header.header.query in
    let front = c.in_ok-text.text.items in
    let all = c.push_groups.new.text.items in
    parted c.with_checksum.result all fields q (contents_of contents) (λ input. StandsForInput c.args.plan.now c.args.partial input) c.with_checksum.ensures
    (lines-of front all fields (fields_of c.columns-columns.result.now) q columns query contents.lines (length c.as_slice-groups.result.now) contents.refused.items c.as_slice-refused.result.now contents.groups.items c.as_slice-groups.result.now c.in_ok-text.ensures c.in_ok-push_groups.ensures (c.columns-columns.ensures.columns ∙ c.schema.ensures.schema) c.in_ok-header.ensures.columns c.in_ok-header.ensures.query refl c.as_slice-refused.ensures.value c.as_slice-groups.ensures.value)
    (λ input stands. c.in_ok-contents.ensures c.args.plan.now input stands)
