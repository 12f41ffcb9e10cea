use Rattle.std.proofs.Common.{◌≡◌, ◌++◌, string_bytes, ap, ◌∙◌}
use Rattle.lines.proofs.Objects.{quote-boundary, text-taken}
use Rattle.lines.proofs.bytes.member.escaped_text_at.Goals as goal

pub push_content-requires : goal.push_content-requires
push_content-requires c = quote-boundary c.args.text.now c.args.at c.utf8.text c.requires.opens

pub returns : goal.returns
returns c =
    let found = c.in_ok-quote.ensures in
    let pushed : string_bytes c.push_content.new.content ≡ found.0 = found.2 ∙ ap (λ t. t ++ found.0) c.in_ok-content.ensures in
    text-taken c.args.text.now c.args.at c.in_ok-quote.quote (found.0) c.push_content.new.content c.requires.opens (found.1) pushed
