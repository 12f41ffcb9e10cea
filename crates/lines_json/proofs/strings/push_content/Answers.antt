use Rattle.std.proofs.Common.{◌≡◌, ℕ, List, ◌+◌, ◌-◌, ◌++◌, drop, take, get_or, string_bytes, append_assoc, sym, ap, ◌∙◌, arith}
use Rattle.std.specs.List.{prefix_len}
use Rattle.std.specs.Char.{encode_utf8}
use Rattle.json.specs.Run.{is_plain}
use Rattle.lines_json.specs.Inside.Contents.{IsEscapeAt}
use Rattle.lines_json.proofs.PartsAt.{closed-at, escape-boundary, escape_behind, plain_behind}
use Rattle.lines_json.proofs.strings.push_content.Goals as goal

-- more is pushed behind what was pushed before
pushed_more : (old before new bytes more : List ℕ) → before ≡ old ++ bytes → new ≡ before ++ more → new ≡ old ++ (bytes ++ more)
pushed_more old before new bytes more first second = second ∙ ap (λ t. t ++ more) first ∙ append_assoc old bytes more

pub returns-then-mark-eq34 : goal.returns-then-mark-eq34
returns-then-mark-eq34 c =
    let text = c.args.text.now in
    let from = c.args.from in
    let at = c.escapes.at in
    let so_far = c.escapes.invariant in
    let stop = c.plain_end-stop.result in
    let same = c.as_bytes-bytes.ensures.value in
    let ends : stop ≡ at + prefix_len is_plain (drop at text) = rw (← same) c.plain_end-stop.ensures.value in
    let closing : get_or text stop 32 ≡ 34 = omega (arith, c.byte_at-mark.ensures, ap (λ t. get_or t stop 32) same) in
    let run = take (stop - at) (drop at text) in
    let grown : string_bytes c.push_str.new.self ≡ string_bytes c.escapes.content ++ c.range.result.now = grind arith in (
      so_far.bytes ++ run,
      closed-at text from stop (so_far.bytes ++ run) (omega (arith, so_far.later, ends)) closing (plain_behind text from at stop so_far.bytes so_far.part ends),
      pushed_more _ _ _ so_far.bytes run so_far.pushed (grown ∙ ap (λ t. string_bytes c.escapes.content ++ t) c.range.ensures.value),
    )

pub escapes-preserved : goal.escapes-preserved
escapes-preserved c =
    let text = c.args.text.now in
    let from = c.args.from in
    let at = c.escapes.at in
    let so_far = c.escapes.invariant in
    let stop = c.plain_end-stop.result in
    let next = c.in_ok-meant.behind in
    let meant = c.in_ok-meant.meant in
    let same = c.as_bytes-bytes.ensures.value in
    let ends : stop ≡ at + prefix_len is_plain (drop at text) = rw (← same) c.plain_end-stop.ensures.value in
    let escape : IsEscapeAt text (stop + 1) next meant = rw (← same) c.in_ok-meant.ensures in
    let backslash : get_or text stop 32 ≡ 92 = omega (arith, c.byte_at-mark.ensures, ap (λ t. get_or t stop 32) same, c.else-mark-ne34.either) in
    let run = take (stop - at) (drop at text) in
    let before = so_far.bytes ++ run in
    let grown : string_bytes c.push_str.new.self ≡ string_bytes c.escapes.content ++ c.range.result.now = grind arith in
    let run_pushed : string_bytes c.push_str.new.self ≡ string_bytes c.args.content.now ++ before =
    pushed_more _ _ _ so_far.bytes run so_far.pushed (grown ∙ ap (λ t. string_bytes c.escapes.content ++ t) c.range.ensures.value) in
    let pushed : string_bytes c.push.new.self ≡ string_bytes c.push_str.new.self ++ encode_utf8 meant = grind arith in
    record {
      later = omega (arith, so_far.later, ends, escape.later);
      boundary = escape-boundary text (stop + 1) next meant c.utf8.text escape;
      bytes = before ++ encode_utf8 meant;
      part = escape_behind text from stop next meant before (plain_behind text from at stop so_far.bytes so_far.part ends) backslash escape;
      pushed = pushed_more _ _ _ before (encode_utf8 meant) run_pushed pushed;
    }
