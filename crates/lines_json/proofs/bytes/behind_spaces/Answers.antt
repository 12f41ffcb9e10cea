use Rattle.std.proofs.Common.{◌≡◌, ◌<◌, length, get_or, true, sym, ap, ◌∙◌, arith}
use Rattle.std.proofs.lemmas.List.{get_or_default}
use Rattle.std.proofs.lemmas.List.Sums.{prefix_len-drop_yes}
use Rattle.json.specs.Word.{is_space}
use Rattle.lines_json.proofs.Lexemes.{lexemes-space}
use Rattle.lines_json.proofs.bytes.behind_spaces.Goals as goal

pub spaces-preserved : goal.spaces-preserved
spaces-preserved c =
    let text = c.args.text.now in
    let at = c.spaces.at in
    let below : at < length text = omega arith in
    let blank : is_space (get_or text at 32) ≡ true = ap is_space (get_or_default text at 32 0 below) ∙ sym c.is_space.ensures ∙ c.if-is_space.true in
    record {
      later = omega (arith, c.spaces.invariant.later);
      within = omega arith;
      spaces_left = omega (arith, prefix_len-drop_yes is_space text at 32 below blank, c.spaces.invariant.spaces_left);
      same = sym (lexemes-space text at below blank) ∙ c.spaces.invariant.same;
    }
