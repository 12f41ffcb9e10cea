use Rattle.std.proofs.Common.{◌≡◌, List, ℕ, [], ◌∷◌, ◌++◌, ap, ◌∙◌}
use Rattle.json.specs.Print.{print}
use Rattle.json.specs.Token.{Token, string}
use Rattle.part_lines.proofs.Spellings.{print-one}
use Rattle.part_lines.proofs.strings.json_string.Goals as goal

pub returns : goal.returns
returns c =
    let text : List ℕ = c.args.text.now in
    let before : c.string.new.self.before ≡ [] = c.in_ok-string.ensures.room.0 ∙ c.new-writer.ensures.before ∙ c.in_ok-with_capacity.ensures.items in
    let tokens : c.string.new.self.tokens ≡ string text ∷ [] = c.in_ok-string.ensures.ok ∙ ap (λ (ts : List Token). ts ++ string text ∷ []) c.new-writer.ensures.tokens in
    c.into_inner.ensures.items ∙ (λ i. before i ++ print (tokens i)) ∙ print-one (string text)
