use Rattle.std.proofs.Common.{◌≡◌, List, [], ◌∷◌, ◌++◌, ap, ◌∙◌}
use Rattle.std.specs.Global.{Vec}
use Rattle.std.specs.Prelude.{ℕ}
use Rattle.json.specs.Print.{print}
use Rattle.json.specs.Token.{Token, string}
use Rattle.part_lines.proofs.Spellings.{print-one}
use Rattle.parts.proofs.shown.quoted.Goals as goal

pub returns : goal.returns
returns c =
    let before : c.string.new.self.before ≡ [] = c.in_ok-string.ensures.room.0 ∙ c.new-writer.ensures.before ∙ c.new.ensures.items in
    let tokens : c.string.new.self.tokens ≡ string c.args.text.now ∷ [] = c.in_ok-string.ensures.ok ∙ ap (λ (ts : List Token). ts ++ string c.args.text.now ∷ []) c.new-writer.ensures.tokens in
    ap (λ (v : Vec ℕ). v.items) c.in-Ok.ensures.ok
    ∙ c.into_inner.ensures.items
    ∙ (λ i. before i ++ print (tokens i))
    ∙ print-one (string c.args.text.now)
