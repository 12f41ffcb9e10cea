use Rattle.std.proofs.Common.{◌≡◌, ◌∙◌, ◌<◌, ◌++◌, ap, sym, subst}
use Rattle.std.specs.List.{AllByRecursion}
use Rattle.sort_keys.proofs.Texts.{part-behind, text-below}
use Rattle.sort_keys.proofs.code.put_text.Goals as goal

pub returns-in_err-push-clause-codable : goal.returns-in_err-push-clause-codable
returns-in_err-push-clause-codable c = text-below c.args.string.now c.utf8.string

pub returns-in_err-extend_from_slice-clause-codable : goal.returns-in_err-extend_from_slice-clause-codable
returns-in_err-extend_from_slice-clause-codable c = text-below c.args.string.now c.utf8.string

pub raise-requires : goal.raise-requires
raise-requires c =
    let front = c.push.new.self.items in
    let there : c.as_mut_slice.result.now ≡ front ++ c.args.string.now = c.as_mut_slice.ensures.value ∙ c.in_ok-extend_from_slice.ensures.items ∙ ap (λ s. front ++ s) c.as_bytes.ensures.value in
    subst (λ s. AllByRecursion (λ b. b < 255) s)
    (sym (part-behind c.as_mut_slice.result.now front c.args.string.now c.len-start.result there (c.len-start.ensures ∙ c.push.new.self.ok.0)))
    (text-below c.args.string.now c.utf8.string)

pub returns-clause-codable : goal.returns-clause-codable
returns-clause-codable c = text-below c.args.string.now c.utf8.string
