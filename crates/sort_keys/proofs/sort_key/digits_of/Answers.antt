use Rattle.std.proofs.Common.{◌≡◌, ◌∙◌, get_or, slice_index, List, ℕ, sym, subst}
use Rattle.std.proofs.lemmas.List.{get_or-take}
use Rattle.sort_keys.proofs.Digits.{number-digits}
use Rattle.sort_keys.proofs.sort_key.digits_of.Goals as goal

pub returns-in-Some : goal.returns-in-Some
returns-in-Some c =
    let code = c.args.code.now in
    c.from_be_bytes.ensures
    ∙ number-digits code c.in-Some.digits.now
    (λ i low. subst (λ (front : List ℕ). slice_index front i ≡ get_or code i 0) (sym c.in-Some.ensures.cases.same) (get_or-take 16 code i 0 low))
