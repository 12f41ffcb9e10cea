use Rattle.std.proofs.Common.{◌≡◌, ◌∙◌, ◌++◌, ap, drop}
use Rattle.std.proofs.lemmas.List.{drop-drop}
use Rattle.sort_keys.specs.SortKeys.{digits_of}
use Rattle.sort_keys.proofs.sort_key.SortKey.new.Goals as goal

pub returns : goal.returns
returns c =
    let code = c.args.code.now in
    let second = c.digits_of-2.ensures ∙ ap digits_of c.behind-next.ensures in
    let rest : c.extend_from_slice.new.self.items ≡ drop 32 code =
    c.in_ok-extend_from_slice.ensures.items ∙ (λ i. c.new-rest.ensures.items i ++ c.behind.ensures i) ∙ ap (drop 16) c.behind-next.ensures ∙ drop-drop 16 16 code in
    λ i. (c.digits_of.ensures i, second i, rest i)
