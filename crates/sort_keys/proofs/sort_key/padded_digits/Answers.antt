use Rattle.std.proofs.Common.{◌≡◌, ◌∙◌, ◌++◌, ℕ, List, drop, replicate, slice_index, get_or, subst, sym}
use Rattle.sort_keys.proofs.Digits.{number-digits, padded}
use Rattle.sort_keys.proofs.sort_key.padded_digits.Goals as goal

pub returns : goal.returns
returns c =
    let code = c.args.code.now in
    let len = c.min-len.result in
    let zeros : List ℕ = drop len (replicate 16 0) in
    c.from_be_bytes.ensures
    ∙ number-digits code (c.copy_from_slice.new.self ++ zeros)
    (λ i low. subst (λ (front : List ℕ). slice_index (front ++ zeros) i ≡ get_or code i 0) (sym c.copy_from_slice.ensures.after) (padded code len c.min-len.ensures i low))
