-- What stands behind a front of a text.
use Rattle.std.proofs.Common.{◌≡◌, ℕ, true, false, cond, List, length, drop, Option, Some, None, sym, ap, subst, ◌∙◌}
use Rattle.std.proofs.lemmas.Str.Pattern.{starts_text}
use Rattle.std.specs.Borrow.{Bor}
use Rattle.std.specs.Prelude.{MatchOption}
use Rattle.std.specs.Str.{IsCharBoundary}
use Rattle.std.specs.Str.Pattern.{FindsTextPrefix, StripsPrefix}
use Rattle.parts.specs.ReadingParts.{behind_front}
use Rattle.parts.specs.Inside.Texts.{IsBehind}

pub stripped : (front text : List ℕ) (r : Option (Bor (List ℕ))) → MatchOption r (FindsTextPrefix front text None) (λ x. StripsPrefix (FindsTextPrefix front) text x.now) → IsBehind (behind_front front text) r
stripped front text None is = ap (λ b. cond b (Some (drop (length front) text)) None) (sym (starts_text false front text is))
stripped front text (Some x) is =
    let n : ℕ = is.0 in
    let found = is.1 in
    let long : n ≡ length front = found.0 in
    let at : IsCharBoundary text n = subst (IsCharBoundary text) (sym long) found.2 in
    ap (λ b. cond b (Some (drop (length front) text)) None) (sym (starts_text true front text (n, found, at)))
    ∙ ap Some (ap (λ k. drop k text) (sym long) ∙ sym is.2)
