-- The first bytes of a text from a place on.
use Rattle.std.proofs.Common.{◌≡◌, ℕ, ◌+◌, ◌<◌, ◌≤◌, List, ◌∷◌, length, drop, get_or, refl, ap, ◌∙◌, arith}
use Rattle.std.proofs.lemmas.List.{drop_more}

module _ (text : List ℕ) where
  pub one_byte : (at next : ℕ) → next ≡ at + 1 → at < length text → drop at text ≡ get_or text at 0 ∷ drop next text
  one_byte at next e below = rw e (drop_more text at 0 below)

  pub four_bytes : (at : ℕ) → at + 4 ≤ length text → drop at text ≡ get_or text at 0 ∷ get_or text (at + 1) 0 ∷ get_or text (at + 2) 0 ∷ get_or text (at + 3) 0 ∷ drop (at + 4) text
  four_bytes at room =
      one_byte at (at + 1) refl (omega arith)
      ∙ ap (λ t. get_or text at 0 ∷ t) (one_byte (at + 1) (at + 2) (omega arith) (omega arith)
      ∙ ap (λ t. get_or text (at + 1) 0 ∷ t) (one_byte (at + 2) (at + 3) (omega arith) (omega arith)
      ∙ ap (λ t. get_or text (at + 2) 0 ∷ t) (one_byte (at + 3) (at + 4) (omega arith) (omega arith))))
