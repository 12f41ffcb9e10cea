-- The lines of values, put together.
use Rattle.std.proofs.Common.{◌≡◌, ℕ, List, [], ◌∷◌, ◌++◌, sym, ap, ◌∙◌, append_assoc, append-nil}
use Rattle.std.proofs.lemmas.Grind.{flat_map-append}
use Rattle.std.proofs.lemmas.List.Concat.{flat_map-cons}
use Rattle.semantics.specs.Values.{Datum}
use Rattle.semantics.specs.Parts.{line_of, text_of}

-- the lines of one more value behind others
pub text-push : (ds : List Datum) (d : Datum) → text_of (ds ++ d ∷ []) ≡ text_of ds ++ line_of d
text-push ds d = flat_map-append line_of ds (d ∷ []) ∙ ap (λ xs. text_of ds ++ xs) (flat_map-cons line_of d [] ∙ append-nil (line_of d))

-- the lines of some values, of two more, of others and of one more
pub text-front : (header others : List Datum) (n m k : Datum) (z a b c d e : List ℕ) → z ≡ [] → a ≡ z ++ text_of header → b ≡ a ++ line_of n → c ≡ b ++ line_of m → d ≡ c ++ text_of others → e ≡ d ++ line_of k
    → e ≡ text_of (header ++ n ∷ m ∷ others ++ k ∷ [])
text-front header others n m k z a b c d e none is_a is_b is_c is_d is_e =
    is_e
    ∙ ap (λ xs. xs ++ line_of k)
    (is_d
    ∙ ap (λ xs. xs ++ text_of others) (is_c ∙ ap (λ xs. xs ++ line_of m) (is_b ∙ ap (λ xs. xs ++ line_of n) (is_a ∙ ap (λ xs. xs ++ text_of header) none) ∙ sym (text-push header n)) ∙ sym (text-push (header ++ n ∷ []) m))
    ∙ sym (flat_map-append line_of ((header ++ n ∷ []) ++ m ∷ []) others)
    ∙ ap text_of (ap (λ xs. xs ++ others) (append_assoc header (n ∷ []) (m ∷ [])) ∙ append_assoc header (n ∷ m ∷ []) others))
    ∙ sym (text-push (header ++ n ∷ m ∷ others) k)
