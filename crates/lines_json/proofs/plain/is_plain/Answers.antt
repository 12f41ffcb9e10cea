use Rattle.std.proofs.Common.{◌≡◌, ℕ, suc, ◌+◌, Bool, true, false, cond, ◌&&◌, ◌==◌, List, [], ◌∷◌, refl, sym, ap, ◌∙◌, arith, inl, inr, length}
use Rattle.std.proofs.lemmas.Bool.{cases_eq, eq-eqb, ne_eqb}
use Rattle.std.specs.List.{list_all, prefix_len}
use Rattle.json.specs.Run.{is_plain}
use Rattle.lines_json.proofs.plain.is_plain.Goals as goal

one_more : (b : Bool) (m n : ℕ) → (cond b (1 + m) 0 == suc n) ≡ (b && (m == n))
one_more true m n = elim (cases_eq m n) [
  | inl same ↦ eq-eqb (1 + m) (suc n) (omega (arith, same)) ∙ sym (eq-eqb m n same)
  | inr other ↦ ne_eqb (1 + m) (suc n) (λ e. other (omega (arith, e))) ∙ sym (ne_eqb m n other)
]
one_more false m n = ne_eqb 0 (suc n) (λ none. omega (arith, none))

-- the plain front of a text is the whole text just where each byte is plain
all_plain : (text : List ℕ) → (prefix_len is_plain text == length text) ≡ list_all is_plain text
all_plain [] = refl
all_plain (x ∷ text) = one_more (is_plain x) (prefix_len is_plain text) (length text) ∙ ap (λ rest. is_plain x && rest) (all_plain text)

pub returns : goal.returns
returns c =
    let text : List ℕ = c.args.text.now in
    let stop : c.plain_end.result ≡ prefix_len is_plain text = omega (arith, c.plain_end.ensures.value) in
    ap (λ n. n == length text) stop ∙ all_plain text
