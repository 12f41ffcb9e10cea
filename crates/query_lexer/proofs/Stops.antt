-- A text spells tokens, or stops at one byte where none begins, and never both.
use Rattle.std.proofs.Common.{arith, length, length-append, ◌<◌, ◌≤◌, ◌+◌, ◌≡◌, ℕ, zero, suc, true, ◌⊎◌, inl, inr, List, [], ◌∷◌, ◌++◌, Option, Some, None, refl, sym, ap, subst, ◌∙◌}
use Rattle.std.proofs.lemmas.List.{nil_from_length}
use Rattle.semantics.specs.declared.token.Token.{Token}
use Rattle.semantics.specs.declared.token.Sign.{Sign}
use Rattle.semantics.specs.declared.token.Sign.TheVariants as s
use Rattle.semantics.specs.Words.{is_word}
use Rattle.semantics.specs.Tokens.{is_digits, sign_text, begins_with, is_space, BeginsNoToken, IsToken, SpellsFrom, Spells, StopsFrom, StopsAt}
use Rattle.query_lexer.specs.Steps.{after_space, token_at}
use Rattle.query_lexer.proofs.Inversions.{some_is}
use Rattle.query_lexer.proofs.Sound.{token_s}
use Rattle.query_lexer.proofs.Complete.{token_c, nil_reads}
use Rattle.query_lexer.proofs.Progress.{spaced, unspaced, space_passed, after_no_token}
use Rattle.query_lexer.proofs.Unique.{token_no_space}

-- Nothing begins where no token begins.
begins_nothing : {bs : List ℕ} → BeginsNoToken bs → (after_space bs ≡ None) × (token_at bs ≡ None)
begins_nothing {bs} b = (no_space (after_space bs) refl, no_token (token_at bs) refl) where
  no_space : (o : Option (List ℕ)) → after_space bs ≡ o → o ≡ None
  no_space None e = refl
  no_space (Some left) e = absurd (let sp = spaced bs left e in let h = ap (begins_with is_space) sp.cut in let i = sp.is in let j = b.no_space in cc)

  no_token : (o : Option (Token × List ℕ)) → token_at bs ≡ o → o ≡ None
  no_token None e = refl
  no_token (Some x) e = absurd (let f = token_s bs x.1 x.0 e in b.no_token f.front x.1 x.0 f.cut f.is)

-- ---- where a text stops, taken apart as the reader takes it

stopped_end : {n at : ℕ} {bs : List ℕ} → StopsFrom n bs at → length bs ≡ 0 → ⊥
stopped_end (StopsFrom.here {bs = bs} b) e = b.no_end (nil_from_length bs e)
stopped_end (StopsFrom.space h s) e = absurd (omega arith)
stopped_end (StopsFrom.token {front = front} {rest = rest} t s) e = absurd (let none = nil_reads in let some = token_c t in let same = ap token_at (nil_from_length (front ++ rest) e) in cc)

stopped_space : {n at : ℕ} {bs : List ℕ} → StopsFrom n bs at → (left : List ℕ) → after_space bs ≡ Some left → StopsFrom (n + 1) left at
stopped_space (StopsFrom.here b) left e = absurd (let none = (begins_nothing b).0 in cc)
stopped_space (StopsFrom.space {n} {b} {at} {bs} h s) left e = subst (λ zs. StopsFrom (n + 1) zs at) (some_is bs left (sym (space_passed b bs h) ∙ e)) s
stopped_space (StopsFrom.token t s) left e = absurd (after_no_token t left e)

stopped_token : {n at : ℕ} {bs : List ℕ} → StopsFrom n bs at → (k : Token) (left : List ℕ) → after_space bs ≡ None → token_at bs ≡ Some (k, left) → (m : ℕ) → m + length left ≡ n + length bs → StopsFrom m left at
stopped_token (StopsFrom.here b) k left e d m place = absurd (let none = (begins_nothing b).1 in cc)
stopped_token (StopsFrom.space {n} {b} {at} {bs} h s) k left e d m place = absurd (let p = space_passed b bs h in cc)
stopped_token (StopsFrom.token {n} {at} {front} {rest} {k = j} t s) k left e d m place =
    let left_is : rest ≡ left = ap (λ (x : Token × List ℕ). x.1) (some_is (j, rest) (k, left) (sym (token_c t) ∙ d)) in
    let moved : n + length front ≡ m = omega (arith, length-append front rest, ap length left_is, place) in
    subst (λ zs. StopsFrom m zs at) left_is (subst (λ (i : ℕ). StopsFrom i rest at) moved s)

stopped_here : {n at : ℕ} {bs : List ℕ} → StopsFrom n bs at → BeginsNoToken bs → n ≡ at
stopped_here (StopsFrom.here b) none = refl
stopped_here (StopsFrom.space {b = b} {bs = bs} h s) none = absurd (let p = space_passed b bs h in let q = (begins_nothing none).0 in cc)
stopped_here (StopsFrom.token t s) none = absurd (let p = token_c t in let q = (begins_nothing none).1 in cc)

-- ---- the laws

stops_once : {n at other : ℕ} {bs : List ℕ} → StopsFrom n bs at → StopsFrom n bs other → at ≡ other
stops_once (StopsFrom.here b) q = stopped_here q b
stops_once (StopsFrom.space {b = b} {bs = bs} h s) q = stops_once s (stopped_space q bs (space_passed b bs h))
stops_once (StopsFrom.token {n} {at} {front} {rest} {k} t s) q = stops_once s (stopped_token q k rest (token_no_space t) (token_c t) (n + length front) (omega (arith, length-append front rest)))

spells_and_stops : {n at : ℕ} {bs starts : List ℕ} {ks : List Token} → SpellsFrom n bs ks starts → StopsFrom n bs at → ⊥
spells_and_stops SpellsFrom.end q = stopped_end q refl
spells_and_stops (SpellsFrom.space {b = b} {bs = bs} h s) q = spells_and_stops s (stopped_space q bs (space_passed b bs h))
spells_and_stops (SpellsFrom.token {n} {front} {rest} {k = k} t s) q = spells_and_stops s (stopped_token q k rest (token_no_space t) (token_c t) (n + length front) (omega (arith, length-append front rest)))

pub one : (text : List ℕ) (at other : ℕ) → StopsAt text at → StopsAt text other → at ≡ other
one text at other s q = stops_once s q

pub not_both : (text starts : List ℕ) (ks : List Token) (at : ℕ) → Spells text ks starts → StopsAt text at → ⊥
not_both text starts ks at s q = spells_and_stops s q

-- What a token is made of has a byte.
word_long : (front : List ℕ) → is_word front ≡ true → 0 < length front
word_long [] w = absurd cc
word_long (b ∷ bs) w = omega arith

digits_long : (front : List ℕ) → is_digits front ≡ true → 0 < length front
digits_long [] w = absurd cc
digits_long (b ∷ bs) w = omega arith

sign_long : (sign : Sign) → 0 < length (sign_text sign)
sign_long s.Open = omega arith
sign_long s.Close = omega arith
sign_long s.Comma = omega arith
sign_long s.Star = omega arith
sign_long s.Equal = omega arith
sign_long s.NotEqual = omega arith
sign_long s.Less = omega arith
sign_long s.LessOrEqual = omega arith
sign_long s.Greater = omega arith
sign_long s.GreaterOrEqual = omega arith

-- A token has a byte.
token_long : {front rest : List ℕ} {k : Token} → IsToken front k rest → 0 < length front
token_long (IsToken.keyword {front} w r b) = word_long front w
token_long (IsToken.name {front} w r b) = word_long front w
token_long (IsToken.quoted_name b) = omega arith
token_long (IsToken.text b) = omega arith
token_long (IsToken.number {digits} d v b) = digits_long digits d
token_long (IsToken.negative d v b) = omega arith
token_long (IsToken.sign {sign} l) = sign_long sign

-- Tokens and their places, or the byte where none begins.
abbrev Way : ℕ → List ℕ → Type 0
Way n bs = ((ks : List Token) × (starts : List ℕ) × SpellsFrom n bs ks starts) ⊎ ((at : ℕ) × StopsFrom n bs at)

way : (fuel n : ℕ) (bs : List ℕ) → length bs ≤ fuel → Way n bs
way fuel n [] h = inl ([], [], SpellsFrom.end)
way zero n (b ∷ bs) h = absurd (omega arith)
way (suc fuel) n (b ∷ bs) h = of_space (λ m cs i. way fuel m cs i) (after_space (b ∷ bs)) refl where
  of_token : ((m : ℕ) (cs : List ℕ) → length cs ≤ fuel → Way m cs) → after_space (b ∷ bs) ≡ None → (o : Option (Token × List ℕ)) → token_at (b ∷ bs) ≡ o → Way n (b ∷ bs)
  of_token next e None d = inr (n, StopsFrom.here record { no_end = λ i. absurd cc; no_space = unspaced (b ∷ bs) e; no_token = λ front rest k i t. (let some = token_c t in let same = ap token_at i in absurd cc) })
  of_token next e (Some x) d =
      let f = token_s (b ∷ bs) x.1 x.0 d in
      elim (next (n + length f.front) x.1 (omega (arith, h, ap length f.cut, length-append f.front x.1, token_long f.is))) [
        | inl w ↦ inl (x.0 ∷ w.0, n ∷ w.1, subst (λ zs. SpellsFrom n zs (x.0 ∷ w.0) (n ∷ w.1)) (sym f.cut) (SpellsFrom.token f.is w.2))
        | inr w ↦ inr (w.0, subst (λ zs. StopsFrom n zs w.0) (sym f.cut) (StopsFrom.token f.is w.1))
      ]

  of_space : ((m : ℕ) (cs : List ℕ) → length cs ≤ fuel → Way m cs) → (o : Option (List ℕ)) → after_space (b ∷ bs) ≡ o → Way n (b ∷ bs)
  of_space next None e = of_token next e (token_at (b ∷ bs)) refl
  of_space next (Some left) e =
      let sp = spaced (b ∷ bs) left e in
      elim (next (n + 1) left (omega (arith, h, ap length sp.cut))) [
        | inl w ↦ inl (w.0, w.1, subst (λ zs. SpellsFrom n zs w.0 w.1) (sym sp.cut) (SpellsFrom.space sp.is w.2))
        | inr w ↦ inr (w.0, subst (λ zs. StopsFrom n zs w.0) (sym sp.cut) (StopsFrom.space sp.is w.1))
      ]

pub decided : (text : List ℕ) → ((ks : List Token) × (starts : List ℕ) × Spells text ks starts) ⊎ ((at : ℕ) × StopsAt text at)
decided text = way (length text) 0 text (omega arith)
