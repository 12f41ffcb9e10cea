-- How far the reader of tokens has come: what is left to read, with what was read, is the whole.
use Rattle.std.proofs.Common.{Bool, true, false, cond, eqb, ◌≡◌, ℕ, ◌<◌, ◌+◌, List, [], ◌∷◌, ◌++◌, length, Option, Some, None, refl, sym, ap, subst, ◌∙◌, append_assoc, arith, ◌⊎◌, inl, inr, ◌||◌, length-append}
use Rattle.std.proofs.lemmas.List.{append-nil, nil_from_length}
use Rattle.std.proofs.lemmas.Bool.{eqb-true}
use Rattle.semantics.specs.declared.token.Token.{Token}
use Rattle.semantics.specs.Tokens.{begins_with, is_space, IsToken, SpellsFrom, Spells, StopsFrom, StopsAt}
use Rattle.query_lexer.specs.Options.{choose}
use Rattle.query_lexer.specs.Steps.{behind, after_space, token_at}
use Rattle.query_lexer.proofs.Inversions.{choose_some, some_is}
use Rattle.query_lexer.proofs.Sound.{behind_cut, token_s}
use Rattle.query_lexer.proofs.Complete.{token_c, space_reads, nil_reads}

-- ---- white space

-- White space in front, and what stands behind it.
pub record IsSpaced (bs rest : List ℕ) : Type 0 where
  pub first : ℕ
  pub cut : bs ≡ first ∷ rest
  pub is : is_space first ≡ true

pub spaced : (bs rest : List ℕ) → after_space bs ≡ Some rest → IsSpaced bs rest
spaced bs rest e =
    elim (choose_some (behind 32 bs) (choose (behind 9 bs) (choose (behind 10 bs) (behind 13 bs) (λ r. Some r)) (λ r. Some r)) (λ r. Some r) rest e) [
      | inr h ↦ record { first = 32; cut = behind_cut 32 bs rest (h.1 ∙ h.2); is = refl }
      | inl h ↦ elim (choose_some (behind 9 bs) (choose (behind 10 bs) (behind 13 bs) (λ r. Some r)) (λ r. Some r) rest h.1) [
        | inr j ↦ record { first = 9; cut = behind_cut 9 bs rest (j.1 ∙ j.2); is = refl }
        | inl j ↦ elim (choose_some (behind 10 bs) (behind 13 bs) (λ r. Some r) rest j.1) [
          | inr k ↦ record { first = 10; cut = behind_cut 10 bs rest (k.1 ∙ k.2); is = refl }
          | inl k ↦ record { first = 13; cut = behind_cut 13 bs rest k.1; is = refl }
        ]
      ]
    ]

-- Four tests of one byte, as they are made one after another.
abbrev tried : Bool → Bool → Bool → Bool → List ℕ → Option (List ℕ)
tried a b c d bs = choose (cond a (Some bs) None) (choose (cond b (Some bs) None) (choose (cond c (Some bs) None) (cond d (Some bs) None) (λ r. Some r)) (λ r. Some r)) (λ r. Some r)

none_tried : (a b c d : Bool) (bs : List ℕ) → tried a b c d bs ≡ None → (a || b || c || d) ≡ false
none_tried true b c d bs e = absurd cc
none_tried false true c d bs e = absurd cc
none_tried false false true d bs e = absurd cc
none_tried false false false true bs e = absurd cc
none_tried false false false false bs e = refl

some_tried : (a b c d : Bool) (bs : List ℕ) → (a || b || c || d) ≡ true → tried a b c d bs ≡ Some bs
some_tried true b c d bs e = refl
some_tried false true c d bs e = refl
some_tried false false true d bs e = refl
some_tried false false false true bs e = refl
some_tried false false false false bs e = absurd cc

-- No white space in front.
pub unspaced : (bs : List ℕ) → after_space bs ≡ None → begins_with is_space bs ≡ false
unspaced [] e = refl
unspaced (b ∷ bs) e = none_tried (eqb b 32) (eqb b 9) (eqb b 10) (eqb b 13) bs e

-- White space is passed.
pub space_passed : (b : ℕ) (bs : List ℕ) → is_space b ≡ true → after_space (b ∷ bs) ≡ Some bs
space_passed b bs h = some_tried (eqb b 32) (eqb b 9) (eqb b 10) (eqb b 13) bs h

which : (a b c d : Bool) → (a || b || c || d) ≡ true → (a ≡ true) ⊎ ((b ≡ true) ⊎ ((c ≡ true) ⊎ (d ≡ true)))
which true b c d e = inl refl
which false true c d e = inr (inl refl)
which false false true d e = inr (inr (inl refl))
which false false false true e = inr (inr (inr refl))
which false false false false e = absurd cc

-- White space begins no token.
space_no_token : (b : ℕ) (bs : List ℕ) → is_space b ≡ true → token_at (b ∷ bs) ≡ None
space_no_token b bs h =
    let at : (c : ℕ) → eqb b c ≡ true → token_at (c ∷ bs) ≡ None → token_at (b ∷ bs) ≡ None = λ c e n. ap (λ (x : ℕ). token_at (x ∷ bs)) (eqb-true b c e) ∙ n in
    elim (which (eqb b 32) (eqb b 9) (eqb b 10) (eqb b 13) h) [
      | inl e ↦ at 32 e (space_reads bs).0
      | inr r ↦ elim r [
        | inl e ↦ at 9 e (space_reads bs).1
        | inr q ↦ elim q [ inl e ↦ at 10 e (space_reads bs).2 | inr e ↦ at 13 e (space_reads bs).3 ]
      ]
    ]

-- ---- what is spelled, taken apart as the reader takes it

-- Tokens and their places from the first on.
pub record IsFirst (n : ℕ) (rest : List ℕ) (m : ℕ) (k : Token) (ks : List Token) (starts : List ℕ) : Type 0 where
  pub others : List Token
  pub places : List ℕ
  pub tokens_are : ks ≡ k ∷ others
  pub starts_are : starts ≡ n ∷ places
  pub spelled : SpellsFrom m rest others places

pub after_no_token : {front rest : List ℕ} {k : Token} → IsToken front k rest → (left : List ℕ) → after_space (front ++ rest) ≡ Some left → ⊥
after_no_token {front} {rest} {k} t left e =
    let sp = spaced (front ++ rest) left e in
    let none = space_no_token sp.first left sp.is in
    let some = token_c t in
    let same = ap token_at sp.cut in cc

-- At the end nothing is spelled.
pub spelled_end : {n : ℕ} {bs starts : List ℕ} {ks : List Token} → SpellsFrom n bs ks starts → length bs ≡ 0 → (ks ≡ []) × (starts ≡ [])
spelled_end SpellsFrom.end e = (refl, refl)
spelled_end (SpellsFrom.space h s) e = absurd (omega arith)
spelled_end (SpellsFrom.token {n} {front} {rest} {starts} {k} {ks} t s) e = absurd (no_token_short front rest k t e) where
  no_token_short : (front rest : List ℕ) (k : Token) → IsToken front k rest → length (front ++ rest) ≡ 0 → ⊥
  no_token_short front rest k t e =
      let none = nil_reads in
      let some = token_c t in
      let same = ap token_at (nil_from_length (front ++ rest) e) in cc

-- White space is left out.
pub spelled_space : {n : ℕ} {bs starts : List ℕ} {ks : List Token} → SpellsFrom n bs ks starts → (left : List ℕ) → after_space bs ≡ Some left → SpellsFrom (n + 1) left ks starts
spelled_space SpellsFrom.end left e = absurd cc
spelled_space (SpellsFrom.space {n} {b} {bs} {starts} {ks} h s) left e =
    subst (λ zs. SpellsFrom (n + 1) zs ks starts) (some_is bs left (sym (space_passed b bs h) ∙ e)) s
spelled_space (SpellsFrom.token t s) left e = absurd (after_no_token t left e)

-- A token that is read is the first that is spelled.
pub spelled_token : {n : ℕ} {bs starts : List ℕ} {ks : List Token} → SpellsFrom n bs ks starts → (k : Token) (left : List ℕ) → after_space bs ≡ None → token_at bs ≡ Some (k, left) → (m : ℕ) → m + length left ≡ n + length bs → IsFirst n left m k ks starts
spelled_token SpellsFrom.end k left e d m place = absurd (let none = nil_reads in cc)
spelled_token (SpellsFrom.space {n} {b} {bs} h s) k left e d m place = absurd (let p = space_passed b bs h in cc)
spelled_token (SpellsFrom.token {n} {front} {rest} {starts} {k = j} {ks} t s) k left e d m place =
    let same = some_is (j, rest) (k, left) (sym (token_c t) ∙ d) in
    let left_is : rest ≡ left = ap (λ (x : Token × List ℕ). x.1) same in
    let moved : n + length front ≡ m = omega (arith, length-append front rest, ap length left_is, place) in
    record {
      others = ks;
      places = starts;
      tokens_are = ap (λ (x : Token × List ℕ). x.0 ∷ ks) same;
      starts_are = refl;
      spelled = subst (λ (i : ℕ). SpellsFrom i left ks starts) moved (subst (λ zs. SpellsFrom (n + length front) zs ks starts) left_is s);
    }

-- Where nothing is read nothing is spelled.
pub spelled_none : {n : ℕ} {bs starts : List ℕ} {ks : List Token} → SpellsFrom n bs ks starts → 0 < length bs → after_space bs ≡ None → token_at bs ≡ None → ⊥
spelled_none SpellsFrom.end some e d = omega arith
spelled_none (SpellsFrom.space {n} {b} {bs} h s) some e d = let p = space_passed b bs h in cc
spelled_none (SpellsFrom.token t s) some e d = let p = token_c t in cc

-- ---- the turn of the loop

-- What of a whole is left once these tokens were read.
pub record IsLeft (n : ℕ) (bs : List ℕ) (front : List Token) (places : List ℕ) (ks : List Token) (starts : List ℕ) : Type 0 where
  pub others : List Token
  pub later : List ℕ
  pub tokens_are : ks ≡ front ++ others
  pub starts_are : starts ≡ places ++ later
  pub spelled : SpellsFrom n bs others later

-- From byte `n` on `bs` is left of `whole`, and the tokens `front` at `places` were read.
pub record HasRead (whole bs : List ℕ) (front : List Token) (places : List ℕ) : Type 0 where
  pub n : ℕ
  pub place : n + length bs ≡ length whole
  pub spells : (ks : List Token) (starts : List ℕ) → SpellsFrom n bs ks starts → Spells whole (front ++ ks) (places ++ starts)
  pub leaves : (ks : List Token) (starts : List ℕ) → Spells whole ks starts → IsLeft n bs front places ks starts
  pub stops : (at : ℕ) → StopsFrom n bs at → StopsAt whole at

-- At the start nothing was read.
pub read_none : (whole : List ℕ) → HasRead whole whole [] []
read_none whole = record {
  n = 0;
  place = omega arith;
  spells = λ ks starts s. s;
  leaves = λ ks starts s. record { others = ks; later = starts; tokens_are = refl; starts_are = refl; spelled = s };
  stops = λ at s. s;
}

-- White space is passed.
pub read_space : (whole bs left : List ℕ) (front : List Token) (places : List ℕ) → HasRead whole bs front places → after_space bs ≡ Some left → HasRead whole left front places
read_space whole bs left front places h e =
    let sp = spaced bs left e in
    record {
      n = h.n + 1;
      place = omega (arith, h.place, ap length sp.cut);
      spells = λ ks starts s. h.spells ks starts (subst (λ zs. SpellsFrom h.n zs ks starts) (sym sp.cut) (SpellsFrom.space sp.is s));
      leaves = λ ks starts s. (let was = h.leaves ks starts s in
          record { others = was.others; later = was.later; tokens_are = was.tokens_are; starts_are = was.starts_are; spelled = spelled_space was.spelled left e });
      stops = λ at s. h.stops at (subst (λ zs. StopsFrom h.n zs at) (sym sp.cut) (StopsFrom.space sp.is s));
    }

-- A token is read.
pub read_token : (whole bs left : List ℕ) (front : List Token) (places : List ℕ) (k : Token) (start : ℕ) → HasRead whole bs front places → after_space bs ≡ None → token_at bs ≡ Some (k, left) → start + length bs ≡ length whole → HasRead whole left (front ++ k ∷ []) (places ++ start ∷ [])
read_token whole bs left front places k start h e d place =
    let f = token_s bs left k d in
    let start_is : h.n ≡ start = omega (arith, h.place, place) in
    let cut_long = ap length f.cut in
    record {
      n = h.n + length f.front;
      place = omega (arith, h.place, cut_long, length-append f.front left);
      spells = λ ks starts s.
          rw (append_assoc front (k ∷ []) ks, append_assoc places (start ∷ []) starts)
          (h.spells (k ∷ ks) (start ∷ starts)
          (subst (λ (i : ℕ). SpellsFrom h.n bs (k ∷ ks) (i ∷ starts)) start_is (subst (λ zs. SpellsFrom h.n zs (k ∷ ks) (h.n ∷ starts)) (sym f.cut) (SpellsFrom.token f.is s))));
      leaves = λ ks starts s. (let was = h.leaves ks starts s in
          let first = spelled_token was.spelled k left e d (h.n + length f.front) (omega (arith, cut_long, length-append f.front left)) in
          record {
            others = first.others;
            later = first.places;
            tokens_are = was.tokens_are ∙ (ap (λ (zs : List Token). front ++ zs) first.tokens_are ∙ sym (append_assoc front (k ∷ []) first.others));
            starts_are = was.starts_are ∙ (ap (λ (zs : List ℕ). places ++ zs) (first.starts_are ∙ ap (λ (i : ℕ). i ∷ first.places) start_is) ∙ sym (append_assoc places (start ∷ []) first.places));
            spelled = first.spelled;
          });
      stops = λ at s. h.stops at (subst (λ zs. StopsFrom h.n zs at) (sym f.cut) (StopsFrom.token f.is s));
    }

-- At the end the whole was read.
pub read_all : (whole bs : List ℕ) (front : List Token) (places : List ℕ) → HasRead whole bs front places → length bs ≡ 0 → Spells whole front places
read_all whole bs front places h e =
    let done : SpellsFrom h.n bs [] [] = subst (λ zs. SpellsFrom h.n zs [] []) (sym (nil_from_length bs e)) SpellsFrom.end in
    rw (append-nil front, append-nil places) at (h.spells [] [] done)

-- And nothing else is spelled.
pub read_only : (whole bs : List ℕ) (front : List Token) (places : List ℕ) → HasRead whole bs front places → length bs ≡ 0 → (ks : List Token) (starts : List ℕ) → Spells whole ks starts → (front ≡ ks) × (places ≡ starts)
read_only whole bs front places h e ks starts s =
    let was = h.leaves ks starts s in
    let none = spelled_end was.spelled e in (
      sym (was.tokens_are ∙ (ap (λ (zs : List Token). front ++ zs) none.0 ∙ append-nil front)),
      sym (was.starts_are ∙ (ap (λ (zs : List ℕ). places ++ zs) none.1 ∙ append-nil places)),
    )

-- Where no token is read nothing is spelled.
pub read_fails : (whole bs : List ℕ) (front : List Token) (places : List ℕ) → HasRead whole bs front places → 0 < length bs → after_space bs ≡ None → token_at bs ≡ None → (ks : List Token) (starts : List ℕ) → Spells whole ks starts → ⊥
read_fails whole bs front places h some e d ks starts s = spelled_none (h.leaves ks starts s).spelled some e d

-- Where no token is read the text stops.
pub read_stops : (whole bs : List ℕ) (front : List Token) (places : List ℕ) (start : ℕ) → HasRead whole bs front places → 0 < length bs → after_space bs ≡ None → token_at bs ≡ None → start + length bs ≡ length whole → StopsAt whole start
read_stops whole bs front places start h some e d place =
    let start_is : h.n ≡ start = omega (arith, h.place, place) in
    subst (λ (i : ℕ). StopsAt whole i) start_is (h.stops h.n (StopsFrom.here record {
      no_end = λ nil. (let short = ap length nil in absurd (omega arith));
      no_space = unspaced bs e;
      no_token = λ f r k cut t. (let read = token_c t in let same = ap token_at cut in absurd cc);
    }))
