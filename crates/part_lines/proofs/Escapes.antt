-- Strings of JSON: their bytes.
use Rattle.std.proofs.Common.{◌≡◌, ℕ, zero, suc, ◌<◌, Bool, true, ◌&&◌, ◌||◌, ◌==◌, List, [], ◌∷◌, ◌++◌, ◌∙◌, refl, sym, subst, arith, inl, inr}
use Rattle.std.proofs.lemmas.Bool.{and_parts, cases_eq, cases_lt, eqb-false, leb-true, ltb-false, not-true, or_parts}
use Rattle.std.proofs.lemmas.List.Concat.{flat_map-cons}
use Rattle.std.specs.List.{list_all}
use Rattle.std.specs.Prelude.{nat_le}
use Rattle.json.proofs.Printed.Strings.{escape_byte_plain}
use Rattle.json.specs.Print.{escape, escape_byte, quoted}
use Rattle.json.specs.Run.{is_plain}
use Rattle.part_lines.proofs.Numerals.{HasNoControl}

pub no_control-append : (xs ys : List ℕ) → HasNoControl xs → HasNoControl ys → HasNoControl (xs ++ ys)
no_control-append [] ys p q = q
no_control-append (x ∷ xs) ys p q = (p.0, no_control-append xs ys p.1 q)

-- ---- the escapes of the bytes below 128, computed

abbrev has_no_control : List ℕ → Bool
has_no_control [] = true
has_no_control (x ∷ xs) = nat_le 32 x && has_no_control xs

no_control-told : (xs : List ℕ) → has_no_control xs ≡ true → HasNoControl xs
no_control-told [] e = tt
no_control-told (x ∷ xs) e = let p = and_parts _ _ e in (leb-true 32 x p.0, no_control-told xs p.1)

abbrev escapes_below : ℕ → Bool
escapes_below zero = true
escapes_below (suc n) = has_no_control (escape_byte n) && escapes_below n

escape-below : (n : ℕ) → escapes_below n ≡ true → (x : ℕ) → x < n → has_no_control (escape_byte x) ≡ true
escape-below zero e x h = absurd (omega (arith, h))
escape-below (suc n) e x h =
    let p = and_parts _ _ e in
    elim (cases_eq x n) [ inl same ↦ rw same p.0 | inr other ↦ escape-below n p.1 x (omega (arith, h, other)) ]

escapes-128 : escapes_below 128 ≡ true
unfolding escape_byte
escapes-128 = refl

-- ---- the escapes of all bytes

escape_byte-no_control : (x : ℕ) → HasNoControl (escape_byte x)
escape_byte-no_control x = elim (cases_lt x 128) [
  | inl small ↦ no_control-told (escape_byte x) (escape-below 128 escapes-128 x small)
  | inr large ↦ subst HasNoControl (sym (escape_byte_plain x (λ e. omega (arith, large, e)) (λ e. omega (arith, large, e)) (omega (arith, large)))) (omega (arith, large), tt)
]

escape-no_control : (s : List ℕ) → HasNoControl (escape s)
escape-no_control [] = tt
escape-no_control (x ∷ s) = subst HasNoControl (sym (flat_map-cons escape_byte x s)) (no_control-append (escape_byte x) (escape s) (escape_byte-no_control x) (escape-no_control s))

pub quoted-no_control : (s : List ℕ) → HasNoControl (quoted s)
quoted-no_control s = (omega arith, no_control-append (escape s) (34 ∷ []) (escape-no_control s) (omega arith, tt))

-- ---- a text of bytes that stand for themselves

plain-same : (x : ℕ) → is_plain x ≡ true → escape_byte x ≡ x ∷ []
plain-same x p =
    let none = or_parts ((x == 34) || (x == 92)) _ (not-true _ p) in
    let tests = or_parts (x == 34) _ none.0 in
    escape_byte_plain x (eqb-false x 34 tests.0) (eqb-false x 92 tests.1) (ltb-false x 32 none.1)

pub escape-plain : (s : List ℕ) → list_all is_plain s ≡ true → escape s ≡ s
escape-plain [] h = refl
escape-plain (x ∷ s) h =
    let p = and_parts _ _ h in
    flat_map-cons escape_byte x s ∙ (λ i. plain-same x p.0 i ++ escape-plain s p.1 i)
