-- The bytes of UTF-8 are below 255.
use Rattle.std.proofs.Common.{◌≡◌, ◌+◌, ◌-◌, ◌/◌, ◌<◌, ℕ, Bool, true, false, cond, ◌&&◌, List, [], ◌∷◌, ◌++◌, length, take, drop, refl, ap, subst, ◌∙◌, arith, ltb-true, ⊎_elim, length-append, take_all}
use Rattle.std.proofs.Math.Dec.{ltb}
use Rattle.std.proofs.Math.Nat.{mod-lt}
use Rattle.std.proofs.Math.Seq.{drop-append_seam}
use Rattle.std.specs.List.{AllByRecursion}
use Rattle.std.specs.Str.{IsUtf8}
use lib.Utf8.{encode, encodes, next, scalar, scalars, scalar_cases}

abbrev AreBelow : List ℕ → Type 0
AreBelow s = AllByRecursion (λ b. b < 255) s

scalar-below : (c : ℕ) → scalar c ≡ true → c < 1114112
scalar-below c h = ⊎_elim (λ low. omega (arith, low)) (λ high. high.1) (scalar_cases c h)

next-below : (n : ℕ) → next n < 255
next-below n = let low = mod-lt n {m = 64} (omega arith) in omega (arith, low)

-- so are those of a character
encode-below : (c : ℕ) → c < 1114112 → AreBelow (encode c)
unfolding encode
encode-below c h =
    elim (ltb c 128) as (λ (b : Bool). ltb c 128 ≡ b → AreBelow (cond b (c ∷ []) (cond (ltb c 2048) ((192 + c / 64) ∷ next c ∷ []) (cond (ltb c 65536) ((224 + c / 4096) ∷ next (c / 64) ∷ next c ∷ []) ((240 + c / 262144) ∷ next (c / 4096) ∷ next (c / 64) ∷ next c ∷ []))))) [
      | true ↦ λ e. let low = ltb-true c 128 e in (omega (arith, low), tt)
      | false ↦ λ _.
          elim (ltb c 2048) as (λ (b : Bool). ltb c 2048 ≡ b → AreBelow (cond b ((192 + c / 64) ∷ next c ∷ []) (cond (ltb c 65536) ((224 + c / 4096) ∷ next (c / 64) ∷ next c ∷ []) ((240 + c / 262144) ∷ next (c / 4096) ∷ next (c / 64) ∷ next c ∷ [])))) [
            | true ↦ λ e. let low = ltb-true c 2048 e in (omega (arith, low), (next-below c, tt))
            | false ↦ λ _.
                elim (ltb c 65536) as (λ (b : Bool). ltb c 65536 ≡ b → AreBelow (cond b ((224 + c / 4096) ∷ next (c / 64) ∷ next c ∷ []) ((240 + c / 262144) ∷ next (c / 4096) ∷ next (c / 64) ∷ next c ∷ []))) [
                  | true ↦ λ e. let low = ltb-true c 65536 e in (omega (arith, low), (next-below (c / 64), (next-below c, tt)))
                  | false ↦ λ _. (omega (arith, h), (next-below (c / 4096), (next-below (c / 64), (next-below c, tt))))
                ] refl
          ] refl
    ] refl

both-below : (s t : List ℕ) → AreBelow s → AreBelow t → AreBelow (s ++ t)
both-below [] t a b = b
both-below (x ∷ s) t a b = (a.0, both-below s t a.1 b)

encodes-below : (cs : List ℕ) → scalars cs ≡ true → AreBelow (encodes cs)
encodes-below [] h = tt
encodes-below (c ∷ cs) h =
    elim (scalar c) as (λ (b : Bool). scalar c ≡ b → (b && scalars cs) ≡ true → AreBelow (encode c ++ encodes cs)) [
      | true ↦ λ e f. both-below (encode c) (encodes cs) (encode-below c (scalar-below c e)) (encodes-below cs f)
      | false ↦ λ e f. absurd cc
    ] refl h

-- the bytes of a text can be greater by one
pub text-below : (s : List ℕ) → IsUtf8 s → AreBelow s
text-below s h = subst AreBelow h.1.1 (encodes-below h.0 h.1.0)

-- ---- what was put behind

-- the part of a list that was put behind a front
pub part-behind : (xs front back : List ℕ) (n : ℕ) → xs ≡ front ++ back → n ≡ length front → take (length xs - n) (drop n xs) ≡ back
part-behind xs front back n is at =
    let seam : drop n xs ≡ back = (λ i. drop (at i) (is i)) ∙ drop-append_seam front back in
    let long : length xs ≡ length front + length back = ap (λ (s : List ℕ). length s) is ∙ length-append front back in
    ap (λ (s : List ℕ). take (length xs - n) s) seam ∙ take_all (length xs - n) back (omega (arith, long, at))
