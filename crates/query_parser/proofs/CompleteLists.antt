-- Repeated parts that derive from tokens are read.
use Rattle.std.proofs.Common.{arith, length, ◌+◌, ◌≤◌, ◌≡◌, ℕ, zero, suc, Bool, true, List, ◌∷◌, None, Ok, refl}
use Rattle.semantics.specs.declared.token.Token.{Token}
use Rattle.semantics.specs.declared.token.Token.TheVariants as tokens
use Rattle.semantics.specs.declared.token.Sign.TheVariants as s
use Rattle.query_parser.specs.Inside.Fronts.{is_sign, after}
use Rattle.query_parser.specs.Inside.Steps.{Reader, more, bracketed_at}
use Rattle.semantics.specs.Leaves.{Derivation, IsRepeated}

-- A part takes no less than nothing.
abbrev pub Shrinks : {A : Type 0} → Derivation A → Type 0
Shrinks {A} P = (ts r : List Token) (x : A) → P ts x r → length r ≤ length ts

pub repeated_short : {A : Type 0} (sep : Token) (P : Derivation A) → Shrinks P → {ts r : List Token} {xs : List A} → IsRepeated sep P ts xs r → length xs + length r ≤ length ts
repeated_short sep P short IsRepeated.none = omega arith
repeated_short sep P short (IsRepeated.more {ts} {mid} {r} {x} {xs} p b) = omega (arith, short ts mid x p, repeated_short sep P short b)

-- What holds behind a list and of its separator holds where the list begins.
pub repeated_follow : {A : Type 0} (sep : Token) (P : Derivation A) (Q : List Token → Type 0) → ((ts : List Token) → Q (sep ∷ ts)) → {ts r : List Token} {xs : List A} → IsRepeated sep P ts xs r → Q r → Q ts
repeated_follow sep P Q at_sep IsRepeated.none q = q
repeated_follow sep P Q at_sep (IsRepeated.more {ts} {mid} {r} {x} {xs} p b) q = at_sep ts

-- Parts that are read where Q holds behind them.
pub repeated_c : {A : Type 0} (sep : Token) (test : Token → Bool) (b : List Token → Bool) (P : Derivation A) (f : Reader A) (Q : List Token → Type 0) → test sep ≡ true → ((ts : List Token) → Q (sep ∷ ts))
    → ((ts r : List Token) (x : A) → P ts x r → Q r → f ts ≡ Ok (x, r))
    → {ts r : List Token} {xs : List A} → IsRepeated sep P ts xs r → (n : ℕ) → length xs ≤ n → Q r → after test r ≡ None → more test b f n ts ≡ Ok (xs, r)
unfolding more
repeated_c sep test b P f Q is_sep at_sep complete IsRepeated.none zero fits q stop = rw stop refl
repeated_c sep test b P f Q is_sep at_sep complete IsRepeated.none (suc n) fits q stop = rw stop refl
repeated_c sep test b P f Q is_sep at_sep complete (IsRepeated.more {ts} {mid} {r} {x} {xs} p d) zero fits q stop = absurd (omega arith)
repeated_c sep test b P f Q is_sep at_sep complete (IsRepeated.more {ts} {mid} {r} {x} {xs} p d) (suc n) fits q stop =
    rw (is_sep, complete ts mid x p (repeated_follow sep P Q at_sep d q), repeated_c sep test b P f Q is_sep at_sep complete d n (omega arith) q stop) refl

-- The same with no limit: there are no more parts than tokens.
pub unlimited_c : {A : Type 0} (sep : Token) (test : Token → Bool) (b : List Token → Bool) (P : Derivation A) (f : Reader A) (Q : List Token → Type 0) → test sep ≡ true → ((ts : List Token) → Q (sep ∷ ts))
    → ((ts r : List Token) (x : A) → P ts x r → Q r → f ts ≡ Ok (x, r)) → Shrinks P
    → {ts r : List Token} {xs : List A} → IsRepeated sep P ts xs r → Q r → after test r ≡ None → more test b f (length ts) ts ≡ Ok (xs, r)
unlimited_c sep test b P f Q is_sep at_sep complete short {ts} d q stop = repeated_c sep test b P f Q is_sep at_sep complete d (length ts) (omega (arith, repeated_short sep P short d)) q stop

-- Parts in brackets that are read whatever stands behind them.
pub bracketed_c : {A : Type 0} (begins : List Token → Bool) (P : Derivation A) (f : Reader A) → ((ts r : List Token) (x : A) → P ts x r → f ts ≡ Ok (x, r))
    → (n : ℕ) {ts mid r : List Token} {x : A} {xs : List A} → P ts x mid → IsRepeated (tokens.Sign s.Comma) P mid xs (tokens.Sign s.Close ∷ r) → length xs ≤ n
    → bracketed_at begins f n (tokens.Sign s.Open ∷ ts) ≡ Ok (x ∷ xs, r)
bracketed_c begins P f complete n {ts} {mid} {r} {x} {xs} p b few =
    rw (complete ts mid x p, repeated_c (tokens.Sign s.Comma) (is_sign s.Comma) begins P f (λ _. Unit {0}) refl (λ _. tt) (λ us v y q _. complete us v y q) b n few tt refl) refl
