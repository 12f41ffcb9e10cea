-- What is quoted.
use Rattle.std.proofs.Common.{Bool, true, false, cond, eqb, eq-eqb, ◌≡◌, ◌≢◌, ℕ, suc, ◌<◌, List, [], ◌∷◌, ◌++◌, length, get_or, Option, Some, None, refl, sym, ap, ◌∙◌, arith, append_assoc}
use Rattle.std.proofs.lemmas.Bool.{eqb-true}
use Rattle.std.proofs.lemmas.Bool.Decides.{nat_tests}
use Rattle.semantics.specs.Words.{with_quotes_doubled}
use Rattle.query_lexer.specs.Steps.{behind, quoted_at}
use Rattle.query_lexer.specs.Inside.Steps.{with_bytes}

not_eqb : (a b : ℕ) → a ≢ b → eqb a b ≡ false
not_eqb a b h = grind (arith, nat_tests)

pub quoted_other : (q b : ℕ) (bs : List ℕ) → b ≢ q → quoted_at q (b ∷ bs) ≡ with_bytes (b ∷ []) (quoted_at q bs)
unfolding quoted_at
quoted_other q b [] h = rw (not_eqb b q h) refl
quoted_other q b (c ∷ bs) h = rw (not_eqb b q h) refl

pub bytes_front : (a b : List ℕ) (read : Option (List ℕ × List ℕ)) → with_bytes a (with_bytes b read) ≡ with_bytes (a ++ b) read
bytes_front a b None = refl
bytes_front a b (Some x) = ap (λ (ys : List ℕ). Some (ys, x.1)) (simp append_assoc)

pub front_none : (read : Option (List ℕ × List ℕ)) → with_bytes [] read ≡ read
front_none None = refl
front_none (Some x) = refl

differs : (a b : ℕ) → eqb a b ≡ false → a ≢ b
differs a b e = grind (arith, nat_tests)

pub test_none : {A : Type 0} (t : Bool) (x : A) → cond t (Some x) None ≡ None → t ≡ false
test_none true x h = absurd cc
test_none false x h = refl

pub test_some : {A : Type 0} (t : Bool) (x y : A) → cond t (Some x) None ≡ Some y → (t ≡ true) × (x ≡ y)
test_some true x y h = (refl, cc)
test_some false x y h = absurd cc

pub quoted_close : (q : ℕ) (bs : List ℕ) → behind q bs ≡ None → quoted_at q (q ∷ bs) ≡ Some ([], bs)
unfolding quoted_at
quoted_close q [] h = rw (eq-eqb q q refl) refl
quoted_close q (c ∷ bs) h = rw (eq-eqb q q refl, test_none (eqb c q) bs h) refl

pub quoted_twice : (q : ℕ) (bs more : List ℕ) → behind q bs ≡ Some more → quoted_at q (q ∷ bs) ≡ with_bytes (q ∷ []) (quoted_at q more)
unfolding quoted_at
quoted_twice q [] more h = absurd cc
quoted_twice q (c ∷ bs) more h = let k = test_some (eqb c q) bs more h in rw (eq-eqb q q refl, k.0, k.1) refl

-- no quote stands in the bytes
abbrev pub HasNone : ℕ → List ℕ → Type 0
HasNone q bs = (i : ℕ) → i < length bs → get_or bs i 0 ≢ q

first_none : (q b : ℕ) (bs : List ℕ) → HasNone q (b ∷ bs) → b ≢ q
first_none q b bs h = h 0 (omega arith)

rest_none : (q b : ℕ) (bs : List ℕ) → HasNone q (b ∷ bs) → HasNone q bs
rest_none q b bs h = λ i k. h (suc i) (omega arith)

-- a piece with no quote stands for itself
pub quoted_piece : (q : ℕ) (piece bs : List ℕ) → HasNone q piece → quoted_at q (piece ++ bs) ≡ with_bytes piece (quoted_at q bs)
quoted_piece q [] bs h = sym (front_none (quoted_at q bs))
quoted_piece q (b ∷ piece) bs h = quoted_other q b (piece ++ bs) (first_none q b piece h) ∙ (ap (with_bytes (b ∷ [])) (quoted_piece q piece bs (rest_none q b piece h)) ∙ bytes_front (b ∷ []) piece (quoted_at q bs))

pub quoted_nil : (q : ℕ) → quoted_at q [] ≡ None
unfolding quoted_at
quoted_nil q = refl

-- with no quote it does not end
pub quoted_open : (q : ℕ) (bs : List ℕ) → HasNone q bs → quoted_at q bs ≡ None
quoted_open q [] h = quoted_nil q
quoted_open q (b ∷ bs) h = quoted_other q b bs (first_none q b bs h) ∙ ap (with_bytes (b ∷ [])) (quoted_open q bs (rest_none q b bs h))

double_at : (t : Bool) (q b : ℕ) (name rest : List ℕ) → t ≡ eqb b q → quoted_at q (with_quotes_doubled q name ++ q ∷ rest) ≡ Some (name, rest) → quoted_at q ((cond t (q ∷ q ∷ []) (b ∷ []) ++ with_quotes_doubled q name) ++ q ∷ rest) ≡ Some (b ∷ name, rest)
double_at true q b name rest e again =
    let same : b ≡ q = eqb-true b q (sym e) in
    quoted_twice q (q ∷ (with_quotes_doubled q name ++ q ∷ rest)) (with_quotes_doubled q name ++ q ∷ rest) (rw (eq-eqb q q refl) refl) ∙ rw (again, same) refl
double_at false q b name rest e again = quoted_other q b (with_quotes_doubled q name ++ q ∷ rest) (differs b q (sym e)) ∙ rw again refl

-- what is doubled and quoted is read again
pub quoted_doubled : (q : ℕ) (name rest : List ℕ) → behind q rest ≡ None → quoted_at q (with_quotes_doubled q name ++ q ∷ rest) ≡ Some (name, rest)
quoted_doubled q [] rest h = quoted_close q rest h
quoted_doubled q (b ∷ name) rest h = double_at (eqb b q) q b name rest refl (quoted_doubled q name rest h)

-- ---- doubling, as a loop does

pub doubled_piece : (q : ℕ) (piece rest : List ℕ) → HasNone q piece → with_quotes_doubled q (piece ++ q ∷ rest) ≡ piece ++ (q ∷ q ∷ with_quotes_doubled q rest)
doubled_piece q [] rest h = rw (eq-eqb q q refl) refl
doubled_piece q (b ∷ piece) rest h = rw (not_eqb b q (first_none q b piece h), doubled_piece q piece rest (rest_none q b piece h)) refl

pub doubled_none : (q : ℕ) (bs : List ℕ) → HasNone q bs → with_quotes_doubled q bs ≡ bs
doubled_none q [] h = refl
doubled_none q (b ∷ bs) h = rw (not_eqb b q (first_none q b bs h), doubled_none q bs (rest_none q b bs h)) refl
