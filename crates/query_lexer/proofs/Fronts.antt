-- The longest front whose bytes pass a test.
use Rattle.std.proofs.Common.{Bool, true, false, cond, ◌≡◌, ℕ, suc, ◌+◌, List, [], ◌∷◌, ◌++◌, length, take, drop, ◌||◌, refl, arith}
use Rattle.std.specs.List.{prefix_len, list_all}
use Rattle.std.specs.Char.{is_ascii_digit}
use Rattle.semantics.specs.Words.{begins_word, continues_word}
use Rattle.semantics.specs.Tokens.{begins_with}
use Rattle.query_lexer.proofs.Inversions.{and_both}

all_at : (p : ℕ → Bool) (b : ℕ) (bs : List ℕ) (t : Bool) → p b ≡ t → list_all p (take (prefix_len p bs) bs) ≡ true → list_all p (take (cond t (1 + prefix_len p bs) 0) (b ∷ bs)) ≡ true
all_at p b bs true e h = let k : 1 + prefix_len p bs ≡ suc (prefix_len p bs) = omega arith in rw (k, e) h
all_at p b bs false e h = refl

-- Its bytes pass the test.
pub front_passes : (p : ℕ → Bool) (bs : List ℕ) → list_all p (take (prefix_len p bs) bs) ≡ true
front_passes p [] = refl
front_passes p (b ∷ bs) = all_at p b bs (p b) refl (front_passes p bs)

stops_at : (p : ℕ → Bool) (b : ℕ) (bs : List ℕ) (t : Bool) → p b ≡ t → begins_with p (drop (prefix_len p bs) bs) ≡ false → begins_with p (drop (cond t (1 + prefix_len p bs) 0) (b ∷ bs)) ≡ false
stops_at p b bs true e h = let k : 1 + prefix_len p bs ≡ suc (prefix_len p bs) = omega arith in rw k h
stops_at p b bs false e h = e

-- What stands behind it begins with no byte that passes.
pub front_stops : (p : ℕ → Bool) (bs : List ℕ) → begins_with p (drop (prefix_len p bs) bs) ≡ false
front_stops p [] = refl
front_stops p (b ∷ bs) = stops_at p b bs (p b) refl (front_stops p bs)

-- Bytes that pass, before none that passes, are the longest front.
pub front_length : (p : ℕ → Bool) (xs ys : List ℕ) → list_all p xs ≡ true → begins_with p ys ≡ false → prefix_len p (xs ++ ys) ≡ length xs
front_length p [] [] a s = refl
front_length p [] (y ∷ ys) a s = rw s refl
front_length p (x ∷ xs) ys a s =
    let h = and_both (p x) (list_all p xs) a in
    rw (h.0, front_length p xs ys h.1 s) (omega arith)

none_of : (a d u : Bool) → (a || u) ≡ false → d ≡ false → (a || d || u) ≡ false
none_of true d u e f = absurd cc
none_of false true u e f = absurd cc
none_of false false u e f = e

-- What begins no word and no number goes on with no word.
pub no_word : (bs : List ℕ) → begins_with begins_word bs ≡ false → begins_with is_ascii_digit bs ≡ false → begins_with continues_word bs ≡ false
no_word [] e f = refl
no_word (b ∷ bs) e f = none_of _ (is_ascii_digit b) _ e f

some_of : (a d u : Bool) → (a || d || u) ≡ false → ((a || u) ≡ false) × (d ≡ false)
some_of true d u e = absurd cc
some_of false true u e = absurd cc
some_of false false u e = (e, refl)

-- And the other way round.
pub no_word_parts : (bs : List ℕ) → begins_with continues_word bs ≡ false → (begins_with begins_word bs ≡ false) × (begins_with is_ascii_digit bs ≡ false)
no_word_parts [] e = (refl, refl)
no_word_parts (b ∷ bs) e = some_of _ (is_ascii_digit b) _ e
