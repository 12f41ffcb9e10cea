-- Tokens that are this word or this sign.
use Rattle.std.proofs.Common.{◌≡◌, ℕ, Bool, true, false, cond, get_or, List, [], ◌∷◌, Some, None, refl, sym, ap, ◌∙◌}
use Rattle.std.proofs.lemmas.Bool.{eqb-true}
use Rattle.semantics.specs.declared.token.Token.{Token}
use Rattle.semantics.specs.declared.token.Token.TheVariants as tokens
use Rattle.semantics.specs.declared.token.Word.{Word}
use Rattle.semantics.specs.declared.token.Word.TheVariants as w
use Rattle.semantics.specs.declared.token.Sign.{Sign}
use Rattle.semantics.specs.declared.token.Sign.TheVariants as s
use Rattle.query_parser.specs.Inside.Fronts.{word_code, sign_code, is_word, is_sign, after}

-- The word at a place among all words.
word_with : ℕ → Word
word_with n = get_or (w.And ∷ w.As ∷ w.Asc ∷ w.Avg ∷ w.Between ∷ w.By ∷ w.Count ∷ w.Cube ∷ w.Desc ∷ w.Distinct ∷ w.False ∷ w.Filter ∷ w.First ∷ w.From ∷ w.Group ∷ w.Grouping ∷ w.Having ∷ w.In ∷ w.Is ∷ w.Last ∷ w.Max ∷ w.Min ∷ w.Not ∷ w.Null ∷ w.Nulls ∷ w.Or ∷ w.Order ∷ w.Rollup ∷ w.Select ∷ w.Sets ∷ w.Sum ∷ w.True ∷ w.Unknown ∷ w.Where ∷ []) n w.And

word_again : (v : Word) → word_with (word_code v) ≡ v
unfolding word_with
word_again w.And = refl
word_again w.As = refl
word_again w.Asc = refl
word_again w.Avg = refl
word_again w.Between = refl
word_again w.By = refl
word_again w.Count = refl
word_again w.Cube = refl
word_again w.Desc = refl
word_again w.Distinct = refl
word_again w.False = refl
word_again w.Filter = refl
word_again w.First = refl
word_again w.From = refl
word_again w.Group = refl
word_again w.Grouping = refl
word_again w.Having = refl
word_again w.In = refl
word_again w.Is = refl
word_again w.Last = refl
word_again w.Max = refl
word_again w.Min = refl
word_again w.Not = refl
word_again w.Null = refl
word_again w.Nulls = refl
word_again w.Or = refl
word_again w.Order = refl
word_again w.Rollup = refl
word_again w.Select = refl
word_again w.Sets = refl
word_again w.Sum = refl
word_again w.True = refl
word_again w.Unknown = refl
word_again w.Where = refl

-- The sign at a place among all signs.
sign_with : ℕ → Sign
sign_with n = get_or (s.Open ∷ s.Close ∷ s.Comma ∷ s.Star ∷ s.Equal ∷ s.NotEqual ∷ s.Less ∷ s.LessOrEqual ∷ s.Greater ∷ s.GreaterOrEqual ∷ []) n s.Open

sign_again : (v : Sign) → sign_with (sign_code v) ≡ v
unfolding sign_with
sign_again s.Open = refl
sign_again s.Close = refl
sign_again s.Comma = refl
sign_again s.Star = refl
sign_again s.Equal = refl
sign_again s.NotEqual = refl
sign_again s.Less = refl
sign_again s.LessOrEqual = refl
sign_again s.Greater = refl
sign_again s.GreaterOrEqual = refl

word_is : (a : Word) (x : Token) → is_word a x ≡ true → x ≡ tokens.Word a
word_is a (tokens.Word v) e = ap (λ (u : Word). tokens.Word u) (sym (word_again v) ∙ (ap word_with (eqb-true (word_code v) (word_code a) e) ∙ word_again a))
word_is a (tokens.Sign v) e = absurd cc
word_is a (tokens.Name v) e = absurd cc
word_is a (tokens.Integer v) e = absurd cc
word_is a (tokens.Text v) e = absurd cc

sign_is : (a : Sign) (x : Token) → is_sign a x ≡ true → x ≡ tokens.Sign a
sign_is a (tokens.Sign v) e = ap (λ (u : Sign). tokens.Sign u) (sym (sign_again v) ∙ (ap sign_with (eqb-true (sign_code v) (sign_code a) e) ∙ sign_again a))
sign_is a (tokens.Word v) e = absurd cc
sign_is a (tokens.Name v) e = absurd cc
sign_is a (tokens.Integer v) e = absurd cc
sign_is a (tokens.Text v) e = absurd cc

test_is : (b : Bool) (ts r : List Token) → cond b (Some ts) None ≡ Some r → (b ≡ true) × (ts ≡ r)
test_is true ts r e = (refl, cc)
test_is false ts r e = absurd cc

after_is : (test : Token → Bool) (sep : Token) → ((x : Token) → test x ≡ true → x ≡ sep) → (ts r : List Token) → after test ts ≡ Some r → ts ≡ sep ∷ r
after_is test sep is [] r e = absurd cc
after_is test sep is (x ∷ ts) r e = let h = test_is (test x) ts r e in let a = is x h.0 in let b = h.1 in cc

-- What stands behind a word in front.
pub after_word_is : (a : Word) (ts r : List Token) → after (is_word a) ts ≡ Some r → ts ≡ tokens.Word a ∷ r
after_word_is a = after_is (is_word a) (tokens.Word a) (word_is a)

-- What stands behind a sign in front.
pub after_sign_is : (a : Sign) (ts r : List Token) → after (is_sign a) ts ≡ Some r → ts ≡ tokens.Sign a ∷ r
after_sign_is a = after_is (is_sign a) (tokens.Sign a) (sign_is a)
