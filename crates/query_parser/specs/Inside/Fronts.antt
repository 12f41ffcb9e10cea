-- Which token stands in front of a list of tokens, as the functions of this crate test it. What
-- tokens derive is said in Leaves.
use Rattle.std.specs.Prelude.{ℕ, List, ◌∷◌, Option, Some, None, Bool, false, ◌==◌, cond, []}
use Rattle.semantics.specs.declared.token.Token.{Token}
use Rattle.semantics.specs.declared.token.Token.TheVariants as tokens
use Rattle.semantics.specs.declared.token.Word.{Word}
use Rattle.semantics.specs.declared.token.Word.TheVariants as w
use Rattle.semantics.specs.declared.token.Sign.{Sign}
use Rattle.semantics.specs.declared.token.Sign.TheVariants as s

-- The place of a word among all words.
abbrev pub word_code : Word → ℕ
word_code w.And = 0
word_code w.As = 1
word_code w.Asc = 2
word_code w.Avg = 3
word_code w.Between = 4
word_code w.By = 5
word_code w.Count = 6
word_code w.Cube = 7
word_code w.Desc = 8
word_code w.Distinct = 9
word_code w.False = 10
word_code w.Filter = 11
word_code w.First = 12
word_code w.From = 13
word_code w.Group = 14
word_code w.Grouping = 15
word_code w.Having = 16
word_code w.In = 17
word_code w.Is = 18
word_code w.Last = 19
word_code w.Max = 20
word_code w.Min = 21
word_code w.Not = 22
word_code w.Null = 23
word_code w.Nulls = 24
word_code w.Or = 25
word_code w.Order = 26
word_code w.Rollup = 27
word_code w.Select = 28
word_code w.Sets = 29
word_code w.Sum = 30
word_code w.True = 31
word_code w.Unknown = 32
word_code w.Where = 33

-- The place of a sign among all signs.
abbrev pub sign_code : Sign → ℕ
sign_code s.Open = 0
sign_code s.Close = 1
sign_code s.Comma = 2
sign_code s.Star = 3
sign_code s.Equal = 4
sign_code s.NotEqual = 5
sign_code s.Less = 6
sign_code s.LessOrEqual = 7
sign_code s.Greater = 8
sign_code s.GreaterOrEqual = 9

-- Whether a token is this reserved word.
abbrev pub is_word : Word → Token → Bool
is_word word (tokens.Word other) = word_code other == word_code word
is_word word (tokens.Sign other) = false
is_word word (tokens.Name n) = false
is_word word (tokens.Integer i) = false
is_word word (tokens.Text n) = false

-- Whether a token is this sign.
abbrev pub is_sign : Sign → Token → Bool
is_sign sign (tokens.Sign other) = sign_code other == sign_code sign
is_sign sign (tokens.Word other) = false
is_sign sign (tokens.Name n) = false
is_sign sign (tokens.Integer i) = false
is_sign sign (tokens.Text n) = false

-- What stands behind such a token in front.
abbrev pub after : (Token → Bool) → List Token → Option (List Token)
after test [] = None
after test (x ∷ ts) = cond (test x) (Some ts) None
