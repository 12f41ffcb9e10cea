-- Words, the reserved ones among them, and how names and texts are quoted (ISO/IEC 9075-2,
-- <token>).
use Prim.Native.String.{String}
use Rattle.std.specs.Char.{is_ascii_alphabetic, is_ascii_digit}
use Rattle.std.specs.List.{list_all, flat_map, find}
use Rattle.std.specs.Prelude.{ℕ, Bool, false, ◌==◌, ◌||◌, ◌&&◌, is_none, if◌then◌else◌, Option, option_map, List, [], ◌∷◌, ◌++◌, codes}
use Rattle.std.specs.Str.{str_eq_ignore_ascii_case}
use Rattle.semantics.specs.declared.token.Word.{Word}
use Rattle.semantics.specs.declared.token.Word.TheVariants as w

-- A word begins with an ASCII letter or `_`.
abbrev pub begins_word : ℕ → Bool
begins_word b = is_ascii_alphabetic b || (b == 95)

-- A word goes on with ASCII letters, ASCII digits and `_`.
abbrev pub continues_word : ℕ → Bool
continues_word b = is_ascii_alphabetic b || is_ascii_digit b || (b == 95)

-- Whether these bytes are a word.
abbrev pub is_word : List ℕ → Bool
is_word [] = false
is_word (b ∷ bs) = begins_word b && list_all continues_word bs

-- The reserved words, each with its letters.
abbrev pub reserved_words : List (Word × String)
reserved_words =
    (w.And, "AND") ∷ (w.As, "AS") ∷ (w.Asc, "ASC") ∷ (w.Avg, "AVG") ∷ (w.Between, "BETWEEN") ∷
    (w.By, "BY") ∷ (w.Count, "COUNT") ∷ (w.Cube, "CUBE") ∷ (w.Desc, "DESC") ∷
    (w.Distinct, "DISTINCT") ∷ (w.False, "FALSE") ∷ (w.Filter, "FILTER") ∷ (w.First, "FIRST") ∷
    (w.From, "FROM") ∷ (w.Group, "GROUP") ∷
    (w.Grouping, "GROUPING") ∷ (w.Having, "HAVING") ∷ (w.In, "IN") ∷ (w.Is, "IS") ∷
    (w.Last, "LAST") ∷ (w.Max, "MAX") ∷ (w.Min, "MIN") ∷ (w.Not, "NOT") ∷ (w.Null, "NULL") ∷
    (w.Nulls, "NULLS") ∷ (w.Or, "OR") ∷ (w.Order, "ORDER") ∷ (w.Rollup, "ROLLUP") ∷
    (w.Select, "SELECT") ∷ (w.Sets, "SETS") ∷ (w.Sum, "SUM") ∷
    (w.True, "TRUE") ∷ (w.Unknown, "UNKNOWN") ∷ (w.Where, "WHERE") ∷ []

-- The reserved word whose letters a text has without regard to ASCII case, if there is one.
unfoldable pub reserved_word : List ℕ → Option Word
reserved_word text =
    option_map (λ entry. entry.0)
    (find (λ entry. str_eq_ignore_ascii_case text (codes entry.1)) reserved_words)

-- Each quote in a text is written twice.
abbrev pub with_quotes_doubled : ℕ → List ℕ → List ℕ
with_quotes_doubled quote text =
    flat_map (λ b. if b == quote then quote ∷ quote ∷ [] else b ∷ []) text

-- A text between quotes.
abbrev pub quoted_text : ℕ → List ℕ → List ℕ
quoted_text quote text = quote ∷ (with_quotes_doubled quote text ++ quote ∷ [])

-- Whether a name may be written without quotes: it is a word, and not a reserved one.
abbrev pub is_plain_name : List ℕ → Bool
is_plain_name name = is_word name && is_none (reserved_word name)

-- How a name is written in canonical texts: plain if it can be, else in double quotes.
abbrev pub name_text : List ℕ → List ℕ
name_text name = if is_plain_name name then name else quoted_text 34 name
