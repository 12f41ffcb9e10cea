-- The table of reserved words has the letters of each word.
use Rattle.std.proofs.Common.{◌≡◌, ℕ, Bool, true, false, cond, List, [], ◌∷◌, map, Some, option_map, find, codes, refl, ap, subst}
use Rattle.std.specs.Str.{str_eq_ignore_ascii_case}
use Rattle.semantics.specs.declared.token.Word.{Word}
use Rattle.semantics.specs.declared.token.Word.TheVariants as w
use Rattle.semantics.specs.Words.{reserved_word, reserved_words}
use Rattle.query_lexer.specs.Words.{word_text}

abbrev first : List (List ℕ) → List ℕ
first [] = []
first (x ∷ xs) = x

abbrev others : List (List ℕ) → List (List ℕ)
others [] = []
others (x ∷ xs) = xs

module _ {E : Type 0} (key : E → Word) (letters : E → List ℕ) (test : List ℕ → Bool) where
  -- the first entry whose letters pass is that of the first word whose letters pass, where the
  -- words have these letters
  found : (es : List E) → map letters es ≡ map (λ e. word_text (key e)) es → option_map key (find (λ e. test (letters e)) es) ≡ find (λ x. test (word_text x)) (map key es)
  found [] h = refl
  found (e ∷ es) h = subst (λ t. option_map key (cond (test (letters e)) (Some e) (find (λ x. test (letters x)) es)) ≡ cond (test t) (Some (key e)) (find (λ x. test (word_text x)) (map key es)))
      (ap first h)
      (elim (test (letters e)) as (λ b. option_map key (cond b (Some e) (find (λ x. test (letters x)) es)) ≡ cond b (Some (key e)) (find (λ x. test (word_text x)) (map key es)))
      [ true ↦ refl | false ↦ found es (ap others h) ])

pub reserved_listed : (text : List ℕ) → reserved_word text ≡ find (λ x. str_eq_ignore_ascii_case text (word_text x)) (w.And ∷ w.As ∷ w.Asc ∷ w.Avg ∷ w.Between ∷ w.By ∷ w.Count ∷ w.Cube ∷ w.Desc ∷ w.Distinct ∷ w.False ∷ w.Filter ∷ w.First ∷ w.From ∷ w.Group ∷ w.Grouping ∷ w.Having ∷ w.In ∷ w.Is ∷ w.Last ∷ w.Max ∷ w.Min ∷ w.Not ∷ w.Null ∷ w.Nulls ∷ w.Or ∷ w.Order ∷ w.Rollup ∷ w.Select ∷ w.Sets ∷ w.Sum ∷ w.True ∷ w.Unknown ∷ w.Where ∷ [])
unfolding reserved_word
reserved_listed text = found (λ e. e.0) (λ e. codes e.1) (str_eq_ignore_ascii_case text) reserved_words refl
