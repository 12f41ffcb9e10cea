-- The canonical texts of a good expression and of a good predicate spell their tokens.
use Rattle.std.proofs.Common.{ℕ, zero, suc, Bool, true, false, cond, List, [], ◌∷◌, ◌++◌, refl, append_assoc, inl, inr}
use Rattle.std.specs.Prelude.{codes, nat_lt}
use Rattle.semantics.specs.declared.comparison.Op.{Op}
use Rattle.semantics.specs.declared.comparison.Op.TheVariants as op
use Rattle.semantics.specs.declared.truth.Truth.{Truth}
use Rattle.semantics.specs.declared.truth.Truth.TheVariants as truth
use Rattle.semantics.specs.declared.token.Token.{Token}
use Rattle.semantics.specs.declared.token.Token.TheVariants as tokens
use Rattle.semantics.specs.declared.token.Word.{Word}
use Rattle.semantics.specs.declared.token.Word.TheVariants as w
use Rattle.semantics.specs.declared.token.Sign.TheVariants as s
use Rattle.query_lexer.specs.Words.{word_text}
use Rattle.query_lexer.specs.Steps.{token_at, sign_at, order_at, sign_behind_less, sign_behind_greater}
use Rattle.semantics.specs.declared.literal.Literal.{Literal}
use Rattle.semantics.specs.Syntax.{Expression, SetFunction, Operand, Predicate, Predicates, name, grouping, function, over_all, over_filtered, or_of, and_of, not_of, truth_test, compare, between, member, null_test, column, no_parts, part}
use Rattle.semantics.specs.Canonical.{op_text, truth_text, not_text, literal_text, function_text, expression_text, operand_text, precedence, bracketed_below, in_brackets, predicate_text, part_texts}
use Rattle.query.proofs.Good.{Filled, GoodLiteral, GoodFunction, GoodExpression, GoodOperand, Deeper, Fits, Good, PartsFit}
use Rattle.query.proofs.Onto.{Onto, op_sign, truth_word, not_onto, literal_onto, function_onto, expression_onto, operand_onto, brackets_onto, bracketed_onto, predicate_onto, part_ontos}
use Rattle.query.proofs.Spelled.{Spelled, spelled_space, spelled_read}
use Rattle.query.proofs.Goes.{Free, Goes, AllGo, free_free, free_goes, goes_free, goes_of, nothing_free, word_onto, word_goes, word_free, spaced_free, space_breaks, space_free, brackets_free, word_separates, list_goes}
use Rattle.query.proofs.GoesExpressions.{name_goes, literal_goes, aggregate_goes, grouping_goes, filtered_goes, filled_go}

-- ---- operators and keywords

-- The sign of an operator and a space.
op_spelled : (o : Op) {rest : List ℕ} {ks : List Token} → Spelled rest ks → Spelled (op_text o ++ 32 ∷ rest) (tokens.Sign (op_sign o) ∷ ks)
unfolding token_at sign_at order_at sign_behind_less sign_behind_greater
op_spelled op.Eq {rest} h = spelled_read (61 ∷ 32 ∷ rest) (32 ∷ rest) (tokens.Sign s.Equal) refl (spelled_space h)
op_spelled op.Ne {rest} h = spelled_read (60 ∷ 62 ∷ 32 ∷ rest) (32 ∷ rest) (tokens.Sign s.NotEqual) refl (spelled_space h)
op_spelled op.Lt {rest} h = spelled_read (60 ∷ 32 ∷ rest) (32 ∷ rest) (tokens.Sign s.Less) refl (spelled_space h)
op_spelled op.Le {rest} h = spelled_read (60 ∷ 61 ∷ 32 ∷ rest) (32 ∷ rest) (tokens.Sign s.LessOrEqual) refl (spelled_space h)
op_spelled op.Gt {rest} h = spelled_read (62 ∷ 32 ∷ rest) (32 ∷ rest) (tokens.Sign s.Greater) refl (spelled_space h)
op_spelled op.Ge {rest} h = spelled_read (62 ∷ 61 ∷ 32 ∷ rest) (32 ∷ rest) (tokens.Sign s.GreaterOrEqual) refl (spelled_space h)

op_free : {a : List ℕ} {f : Onto} (o : Op) → Free a f → Free (a ++ op_text o ++ codes " ") (λ ks. f (tokens.Sign (op_sign o) ∷ ks))
op_free {a} {f} o x = record {
  goes = λ rest ks h.
      let behind = x.goes (op_text o ++ 32 ∷ rest) (tokens.Sign (op_sign o) ∷ ks) (op_spelled o h) in
      rw (append_assoc (a ++ op_text o) (codes " ") rest, append_assoc a (op_text o) (32 ∷ rest)) behind;
}

not_free : (n : Bool) → Free (not_text n) (not_onto n)
not_free true = word_free w.Not
not_free false = nothing_free

truth_goes : (t : Truth) → Goes (truth_text t) (word_onto (truth_word t))
truth_goes truth.True = word_goes w.True
truth_goes truth.False = word_goes w.False
truth_goes truth.Unknown = word_goes w.Unknown

is_free : Free (codes " IS ") (word_onto w.Is)
is_free = spaced_free (word_free w.Is)

and_free : Free (codes " AND ") (word_onto w.And)
and_free = spaced_free (word_free w.And)

-- ---- atoms

-- An operand spells its tokens.
abbrev OperandGoes : Operand → Type 0
OperandGoes x = Goes (operand_text x) (operand_onto x)

spaced_operand : (x : Operand) → OperandGoes x → Free (operand_text x ++ codes " ") (operand_onto x)
spaced_operand x g = goes_free g (space_breaks []) space_free

-- An operand, NOT where it is written, and a word.
marked_free : (x : Operand) (n : Bool) (word : Word) → OperandGoes x
    → Free (operand_text x ++ codes " " ++ not_text n ++ (word_text word ++ 32 ∷ [])) (λ ks. operand_onto x (not_onto n (tokens.Word word ∷ ks)))
marked_free x n word g = free_free (free_free (spaced_operand x g) (not_free n)) (word_free word)

compare_goes : (x : Operand) (o : Op) (y : Operand) → OperandGoes x → OperandGoes y
    → Goes (predicate_text (compare x o y)) (predicate_onto (compare x o y))
compare_goes x o y g h = free_goes (op_free o (spaced_operand x g)) h

between_goes : (x : Operand) (n : Bool) (y z : Operand) → OperandGoes x → OperandGoes y → OperandGoes z
    → Goes (predicate_text (between x n y z)) (predicate_onto (between x n y z))
between_goes x n y z g h k =
    let low = free_goes (marked_free x n w.Between g) h in
    free_goes (goes_free low (space_breaks _) and_free) k

member_goes : (x : Operand) (n : Bool) (ls : List Literal) → OperandGoes x → Filled 64 GoodLiteral ls
    → Goes (predicate_text (member x n ls)) (predicate_onto (member x n ls))
member_goes x n ls g h =
    goes_of (free_free (marked_free x n w.In g) (brackets_free (filled_go 64 GoodLiteral literal_text literal_onto literal_goes ls h)))

null_goes : (x : Operand) (n : Bool) → OperandGoes x → Goes (predicate_text (null_test x n)) (predicate_onto (null_test x n))
null_goes x n g = free_goes (free_free (goes_free g (space_breaks _) is_free) (not_free n)) (word_goes w.Null)

-- ---- parts

bracketed_at : (inside : Bool) {a : List ℕ} {f : Onto} → Goes a f → Goes (cond inside (in_brackets a) a) (cond inside (brackets_onto f) f)
bracketed_at true x = goes_of (brackets_free x)
bracketed_at false x = x

fits_some : (least has n : ℕ) (G : ℕ → Type 0) → Fits least has G n → (m : ℕ) × G m
fits_some least has zero G (inl h) = absurd h.1
fits_some least has (suc n) G (inl h) = (n, h.1)
fits_some least has n G (inr h) = (n, h.1)

part_goes : (least : ℕ) (p : Predicate) (n : ℕ) → ((m : ℕ) → Good p m → Goes (predicate_text p) (predicate_onto p))
    → Fits least (precedence p) (Good p) n
    → Goes (bracketed_below least (precedence p) (predicate_text p)) (bracketed_onto least (precedence p) (predicate_onto p))
part_goes least p n goes g = let h = fits_some least (precedence p) n (Good p) g in bracketed_at (nat_lt (precedence p) least) (goes h.0 h.1)

test_goes : {a : List ℕ} {f : Onto} (n : Bool) (t : Truth) → Goes a f
    → Goes (a ++ codes " IS " ++ not_text n ++ truth_text t) (λ ks. f (tokens.Word w.Is ∷ not_onto n (tokens.Word (truth_word t) ∷ ks)))
test_goes n t x = free_goes (free_free (goes_free x (space_breaks _) is_free) (not_free n)) (truth_goes t)

deeper_some : (n : ℕ) (G : ℕ → Type 0) → Deeper G n → (m : ℕ) × G m
deeper_some zero G d = absurd d
deeper_some (suc n) G d = (n, d)

mutual
  function_goes : (f : SetFunction) (n : ℕ) → GoodFunction f n → Goes (function_text f) (function_onto f)
  function_goes (over_all f) n g = aggregate_goes f g
  function_goes (over_filtered f p) n g = let h = deeper_some n (Good p) g.1 in filtered_goes f g.0 (predicate_goes p h.0 h.1)

  pub expression_goes : (e : Expression) (n : ℕ) → GoodExpression e n → Goes (expression_text e) (expression_onto e)
  expression_goes (name m) n g = name_goes m g
  expression_goes (grouping ms) n g = grouping_goes ms g
  expression_goes (function f) n g = function_goes f n g

  operand_goes : (x : Operand) (n : ℕ) → GoodOperand x n → OperandGoes x
  operand_goes (Operand.expression e) n g = expression_goes e n g
  operand_goes (Operand.literal a) n g = literal_goes a g

  pub predicate_goes : (p : Predicate) (n : ℕ) → Good p n → Goes (predicate_text p) (predicate_onto p)
  predicate_goes (or_of ps) n g =
      list_goes (codes " OR ") (tokens.Word w.Or) (word_separates w.Or) (part_texts 1 ps) (part_ontos 1 ps) (parts_go 1 ps n g.1)
  predicate_goes (and_of ps) n g =
      list_goes (codes " AND ") (tokens.Word w.And) (word_separates w.And) (part_texts 2 ps) (part_ontos 2 ps) (parts_go 2 ps n g.1)
  predicate_goes (not_of p) n g = free_goes (word_free w.Not) (part_goes 3 p n (predicate_goes p) g)
  predicate_goes (truth_test p b t) n g = test_goes b t (part_goes 4 p n (predicate_goes p) g)
  predicate_goes (compare x o y) n g = compare_goes x o y (operand_goes x n g.0) (operand_goes y n g.1)
  predicate_goes (between x b y z) n g = between_goes x b y z (operand_goes x n g.0) (operand_goes y n g.1) (operand_goes z n g.2)
  predicate_goes (member x b ls) n g = member_goes x b ls (operand_goes x n g.0) g.1
  predicate_goes (null_test x b) n g = null_goes x b (operand_goes x n g)
  predicate_goes (column m) n g = name_goes m g

  parts_go : (least : ℕ) (ps : Predicates) (n : ℕ) → PartsFit least ps n → AllGo (part_texts least ps) (part_ontos least ps)
  parts_go least no_parts n g = tt
  parts_go least (part p ps) n g = (part_goes least p n (predicate_goes p) g.0, parts_go least ps n g.1)
