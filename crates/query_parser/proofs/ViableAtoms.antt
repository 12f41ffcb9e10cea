-- The readers of atoms, and of the truth tests behind them, have the valid prefix property.
use Rattle.std.proofs.Common.{arith, ◌<◌, ℕ, Bool, true, false, List, [], ◌∷◌, Ok, sym, subst}
use Rattle.semantics.specs.declared.comparison.Op.{Op}
use Rattle.semantics.specs.declared.comparison.Op.TheVariants as op
use Rattle.semantics.specs.declared.token.Token.{Token}
use Rattle.semantics.specs.declared.token.Token.TheVariants as tokens
use Rattle.semantics.specs.declared.token.Word.TheVariants as w
use Rattle.semantics.specs.declared.token.Sign.TheVariants as s
use Rattle.query_lexer.specs.Options.{choose}
use Rattle.semantics.specs.declared.literal.Literal.{Literal}
use Rattle.semantics.specs.Syntax as syntax
use Rattle.semantics.specs.Syntax.{truth_test, compare, between, member, null_test, column}
use Rattle.query_parser.specs.Inside.Fronts.{is_word, after}
use Rattle.query_parser.specs.Inside.Steps.{Reader, found_or_unexpected}
use Rattle.query_parser.specs.Inside.LeafSteps.{literal_at, literals_at, op_at, truth_at, mark_at}
use Rattle.query_parser.specs.Inside.ExpressionSteps.{Inside, expression_at}
use Rattle.query_parser.specs.Inside.AtomSteps.{operand_at, member_after, between_after, negated_after, column_of, atom_after, test_after, is_after, tested_atom_at}
use Rattle.semantics.specs.Leaves.{Derivation, IsLiteral, IsOp, IsOptional}
use Rattle.semantics.specs.Productions.{IsExpression, IsOperand, IsAtom, IsPrimary, IsTest}
use Rattle.values.specs.Results.{◌>>=◌}
use Rattle.query_parser.proofs.Viable.{Phrase, Viable, Listed, Enclosed, Exactly, exactly, viable_ok, viable_stuck, viable_as, viable_bind, viable_made, viable_front}
use Rattle.query_parser.proofs.ViableLeaves.{limits_of, viable_word, found_or_stuck_word, viable_mark, literal_finds, Literals, literals_v, op_finds, truth_v}
use Rattle.query_parser.proofs.ViableExpressions.{InsideViable, a_name, expression_v}

-- A bare name, as an operand.
abbrev named : List ℕ → syntax.Operand
named n = syntax.Operand.expression (syntax.Expression.name n)

-- An IN may have a literal.
some_literals : (wide : Bool) → 0 < (limits_of wide).literals
some_literals true = omega arith
some_literals false = omega arith

module _ (wide : Bool) (IsInner : Derivation syntax.Predicate) (inside : Inside) (inside_v : InsideViable wide IsInner inside) where
  -- An operand within the limits.
  abbrev Operand : Derivation syntax.Operand
  Operand = IsOperand (limits_of wide) IsInner

  -- An atom within the limits.
  abbrev Atom : Derivation syntax.Predicate
  Atom = IsAtom (limits_of wide) IsInner

  -- An atom or a predicate in brackets, within the limits.
  abbrev Primary : Derivation syntax.Predicate
  Primary = IsPrimary (limits_of wide) IsInner

  -- A primary and its truth test, or none, within the limits.
  abbrev Test : Derivation syntax.Predicate
  Test = IsTest (limits_of wide) IsInner

  -- ---- what derives behind what was read

  -- What derives as an atom behind an operand.
  abbrev AfterOperand : syntax.Operand → Derivation syntax.Predicate
  AfterOperand x us p ws = (vs : List Token) → Operand vs x us → Atom vs p ws

  -- What derives as an atom behind an operand, its mark and IN.
  abbrev AfterIn : syntax.Operand → Bool → Derivation syntax.Predicate
  AfterIn x n us p ws = (vs ms : List Token) → Operand vs x ms → IsOptional w.Not ms n (tokens.Word w.In ∷ us) → Atom vs p ws

  -- What derives as an atom behind an operand, its mark and BETWEEN.
  abbrev AfterBetween : syntax.Operand → Bool → Derivation syntax.Predicate
  AfterBetween x n us p ws =
      (vs ms : List Token) → Operand vs x ms → IsOptional w.Not ms n (tokens.Word w.Between ∷ us) → Atom vs p ws

  -- What derives as an atom behind the lower end of a BETWEEN.
  abbrev AfterLow : syntax.Operand → Bool → syntax.Operand → Derivation syntax.Predicate
  AfterLow x n y us p ws = (vs : List Token) → Operand vs y us → AfterBetween x n vs p ws

  -- What derives as an atom behind an operand and NOT.
  abbrev AfterNot : syntax.Operand → Derivation syntax.Predicate
  AfterNot x us p ws = AfterOperand x (tokens.Word w.Not ∷ us) p ws

  -- What derives as a test behind a primary.
  abbrev pub AfterPrimary : syntax.Predicate → Derivation syntax.Predicate
  AfterPrimary p us q ws = (vs : List Token) → Primary vs p us → Test vs q ws

  -- What derives as a test behind an operand.
  abbrev TestedOperand : syntax.Operand → Derivation syntax.Predicate
  TestedOperand x us q ws = (vs : List Token) → Operand vs x us → Test vs q ws

  -- What derives as a test behind an operand and IS.
  abbrev AfterIs : syntax.Operand → Derivation syntax.Predicate
  AfterIs x us q ws = TestedOperand x (tokens.Word w.Is ∷ us) q ws

  -- What derives as a test behind an operand, IS and its mark.
  abbrev AfterIsMark : syntax.Operand → Bool → Derivation syntax.Predicate
  AfterIsMark x n us q ws =
      (ms vs : List Token) → IsOptional w.Not ms n us → Operand vs x (tokens.Word w.Is ∷ ms) → Test vs q ws

  -- ---- what derives, whatever stands behind

  -- An operand that is a bare name is an atom.
  bare : {vs us : List Token} (n : List ℕ) → Operand vs (named n) us → Atom vs (column n) us
  bare n (IsOperand.expression IsExpression.name) = IsAtom.column

  -- A name is an operand.
  of_name : {n : List ℕ} {us : List Token} → Operand (tokens.Name n ∷ us) (named n) us
  of_name = IsOperand.expression IsExpression.name

  -- Behind any operand may stand an equality with a name.
  compared : (x : syntax.Operand) → Phrase (AfterOperand x)
  compared x = record {
    tokens = tokens.Sign s.Equal ∷ tokens.Name a_name ∷ [];
    value = compare x op.Eq (named a_name);
    derived = λ other vs i. IsAtom.compare i IsOp.eq of_name;
  }

  -- That makes a test.
  compared_test : (x : syntax.Operand) → Phrase (TestedOperand x)
  compared_test x = record {
    tokens = tokens.Sign s.Equal ∷ tokens.Name a_name ∷ [];
    value = compare x op.Eq (named a_name);
    derived = λ other vs i. IsTest.plain (IsPrimary.atom (IsAtom.compare i IsOp.eq of_name));
  }

  -- Behind the AND of a BETWEEN may stand a name.
  high_end : (x : syntax.Operand) (n : Bool) (y : syntax.Operand)
      → Phrase (λ us p ws. AfterLow x n y (tokens.Word w.And ∷ us) p ws)
  high_end x n y = record {
    tokens = tokens.Name a_name ∷ [];
    value = between x n y (named a_name);
    derived = λ other low l vs ms i m. IsAtom.between i m l of_name;
  }

  -- Behind the lower end of a BETWEEN may stand AND and a name.
  and_high_end : (x : syntax.Operand) (n : Bool) (y : syntax.Operand) → Phrase (AfterLow x n y)
  and_high_end x n y = record {
    tokens = tokens.Word w.And ∷ tokens.Name a_name ∷ [];
    value = between x n y (named a_name);
    derived = λ other low l vs ms i m. IsAtom.between i m l of_name;
  }

  -- Behind an operand, NOT and BETWEEN may stand two names with AND.
  not_between : (x : syntax.Operand) → Phrase (λ us p ws. AfterNot x (tokens.Word w.Between ∷ us) p ws)
  not_between x = record {
    tokens = tokens.Name a_name ∷ tokens.Word w.And ∷ tokens.Name a_name ∷ [];
    value = between x true (named a_name) (named a_name);
    derived = λ other vs i. IsAtom.between i IsOptional.written of_name of_name;
  }

  -- Behind IS and its mark may stand NULL.
  null_tested : (x : syntax.Operand) (n : Bool) → Phrase (AfterIsMark x n)
  null_tested x n = record {
    tokens = tokens.Word w.Null ∷ [];
    value = null_test x n;
    derived = λ other ms vs m i. IsTest.plain (IsPrimary.atom (IsAtom.null_test i m));
  }

  -- ---- operands

  -- A literal is an operand, with which nothing else is taken.
  literal_operand : (us vs ws : List Token) (a : Literal) (x : syntax.Operand) → IsLiteral us a vs
      → Exactly (syntax.Operand.literal a) vs x ws → Operand us x ws
  literal_operand us vs ws a x i q = subst (λ z. Operand us z ws) q.1
      (subst (λ zs. Operand us (syntax.Operand.literal a) zs) q.0 (IsOperand.literal i))

  -- An operand.
  operand_v : Viable true wide Operand (operand_at inside)
  unfolding operand_at
  operand_v =
      viable_front {Q = λ a. Exactly (syntax.Operand.literal a)} literal_at literal_finds literal_operand
      (λ ts. expression_at inside ts >>= λ e. Ok (syntax.Operand.expression e.0, e.1))
      (λ a us. Ok (syntax.Operand.literal a, us))
      (viable_made (expression_at inside) (λ e. syntax.Operand.expression e) (λ us vs e i. IsOperand.expression i)
      (expression_v wide IsInner inside inside_v)) (λ a. exactly (syntax.Operand.literal a))

  -- ---- atoms

  -- The literals of an IN.
  inside_literals_v : Viable true wide (Literals wide) (literals_at inside.limits.literals)
  inside_literals_v =
      subst (λ l. Viable true wide (Literals wide) (literals_at l.literals)) (sym inside_v.limits_are) (literals_v wide)

  -- What is read behind IN.
  member_v : (x : syntax.Operand) (n : Bool) → Viable true wide (AfterIn x n) (member_after inside.limits.literals x n)
  unfolding member_after
  member_v x n = viable_made (literals_at inside.limits.literals) (λ ls. member x n ls) listed inside_literals_v where
    listed : (us ws : List Token) (ls : List Literal) → Literals wide us ls ws → AfterIn x n us (member x n ls) ws
    listed _ _ _ (Enclosed.brackets (Listed.parts l others)) =
        λ vs ms i m. IsAtom.member i m l others.0 (omega (arith, others.1, some_literals wide))

  -- What is read behind the AND of a BETWEEN.
  abbrev high_at : syntax.Operand → Bool → syntax.Operand → Reader syntax.Predicate
  high_at x n y ts = operand_at inside ts >>= λ z. Ok (between x n y z.0, z.1)

  -- What is read behind the lower end of a BETWEEN.
  abbrev and_high_at : syntax.Operand → Bool → syntax.Operand → Reader syntax.Predicate
  and_high_at x n y ts = found_or_unexpected (after (is_word w.And)) ts >>= λ a. high_at x n y a

  -- That is viable.
  high_v : (x : syntax.Operand) (n : Bool) (y : syntax.Operand) → Viable true wide (AfterLow x n y) (λ ts. and_high_at x n y ts)
  high_v x n y =
      found_or_stuck_word w.And (λ a. high_at x n y a) (high_end x n y)
      (viable_made (operand_at inside) (λ z. between x n y z)
      (λ us ws z h low l vs ms i m. IsAtom.between i m l h) operand_v)

  -- What is read behind BETWEEN.
  between_v : (x : syntax.Operand) (n : Bool) → Viable true wide (AfterBetween x n) (between_after inside x n)
  unfolding between_after
  between_v x n =
      viable_bind (AfterLow x n) (operand_at inside) (λ y us. and_high_at x n y us)
      (λ us vs ws y p l q. q us l) (and_high_end x n) operand_v (high_v x n)

  -- What is read behind an operand and NOT.
  negated_v : (x : syntax.Operand) → Viable true wide (AfterNot x) (negated_after inside x)
  unfolding negated_after
  negated_v x =
      viable_word w.In (λ ts. found_or_unexpected (after (is_word w.Between)) ts >>= λ a. between_after inside x true a)
      (λ a. member_after inside.limits.literals x true a)
      (found_or_stuck_word w.Between (λ a. between_after inside x true a) (not_between x)
      (viable_as (λ us ws p q vs i. q vs (tokens.Word w.Not ∷ tokens.Word w.Between ∷ us) i IsOptional.written) (between_v x true)))
      (viable_as (λ us ws p q vs i. q vs (tokens.Word w.Not ∷ tokens.Word w.In ∷ us) i IsOptional.written) (member_v x true))

  -- What is read behind an operand where nothing stands that belongs to its atom.
  abbrev column_at : syntax.Operand → Reader syntax.Predicate
  column_at x ts = column_of x ts >>= λ p. Ok (p, ts)

  -- That is viable.
  column_v : (x : syntax.Operand) → Viable true wide (AfterOperand x) (column_at x)
  unfolding column_of
  column_v (syntax.Operand.expression (syntax.Expression.name n)) = viable_ok (column n) (λ ts vs i. bare n i)
  column_v (syntax.Operand.expression (syntax.Expression.grouping ns)) =
      viable_stuck (compared (syntax.Operand.expression (syntax.Expression.grouping ns)))
  column_v (syntax.Operand.expression (syntax.Expression.function f)) =
      viable_stuck (compared (syntax.Operand.expression (syntax.Expression.function f)))
  column_v (syntax.Operand.literal a) =
      viable_stuck (compared (syntax.Operand.literal a))

  -- What is read behind an operand where no IN stands, nor an operator or NOT.
  abbrev ranged_at : syntax.Operand → Reader syntax.Predicate
  ranged_at x ts = choose (after (is_word w.Between) ts) (column_at x ts) (λ a. between_after inside x false a)

  -- That is viable.
  ranged_v : (x : syntax.Operand) → Viable true wide (AfterOperand x) (ranged_at x)
  ranged_v x =
      viable_word w.Between (λ ts. column_at x ts) (λ a. between_after inside x false a) (column_v x)
      (viable_as (λ us ws p q vs i. q vs (tokens.Word w.Between ∷ us) i IsOptional.none) (between_v x false))

  -- What is read behind an operand where no operator or NOT stands.
  abbrev plain_at : syntax.Operand → Reader syntax.Predicate
  plain_at x ts =
      choose (after (is_word w.In) ts) (ranged_at x ts) (λ a. member_after inside.limits.literals x false a)

  -- That is viable.
  plain_v : (x : syntax.Operand) → Viable true wide (AfterOperand x) (plain_at x)
  plain_v x =
      viable_word w.In (λ ts. ranged_at x ts) (λ a. member_after inside.limits.literals x false a) (ranged_v x)
      (viable_as (λ us ws p q vs i. q vs (tokens.Word w.In ∷ us) i IsOptional.none) (member_v x false))

  -- What derives as an atom behind an operand and its operator.
  abbrev AfterOp : syntax.Operand → Op → Derivation syntax.Predicate
  AfterOp x o us p ws = (vs : List Token) → IsOp vs o us → AfterOperand x vs p ws

  -- What is read behind an operand, unless that is IS.
  atom_v : (x : syntax.Operand) → Viable true wide (AfterOperand x) (atom_after inside x)
  unfolding atom_after
  atom_v x =
      viable_front {Q = AfterOp x} op_at op_finds (λ us vs ws o p i q. q us i)
      (λ ts. choose (after (is_word w.Not) ts) (plain_at x ts) (λ a. negated_after inside x a))
      (λ o us. operand_at inside us >>= λ y. Ok (compare x o y.0, y.1))
      (viable_word w.Not (λ ts. plain_at x ts) (λ a. negated_after inside x a) (plain_v x) (negated_v x))
      (λ o. viable_made (operand_at inside) (λ y. compare x o y) (λ us ws y h vs i zs j. IsAtom.compare j i h) operand_v)

  -- ---- truth tests

  -- What derives as a test behind a primary, IS and its mark.
  abbrev AfterMark : syntax.Predicate → Bool → Derivation syntax.Predicate
  AfterMark p n us q ws =
      (ms vs : List Token) → IsOptional w.Not ms n us → Primary vs p (tokens.Word w.Is ∷ ms) → Test vs q ws

  -- A truth value, and the test that it makes.
  abbrev truth_test_at : syntax.Predicate → Bool → Reader syntax.Predicate
  truth_test_at p n ts = truth_at ts >>= λ t. Ok (truth_test p n t.0, t.1)

  -- That is viable.
  truth_test_v : (p : syntax.Predicate) (n : Bool) → Viable true wide (AfterMark p n) (truth_test_at p n)
  truth_test_v p n = viable_made truth_at (λ t. truth_test p n t) (λ us ws t h ms vs m i. IsTest.test i m h) truth_v

  -- What is read behind a primary.
  pub test_after_v : (p : syntax.Predicate) → Viable true wide (AfterPrimary p) (test_after p)
  unfolding test_after
  test_after_v p =
      viable_word w.Is (λ ts. Ok (p, ts)) (λ a. truth_test_at p (mark_at a).0 (mark_at a).1)
      (viable_ok p (λ ts vs i. IsTest.plain i))
      (viable_mark (AfterMark p) (λ n us. truth_test_at p n us) (λ us vs ws n q m k zs i. k us zs m i) (truth_test_v p))

  -- What is read behind an operand, IS and its mark, where that is not NULL.
  abbrev column_test_at : syntax.Operand → Bool → Reader syntax.Predicate
  column_test_at x n ts = column_of x ts >>= λ p. truth_test_at p n ts

  -- That is viable.
  column_test_v : (x : syntax.Operand) (n : Bool) → Viable true wide (AfterIsMark x n) (column_test_at x n)
  unfolding column_of
  column_test_v (syntax.Operand.expression (syntax.Expression.name k)) n =
      viable_as (λ us ws q h ms vs m i. h ms vs m (IsPrimary.atom (bare k i))) (truth_test_v (column k) n)
  column_test_v (syntax.Operand.expression (syntax.Expression.grouping ns)) n =
      viable_stuck (null_tested (syntax.Operand.expression (syntax.Expression.grouping ns)) n)
  column_test_v (syntax.Operand.expression (syntax.Expression.function f)) n =
      viable_stuck (null_tested (syntax.Operand.expression (syntax.Expression.function f)) n)
  column_test_v (syntax.Operand.literal a) n =
      viable_stuck (null_tested (syntax.Operand.literal a) n)

  -- What is read behind an operand, IS and its mark.
  abbrev null_at : syntax.Operand → Bool → Reader syntax.Predicate
  null_at x n ts = choose (after (is_word w.Null) ts) (column_test_at x n ts) (λ a. test_after (null_test x n) a)

  -- That is viable.
  null_v : (x : syntax.Operand) (n : Bool) → Viable true wide (AfterIsMark x n) (null_at x n)
  null_v x n =
      viable_word w.Null (λ us. column_test_at x n us) (λ a. test_after (null_test x n) a) (column_test_v x n)
      (viable_as (λ us ws q k ms vs m i. k vs (IsPrimary.atom (IsAtom.null_test i m))) (test_after_v (null_test x n)))

  -- What is read behind an operand and IS.
  is_v : (x : syntax.Operand) → Viable true wide (AfterIs x) (is_after x)
  unfolding is_after
  is_v x = viable_mark (AfterIsMark x) (λ n us. null_at x n us) (λ us vs ws n q m k zs i. k us zs m i) (null_v x)

  -- What is read behind an operand, where no IS stands right behind it: the rest of its atom, and
  -- its truth test.
  abbrev tested_at : syntax.Operand → Reader syntax.Predicate
  tested_at x ts = atom_after inside x ts >>= λ p. test_after p.0 p.1

  -- That is viable.
  tested_v : (x : syntax.Operand) → Viable true wide (TestedOperand x) (tested_at x)
  tested_v x =
      viable_bind AfterPrimary (atom_after inside x) (λ p us. test_after p us)
      (λ us vs ws p q a k zs i. k zs (IsPrimary.atom (a zs i)))
      (λ p. record { tokens = []; value = p; derived = λ other zs i. IsTest.plain i }) (atom_v x) test_after_v

  -- An atom and its truth test, or none.
  pub tested_atom_v : Viable true wide (IsTest (limits_of wide) IsInner) (tested_atom_at inside)
  unfolding tested_atom_at
  tested_atom_v =
      viable_bind TestedOperand (operand_at inside)
      (λ x us. choose (after (is_word w.Is) us) (tested_at x us) (λ a. is_after x a))
      (λ us vs ws x q i k. k us i) compared_test operand_v
      (λ x. viable_word w.Is (λ us. tested_at x us) (λ a. is_after x a) (tested_v x) (is_v x))
