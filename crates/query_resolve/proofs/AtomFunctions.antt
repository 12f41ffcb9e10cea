-- The set functions that the code collects are those of the operands of atoms.
use Rattle.std.proofs.Common.{◌≡◌, ◌∙◌, List, [], ◌∷◌, ◌++◌, Option, Some, None, map, refl, sym, ap, append_assoc}
use Rattle.std.specs.List.{flat_map}
use Rattle.std.specs.Option.{option_map_or}
use Rattle.std.proofs.lemmas.List.{append-nil}
use Rattle.std.proofs.lemmas.List.Concat.{flat_map-append}
use Rattle.semantics.specs.declared.literal.Literal.{Literal}
use Rattle.semantics.specs.Syntax.{SetFunction, SelectItem, SortKey, Operand, Predicate, Predicates, Query, literal, or_of, and_of, not_of, truth_test, compare, between, member, null_test, column, no_parts, part, operands_of_atoms, operands_of_parts}
use Rattle.semantics.specs.SetFunctions.{expression_functions, operand_functions, set_functions}
use Rattle.query_resolve.specs.Collecting.{clause_functions, parts_functions, predicate_functions}

-- The set functions of the operands of some atoms.
abbrev atom_functions : List (List Operand) → List SetFunction
atom_functions atoms = flat_map (flat_map operand_functions) atoms

-- No literal is a set function.
no_literal : (ls : List Literal) → flat_map operand_functions (map literal ls) ≡ []
no_literal [] = refl
no_literal (a ∷ ls) = no_literal ls

mutual
  pub of_predicate : (p : Predicate) → predicate_functions p ≡ atom_functions (operands_of_atoms p)
  of_predicate (or_of ps) = of_parts ps
  of_predicate (and_of ps) = of_parts ps
  of_predicate (not_of p) = of_predicate p
  of_predicate (truth_test p n t) = of_predicate p
  of_predicate (compare x o y) =
      sym (append-nil (operand_functions x ++ (operand_functions y ++ []))
      ∙ ap (λ (fs : List SetFunction). operand_functions x ++ fs) (append-nil (operand_functions y)))
  of_predicate (between x n y z) =
      sym (append-nil (operand_functions x ++ (operand_functions y ++ (operand_functions z ++ [])))
      ∙ ap (λ (fs : List SetFunction). operand_functions x ++ (operand_functions y ++ fs)) (append-nil (operand_functions z))
      ∙ sym (append_assoc (operand_functions x) (operand_functions y) (operand_functions z)))
  of_predicate (member x n ls) =
      sym (append-nil (operand_functions x ++ flat_map operand_functions (map literal ls))
      ∙ ap (λ (fs : List SetFunction). operand_functions x ++ fs) (no_literal ls)
      ∙ append-nil (operand_functions x))
  of_predicate (null_test x n) = sym (append-nil (operand_functions x ++ []) ∙ append-nil (operand_functions x))
  of_predicate (column n) = refl

  of_parts : (ps : Predicates) → parts_functions ps ≡ atom_functions (operands_of_parts ps)
  of_parts no_parts = refl
  of_parts (part p ps) =
      ap (λ (fs : List SetFunction). fs ++ parts_functions ps) (of_predicate p)
      ∙ ap (λ (fs : List SetFunction). atom_functions (operands_of_atoms p) ++ fs) (of_parts ps)
      ∙ sym (flat_map-append (flat_map operand_functions) (operands_of_atoms p) (operands_of_parts ps))

-- Those in HAVING, where it is written.
of_condition : (o : Option Predicate) → option_map_or predicate_functions o [] ≡ atom_functions (option_map_or operands_of_atoms o [])
of_condition None = refl
of_condition (Some p) = of_predicate p

-- Those of a query.
pub collected : (t : Query) → clause_functions t ≡ set_functions t
collected t =
    ap (λ (fs : List SetFunction). flat_map (λ (i : SelectItem). expression_functions i.expression) t.items ++ fs ++ flat_map (λ (k : SortKey). expression_functions k.expression) t.keys)
    (of_condition t.having_condition)
