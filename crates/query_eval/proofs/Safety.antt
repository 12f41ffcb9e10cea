-- Operands that are typed have values that are there, and that can be compared where their types
-- agree.
use Rattle.std.proofs.Common.{◌≡◌, ◌∙◌, ◌<◌, ◌⊎◌, inl, inr, ℕ, zero, suc, Bool, true, false, ◌&&◌, Option, Some, None, List, [], ◌∷◌, get_or, map, length, nat_lt, refl, sym, ap, subst, arith}
use Rattle.std.proofs.lemmas.List.{length-map}
use Rattle.std.proofs.lemmas.Bool.Decides.{nat_tests}
use Rattle.std.proofs.lemmas.List.Elements.{recursion_from_All}
use Rattle.std.proofs.lemmas.List.Quantifiers.{position-Some}
use Rattle.std.proofs.lemmas.Option.{slice_get-get_or}
use Rattle.std.specs.List.{AllByRecursion, list_all}
use Rattle.std.specs.Option.{option_and_then, option_map}
use Rattle.std.specs.Prelude.{slice_get, unwrap_or, All}
use Rattle.std.specs.Str.{bytes_eq}
use Rattle.semantics.specs.declared.kind.Kind.{Kind}
use Rattle.semantics.specs.declared.kind.Kind.TheVariants as kind
use Rattle.semantics.specs.Values.{Datum, boolean, whole, text, null}
use Rattle.semantics.specs.Records.{Fits, Holds}
use Rattle.semantics.specs.Columns.{Field, names_of}
use Rattle.semantics.specs.declared.literal.Literal.{Literal}
use Rattle.semantics.specs.declared.literal.Literal.TheVariants as constant
use Rattle.semantics.specs.Syntax.{Expression, Operand, name, grouping, function, over_all, over_filtered, expression, literal}
use Rattle.query_typecheck.specs.declared.scope.Clause.TheVariants as clause
use Rattle.semantics.specs.Names.{column_kind, kind_at, place_of}
use Rattle.query_typecheck.specs.Typing.{IsOfOneKind, IsTypedExpression, IsTypedName, IsTypedOperand}
use Rattle.semantics.specs.Types.{expression_kind, literal_kind, operand_kind}
use Rattle.semantics.specs.Conditions.{column_value, record_value, literal_value, operand_value}
use Rattle.query_eval.specs.declared.condition.OperandSource.{OperandSource}
use Rattle.query_eval.specs.Binding.{AreValuesOf, GivesOperand, ScopeForm}
use Rattle.query_eval.specs.Inside.Binding.{record_scope}
use Rattle.query_eval.specs.Meaning.{comparable, is_of, is_there, is_truth_value, source_value}

pub comparable-of : (k : Kind) (a b : Datum) → is_of k a ≡ true → is_of k b ≡ true → comparable a b ≡ true
comparable-of k null b e f = refl
comparable-of k (boolean a) null e f = refl
comparable-of k (whole a) null e f = refl
comparable-of k (text a) null e f = refl
comparable-of k (boolean a) (boolean b) e f = refl
comparable-of k (whole a) (whole b) e f = refl
comparable-of k (text a) (text b) e f = refl
comparable-of kind.Int (boolean a) b e f = absurd cc
comparable-of kind.Text (boolean a) b e f = absurd cc
comparable-of kind.Bool (boolean a) (whole b) e f = absurd cc
comparable-of kind.Bool (boolean a) (text b) e f = absurd cc
comparable-of kind.Text (whole a) b e f = absurd cc
comparable-of kind.Bool (whole a) b e f = absurd cc
comparable-of kind.Int (whole a) (boolean b) e f = absurd cc
comparable-of kind.Int (whole a) (text b) e f = absurd cc
comparable-of kind.Int (text a) b e f = absurd cc
comparable-of kind.Bool (text a) b e f = absurd cc
comparable-of kind.Text (text a) (boolean b) e f = absurd cc
comparable-of kind.Text (text a) (whole b) e f = absurd cc

pub truth-of : (d : Datum) → is_of kind.Bool d ≡ true → is_truth_value d ≡ true
truth-of null e = refl
truth-of (boolean b) e = refl
truth-of (whole n) e = absurd cc
truth-of (text s) e = absurd cc

pub is_of-held : (k : Kind) (d : Datum) → Holds k d → is_of k d ≡ true
is_of-held k null h = refl
is_of-held kind.Int (whole n) h = refl
is_of-held kind.Text (text s) h = refl
is_of-held kind.Bool (boolean b) h = refl
is_of-held kind.Int (boolean b) h = absurd h
is_of-held kind.Int (text s) h = absurd h
is_of-held kind.Text (boolean b) h = absurd h
is_of-held kind.Text (whole n) h = absurd h
is_of-held kind.Bool (whole n) h = absurd h
is_of-held kind.Bool (text s) h = absurd h

pub is_of-literal : (a : Literal) → is_of (literal_kind a) (literal_value a) ≡ true
is_of-literal (constant.Integer i) = refl
is_of-literal (constant.Text t) = refl
is_of-literal (constant.Truth b) = refl

-- ---- columns

some_field : Field
some_field = record { name = []; kind = kind.Int }

held-at : (fields : List Field) (values : List Datum) (p : ℕ) → Fits fields values → p < length fields → Holds (get_or fields p some_field).kind (get_or values p null)
held-at [] values p h lt = absurd (omega (arith, lt))
held-at (f ∷ fields) [] p h lt = absurd h
held-at (f ∷ fields) (d ∷ values) zero h lt = h.0
held-at (f ∷ fields) (d ∷ values) (suc p) h lt = held-at fields values p h.1 (omega (arith, lt))

-- the place of a column's name, and that it is one of the schema's
place-within : (fields : List Field) (n : List ℕ) (p : ℕ) → place_of fields n ≡ Some p → p < length fields
place-within fields n p e = let at = position-Some (bytes_eq n) (names_of fields) p [] e in let long = length-map fields (λ (f : Field). f.name) in omega (arith, at.0, long)

pub both-true : (a b : Bool) → a ≡ true → b ≡ true → (a && b) ≡ true
both-true true true e f = refl
both-true true false e f = absurd cc
both-true false b e f = absurd cc

pub cases : {A : Type 0} (o : Option A) → (o ≡ None) ⊎ ((x : A) × (o ≡ Some x))
cases None = inl refl
cases (Some x) = inr (x, refl)

fits-length : (fields : List Field) (values : List Datum) → Fits fields values → length fields ≡ length values
fits-length [] [] h = refl
fits-length [] (d ∷ values) h = absurd h
fits-length (f ∷ fields) [] h = absurd h
fits-length (f ∷ fields) (d ∷ values) h = ap suc (fits-length fields values h.1)

-- the value of a column is there
pub column-there : (fields : List Field) (n : List ℕ) (p : ℕ) (values : List Datum) → Some p ≡ place_of fields n → Fits fields values → nat_lt p (length values) ≡ true
column-there fields n p values e fits =
    let within = place-within fields n p (sym e) in
    let long = fits-length fields values fits in
    grind (arith, nat_tests, within, long)

-- the type of a column, by its place
kind-is : (fields : List Field) (n : List ℕ) (p : ℕ) (k : Kind) → place_of fields n ≡ Some p → column_kind fields n ≡ Some k → (get_or fields p some_field).kind ≡ k
kind-is fields n p k e has =
    some-is _ _ (sym (ap (option_map (λ (f : Field). f.kind)) (slice_get-get_or fields p some_field (place-within fields n p e)))
    ∙ sym (ap (option_and_then (kind_at fields)) e) ∙ has)
  where
    some-is : (x y : Kind) → Some x ≡ Some y → x ≡ y
    some-is x y h = cc

column-of : (fields : List Field) (n : List ℕ) (k : Kind) (values : List Datum) → column_kind fields n ≡ Some k → Fits fields values → is_of k (column_value fields values n) ≡ true
column-of fields n k values has fits =
    elim (cases (place_of fields n)) [
      | inl e ↦ absurd (none-has (ap (option_and_then (kind_at fields)) (sym e) ∙ has))
      | inr found ↦ (
          let p = found.0 in
          let within = place-within fields n p found.1 in
          let long = fits-length fields values fits in
          let value : column_value fields values n ≡ get_or values p null =
          ap (λ (o : Option ℕ). unwrap_or (option_and_then (slice_get values) o) null) found.1
          ∙ ap (λ (o : Option Datum). unwrap_or o null) (slice_get-get_or values p null (omega (arith, within, long))) in
          ap (is_of k) value
          ∙ ap (λ l. is_of l (get_or values p null)) (sym (kind-is fields n p k found.1 has))
          ∙ is_of-held (get_or fields p some_field).kind (get_or values p null) (held-at fields values p fits within))
    ]
  where
    none-has : None ≡ Some k → ⊥
    none-has h = cc

-- the value of an expression of WHERE
expression-of : (fields : List Field) (grouped : List ℕ) (e : Expression) (k : Kind) (values : List Datum)
    → IsTypedExpression fields grouped clause.Where e → expression_kind fields e ≡ Some k → Fits fields values → is_of k (record_value fields values e) ≡ true
expression-of fields grouped (name n) k values typed has fits = column-of fields n k values has fits
expression-of fields grouped (grouping ns) k values typed has fits = absurd typed
expression-of fields grouped (function (over_all a)) k values typed has fits = let may = typed.0 in absurd cc
expression-of fields grouped (function (over_filtered a p)) k values typed has fits = let may = typed.0 in absurd cc

-- the values of a record that fits are those of WHERE
pub record-values : (fields : List Field) (values : List Datum) → Fits fields values → AreValuesOf (record_scope fields) values
record-values fields values fits = record {
  count = sym (fits-length fields values fits);
  kinds = λ grouped e k typed has. expression-of fields grouped e k values typed has fits;
}

-- ---- operands under a scope

operand-of : (scope : ScopeForm) (grouped : List ℕ) (x : Operand) (k : Kind) (values : List Datum)
    → AreValuesOf scope values → IsTypedOperand scope.fields grouped scope.clause x → operand_kind scope.fields x ≡ Some k → is_of k (operand_value (scope.value values) x) ≡ true
operand-of scope grouped (expression e) k values are typed has = are.kinds grouped e k typed has
operand-of scope grouped (literal a) k values are typed has = subst (λ l. is_of l (literal_value a) ≡ true) (some-is (literal_kind a) k has) (is_of-literal a)
  where
    some-is : (x y : Kind) → Some x ≡ Some y → x ≡ y
    some-is x y h = cc

-- the values of two operands of one type can be compared
comparable-typed : (scope : ScopeForm) (grouped : List ℕ) (x y : Operand) (values : List Datum)
    → AreValuesOf scope values → IsTypedOperand scope.fields grouped scope.clause x → IsTypedOperand scope.fields grouped scope.clause y
    → IsOfOneKind (operand_kind scope.fields x) (operand_kind scope.fields y)
    → comparable (operand_value (scope.value values) x) (operand_value (scope.value values) y) ≡ true
comparable-typed scope grouped x y values are xt yt one =
    comparable-of one.0 _ _ (operand-of scope grouped x one.0 values are xt one.1) (operand-of scope grouped y one.0 values are yt one.2)

-- the value of an operand can be compared with those of literals of its type
comparable-literals : (scope : ScopeForm) (grouped : List ℕ) (x : Operand) (ls : List Literal) (values : List Datum)
    → AreValuesOf scope values → IsTypedOperand scope.fields grouped scope.clause x → All (λ a. IsOfOneKind (operand_kind scope.fields x) (Some (literal_kind a))) ls
    → list_all (comparable (operand_value (scope.value values) x)) (map literal_value ls) ≡ true
comparable-literals scope grouped x ls values are xt same = go ls (recursion_from_All (λ a. IsOfOneKind (operand_kind scope.fields x) (Some (literal_kind a))) ls same)
  where
    go : (ls : List Literal) → AllByRecursion (λ a. IsOfOneKind (operand_kind scope.fields x) (Some (literal_kind a))) ls
        → list_all (comparable (operand_value (scope.value values) x)) (map literal_value ls) ≡ true
    go [] h = refl
    go (a ∷ ls) h = both-true _ _ (comparable-typed scope grouped x (literal a) values are xt tt h.0) (go ls h.1)

-- ---- their sources

-- the value of a source is there
pub there : (scope : ScopeForm) (values : List Datum) (x : Operand) (s : OperandSource) → GivesOperand scope x s → AreValuesOf scope values → is_there values s ≡ true
there scope values x s gives are = gives.there values are.count

-- those of operands of one type can be compared
pub compared : (scope : ScopeForm) (grouped : List ℕ) (values : List Datum) (x y : Operand) (s t : OperandSource)
    → GivesOperand scope x s → GivesOperand scope y t → AreValuesOf scope values
    → IsTypedOperand scope.fields grouped scope.clause x → IsTypedOperand scope.fields grouped scope.clause y
    → IsOfOneKind (operand_kind scope.fields x) (operand_kind scope.fields y) → comparable (source_value values s) (source_value values t) ≡ true
compared scope grouped values x y s t gives other are xt yt one =
    ap (λ a. comparable a (source_value values t)) (gives.value values) ∙ ap (comparable (operand_value (scope.value values) x)) (other.value values)
    ∙ comparable-typed scope grouped x y values are xt yt one

pub compared-all : (scope : ScopeForm) (grouped : List ℕ) (values : List Datum) (x : Operand) (s : OperandSource) (ls : List Literal) (ds : List Datum)
    → GivesOperand scope x s → ds ≡ map literal_value ls → AreValuesOf scope values → IsTypedOperand scope.fields grouped scope.clause x
    → All (λ a. IsOfOneKind (operand_kind scope.fields x) (Some (literal_kind a))) ls → list_all (comparable (source_value values s)) ds ≡ true
compared-all scope grouped values x s ls ds gives same are xt one =
    ap (λ a. list_all (comparable a) ds) (gives.value values) ∙ ap (list_all (comparable (operand_value (scope.value values) x))) same
    ∙ comparable-literals scope grouped x ls values are xt one

-- that of a bare name is a truth value, or NULL
pub told : (scope : ScopeForm) (grouped : List ℕ) (values : List Datum) (n : List ℕ) (s : OperandSource)
    → GivesOperand scope (expression (name n)) s → AreValuesOf scope values → IsTypedName scope.fields grouped scope.clause n → column_kind scope.fields n ≡ Some kind.Bool
    → is_truth_value (source_value values s) ≡ true
told scope grouped values n s gives are typed has =
    ap is_truth_value (gives.value values) ∙ truth-of (scope.value values (name n)) (are.kinds grouped (name n) kind.Bool typed has)
