-- Where the reader of queries stops, tokens go wrong; they do so once, and not where they derive a
-- query.
use Rattle.std.proofs.Common.{arith, length, take, drop, ◌<◌, ◌≤◌, ◌+◌, ◌-◌, ◌≡◌, ◌⊎◌, inl, inr, ℕ, zero, suc, Result, Ok, Err, List, [], ◌∷◌, ◌++◌, refl, sym, ap, subst, ◌∙◌}
use Rattle.std.proofs.lemmas.List.{append_assoc, length-append, take-append-drop, take-append-le}
use Rattle.semantics.specs.declared.token.Token.{Token}
use Rattle.semantics.specs.declared.token.Token.TheVariants as tokens
use Rattle.semantics.specs.declared.token.Word.TheVariants as w
use Rattle.semantics.specs.declared.token.Sign.TheVariants as s
use Rattle.std.specs.Prelude.{Box, IfOk}
use Rattle.std.specs.Global.{Global}
use Rattle.std.proofs.Math.Seq.{take-append_seam}
use Rattle.query_ast.specs.declared.tree.Tree.{Tree}
use Rattle.semantics.specs.Syntax.{Query}
use Rattle.query_ast.specs.Syntax.{tree_form}
use Rattle.semantics.specs.Leaves.{Limits, language_limits}
use Rattle.semantics.specs.Grammar.{DerivesWithin}
use Rattle.semantics.specs.Prefixes.{BeginsWithin, Begins, KeepsLimits, IsUnexpected, IsOverLimit}
use Rattle.query_parser.specs.declared.fault.GrammarFault.{GrammarFault}
use Rattle.query_parser.specs.Inside.Stops.{Stop}
use Rattle.query_parser.specs.declared.fault.GrammarFault.TheVariants as faults
use Rattle.query_parser.specs.Inside.Stops as halts
use Rattle.query_parser.specs.Inside.Steps.{Gives}
use Rattle.query_parser.specs.Inside.QuerySteps.{whole_at}
use Rattle.query_parser.proofs.LocalQuery.{left_within, continues_none_at, derives_none_at, begins_none_at}
use Rattle.query_parser.proofs.ViableWhole.{read_derives, begins_unexpected, keeps_unexpected, over_front, exceeds}

-- A number is at most another, or greater.
pub at_most_or : (i n : ℕ) → (i ≤ n) ⊎ (n < i)
at_most_or zero n = inl (omega arith)
at_most_or (suc i) zero = inr (omega arith)
at_most_or (suc i) (suc n) = elim (at_most_or i n) [ inl h ↦ inl (omega (arith, h)) | inr h ↦ inr (omega (arith, h)) ]

-- As many tokens as there are, or more, are all of them.
take_all : (i : ℕ) (ts : List Token) → length ts ≤ i → take i ts ≡ ts
take_all zero [] h = refl
take_all zero (t ∷ ts) h = absurd (omega arith)
take_all (suc i) [] h = refl
take_all (suc i) (t ∷ ts) h = ap (λ (us : List Token). t ∷ us) (take_all i ts (omega arith))

-- The first of the first.
take_fewer : (i n : ℕ) (ts : List Token) → i ≤ n → take i (take n ts) ≡ take i ts
take_fewer zero n ts h = refl
take_fewer (suc i) zero ts h = absurd (omega arith)
take_fewer (suc i) (suc n) [] h = refl
take_fewer (suc i) (suc n) (t ∷ ts) h = ap (λ (us : List Token). t ∷ us) (take_fewer i n ts (omega arith))

-- ---- what begins a query does so in front as well

begins_sooner : {limits : Limits} {front : List Token} → BeginsWithin limits front → (i : ℕ) → BeginsWithin limits (take i front)
begins_sooner {limits} {front} b i = record {
  rest = drop i front ++ b.rest;
  tree = b.tree;
  derived = subst (λ us. DerivesWithin limits us b.tree) (ap (λ (us : List Token). us ++ b.rest) (sym (take-append-drop i front)) ∙ append_assoc (take i front) (drop i front) b.rest) b.derived;
}

-- What keeps the limits before one token more that does not count.
keeps_one_more : (front : List Token) (t : Token) → BeginsWithin language_limits front → KeepsLimits (front ++ t ∷ []) → (i : ℕ) → KeepsLimits (take i (front ++ t ∷ []))
keeps_one_more front t b k i = elim (at_most_or i (length front)) [
  | inl h ↦ subst KeepsLimits (sym (take-append-le i front (t ∷ []) h)) (KeepsLimits.begins (begins_sooner b i))
  | inr h ↦ subst KeepsLimits (sym (take_all i (front ++ t ∷ []) (omega (arith, h, length-append front (t ∷ []))))) k
]

keeps_sooner : {front : List Token} → KeepsLimits front → (i : ℕ) → KeepsLimits (take i front)
keeps_sooner (KeepsLimits.begins b) i = KeepsLimits.begins (begins_sooner b i)
keeps_sooner (KeepsLimits.comma {front} b) i = keeps_one_more front (tokens.Sign s.Comma) b (KeepsLimits.comma b) i
keeps_sooner (KeepsLimits.filter {front} b) i = keeps_one_more front (tokens.Word w.Filter) b (KeepsLimits.filter b) i

-- ---- the laws

-- Behind a token that is not expected no tokens begin a query.
begins_no_further : (ts : List Token) (place further : ℕ) → IsUnexpected ts place → place < further → further ≤ length ts → Begins (take further ts) → ⊥
begins_no_further ts place further u before inside b =
    u.continues_none (omega (arith, before, inside)) record {
      limits = b.limits;
      within = subst (BeginsWithin b.limits) (take_fewer (place + 1) further ts (omega (arith, before))) (begins_sooner b.within (place + 1));
    }

pub unexpected_once : (ts : List Token) (place other : ℕ) → IsUnexpected ts place → IsUnexpected ts other → place ≡ other
unexpected_once ts place other u v = elim (at_most_or place other) [
  | inl h ↦ elim (at_most_or other place) [
    | inl k ↦ omega (arith, h, k)
    | inr k ↦ absurd (begins_no_further ts place other u k v.inside v.begins)
  ]
  | inr h ↦ absurd (begins_no_further ts other place v h u.inside u.begins)
]

pub unexpected_keeps : (ts : List Token) (place : ℕ) → IsUnexpected ts place → IsOverLimit ts → ⊥
unexpected_keeps ts place u o = elim (at_most_or o.place place) [
  | inl h ↦ o.exceeds (subst KeepsLimits (take_fewer o.place place ts h) (keeps_sooner u.keeps o.place))
  | inr h ↦ begins_no_further ts place o.place u h o.inside o.begins
]

pub derived_keeps : (ts : List Token) (q : Query) → DerivesWithin language_limits ts q → IsOverLimit ts → ⊥
derived_keeps ts q d o = o.exceeds (KeepsLimits.begins record { rest = drop o.place ts; tree = q; derived = subst (λ us. DerivesWithin language_limits us q) (sym (take-append-drop o.place ts)) d })

-- ---- where the reader stops

unexpected_at : (ts : List Token) (left : ℕ) → whole_at language_limits ts ≡ Err (halts.unexpected left) → IsUnexpected ts (length ts - left)
unexpected_at ts left e = record {
  inside = omega (arith, left_within language_limits ts (halts.unexpected left) e);
  begins = begins_unexpected ts left e;
  keeps = keeps_unexpected ts left e;
  continues_none = λ h b. continues_none_at ts left e h b;
  derives_none = λ limits q d. derives_none_at ts left e limits q d;
}

over_at : (ts : List Token) (left : ℕ) → whole_at language_limits ts ≡ Err (halts.over_limit left) → IsOverLimit ts
over_at ts left e =
    let o = over_front ts left e in
    let front_is : take (length o.front) ts ≡ o.front = ap (take (length o.front)) o.is ∙ take-append_seam o.front o.back in
    let sooner : length ts - left ≤ length o.front = omega (arith, o.short, ap length o.is, length-append o.front o.back) in
    record {
      place = length o.front;
      inside = omega (arith, ap length o.is, length-append o.front o.back);
      begins = subst Begins (sym front_is) o.begins;
      exceeds = λ k. begins_none_at ts left e (subst (BeginsWithin language_limits) (take_fewer (length ts - left) (length o.front) ts sooner) (begins_sooner (subst (BeginsWithin language_limits) (sym front_is) (exceeds o.front o.counts (subst KeepsLimits front_is k))) (length ts - left)));
    }

-- A token, or the end, that is not expected is where reading stops.
stops_unexpected : {X : Type 0} (view : X → Query) (ts : List Token) (r : Result X GrammarFault) → Gives view r (whole_at language_limits ts) → (left : ℕ) → r ≡ Err (faults.Unexpected left) → whole_at language_limits ts ≡ Err (halts.unexpected left)
stops_unexpected view ts (Ok x) g left e = absurd cc
stops_unexpected view ts (Err faults.OutOfMemory) g left e = absurd cc
stops_unexpected view ts (Err faults.OverLimit) g left e = absurd cc
stops_unexpected view ts (Err (faults.Unexpected n)) g left e = let h : n ≡ left = cc in g ∙ ap (λ (m : ℕ). Err (halts.unexpected m)) h

-- It continues no query.
pub unexpected : {X : Type 0} (view : X → Query) (ts : List Token) (r : Result X GrammarFault) → Gives view r (whole_at language_limits ts) → (left : ℕ) → r ≡ Err (faults.Unexpected left) → IsUnexpected ts (length ts - left)
unexpected view ts r g left e = unexpected_at ts left (stops_unexpected view ts r g left e)

-- It is one of these tokens, or the end.
pub within : {X : Type 0} (view : X → Query) (ts : List Token) (r : Result X GrammarFault) → Gives view r (whole_at language_limits ts) → (left : ℕ) → r ≡ Err (faults.Unexpected left) → left ≤ length ts
within view ts r g left e = left_within language_limits ts (halts.unexpected left) (stops_unexpected view ts r g left e)

-- Where it is too much, the tokens in front begin a query that does not keep the limits.
pub over_limit : {X : Type 0} (view : X → Query) (ts : List Token) (r : Result X GrammarFault) → Gives view r (whole_at language_limits ts) → r ≡ Err faults.OverLimit → IsOverLimit ts
over_limit view ts (Ok x) g e = absurd cc
over_limit view ts (Err faults.OutOfMemory) g e = absurd cc
over_limit view ts (Err faults.OverLimit) g e = over_at ts g.0 g.1
over_limit view ts (Err (faults.Unexpected n)) g e = absurd cc

-- What is read is derived.
pub derived : (ts : List Token) (r : Result (Box Tree Global) GrammarFault) → Gives (λ t. tree_form t.value) r (whole_at language_limits ts) → IfOk r (λ t. DerivesWithin language_limits ts (tree_form t.value))
derived ts (Ok t) e = read_derives ts (tree_form t.value) e
derived ts (Err e) h = tt

-- Tokens derive a query, or go wrong somewhere, or are of too much.
pub decided : (ts : List Token) → ((q : Query) × DerivesWithin language_limits ts q) ⊎ (((place : ℕ) × IsUnexpected ts place) ⊎ IsOverLimit ts)
decided ts = of_read (whole_at language_limits ts) refl where
  of_read : (o : Result Query Stop) → whole_at language_limits ts ≡ o → ((q : Query) × DerivesWithin language_limits ts q) ⊎ (((place : ℕ) × IsUnexpected ts place) ⊎ IsOverLimit ts)
  of_read (Ok q) e = inl (q, read_derives ts q e)
  of_read (Err (halts.over_limit left)) e = inr (inr (over_at ts left e))
  of_read (Err (halts.unexpected left)) e = inr (inl (length ts - left, unexpected_at ts left e))
