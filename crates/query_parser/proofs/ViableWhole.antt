-- What the reader of whole queries reads is derived, and where it stops, the tokens before that
-- begin a query.
use Rattle.std.proofs.Common.{arith, length, take, ◌≤◌, ◌-◌, ◌≡◌, inl, inr, ℕ, Bool, true, false, List, [], ◌∷◌, ◌++◌, Result, Ok, Err, refl, sym, ap, subst, ◌∙◌}
use Rattle.std.proofs.lemmas.List.{append-nil, append_assoc, length-append}
use Rattle.std.proofs.Math.Seq.{take-append_seam}
use Rattle.semantics.specs.declared.token.Token.{Token}
use Rattle.semantics.specs.declared.token.Token.TheVariants as tokens
use Rattle.semantics.specs.declared.token.Word.TheVariants as w
use Rattle.semantics.specs.declared.token.Sign.TheVariants as s
use Rattle.semantics.specs.Syntax.{Query}
use Rattle.semantics.specs.Leaves.{Limits, language_limits}
use Rattle.semantics.specs.Grammar.{IsQuery, DerivesWithin}
use Rattle.semantics.specs.Prefixes.{BeginsWithin, Begins, KeepsLimits}
use Rattle.values.specs.Results.{◌>>=◌}
use Rattle.query_parser.specs.Inside.Stops.{Stop}
use Rattle.query_parser.specs.Inside.Stops as halts
use Rattle.query_parser.specs.Inside.QuerySteps.{query_at, at_end, whole_at}
use Rattle.query_parser.proofs.Inversions.{bind_ok, ok_is}
use Rattle.query_parser.proofs.Viable.{Reaches, Claimed, Uncounted, counted, ends_counted}
use Rattle.query_parser.proofs.ViableLeaves.{limits_of}
use Rattle.query_parser.proofs.ViableQuery.{query_v}

-- ---- what is read

-- What is read to the end is all of the tokens.
ends_is : (n : List Token) (p q : Query) → at_end n p ≡ Ok q → (n ≡ []) × (p ≡ q)
ends_is [] p q e = (refl, ok_is p q e)
ends_is (x ∷ ts) p q e = absurd cc

-- What is read is derived.
pub read_derives : (ts : List Token) (q : Query) → whole_at language_limits ts ≡ Ok q → DerivesWithin language_limits ts q
unfolding whole_at
read_derives ts q d =
    let a = bind_ok (query_at language_limits ts) (λ x. at_end x.1 x.0) q d in
    let k = ends_is a.0.1 a.0.0 q a.2 in
    let t = (query_v false).goes ts a.0.0 a.0.1 a.1 in
    let all : t.front ++ [] ≡ ts = ap (λ (us : List Token). t.front ++ us) (sym k.0) ∙ sym t.is in
    subst (λ (x : Query). DerivesWithin language_limits ts x) k.1 (subst (λ (us : List Token). DerivesWithin language_limits us a.0.0) all (t.derived []))

-- A query that was read, where nothing is left.
abbrev ended : Result (Query × List Token) Stop → Result Query Stop
ended read = read >>= λ x. at_end x.1 x.0

-- ---- where it stops

-- The tokens before the place where reading stops, as far as `Reaches` says, begin a query.
pub record StopsAt (wide : Bool) (e : Stop) (ts : List Token) : Type 0 where
  pub front : List Token
  pub back : List Token
  pub is : ts ≡ front ++ back
  pub reaches : Reaches wide true e front back
  pub begins : BeginsWithin (limits_of wide) front

-- A front that goes on to a query begins one.
begins_of : (limits : Limits) (front behind : List Token) (q : Query)
    → IsQuery limits (front ++ (behind ++ [])) q [] → BeginsWithin limits front
begins_of limits front behind q p = record {
  rest = behind;
  tree = q;
  derived = subst (λ (us : List Token). IsQuery limits (front ++ us) q []) (append-nil behind) p;
}

-- A token behind a query is not expected where it stands.
at_token : (wide : Bool) (front back : List Token) → Reaches wide true (halts.unexpected (length back)) front back
at_token true front back = refl
at_token false front back = inl refl

-- Where reading stops, the tokens before that begin a query.
pub stops_beginning : (wide : Bool) (ts : List Token) (e : Stop) → whole_at language_limits ts ≡ Err e
    → Claimed wide e → StopsAt wide e ts
unfolding whole_at
stops_beginning wide ts e d c = of_query (query_at language_limits ts) refl d where
  of_query : (o : Result (Query × List Token) Stop) → query_at language_limits ts ≡ o → ended o ≡ Err e
      → StopsAt wide e ts
  of_query (Err n) i h =
      let k : n ≡ e = cc in
      let g = (query_v wide).stops ts e (i ∙ ap (λ (m : Stop). Err m) k) c in
      record {
        front = g.front;
        back = g.back;
        is = g.is;
        reaches = g.reaches;
        begins = begins_of (limits_of wide) g.front g.behind g.value (g.derived []);
      }
  of_query (Ok (q, [])) i h = absurd cc
  of_query (Ok (q, t ∷ us)) i h =
      let k : halts.unexpected (length (t ∷ us)) ≡ e = cc in
      let g = (query_v wide).goes ts q (t ∷ us) i in
      subst (λ (m : Stop). StopsAt wide m ts) k record {
        front = g.front;
        back = t ∷ us;
        is = g.is;
        reaches = at_token wide g.front (t ∷ us);
        begins = record { rest = []; tree = q; derived = g.derived [] };
      }

-- ---- a token that is not expected

-- The first tokens, as many as a front has.
take_front : (ts front back : List Token) (n : ℕ) → ts ≡ front ++ back → n ≡ length front → take n ts ≡ front
take_front ts front back n i h =
    ap (λ (m : ℕ). take m ts) h ∙ (ap (λ (us : List Token). take (length front) us) i ∙ take-append_seam front back)

-- The tokens before those that are left.
before_left : (ts front back : List Token) (left : ℕ) → ts ≡ front ++ back → length back ≡ left
    → take (length ts - left) ts ≡ front
before_left ts front back left i h =
    take_front ts front back (length ts - left) i (omega (arith, ap length i, length-append front back, h))

-- The tokens before one that is not expected begin a query.
pub begins_unexpected : (ts : List Token) (left : ℕ) → whole_at language_limits ts ≡ Err (halts.unexpected left)
    → Begins (take (length ts - left) ts)
begins_unexpected ts left d =
    let g = stops_beginning true ts (halts.unexpected left) d tt in
    let i = before_left ts g.front g.back left g.is g.reaches in
    record { limits = limits_of true; within = subst (BeginsWithin (limits_of true)) (sym i) g.begins }

-- Tokens that begin a query, and one that does not count behind them.
keeps_uncounted : (front : List Token) (t : Token) → counted t ≡ false → BeginsWithin language_limits front
    → KeepsLimits (front ++ t ∷ [])
keeps_uncounted front (tokens.Sign s.Comma) c b = KeepsLimits.comma b
keeps_uncounted front (tokens.Word w.Filter) c b = KeepsLimits.filter b
keeps_uncounted front t c b = absurd cc

-- The tokens before one that is not expected keep the limits of the language.
pub keeps_unexpected : (ts : List Token) (left : ℕ) → whole_at language_limits ts ≡ Err (halts.unexpected left)
    → KeepsLimits (take (length ts - left) ts)
keeps_unexpected ts left d =
    let g = stops_beginning false ts (halts.unexpected left) d tt in
    elim g.reaches [
      | inl h ↦ subst KeepsLimits (sym (before_left ts g.front g.back left g.is h)) (KeepsLimits.begins g.begins)
      | inr h ↦ of_uncounted g.front g.back left g.is h g.begins
    ] where
      of_uncounted : (front back : List Token) (left : ℕ) → ts ≡ front ++ back → Uncounted left back
          → BeginsWithin language_limits front → KeepsLimits (take (length ts - left) ts)
      of_uncounted front _ _ i (Uncounted.token {t = t} {ts = us} c) b =
          let j : ts ≡ (front ++ t ∷ []) ++ us = i ∙ sym (append_assoc front (t ∷ []) us) in
          let k = before_left ts (front ++ t ∷ []) us (length us) j refl in
          subst KeepsLimits (sym k) (keeps_uncounted front t c b)

-- ---- what is too much

-- A front of the tokens that goes beyond the place where it is too much, and begins a query.
pub record FrontOver (left : ℕ) (ts : List Token) : Type 0 where
  pub front : List Token
  pub back : List Token
  pub is : ts ≡ front ++ back
  pub short : length back ≤ left
  pub begins : Begins front
  pub counts : ends_counted false front ≡ true

-- Where it is too much, there is such a front.
pub over_front : (ts : List Token) (left : ℕ) → whole_at language_limits ts ≡ Err (halts.over_limit left) → FrontOver left ts
over_front ts left d =
    let g = stops_beginning true ts (halts.over_limit left) d tt in
    record {
      front = g.front;
      back = g.back;
      is = g.is;
      short = g.reaches.0;
      begins = record { limits = limits_of true; within = g.begins };
      counts = g.reaches.1;
    }

-- Tokens end with the last of them.
ends_with : (none : Bool) (front : List Token) (t : Token) → ends_counted none (front ++ t ∷ []) ≡ counted t
ends_with none [] t = refl
ends_with none (u ∷ us) t = ends_with (counted u) us t

-- Tokens that end with one that counts, and keep the limits, begin a query within the limits.
pub exceeds : (front : List Token) → ends_counted false front ≡ true → KeepsLimits front → BeginsWithin language_limits front
exceeds _ c (KeepsLimits.begins b) = b
exceeds _ c (KeepsLimits.comma {front = front} b) = absurd (let h = ends_with false front (tokens.Sign s.Comma) in cc)
exceeds _ c (KeepsLimits.filter {front = front} b) = absurd (let h = ends_with false front (tokens.Word w.Filter) in cc)
