-- A reader looks at no token behind the first one that it leaves: on other tokens with the same
-- front it does the same.
use Rattle.std.proofs.Common.{arith, length, ◌<◌, ◌≤◌, ◌+◌, ◌≡◌, ◌⊎◌, inl, inr, ℕ, zero, suc, Bool, true, false, cond, List, [], ◌∷◌, ◌++◌, Option, Some, None, Result, Ok, Err, refl, sym, ap, subst, ◌∙◌}
use Rattle.semantics.specs.declared.token.Token.{Token}
use Rattle.values.specs.Results.{◌>>=◌}
use Rattle.query_lexer.specs.Options.{choose}
use Rattle.query_parser.specs.Inside.Stops.{Stop}
use Rattle.query_parser.specs.Inside.Stops as halts
use Rattle.query_parser.specs.Inside.Fronts.{after}
use Rattle.query_parser.specs.Inside.Steps.{Reader, unexpected_at, over, found_or_unexpected, excess, with_front, more}
use Rattle.query_parser.proofs.Inversions.{bind_ok, ok_is}

-- ---- lists of tokens with the same front

-- `SameFront ts us rest other`: behind one front, `ts` ends with `rest` and `us` with `other`, and
-- these begin with one token, or are both empty.
pub data SameFront : List Token → List Token → List Token → List Token → Type 0 where
  end : SameFront [] [] [] []
  here : {t : Token} {rest other : List Token} → SameFront (t ∷ rest) (t ∷ other) (t ∷ rest) (t ∷ other)
  token : {t : Token} {ts us rest other : List Token} → SameFront ts us rest other → SameFront (t ∷ ts) (t ∷ us) rest other

-- Some tokens end with these.
pub data EndsWith : List Token → List Token → Type 0 where
  all : {ts : List Token} → EndsWith ts ts
  token : {t : Token} {ts rest : List Token} → EndsWith ts rest → EndsWith (t ∷ ts) rest

pub ends_short : {ts rest : List Token} → EndsWith ts rest → length rest ≤ length ts
ends_short EndsWith.all = omega arith
ends_short (EndsWith.token i) = omega (arith, ends_short i)

pub ends_twice : {ts mid rest : List Token} → EndsWith ts mid → EndsWith mid rest → EndsWith ts rest
ends_twice EndsWith.all j = j
ends_twice (EndsWith.token i) j = EndsWith.token (ends_twice i j)

-- The same tokens in front of no tokens.
pub same_end : {ts us rest other : List Token} → SameFront ts us rest other → ts ≡ [] → (us ≡ []) × (rest ≡ []) × (other ≡ [])
same_end SameFront.end e = (refl, refl, refl)
same_end SameFront.here e = absurd cc
same_end (SameFront.token s) e = absurd cc

-- What stands behind a first token of both.
pub record SameBehind (t : Token) (ts us rest other : List Token) : Type 0 where
  pub behind : List Token
  pub us_is : us ≡ t ∷ behind
  pub same : (rest ≡ t ∷ ts) ⊎ SameFront ts behind rest other

pub same_behind : {all us rest other : List Token} → SameFront all us rest other → (t : Token) (ts : List Token) → all ≡ t ∷ ts → SameBehind t ts us rest other
same_behind SameFront.end t ts e = absurd cc
same_behind (SameFront.here {t = u} {rest} {other}) t ts e = record { behind = other; us_is = (let h : u ≡ t = cc in ap (λ (v : Token). v ∷ other) h); same = inl e }
same_behind (SameFront.token {t = u} {ts = vs} {us} {rest} {other} s) t ts e =
    let h : u ≡ t = cc in
    let k : vs ≡ ts = cc in
    record { behind = us; us_is = ap (λ (v : Token). v ∷ us) h; same = inr (subst (λ ws. SameFront ws us rest other) k s) }

-- All of the tokens before their end.
pub same_all : {ts us rest other : List Token} → SameFront ts us rest other → SameFront ts us ts us
same_all SameFront.end = SameFront.end
same_all SameFront.here = SameFront.here
same_all (SameFront.token s) = SameFront.here

pub same_short : {ts us rest other : List Token} → SameFront ts us rest other → length rest ≤ length ts
same_short SameFront.end = omega arith
same_short SameFront.here = omega arith
same_short (SameFront.token s) = omega (arith, same_short s)

-- Nothing stands before them.
pub same_whole : {ts us rest other : List Token} → SameFront ts us rest other → ts ≡ rest → us ≡ other
same_whole SameFront.end e = refl
same_whole SameFront.here e = refl
same_whole (SameFront.token {t} {ts} {rest = rest} s) e = absurd (omega (arith, same_short s, ap length e))

pub same_length : {ts us rest other : List Token} → SameFront ts us rest other → length ts ≡ length rest → ts ≡ rest
same_length SameFront.end e = refl
same_length SameFront.here e = refl
same_length (SameFront.token s) e = absurd (omega (arith, same_short s, e))

-- A front in two parts.
pub record SplitFront (ts us mid rest other : List Token) : Type 0 where
  pub middle : List Token
  pub front : SameFront ts us mid middle
  pub behind : SameFront mid middle rest other

pub split_front : {ts mid : List Token} → EndsWith ts mid → (us rest other : List Token) → SameFront ts us rest other → length rest ≤ length mid → SplitFront ts us mid rest other
split_front EndsWith.all us rest other s short = record { middle = us; front = same_all s; behind = s }
split_front (EndsWith.token {t} {ts} {rest = mid} i) us rest other s short =
    let b = same_behind s t ts refl in
    elim b.same [
      | inl e ↦ absurd (omega (arith, ends_short i, ap length e))
      | inr k ↦ (let p = split_front i b.behind rest other k short in
          record { middle = p.middle; front = subst (λ vs. SameFront (t ∷ ts) vs mid p.middle) (sym b.us_is) (SameFront.token p.front); behind = p.behind })
    ]

-- `Shares ts us rest other`: behind one front, `ts` ends with `rest` and `us` with `other`.
pub data Shares : List Token → List Token → List Token → List Token → Type 0 where
  here : {rest other : List Token} → Shares rest other rest other
  token : {t : Token} {ts us rest other : List Token} → Shares ts us rest other → Shares (t ∷ ts) (t ∷ us) rest other

-- What stands behind a first token of both.
pub record SharesBehind (t : Token) (ts us rest other : List Token) : Type 0 where
  pub behind : List Token
  pub us_is : us ≡ t ∷ behind
  pub shares : Shares ts behind rest other

pub shares_behind : {all us rest other : List Token} → Shares all us rest other → (t : Token) (ts : List Token) → all ≡ t ∷ ts → length rest ≤ length ts → SharesBehind t ts us rest other
shares_behind Shares.here t ts e h = absurd (omega (arith, ap length e, h))
shares_behind (Shares.token {t = u} {ts = vs} {us} {rest} {other} s) t ts e h =
    let i : u ≡ t = cc in
    let k : vs ≡ ts = cc in
    record { behind = us; us_is = ap (λ (v : Token). v ∷ us) i; shares = subst (λ ws. Shares ws us rest other) k s }

-- With one token shared, the front of both is the same.
pub shares_head : {ts us rest other : List Token} → Shares ts us rest other → length rest < length ts → SameFront ts us ts us
shares_head Shares.here h = absurd (omega arith)
shares_head (Shares.token s) h = SameFront.here

pub record SplitShares (ts us mid rest other : List Token) : Type 0 where
  pub middle : List Token
  pub front : SameFront ts us mid middle
  pub behind : Shares mid middle rest other

pub split_shares : {ts mid : List Token} → EndsWith ts mid → (us rest other : List Token) → Shares ts us rest other → length rest < length mid → SplitShares ts us mid rest other
split_shares EndsWith.all us rest other s short = record { middle = us; front = shares_head s short; behind = s }
split_shares (EndsWith.token {t} {ts} {rest = mid} i) us rest other s short =
    let b = shares_behind s t ts refl (omega (arith, ends_short i, short)) in
    let p = split_shares i b.behind rest other b.shares short in
    record { middle = p.middle; front = subst (λ vs. SameFront (t ∷ ts) vs mid p.middle) (sym b.us_is) (SameFront.token p.front); behind = p.behind }

-- ---- local readers

-- How many tokens are left where a fault stands.
abbrev pub left_of : Stop → ℕ
left_of (halts.over_limit n) = n
left_of (halts.unexpected n) = n

-- The same fault where so many tokens are left.
abbrev pub moved : Stop → ℕ → Stop
moved (halts.over_limit n) m = halts.over_limit m
moved (halts.unexpected n) m = halts.unexpected m

-- A result that is a fault.
pub record Fault {A : Type 0} (read : Result A Stop) : Type 0 where
  pub fault : Stop
  pub is : read ≡ Err fault

-- What a reader finds in front of these tokens it finds in front of all that have the same front,
-- and stops at the same place. Where it is too much it fails whatever stands behind; `strict` is
-- whether it takes a token before that.
pub record LocalAt {A : Type 0} (strict : Bool) (f : Reader A) (ts : List Token) : Type 0 where
  pub goes : (x : A) (rest : List Token) → f ts ≡ Ok (x, rest) → EndsWith ts rest
  pub same : (us rest other : List Token) (x : A) → f ts ≡ Ok (x, rest) → SameFront ts us rest other → f us ≡ Ok (x, other)
  pub within : (e : Stop) → f ts ≡ Err e → left_of e ≤ length ts
  pub stops : (us rest other : List Token) (e : Stop) → f ts ≡ Err e → SameFront ts us rest other → left_of e ≡ length rest → f us ≡ Err (moved e (length other))
  pub past : (n : ℕ) → strict ≡ true → f ts ≡ Err (halts.over_limit n) → n < length ts
  pub over : (us rest other : List Token) → f ts ≡ Err (halts.over_limit (length rest)) → Shares ts us rest other → Fault (f us)

abbrev pub Local : {A : Type 0} → Bool → Reader A → Type 0
Local strict f = (ts : List Token) → LocalAt strict f ts

-- A reader, where it does not matter whether it takes a token.
pub local_loose : {A : Type 0} (f : Reader A) → Local true f → Local false f
local_loose f l ts = record {
  goes = (l ts).goes;
  same = (l ts).same;
  within = (l ts).within;
  stops = (l ts).stops;
  past = λ n h d. absurd cc;
  over = (l ts).over;
}

-- Readers that give the same.
pub local_as : {A : Type 0} {c : Bool} (f g : Reader A) → ((ts : List Token) → f ts ≡ g ts) → Local c g → Local c f
local_as f g e l ts = record {
  goes = λ x rest d. (l ts).goes x rest (sym (e ts) ∙ d);
  same = λ us rest other x d s. e us ∙ (l ts).same us rest other x (sym (e ts) ∙ d) s;
  within = λ n d. (l ts).within n (sym (e ts) ∙ d);
  stops = λ us rest other n d s k. e us ∙ (l ts).stops us rest other n (sym (e ts) ∙ d) s k;
  past = λ n h d. (l ts).past n h (sym (e ts) ∙ d);
  over = λ us rest other d s. (let k = (l ts).over us rest other (sym (e ts) ∙ d) s in record { fault = k.fault; is = e us ∙ k.is });
}

-- A fault, as a result.
abbrev failed : {A : Type 0} → Stop → Result A Stop
failed e = Err e

fault_is : {A : Type 0} (d e : Stop) → failed {A = A} d ≡ failed e → d ≡ e
fault_is d e h = cc

moved_same : (e : Stop) → moved e (left_of e) ≡ e
moved_same (halts.over_limit n) = refl
moved_same (halts.unexpected n) = refl

moved_left : (e : Stop) (n : ℕ) → left_of e ≡ n → moved e n ≡ e
moved_left e n h = subst (λ m. moved e m ≡ e) h (moved_same e)

-- At the end of the tokens.
pub local_end : {A : Type 0} (f n : Reader A) → f [] ≡ n [] → LocalAt true n [] → LocalAt true f []
local_end f n e l = record {
  goes = λ x rest d. l.goes x rest (sym e ∙ d);
  same = λ us rest other x d s. (let k = same_end s refl in let us_is = k.0 in let rest_is = k.1 in let other_is = k.2 in cc);
  within = λ m d. l.within m (sym e ∙ d);
  stops = λ us rest other m d s h. (let k = same_end s refl in
      let left : left_of m ≡ length other = h ∙ ap length (k.1 ∙ sym k.2) in
      ap f k.0 ∙ (d ∙ ap failed (sym (moved_left m (length other) left))));
  past = λ m h d. l.past m h (sym e ∙ d);
  over = λ us rest other d s. absurd (let k = l.past (length rest) refl (sym e ∙ d) in omega (arith, k));
}

-- Where the first token is looked at, and left.
pub local_head : {A : Type 0} (f n : Reader A) (t : Token) (ts : List Token) → ((us : List Token) → f (t ∷ us) ≡ n (t ∷ us)) → LocalAt true n (t ∷ ts) → LocalAt true f (t ∷ ts)
local_head {A} f n t ts e l = record {
  goes = λ x rest d. l.goes x rest (sym (e ts) ∙ d);
  same = λ us rest other x d s. (let b = same_behind s t ts refl in
      as_n us b.behind b.us_is (l.same us rest other x (sym (e ts) ∙ d) s));
  within = λ m d. l.within m (sym (e ts) ∙ d);
  stops = λ us rest other m d s h. (let b = same_behind s t ts refl in
      as_n us b.behind b.us_is (l.stops us rest other m (sym (e ts) ∙ d) s h));
  past = λ m h d. l.past m h (sym (e ts) ∙ d);
  over = λ us rest other d s. (let k = l.over us rest other (sym (e ts) ∙ d) s in
      let short = l.past (length rest) refl (sym (e ts) ∙ d) in
      let b = shares_behind s t ts refl (omega (arith, short)) in
      record { fault = k.fault; is = as_n us b.behind b.us_is k.is });
} where
  as_n : (us behind : List Token) {r : Result (A × List Token) Stop} → us ≡ t ∷ behind → n us ≡ r → f us ≡ r
  as_n us behind i h = ap f i ∙ (e behind ∙ (ap n (sym i) ∙ h))

-- Where the first token is taken.
pub local_token : {A : Type 0} {c : Bool} (f g : Reader A) (t : Token) (ts : List Token) → ((us : List Token) → f (t ∷ us) ≡ g us) → LocalAt c g ts → LocalAt true f (t ∷ ts)
local_token {A} f g t ts e l = record {
  goes = λ x rest d. EndsWith.token (l.goes x rest (sym (e ts) ∙ d));
  same = λ us rest other x d s. (let b = same_behind s t ts refl in let i = ends_short (l.goes x rest (sym (e ts) ∙ d)) in
      elim b.same [
        | inl k ↦ absurd (omega (arith, ap length k, i))
        | inr k ↦ ap f b.us_is ∙ (e b.behind ∙ l.same b.behind rest other x (sym (e ts) ∙ d) k)
      ]);
  within = λ m d. (let k = l.within m (sym (e ts) ∙ d) in omega (arith, k));
  stops = λ us rest other m d s h. (let b = same_behind s t ts refl in let i = l.within m (sym (e ts) ∙ d) in
      elim b.same [
        | inl k ↦ absurd (omega (arith, ap length k, i, h))
        | inr k ↦ ap f b.us_is ∙ (e b.behind ∙ l.stops b.behind rest other m (sym (e ts) ∙ d) k h)
      ]);
  past = λ m h d. (let k = l.within (halts.over_limit m) (sym (e ts) ∙ d) in omega (arith, k));
  over = λ us rest other d s. (let i = l.within (halts.over_limit (length rest)) (sym (e ts) ∙ d) in
      let b = shares_behind s t ts refl i in
      let k = l.over b.behind rest other (sym (e ts) ∙ d) b.shares in
      record { fault = k.fault; is = ap f b.us_is ∙ (e b.behind ∙ k.is) });
}

-- ---- how local readers are made

-- A reader that takes nothing.
pub local_ok : {A : Type 0} (x : A) → Local true (λ ts. Ok (x, ts))
local_ok {A} x ts = record {
  goes = λ y rest d. subst (λ us. EndsWith ts us) (ap (λ (p : A × List Token). p.1) (ok_is (x, ts) (y, rest) d)) EndsWith.all;
  same = λ us rest other y d s. (let k = ok_is (x, ts) (y, rest) d in
      let i : x ≡ y = ap (λ (p : A × List Token). p.0) k in
      let j : us ≡ other = same_whole s (ap (λ (p : A × List Token). p.1) k) in cc);
  within = λ e d. absurd cc;
  stops = λ us rest other e d s h. absurd cc;
  past = λ n h d. absurd cc;
  over = λ us rest other d s. absurd cc;
}

-- A reader that stops at once.
pub local_stop : {A : Type 0} (c : Bool) (f : Reader A) (kind : ℕ → Stop) → ((n m : ℕ) → c ≡ true → kind n ≡ halts.over_limit m → m < n) → ((n : ℕ) → left_of (kind n) ≡ n) → ((n m : ℕ) → moved (kind n) m ≡ kind m) → ((ts : List Token) → f ts ≡ Err (kind (length ts))) → Local c f
local_stop {A} c f kind behind left move is ts = record {
  goes = λ y rest d. absurd (let k = is ts in cc);
  same = λ us rest other y d s. absurd (let k = is ts in cc);
  within = λ e d. (let k = fault_is {A = A × List Token} (kind (length ts)) e (sym (is ts) ∙ d) in let h = left (length ts) in let j = ap left_of k in omega (arith, h, j));
  stops = λ us rest other e d s h. (let k = fault_is {A = A × List Token} (kind (length ts)) e (sym (is ts) ∙ d) in
      let j : length ts ≡ length rest = sym (left (length ts)) ∙ (ap left_of k ∙ h) in
      let i = same_whole s (same_length s j) in
      let a = is us in let b = move (length ts) (length other) in
      let j : length us ≡ length other = ap length i in cc);
  past = λ n h d. behind (length ts) n h (fault_is {A = A × List Token} (kind (length ts)) (halts.over_limit n) (sym (is ts) ∙ d));
  over = λ us rest other d s. record { fault = kind (length us); is = is us };
}

pub local_stuck : {A : Type 0} → Local {A = A} true unexpected_at
local_stuck {A} = local_stop true unexpected_at (λ n. halts.unexpected n) (λ n m h e. absurd cc) (λ n. refl) (λ n m. refl) (λ ts. refl)

pub local_over : {A : Type 0} → Local {A = A} false over
local_over {A} = local_stop false over (λ n. halts.over_limit n) (λ n m h e. absurd cc) (λ n. refl) (λ n m. refl) (λ ts. refl)

-- A test of the token in front alone, where nothing stands before it.
same_test : (b : List Token → Bool) → ((t : Token) (us vs : List Token) → b (t ∷ us) ≡ b (t ∷ vs)) → {ts us rest other : List Token} → SameFront ts us rest other → length ts ≡ length rest → b us ≡ b ts
same_test b front SameFront.end h = refl
same_test b front (SameFront.here {t} {rest} {other}) h = front t other rest
same_test b front (SameFront.token s) h = absurd (omega (arith, same_short s, h))

-- A part too many, whose fault the token in front decides.
pub local_excess : {A : Type 0} (b : List Token → Bool) → ((t : Token) (us vs : List Token) → b (t ∷ us) ≡ b (t ∷ vs)) → Local {A = A} false (λ ts. Err (excess b ts))
local_excess {A} b front ts = record {
  goes = λ x rest d. absurd cc;
  same = λ us rest other x d s. absurd cc;
  within = λ e d. (let h = ap left_of (fault_is {A = A × List Token} (excess b ts) e d) in let i = left_excess (b ts) (length ts) in omega (arith, h, i));
  stops = λ us rest other e d s h. (let k = fault_is {A = A × List Token} (excess b ts) e d in
      let i : length ts ≡ length rest = sym (left_excess (b ts) (length ts)) ∙ (ap left_of k ∙ h) in
      let whole = same_length s i in
      let us_is : us ≡ other = same_whole s whole in
      ap failed (ap (λ (c : Bool). cond c (halts.over_limit (length us)) (halts.unexpected (length us))) (same_test b front s i) ∙ (sym (moves (b ts) (length ts) (length us)) ∙ (ap (λ (m : Stop). moved m (length us)) k ∙ ap (λ (vs : List Token). moved e (length vs)) us_is))));
  past = λ n h d. absurd cc;
  over = λ us rest other d s. record { fault = excess b us; is = refl };
} where
  left_excess : (c : Bool) (n : ℕ) → left_of (cond c (halts.over_limit n) (halts.unexpected n)) ≡ n
  left_excess true n = refl
  left_excess false n = refl

  moves : (c : Bool) (n m : ℕ) → moved (cond c (halts.over_limit n) (halts.unexpected n)) m ≡ cond c (halts.over_limit m) (halts.unexpected m)
  moves true n m = refl
  moves false n m = refl

-- Two steps that fail: which one.
bind_err : {A B : Type 0} (o : Result A Stop) (f : A → Result B Stop) (e : Stop) → (o >>= f) ≡ Err e → (o ≡ Err e) ⊎ ((x : A) × (o ≡ Ok x) × (f x ≡ Err e))
bind_err (Ok x) f e d = inr (x, refl, d)
bind_err {A} {B} (Err n) f e d = inl (ap failed (fault_is {A = B} n e d))

-- One reader and then another.
pub local_bind : {A B : Type 0} {c : Bool} (f : Reader A) (g : A → Reader B) → Local c f → ((x : A) → Local true (g x)) → Local c (λ ts. f ts >>= λ y. g y.0 y.1)
local_bind {A} {B} {c} f g lf lg ts = record {
  goes = λ x rest d. (let a = bind_ok (f ts) next (x, rest) d in ends_twice ((lf ts).goes a.0.0 a.0.1 a.1) ((lg a.0.0 a.0.1).goes x rest a.2));
  same = λ us rest other x d s. (let a = bind_ok (f ts) next (x, rest) d in
      let p = split_front ((lf ts).goes a.0.0 a.0.1 a.1) us rest other s (ends_short ((lg a.0.0 a.0.1).goes x rest a.2)) in
      then us a.0.0 p.middle ((lf ts).same us a.0.1 p.middle a.0.0 a.1 p.front) ((lg a.0.0 a.0.1).same p.middle rest other x a.2 p.behind));
  within = λ e d. elim (bind_err (f ts) next e d) [
    | inl h ↦ (lf ts).within e h
    | inr a ↦ (let k = ends_short ((lf ts).goes a.0.0 a.0.1 a.1) in let h = (lg a.0.0 a.0.1).within e a.2 in omega (arith, k, h))
  ];
  stops = λ us rest other e d s h. elim (bind_err (f ts) next e d) [
    | inl k ↦ ap (λ (o : Result (A × List Token) Stop). o >>= next) ((lf ts).stops us rest other e k s h)
    | inr a ↦ (let k = (lg a.0.0 a.0.1).within e a.2 in
        let p = split_front ((lf ts).goes a.0.0 a.0.1 a.1) us rest other s (omega (arith, k, h)) in
        then us a.0.0 p.middle ((lf ts).same us a.0.1 p.middle a.0.0 a.1 p.front) ((lg a.0.0 a.0.1).stops p.middle rest other e a.2 p.behind h))
  ];
  past = λ n h d. elim (bind_err (f ts) next (halts.over_limit n) d) [
    | inl k ↦ (lf ts).past n h k
    | inr a ↦ (let k = ends_short ((lf ts).goes a.0.0 a.0.1 a.1) in let i = (lg a.0.0 a.0.1).past n refl a.2 in omega (arith, k, i))
  ];
  over = λ us rest other d s. elim (bind_err (f ts) next (halts.over_limit (length rest)) d) [
    | inl k ↦ (let o = (lf ts).over us rest other k s in record { fault = o.fault; is = ap (λ (r : Result (A × List Token) Stop). r >>= next) o.is })
    | inr a ↦ (let p = split_shares ((lf ts).goes a.0.0 a.0.1 a.1) us rest other s ((lg a.0.0 a.0.1).past (length rest) refl a.2) in
        let o = (lg a.0.0 a.0.1).over p.middle rest other a.2 p.behind in
        record { fault = o.fault; is = then us a.0.0 p.middle ((lf ts).same us a.0.1 p.middle a.0.0 a.1 p.front) o.is })
  ];
} where
  next : A × List Token → Result (B × List Token) Stop
  next y = g y.0 y.1

  then : (us : List Token) (x : A) (mid : List Token) {r : Result (B × List Token) Stop} → f us ≡ Ok (x, mid) → g x mid ≡ r → (f us >>= λ y. g y.0 y.1) ≡ r
  then us x mid e d = ap (λ (o : Result (A × List Token) Stop). o >>= (λ y. g y.0 y.1)) e ∙ d

-- A Bool, with its value.
value_of : (b : Bool) → (b ≡ true) ⊎ (b ≡ false)
value_of true = inl refl
value_of false = inr refl

-- One reader behind a token, and another where it does not stand in front.
pub local_choose : {A : Type 0} {c : Bool} (test : Token → Bool) (n g : Reader A) → Local true n → Local c g → Local true (λ ts. choose (after test ts) (n ts) (λ a. g a))
local_choose test n g ln lg [] = local_end (λ ts. choose (after test ts) (n ts) (λ a. g a)) n refl (ln [])
local_choose {A} {c} test n g ln lg (t ∷ ts) =
    elim (value_of (test t)) [
      | inl e ↦ local_token chosen g t ts (λ us. taken (test t) us e) (lg ts)
      | inr e ↦ local_head chosen n t ts (λ us. left (test t) us e) (ln (t ∷ ts))
    ] where
      chosen : Reader A
      chosen ts = choose (after test ts) (n ts) (λ a. g a)

      taken : (b : Bool) (us : List Token) → b ≡ true → choose (cond b (Some us) None) (n (t ∷ us)) (λ a. g a) ≡ g us
      taken true us e = refl
      taken false us e = absurd cc

      left : (b : Bool) (us : List Token) → b ≡ false → choose (cond b (Some us) None) (n (t ∷ us)) (λ a. g a) ≡ n (t ∷ us)
      left false us e = refl
      left true us e = absurd cc

-- What looks at the token in front alone.
pub record IsFront {X : Type 0} (h : List Token → Option (X × List Token)) : Type 0 where
  pub at_end : h [] ≡ None
  pub at_token : (t : Token) → ((us : List Token) → h (t ∷ us) ≡ None) ⊎ ((x : X) × ((us : List Token) → h (t ∷ us) ≡ Some (x, us)))

pub local_front : {A X : Type 0} {c : Bool} (h : List Token → Option (X × List Token)) (n : Reader A) (g : X → Reader A) → IsFront h → Local true n → ((x : X) → Local c (g x)) → Local true (λ ts. choose (h ts) (n ts) (λ x. g x.0 x.1))
local_front {A} {X} {c} h n g front ln lg [] = local_end (λ ts. choose (h ts) (n ts) (λ x. g x.0 x.1)) n (ap (λ (o : Option (X × List Token)). choose o (n []) (λ x. g x.0 x.1)) front.at_end) (ln [])
local_front {A} {X} {c} h n g front ln lg (t ∷ ts) =
    elim (front.at_token t) [
      | inl e ↦ local_head (λ ts. choose (h ts) (n ts) (λ x. g x.0 x.1)) n t ts (λ us. ap (λ (o : Option (X × List Token)). choose o (n (t ∷ us)) (λ x. g x.0 x.1)) (e us)) (ln (t ∷ ts))
      | inr e ↦ local_token (λ ts. choose (h ts) (n ts) (λ x. g x.0 x.1)) (g e.0) t ts (λ us. ap (λ (o : Option (X × List Token)). choose o (n (t ∷ us)) (λ x. g x.0 x.1)) (e.1 us)) (lg e.0 ts)
    ]

found_or_stuck_choice : {A B : Type 0} (o : Option A) (n : Stop) (g : A → Result B Stop) → (choose o (failed n) (λ x. Ok x) >>= g) ≡ choose o (failed n) g
found_or_stuck_choice None n g = refl
found_or_stuck_choice (Some x) n g = refl

-- What has to stand in front, and what is read behind it.
pub local_found_or_stuck : {A : Type 0} {c : Bool} (test : Token → Bool) (g : Reader A) → Local c g → Local true (λ ts. found_or_unexpected (after test) ts >>= λ a. g a)
local_found_or_stuck {A} {c} test g lg =
    local_as (λ ts. found_or_unexpected (after test) ts >>= λ a. g a) (λ ts. choose (after test ts) (unexpected_at ts) (λ a. g a))
    (λ ts. found_or_stuck_choice (after test ts) (halts.unexpected (length ts)) g) (local_choose test unexpected_at g local_stuck lg)

-- A value that has to stand in front.
pub local_found_or_stuck_front : {X : Type 0} (h : List Token → Option (X × List Token)) → IsFront h → Local true (found_or_unexpected h)
local_found_or_stuck_front h front = local_front h unexpected_at (λ x us. Ok (x, us)) front local_stuck (λ x. local_ok x)

-- A separator and parts, at most n.
pub local_more : {A : Type 0} (sep : Token → Bool) (b : List Token → Bool) (f : Reader A) → ((t : Token) (us vs : List Token) → b (t ∷ us) ≡ b (t ∷ vs)) → Local true f → (n : ℕ) → Local true (more sep b f n)
unfolding more
local_more sep b f front lf zero = local_choose sep (λ ts. Ok ([], ts)) (λ ts. Err (excess b ts)) (local_ok []) (local_excess b front)
local_more sep b f front lf (suc n) =
    local_choose sep (λ ts. Ok ([], ts)) (λ ts. f ts >>= λ first. with_front (first.0 ∷ []) (more sep b f n first.1)) (local_ok [])
    (local_bind f (λ x us. with_front (x ∷ []) (more sep b f n us)) lf (λ x. local_bind (more sep b f n) (λ xs us. Ok ((x ∷ []) ++ xs, us)) (local_more sep b f front lf n) (λ xs. local_ok ((x ∷ []) ++ xs))))

-- Two steps, of which the second ones agree on what the first gives.
bind_agrees : {A B : Type 0} (o : Result A Stop) (f g : A → Result B Stop) → ((x : A) → o ≡ Ok x → f x ≡ g x) → (o >>= f) ≡ (o >>= g)
bind_agrees (Ok x) f g h = h x refl
bind_agrees (Err e) f g h = refl

choose_agrees : {A B : Type 0} (o : Option A) (n : B) (f g : A → B) → ((x : A) → o ≡ Some x → f x ≡ g x) → choose o n f ≡ choose o n g
choose_agrees (Some x) n f g h = h x refl
choose_agrees None n f g h = refl

after_short : (test : Token → Bool) (ts rest : List Token) → after test ts ≡ Some rest → length rest < length ts
after_short test [] rest e = absurd cc
after_short test (t ∷ ts) rest e = of_test (test t) e where
  of_test : (b : Bool) → cond b (Some ts) None ≡ Some rest → length rest < length (t ∷ ts)
  of_test true d = let h : ts ≡ rest = cc in omega (arith, ap length h)
  of_test false d = absurd cc

-- No list has more parts than tokens.
more_enough : {A : Type 0} (sep : Token → Bool) (b : List Token → Bool) (f : Reader A) → Local true f → (n m : ℕ) (ts : List Token) → length ts ≤ n → length ts ≤ m → more sep b f n ts ≡ more sep b f m ts
unfolding more
more_enough sep b f lf zero zero ts h k = refl
more_enough sep b f lf zero (suc m) ts h k = choose_agrees (after sep ts) (Ok ([], ts)) _ _ (λ rest e. absurd (omega (arith, after_short sep ts rest e)))
more_enough sep b f lf (suc n) zero ts h k = choose_agrees (after sep ts) (Ok ([], ts)) _ _ (λ rest e. absurd (omega (arith, after_short sep ts rest e)))
more_enough {A} sep b f lf (suc n) (suc m) ts h k =
    choose_agrees (after sep ts) (Ok ([], ts)) _ _ (λ rest e. bind_agrees (f rest) _ _ (λ first d.
    let short : length first.1 < length ts = omega (arith, after_short sep ts rest e, ends_short ((lf rest).goes first.0 first.1 d)) in
    ap (λ (o : Result (List A × List Token) Stop). with_front (first.0 ∷ []) o) (more_enough sep b f lf n m first.1 (omega arith) (omega arith))))

-- A separator and parts, as many as there are.
pub local_all : {A : Type 0} (sep : Token → Bool) (b : List Token → Bool) (f : Reader A) → ((t : Token) (us vs : List Token) → b (t ∷ us) ≡ b (t ∷ vs)) → Local true f → Local true (λ ts. more sep b f (length ts) ts)
local_all sep b f front lf ts = record {
  goes = λ x rest d. (at (length ts) ts).goes x rest d;
  same = λ us rest other x d s. enough us (length ts + length us) (omega arith) ∙ (at (length ts + length us) ts).same us rest other x (sym (enough ts (length ts + length us) (omega arith)) ∙ d) s;
  within = λ e d. (at (length ts) ts).within e d;
  stops = λ us rest other e d s h. enough us (length ts + length us) (omega arith) ∙ (at (length ts + length us) ts).stops us rest other e (sym (enough ts (length ts + length us) (omega arith)) ∙ d) s h;
  past = λ n h d. (at (length ts) ts).past n h d;
  over = λ us rest other d s. (let k = (at (length ts + length us) ts).over us rest other (sym (enough ts (length ts + length us) (omega arith)) ∙ d) s in record { fault = k.fault; is = enough us (length ts + length us) (omega arith) ∙ k.is });
} where
  at : (n : ℕ) → Local true (more sep b f n)
  at n = local_more sep b f front lf n

  enough : (us : List Token) (n : ℕ) → length us ≤ n → more sep b f (length us) us ≡ more sep b f n us
  enough us n h = more_enough sep b f lf (length us) n us (omega arith) h
