-- A reader has the valid prefix property: what it takes derives what it reads, whatever stands
-- behind; and where it stops, the tokens before that go on to something that it reads.
use Rattle.std.proofs.Common.{arith, length, ◌<◌, ◌≤◌, ◌≡◌, ◌⊎◌, inl, inr, ℕ, zero, suc, Bool, true, false, cond, not, List, [], ◌∷◌, ◌++◌, Option, Some, None, Result, Ok, Err, refl, sym, ap, subst, ◌∙◌}
use Rattle.std.proofs.lemmas.List.{append_assoc, length-append}
use Rattle.semantics.specs.declared.token.Token.{Token}
use Rattle.semantics.specs.declared.token.Token.TheVariants as tokens
use Rattle.semantics.specs.declared.token.Word.TheVariants as w
use Rattle.semantics.specs.declared.token.Sign.TheVariants as s
use Rattle.query_lexer.specs.Options.{choose}
use Rattle.query_parser.specs.Inside.Stops.{Stop}
use Rattle.query_parser.specs.Inside.Stops as halts
use Rattle.query_parser.specs.Inside.Fronts.{is_sign, after}
use Rattle.query_parser.specs.Inside.Steps.{Reader, unexpected_at, over, found_or_unexpected, excess, with_front, more}
use Rattle.semantics.specs.Leaves.{Derivation, IsRepeated}
use Rattle.values.specs.Results.{◌>>=◌}
use Rattle.query_parser.proofs.Inversions.{bind_ok, choose_ok, ok_is}
use Rattle.query_parser.proofs.Heads.{after_sign_is}

-- ---- what derives, whatever stands behind

-- Some tokens derive something.
pub record Phrase {A : Type 0} (P : Derivation A) : Type 0 where
  pub tokens : List Token
  pub value : A
  pub derived : (other : List Token) → P (tokens ++ other) value other

-- The tokens in front of these derive this.
pub record Takes {A : Type 0} (P : Derivation A) (ts : List Token) (x : A) (rest : List Token) : Type 0 where
  pub front : List Token
  pub is : ts ≡ front ++ rest
  pub derived : (other : List Token) → P (front ++ other) x other

-- A front of these goes on to something.
pub record GoesOn {A : Type 0} (P : Derivation A) (Reaches : List Token → List Token → Type 0) (ts : List Token) : Type 0 where
  pub front : List Token
  pub back : List Token
  pub is : ts ≡ front ++ back
  pub reaches : Reaches front back
  pub behind : List Token
  pub value : A
  pub derived : (other : List Token) → P (front ++ (behind ++ other)) value other

-- ---- how far the tokens before a fault go on

-- Whether a token can be too much: a comma and FILTER are not, but what stands behind them.
abbrev pub counted : Token → Bool
counted (tokens.Sign s.Comma) = false
counted (tokens.Word w.Filter) = false
counted t = true

-- Whether the last token counts; where there is none, as it is said.
abbrev pub ends_counted : Bool → List Token → Bool
ends_counted none [] = none
ends_counted none (t ∷ ts) = ends_counted (counted t) ts

-- These begin with a token that does not count, with so many behind it.
pub data Uncounted : ℕ → List Token → Type 0 where
  token : {t : Token} {ts : List Token} → counted t ≡ false → Uncounted (length ts) (t ∷ ts)

-- How far the tokens before a fault go on. Within wider limits than the reader's they go on up to
-- the token that is not expected, and beyond the place where it is too much, up to a token that
-- counts; `strict` says that there is one. Within the reader's own limits they go on up to the
-- token that is not expected, or the one before it that does not count.
abbrev pub Reaches : Bool → Bool → Stop → List Token → List Token → Type 0
Reaches true strict (halts.unexpected left) front back = length back ≡ left
Reaches true strict (halts.over_limit left) front back = (length back ≤ left) × (ends_counted (not strict) front ≡ true)
Reaches false strict (halts.unexpected left) front back = (length back ≡ left) ⊎ Uncounted left back
Reaches false strict (halts.over_limit left) front back = ⊥

-- Of which faults that is claimed: within the reader's own limits of no token too much.
abbrev pub Claimed : Bool → Stop → Type 0
Claimed wide (halts.unexpected left) = Unit {0}
Claimed true (halts.over_limit left) = Unit {0}
Claimed false (halts.over_limit left) = ⊥

pub record Viable {A : Type 0} (strict wide : Bool) (P : Derivation A) (f : Reader A) : Type 0 where
  pub goes : (ts : List Token) (x : A) (rest : List Token) → f ts ≡ Ok (x, rest) → Takes P ts x rest
  pub stops : (ts : List Token) (e : Stop) → f ts ≡ Err e → Claimed wide e → GoesOn P (Reaches wide strict e) ts

-- ---- fronts in two parts

-- A front that ends with a counted token, or is empty behind one, does so behind any front that
-- does.
ends_twice : (none : Bool) (front behind : List Token) → ends_counted none front ≡ true → ends_counted true behind ≡ true → ends_counted none (front ++ behind) ≡ true
ends_twice none [] [] e d = e
ends_twice none [] (t ∷ ts) e d = d
ends_twice none (u ∷ us) behind e d = ends_twice (counted u) us behind e d

-- A front that has a token, of which the last counts, does so behind any tokens.
ends_behind : (none : Bool) (front behind : List Token) → ends_counted false behind ≡ true → ends_counted none (front ++ behind) ≡ true
ends_behind none [] [] d = absurd cc
ends_behind none [] (t ∷ ts) d = d
ends_behind none (u ∷ us) behind d = ends_behind (counted u) us behind d

-- A fault behind a front is as far behind the whole, where a token stands before it, or none was
-- taken.
reaches_behind : (wide strict : Bool) (e : Stop) (front behind back : List Token) → Reaches wide true e behind back → Reaches wide strict e (front ++ behind) back
reaches_behind true strict (halts.unexpected left) front behind back r = r
reaches_behind true strict (halts.over_limit left) front behind back r = (r.0, ends_behind (not strict) front behind r.1)
reaches_behind false strict (halts.unexpected left) front behind back r = r
reaches_behind false strict (halts.over_limit left) front behind back r = absurd r

-- The same behind a token that counts.
reaches_token : (wide strict : Bool) (e : Stop) (t : Token) (front back : List Token) → (strict ≡ false → counted t ≡ true) → Reaches wide strict e front back → Reaches wide true e (t ∷ front) back
reaches_token true strict (halts.unexpected left) t front back c r = r
reaches_token true true (halts.over_limit left) t front back c r = (r.0, ends_behind (counted t) [] front r.1)
reaches_token true false (halts.over_limit left) t front back c r = (r.0, subst (λ (b : Bool). ends_counted b front ≡ true) (sym (c refl)) r.1)
reaches_token false strict (halts.unexpected left) t front back c r = r
reaches_token false strict (halts.over_limit left) t front back c r = absurd r

-- Where a token is taken, a token is taken or not.
reaches_loose : (wide : Bool) (e : Stop) (front back : List Token) → Reaches wide true e front back → Reaches wide false e front back
reaches_loose wide e front back r = reaches_behind wide false e [] front back r

-- ---- what is taken in two parts, and by one token more

takes_twice : {A B : Type 0} {P : Derivation A} {Q R : Derivation B} {ts mid rest : List Token} {x : A} {y : B} → ((us vs ws : List Token) → P us x vs → Q vs y ws → R us y ws) → Takes P ts x mid → Takes Q mid y rest → Takes R ts y rest
takes_twice {R = R} {ts} {mid} {rest} {x} {y} join p q = record {
  front = p.front ++ q.front;
  is = p.is ∙ (ap (λ (us : List Token). p.front ++ us) q.is ∙ sym (append_assoc p.front q.front rest));
  derived = λ other. subst (λ us. R us y other) (sym (append_assoc p.front q.front other)) (join (p.front ++ (q.front ++ other)) (q.front ++ other) other (p.derived (q.front ++ other)) (q.derived other));
}

takes_token : {A : Type 0} {Q R : Derivation A} {t : Token} {ts rest : List Token} {x : A} → ((us vs : List Token) → Q us x vs → R (t ∷ us) x vs) → Takes Q ts x rest → Takes R (t ∷ ts) x rest
takes_token {t = t} join q = record {
  front = t ∷ q.front;
  is = ap (λ (us : List Token). t ∷ us) q.is;
  derived = λ other. join (q.front ++ other) other (q.derived other);
}

-- What was read goes on, and what stands behind it is read.
goes_on_front : {A B : Type 0} (wide strict : Bool) (e : Stop) {P : Derivation A} {R : Derivation B} {Q : A → Derivation B} {ts : List Token} → ((us vs ws : List Token) (x : A) (y : B) → P us x vs → Q x vs y ws → R us y ws) → ((x : A) → Phrase (Q x)) → GoesOn P (Reaches wide strict e) ts → GoesOn R (Reaches wide strict e) ts
goes_on_front wide strict e {R = R} {ts = ts} join phrase g =
    let p = phrase g.value in
    record {
      front = g.front;
      back = g.back;
      is = g.is;
      reaches = g.reaches;
      behind = g.behind ++ p.tokens;
      value = p.value;
      derived = λ other. subst (λ us. R (g.front ++ us) p.value other) (sym (append_assoc g.behind p.tokens other)) (join _ (p.tokens ++ other) other g.value p.value (g.derived (p.tokens ++ other)) (p.derived other));
    }

-- What stands behind what was read goes on.
goes_on_behind : {A B : Type 0} (wide strict : Bool) (e : Stop) {P : Derivation A} {Q R : Derivation B} {ts mid : List Token} {x : A} → ((us vs ws : List Token) (y : B) → P us x vs → Q vs y ws → R us y ws) → Takes P ts x mid → GoesOn Q (Reaches wide true e) mid → GoesOn R (Reaches wide strict e) ts
goes_on_behind wide strict e {R = R} {ts = ts} join p g = record {
  front = p.front ++ g.front;
  back = g.back;
  is = p.is ∙ (ap (λ (us : List Token). p.front ++ us) g.is ∙ sym (append_assoc p.front g.front g.back));
  reaches = reaches_behind wide strict e p.front g.front g.back g.reaches;
  behind = g.behind;
  value = g.value;
  derived = λ other. subst (λ us. R us g.value other) (sym (append_assoc p.front g.front (g.behind ++ other))) (join (p.front ++ (g.front ++ (g.behind ++ other))) (g.front ++ (g.behind ++ other)) other g.value (p.derived (g.front ++ (g.behind ++ other))) (g.derived other));
}

goes_on_token : {A : Type 0} (wide strict : Bool) (e : Stop) {Q R : Derivation A} {t : Token} {ts : List Token} → ((us vs : List Token) (x : A) → Q us x vs → R (t ∷ us) x vs) → (strict ≡ false → counted t ≡ true) → GoesOn Q (Reaches wide strict e) ts → GoesOn R (Reaches wide true e) (t ∷ ts)
goes_on_token wide strict e {t = t} join counts g = record {
  front = t ∷ g.front;
  back = g.back;
  is = ap (λ (us : List Token). t ∷ us) g.is;
  reaches = reaches_token wide strict e t g.front g.back counts g.reaches;
  behind = g.behind;
  value = g.value;
  derived = λ other. join (g.front ++ (g.behind ++ other)) other g.value (g.derived other);
}

-- ---- how viable readers are made

-- A reader that takes nothing.
pub viable_ok : {A : Type 0} {wide : Bool} {P : Derivation A} (x : A) → ((ts : List Token) → P ts x ts) → Viable true wide P (λ ts. Ok (x, ts))
viable_ok {A} {wide} {P} x derived = record {
  goes = λ ts y rest d. (let k = ok_is (x, ts) (y, rest) d in subst (λ (z : A × List Token). Takes P ts z.0 z.1) k record { front = []; is = refl; derived = derived });
  stops = λ ts e d c. absurd cc;
}

-- A reader that stops at once, at a token that is not expected.
pub viable_stuck : {A : Type 0} {strict wide : Bool} {P : Derivation A} → Phrase P → Viable strict wide P unexpected_at
viable_stuck {A} {strict} {wide} {P} phrase = record {
  goes = λ ts x rest d. absurd cc;
  stops = λ ts e d c. (let k : halts.unexpected (length ts) ≡ e = cc in
      subst (λ (m : Stop). GoesOn P (Reaches wide strict m) ts) k record { front = []; back = ts; is = refl; reaches = at_token wide strict ts; behind = phrase.tokens; value = phrase.value; derived = phrase.derived });
} where
  at_token : (wide strict : Bool) (ts : List Token) → Reaches wide strict (halts.unexpected (length ts)) [] ts
  at_token true strict ts = refl
  at_token false strict ts = inl refl

-- A reader that stops at once, where it is too much.
pub viable_over : {A : Type 0} {wide : Bool} {P : Derivation A} → (wide ≡ true → Phrase P) → Viable false wide P over
viable_over {A} {wide = true} {P} phrase = record {
  goes = λ ts x rest d. absurd cc;
  stops = λ ts e d c. (let k : halts.over_limit (length ts) ≡ e = cc in let p = phrase refl in
      subst (λ (m : Stop). GoesOn P (Reaches true false m) ts) k record { front = []; back = ts; is = refl; reaches = (omega arith, refl); behind = p.tokens; value = p.value; derived = p.derived });
}
viable_over {A} {wide = false} {P} phrase = record {
  goes = λ ts x rest d. absurd cc;
  stops = λ ts e d c. (let k : halts.over_limit (length ts) ≡ e = cc in absurd (subst (Claimed false) (sym k) c));
}

-- A reader of what is also something else.
pub viable_as : {A : Type 0} {strict wide : Bool} {P Q : Derivation A} {f : Reader A} → ((ts rest : List Token) (x : A) → P ts x rest → Q ts x rest) → Viable strict wide P f → Viable strict wide Q f
viable_as {P = P} {Q} gives v = record {
  goes = λ ts x rest d. (let t = v.goes ts x rest d in record { front = t.front; is = t.is; derived = λ other. gives (t.front ++ other) other x (t.derived other) });
  stops = λ ts e d c. (let g = v.stops ts e d c in record { front = g.front; back = g.back; is = g.is; reaches = g.reaches; behind = g.behind; value = g.value; derived = λ other. gives (g.front ++ (g.behind ++ other)) other g.value (g.derived other) });
}

-- Readers that give the same.
pub viable_same : {A : Type 0} {strict wide : Bool} {P : Derivation A} (f g : Reader A) → ((ts : List Token) → f ts ≡ g ts) → Viable strict wide P g → Viable strict wide P f
viable_same f g same v = record {
  goes = λ ts x rest d. v.goes ts x rest (sym (same ts) ∙ d);
  stops = λ ts e d c. v.stops ts e (sym (same ts) ∙ d) c;
}

-- A reader, where it does not matter whether it takes a token.
pub viable_loose : {A : Type 0} {wide : Bool} {P : Derivation A} {f : Reader A} → Viable true wide P f → Viable false wide P f
viable_loose {wide = wide} v = record {
  goes = v.goes;
  stops = λ ts e d c. (let g = v.stops ts e d c in record { front = g.front; back = g.back; is = g.is; reaches = reaches_loose wide e g.front g.back g.reaches; behind = g.behind; value = g.value; derived = g.derived });
}

-- A fault, as a result.
abbrev failed : {A : Type 0} → Stop → Result A Stop
failed e = Err e

-- Two steps that fail: which one.
bind_err : {A B : Type 0} (o : Result A Stop) (f : A → Result B Stop) (e : Stop) → (o >>= f) ≡ Err e → (o ≡ Err e) ⊎ ((x : A) × (o ≡ Ok x) × (f x ≡ Err e))
bind_err (Ok x) f e d = inr (x, refl, d)
bind_err (Err n) f e d = inl (let k : n ≡ e = cc in ap (λ (m : Stop). Err m) k)

-- One reader and then another.
pub viable_bind : {A B : Type 0} {strict wide : Bool} {P : Derivation A} {R : Derivation B} (Q : A → Derivation B) (f : Reader A) (g : A → Reader B)
    → ((us vs ws : List Token) (x : A) (y : B) → P us x vs → Q x vs y ws → R us y ws) → ((x : A) → Phrase (Q x)) → Viable strict wide P f → ((x : A) → Viable true wide (Q x) (g x)) → Viable strict wide R (λ ts. f ts >>= λ y. g y.0 y.1)
viable_bind {A} {B} {strict} {wide} {P} {R} Q f g join phrase vf vg = record {
  goes = λ ts y rest d. (let a = bind_ok (f ts) next (y, rest) d in takes_twice (λ us vs ws p q. join us vs ws a.0.0 y p q) (vf.goes ts a.0.0 a.0.1 a.1) ((vg a.0.0).goes a.0.1 y rest a.2));
  stops = λ ts e d c. elim (bind_err (f ts) next e d) [
    | inl h ↦ goes_on_front wide strict e join phrase (vf.stops ts e h c)
    | inr a ↦ goes_on_behind wide strict e (λ us vs ws y p q. join us vs ws a.0.0 y p q) (vf.goes ts a.0.0 a.0.1 a.1) ((vg a.0.0).stops a.0.1 e a.2 c)
  ];
} where
  next : A × List Token → Result (B × List Token) Stop
  next y = g y.0 y.1

-- Nothing is taken, and this is read.
abbrev pub Exactly : {A : Type 0} → A → Derivation A
Exactly x us y vs = (us ≡ vs) × (x ≡ y)

pub exactly : {A : Type 0} {wide : Bool} (x : A) → Viable true wide (Exactly x) (λ ts. Ok (x, ts))
exactly x = viable_ok x (λ ts. (refl, refl))

-- What is made of what was read.
pub viable_made : {A B : Type 0} {strict wide : Bool} {P : Derivation A} {R : Derivation B} (f : Reader A) (make : A → B) → ((us vs : List Token) (x : A) → P us x vs → R us (make x) vs) → Viable strict wide P f → Viable strict wide R (λ ts. f ts >>= λ x. Ok (make x.0, x.1))
viable_made {P = P} {R} f make join vf =
    viable_bind (λ x. Exactly (make x)) f (λ x ts. Ok (make x, ts)) (λ us vs ws x y p q. subst (λ z. R us z ws) q.1 (subst (λ zs. R us (make x) zs) q.0 (join us vs x p)))
    (λ x. record { tokens = []; value = make x; derived = λ other. (refl, refl) }) vf (λ x. exactly (make x))

-- A Bool, with its value.
value_of : (b : Bool) → (b ≡ true) ⊎ (b ≡ false)
value_of true = inl refl
value_of false = inr refl

-- A choice that fails: which way it went.
pub choose_err : {X Y : Type 0} (o : Option X) (b : Result Y Stop) (f : X → Result Y Stop) (e : Stop) → choose o b f ≡ Err e → (b ≡ Err e) ⊎ ((x : X) × (o ≡ Some x) × (f x ≡ Err e))
choose_err None b f e d = inl d
choose_err (Some x) b f e d = inr (x, refl, d)

-- What derives behind a token.
abbrev pub Behind : {A : Type 0} → Token → Derivation A → Derivation A → Type 0
Behind {A} t Q R = (us vs : List Token) (x : A) → Q us x vs → R (t ∷ us) x vs

-- A test that one token alone passes.
abbrev pub Only : (Token → Bool) → Token → Type 0
Only test t = (ts r : List Token) → after test ts ≡ Some r → ts ≡ t ∷ r

-- One reader behind a token, and another where it does not stand in front.
pub viable_choose : {A : Type 0} {strict wide : Bool} {Q R : Derivation A} (test : Token → Bool) (t : Token) → Only test t → (strict ≡ false → counted t ≡ true) → Behind t Q R → (n g : Reader A)
    → Viable true wide R n → Viable strict wide Q g → Viable true wide R (λ ts. choose (after test ts) (n ts) (λ a. g a))
viable_choose {A} {strict} {wide} {Q} {R} test t only counts join n g vn vg = record {
  goes = λ ts x rest d. elim (choose_ok (after test ts) (n ts) (λ a. g a) (x, rest) d) [
    | inl h ↦ vn.goes ts x rest h.1
    | inr h ↦ subst (λ us. Takes R us x rest) (sym (only ts h.0 h.1)) (takes_token (λ us vs q. join us vs x q) (vg.goes h.0 x rest h.2))
  ];
  stops = λ ts e d c. elim (choose_err (after test ts) (n ts) (λ a. g a) e d) [
    | inl h ↦ vn.stops ts e h c
    | inr h ↦ subst (λ us. GoesOn R (Reaches wide true e) us) (sym (only ts h.0 h.1)) (goes_on_token wide strict e join counts (vg.stops h.0 e h.2 c))
  ];
}

-- A phrase behind a token.
pub phrase_behind : {A : Type 0} {Q R : Derivation A} (t : Token) → Behind t Q R → Phrase Q → Phrase R
phrase_behind t join p = record { tokens = t ∷ p.tokens; value = p.value; derived = λ other. join (p.tokens ++ other) other p.value (p.derived other) }

found_or_stuck_choice : {A B : Type 0} (o : Option A) (n : Stop) (g : A → Result B Stop) → (choose o (Err n) (λ x. Ok x) >>= g) ≡ choose o (Err n) g
found_or_stuck_choice None n g = refl
found_or_stuck_choice (Some x) n g = refl

-- What has to stand in front, and what is read behind it.
pub viable_found_or_stuck : {A : Type 0} {strict wide : Bool} {Q R : Derivation A} (test : Token → Bool) (t : Token) → Only test t → (strict ≡ false → counted t ≡ true) → Behind t Q R → (g : Reader A)
    → Phrase Q → Viable strict wide Q g → Viable true wide R (λ ts. found_or_unexpected (after test) ts >>= λ a. g a)
viable_found_or_stuck {wide = wide} {Q} {R} test t only counts join g phrase vg =
    viable_same (λ ts. found_or_unexpected (after test) ts >>= λ a. g a) (λ ts. choose (after test ts) (unexpected_at ts) (λ a. g a)) (λ ts. found_or_stuck_choice (after test ts) (halts.unexpected (length ts)) g)
    (viable_choose test t only counts join unexpected_at g (viable_stuck (phrase_behind t join phrase)) vg)

-- What looks at the token in front alone finds what derives from it.
pub record Finds {X : Type 0} (P : Derivation X) (h : List Token → Option (X × List Token)) : Type 0 where
  pub at_end : h [] ≡ None
  pub at_token : (t : Token) → ((us : List Token) → h (t ∷ us) ≡ None) ⊎ ((x : X) × ((us : List Token) → h (t ∷ us) ≡ Some (x, us)) × ((us : List Token) → P (t ∷ us) x us) × (counted t ≡ true))

pub viable_front : {A X : Type 0} {strict wide : Bool} {P : Derivation X} {Q : X → Derivation A} {R : Derivation A} (h : List Token → Option (X × List Token)) → Finds P h → ((us vs ws : List Token) (x : X) (y : A) → P us x vs → Q x vs y ws → R us y ws) → (n : Reader A) (g : X → Reader A)
    → Viable true wide R n → ((x : X) → Viable strict wide (Q x) (g x)) → Viable true wide R (λ ts. choose (h ts) (n ts) (λ x. g x.0 x.1))
viable_front {A} {X} {strict} {wide} {P} {Q} {R} h finds join n g vn vg = record {
  goes = λ ts x rest d. goes_at ts x rest d;
  stops = λ ts e d c. stops_at ts e d c;
} where
  chosen : Reader A
  chosen ts = choose (h ts) (n ts) (λ x. g x.0 x.1)

  chooses : (ts : List Token) {o : Option (X × List Token)} → h ts ≡ o → chosen ts ≡ choose o (n ts) (λ x. g x.0 x.1)
  chooses ts e = ap (λ (o : Option (X × List Token)). choose o (n ts) (λ x. g x.0 x.1)) e

  goes_at : (ts : List Token) (x : A) (rest : List Token) → chosen ts ≡ Ok (x, rest) → Takes R ts x rest
  goes_at [] x rest d = vn.goes [] x rest (sym (chooses [] finds.at_end) ∙ d)
  goes_at (t ∷ ts) x rest d = elim (finds.at_token t) [
    | inl i ↦ vn.goes (t ∷ ts) x rest (sym (chooses (t ∷ ts) (i ts)) ∙ d)
    | inr i ↦ takes_token (λ us vs q. join (t ∷ us) us vs i.0 x (i.2 us) q) ((vg i.0).goes ts x rest (sym (chooses (t ∷ ts) (i.1 ts)) ∙ d))
  ]

  stops_at : (ts : List Token) (e : Stop) → chosen ts ≡ Err e → Claimed wide e → GoesOn R (Reaches wide true e) ts
  stops_at [] e d c = vn.stops [] e (sym (chooses [] finds.at_end) ∙ d) c
  stops_at (t ∷ ts) e d c = elim (finds.at_token t) [
    | inl i ↦ vn.stops (t ∷ ts) e (sym (chooses (t ∷ ts) (i ts)) ∙ d) c
    | inr i ↦ goes_on_token wide strict e (λ us vs y q. join (t ∷ us) us vs i.0 y (i.2 us) q) (λ _. i.3) ((vg i.0).stops ts e (sym (chooses (t ∷ ts) (i.1 ts)) ∙ d) c)
  ]

-- A value that has to stand in front.
pub viable_found_or_stuck_front : {X : Type 0} {wide : Bool} {P : Derivation X} (h : List Token → Option (X × List Token)) → Finds P h → Phrase P → Viable true wide P (found_or_unexpected h)
viable_found_or_stuck_front {P = P} h finds phrase = viable_front {Q = λ x us y vs. (us ≡ vs) × (x ≡ y)} h finds (λ us vs ws x y p q. subst (λ z. P us z ws) q.1 (subst (λ zs. P us x zs) q.0 p)) unexpected_at (λ x us. Ok (x, us)) (viable_stuck phrase) (λ x. viable_ok x (λ ts. (refl, refl)))

-- ---- lists

-- A token with which a part begins goes on to a part.
pub record BeginsPart {A : Type 0} (P : Derivation A) (t : Token) : Type 0 where
  pub counts : counted t ≡ true
  pub behind : List Token
  pub value : A
  pub derived : (other : List Token) → P (t ∷ (behind ++ other)) value other

-- A test of the token in front tells whether a part begins.
pub record TellsPart {A : Type 0} (P : Derivation A) (begins : List Token → Bool) : Type 0 where
  pub at_end : begins [] ≡ false
  pub at_token : (t : Token) (us : List Token) → begins (t ∷ us) ≡ true → BeginsPart P t

-- Parts, each behind its separator, at most so many.
abbrev pub AtMost : {A : Type 0} → Token → Derivation A → ℕ → Derivation (List A)
AtMost sep P most ts xs rest = IsRepeated sep P ts xs rest × (length xs ≤ most)

-- One part behind its separator, and what derives as others behind it.
more_parts : {A : Type 0} {sep : Token} {P : Derivation A} {most : ℕ} (us vs ws : List Token) (x : A) (xs : List A) → P us x vs → AtMost sep P most vs xs ws → AtMost sep P (suc most) (sep ∷ us) (x ∷ xs) ws
more_parts us vs ws x xs p q = (IsRepeated.more p q.0, omega (arith, q.1))

-- A separator and parts, at most n, in a grammar that allows as many, or more where it is wider.
pub viable_more : {A : Type 0} {wide : Bool} {P : Derivation A} (test : Token → Bool) (sep : Token) (b : List Token → Bool) (f : Reader A) → Only test sep → counted sep ≡ false → TellsPart P b → Phrase P → Viable true wide P f
    → (n most : ℕ) → n ≤ most → (wide ≡ true → n < most) → Viable true wide (AtMost sep P most) (more test b f n)
unfolding more
viable_more {A} {wide} {P} test sep b f only comma tells phrase vf zero most fits wider = record {
  goes = λ ts xs rest d. elim (choose_ok (after test ts) (Ok ([], ts)) (λ rest. Err (excess b rest)) (xs, rest) d) [
    | inl h ↦ none.goes ts xs rest h.1
    | inr h ↦ absurd (let k = h.2 in cc)
  ];
  stops = λ ts e d c. elim (choose_err (after test ts) (Ok ([], ts)) (λ rest. Err (excess b rest)) e d) [
    | inl h ↦ absurd cc
    | inr h ↦ subst (λ us. GoesOn (AtMost sep P most) (Reaches wide true e) us) (sym (only ts h.0 h.1)) (too_many wide wider h.0 e h.2 c)
  ];
} where
  none : Viable true wide (AtMost sep P most) (λ ts. Ok ([], ts))
  none = viable_ok [] (λ ts. (IsRepeated.none, omega arith))

  -- A separator behind which no part begins, and one behind which a part too many begins.
  no_part : (wide : Bool) → (wide ≡ true → 0 < most) → (us : List Token) → GoesOn (AtMost sep P most) (Reaches wide true (halts.unexpected (length us))) (sep ∷ us)
  no_part true wider us = record { front = sep ∷ []; back = us; is = refl; reaches = refl; behind = phrase.tokens; value = phrase.value ∷ []; derived = λ other. (IsRepeated.more (phrase.derived other) IsRepeated.none, omega (arith, wider refl)) }
  no_part false wider us = record { front = []; back = sep ∷ us; is = refl; reaches = inr (Uncounted.token comma); behind = []; value = []; derived = λ other. (IsRepeated.none, omega arith) }

  a_part : (wide : Bool) → (wide ≡ true → 0 < most) → (t : Token) (us : List Token) → BeginsPart P t → Claimed wide (halts.over_limit (length (t ∷ us))) → GoesOn (AtMost sep P most) (Reaches wide true (halts.over_limit (length (t ∷ us)))) (sep ∷ t ∷ us)
  a_part true wider t us p c = record { front = sep ∷ t ∷ []; back = us; is = refl; reaches = (omega arith, p.counts); behind = p.behind; value = p.value ∷ []; derived = λ other. (IsRepeated.more (p.derived other) IsRepeated.none, omega (arith, wider refl)) }
  a_part false wider t us p c = absurd c

  too_many : (wide : Bool) → (wide ≡ true → 0 < most) → (us : List Token) (e : Stop) → failed {A = List A × List Token} (excess b us) ≡ Err e → Claimed wide e → GoesOn (AtMost sep P most) (Reaches wide true e) (sep ∷ us)
  too_many wide wider us e d c = of_test (b us) us refl e d c where
    of_test : (v : Bool) (us : List Token) → b us ≡ v → (e : Stop) → failed {A = List A × List Token} (cond (b us) (halts.over_limit (length us)) (halts.unexpected (length us))) ≡ Err e → Claimed wide e → GoesOn (AtMost sep P most) (Reaches wide true e) (sep ∷ us)
    of_test false us i e d c = let k : halts.unexpected (length us) ≡ e = (let j = ap (λ (v : Bool). cond v (halts.over_limit (length us)) (halts.unexpected (length us))) i in cc) in subst (λ m. GoesOn (AtMost sep P most) (Reaches wide true m) (sep ∷ us)) k (no_part wide wider us)
    of_test true [] i e d c = absurd (let h = tells.at_end in cc)
    of_test true (t ∷ us) i e d c = let k : halts.over_limit (length (t ∷ us)) ≡ e = (let j = ap (λ (v : Bool). cond v (halts.over_limit (length (t ∷ us))) (halts.unexpected (length (t ∷ us)))) i in cc) in
        subst (λ m. GoesOn (AtMost sep P most) (Reaches wide true m) (sep ∷ t ∷ us)) k (a_part wide wider t us (tells.at_token t us i) (subst (Claimed wide) (sym k) c))
viable_more {A} {wide} {P} test sep b f only comma tells phrase vf (suc n) zero fits wider = absurd (omega arith)
viable_more {A} {wide} {P} test sep b f only comma tells phrase vf (suc n) (suc most) fits wider =
    viable_choose {Q = λ us xs ws. AtMost sep P (suc most) (sep ∷ us) xs ws} test sep only (λ i. absurd cc) (λ us vs xs q. q) (λ ts. Ok ([], ts)) (λ rest. f rest >>= λ first. with_front (first.0 ∷ []) (more test b f n first.1)) (viable_ok [] (λ ts. (IsRepeated.none, omega arith)))
    (viable_bind (λ x us ys ws. (vs : List Token) → P vs x us → AtMost sep P (suc most) (sep ∷ vs) ys ws) f (λ x us. with_front (x ∷ []) (more test b f n us)) (λ us vs ws x ys p q. q us p) (λ x. record { tokens = []; value = x ∷ []; derived = λ other vs p. (IsRepeated.more p IsRepeated.none, omega arith) }) vf
    (λ x. viable_made (more test b f n) (λ xs. (x ∷ []) ++ xs) (λ us vs xs q ws p. more_parts ws us vs x xs p q) (viable_more test sep b f only comma tells phrase vf n most (omega arith) (λ i. omega (arith, wider i)))))

-- A part and those behind it.
pub data Listed {A : Type 0} (P : Derivation A) (Others : Derivation (List A)) : List Token → List A → List Token → Type 0 where
  parts : {ts mid rest : List Token} {x : A} {xs : List A} → P ts x mid → Others mid xs rest → Listed P Others ts (x ∷ xs) rest

pub phrase_listed : {A : Type 0} {P : Derivation A} {Others : Derivation (List A)} → ((ts : List Token) → Others ts [] ts) → Phrase P → Phrase (Listed P Others)
phrase_listed none p = record { tokens = p.tokens; value = p.value ∷ []; derived = λ other. Listed.parts (p.derived other) (none other) }

pub viable_listed : {A : Type 0} {wide : Bool} {P : Derivation A} {Others : Derivation (List A)} (f : Reader A) (g : Reader (List A)) → ((ts : List Token) → Others ts [] ts) → Viable true wide P f → Viable true wide Others g → Viable true wide (Listed P Others) (λ ts. f ts >>= λ first. with_front (first.0 ∷ []) (g first.1))
viable_listed {P = P} {Others} f g none vf vg =
    viable_bind (λ x us ys ws. (vs : List Token) → P vs x us → Listed P Others vs ys ws) f (λ x us. with_front (x ∷ []) (g us)) (λ us vs ws x ys p q. q us p)
    (λ x. record { tokens = []; value = x ∷ []; derived = λ other vs p. Listed.parts p (none other) }) vf
    (λ x. viable_made g (λ xs. (x ∷ []) ++ xs) (λ us vs xs q ws p. Listed.parts p q) vg)

-- What derives before a closing bracket.
abbrev pub Closed : {A : Type 0} → Derivation A → Derivation A
Closed P ts x rest = P ts x (tokens.Sign s.Close ∷ rest)

-- What is read before a closing bracket.
pub viable_closed : {A : Type 0} {strict wide : Bool} (P : Derivation A) (f : Reader A) → Viable strict wide P f → Viable strict wide (Closed P) (λ ts. f ts >>= λ x. found_or_unexpected (after (is_sign s.Close)) x.1 >>= λ rest. Ok (x.0, rest))
viable_closed {A} {strict} {wide} P f vf =
    viable_bind (λ x us y ws. (vs : List Token) → P vs x us → Closed P vs y ws) f (λ x us. found_or_unexpected (after (is_sign s.Close)) us >>= λ rest. Ok (x, rest)) (λ us vs ws x y p q. q us p)
    (λ x. record { tokens = tokens.Sign s.Close ∷ []; value = x; derived = λ other vs p. p }) vf closing where
      closing : (x : A) → Viable true wide (λ us y ws. (vs : List Token) → P vs x us → Closed P vs y ws) (λ us. found_or_unexpected (after (is_sign s.Close)) us >>= λ rest. Ok (x, rest))
      closing x = viable_found_or_stuck {Q = Exactly x} (is_sign s.Close) (tokens.Sign s.Close) (after_sign_is s.Close) (λ i. refl) (λ us ws y q vs p. subst (λ z. P vs z (tokens.Sign s.Close ∷ ws)) q.1 (subst (λ zs. P vs x (tokens.Sign s.Close ∷ zs)) q.0 p))
          (λ us. Ok (x, us)) record { tokens = []; value = x; derived = λ other. (refl, refl) } (exactly x)

pub phrase_closed : {A : Type 0} {P : Derivation A} → Phrase P → Phrase (Closed P)
phrase_closed {P = P} p = record { tokens = p.tokens ++ tokens.Sign s.Close ∷ []; value = p.value; derived = λ other. subst (λ us. P us p.value (tokens.Sign s.Close ∷ other)) (sym (append_assoc p.tokens (tokens.Sign s.Close ∷ []) other)) (p.derived (tokens.Sign s.Close ∷ other)) }

-- What derives in brackets.
pub data Enclosed {A : Type 0} (P : Derivation A) : List Token → A → List Token → Type 0 where
  brackets : {ts rest : List Token} {x : A} → P ts x (tokens.Sign s.Close ∷ rest) → Enclosed P (tokens.Sign s.Open ∷ ts) x rest

pub viable_enclosed : {A : Type 0} {wide : Bool} {P : Derivation A} (f : Reader A) → Phrase P → Viable true wide P f → Viable true wide (Enclosed P) (λ ts. found_or_unexpected (after (is_sign s.Open)) ts >>= λ a. f a >>= λ x. found_or_unexpected (after (is_sign s.Close)) x.1 >>= λ rest. Ok (x.0, rest))
viable_enclosed {P = P} f phrase vf =
    viable_found_or_stuck {Q = Closed P} (is_sign s.Open) (tokens.Sign s.Open) (after_sign_is s.Open) (λ i. refl) (λ us ws x q. Enclosed.brackets q) (λ a. f a >>= λ x. found_or_unexpected (after (is_sign s.Close)) x.1 >>= λ rest. Ok (x.0, rest))
    (phrase_closed phrase) (viable_closed P f vf)

-- Parts, each behind its separator, as many as there are.
pub viable_all : {A : Type 0} {wide : Bool} {P : Derivation A} (test : Token → Bool) (sep : Token) (b : List Token → Bool) (f : Reader A) → Only test sep → Viable true wide P f → Viable true wide (IsRepeated sep P) (λ ts. more test b f (length ts) ts)
unfolding more
viable_all {A} {wide} {P} test sep b f only vf = record {
  goes = λ ts xs rest d. goes_at (length ts) ts (omega arith) xs rest d;
  stops = λ ts e d c. stops_at (length ts) ts (omega arith) e d c;
} where
  R : Derivation (List A)
  R = IsRepeated sep P

  next : (n : ℕ) → List Token → Result (List A × List Token) Stop
  next n rest = f rest >>= λ first. with_front (first.0 ∷ []) (more test b f n first.1)

  -- What stands behind a separator and a part is shorter.
  shorter : (ts rest mid : List Token) (x : A) → ts ≡ sep ∷ rest → Takes P rest x mid → (n : ℕ) → length ts ≤ suc n → length mid ≤ n
  shorter ts rest mid x i p n h = omega (arith, ap length i, ap length p.is, length-append p.front mid, h)

  goes_at : (n : ℕ) (ts : List Token) → length ts ≤ n → (xs : List A) (rest : List Token) → more test b f n ts ≡ Ok (xs, rest) → Takes R ts xs rest
  goes_at zero [] h xs rest d = (let k = ok_is ([], []) (xs, rest) d in subst (λ (z : List A × List Token). Takes R [] z.0 z.1) k record { front = []; is = refl; derived = λ other. IsRepeated.none })
  goes_at zero (t ∷ ts) h xs rest d = absurd (omega arith)
  goes_at (suc n) ts h xs rest d = elim (choose_ok (after test ts) (Ok ([], ts)) (λ rest. next n rest) (xs, rest) d) [
    | inl i ↦ (let k = ok_is ([], ts) (xs, rest) i.1 in subst (λ (z : List A × List Token). Takes R ts z.0 z.1) k record { front = []; is = refl; derived = λ other. IsRepeated.none })
    | inr i ↦ (let a = bind_ok (f i.0) (λ first. with_front (first.0 ∷ []) (more test b f n first.1)) (xs, rest) i.2 in
        let o = bind_ok (more test b f n a.0.1) (λ x. Ok ((a.0.0 ∷ []) ++ x.0, x.1)) (xs, rest) a.2 in
        let p = vf.goes i.0 a.0.0 a.0.1 a.1 in
        let q = goes_at n a.0.1 (shorter ts i.0 a.0.1 a.0.0 (only ts i.0 i.1) p n h) o.0.0 o.0.1 o.1 in
        let k = ok_is (a.0.0 ∷ o.0.0, o.0.1) (xs, rest) o.2 in
        let whole : Takes R (sep ∷ i.0) (a.0.0 ∷ o.0.0) o.0.1 = takes_token {Q = λ us ys ws. R (sep ∷ us) ys ws} (λ us vs r. r) (takes_twice {Q = λ us ys ws. R us o.0.0 ws} (λ us vs ws l r. IsRepeated.more l r) p record { front = q.front; is = q.is; derived = q.derived }) in
        subst (λ us. Takes R us xs rest) (sym (only ts i.0 i.1)) (subst (λ (z : List A × List Token). Takes R (sep ∷ i.0) z.0 z.1) k whole))
  ]

  stops_at : (n : ℕ) (ts : List Token) → length ts ≤ n → (e : Stop) → more test b f n ts ≡ Err e → Claimed wide e → GoesOn R (Reaches wide true e) ts
  stops_at zero [] h e d c = absurd cc
  stops_at zero (t ∷ ts) h e d c = absurd (omega arith)
  stops_at (suc n) ts h e d c = elim (choose_err (after test ts) (Ok ([], ts)) (λ rest. next n rest) e d) [
    | inl i ↦ absurd cc
    | inr i ↦ subst (λ us. GoesOn R (Reaches wide true e) us) (sym (only ts i.0 i.1)) (goes_on_token wide true e {Q = λ us ys ws. R (sep ∷ us) ys ws} (λ us vs ys q. q) (λ j. absurd cc) (elim (bind_err (f i.0) (λ first. with_front (first.0 ∷ []) (more test b f n first.1)) e i.2) [
      | inl k ↦ goes_on_front wide true e {Q = λ x us ys ws. (x ∷ [] ≡ ys) × (us ≡ ws)} (λ us vs ws x ys p q. subst (λ zs. R (sep ∷ us) zs ws) q.0 (subst (λ zs. R (sep ∷ us) (x ∷ []) zs) q.1 (IsRepeated.more p IsRepeated.none))) (λ x. record { tokens = []; value = x ∷ []; derived = λ other. (refl, refl) }) (vf.stops i.0 e k c)
      | inr a ↦ elim (bind_err (more test b f n a.0.1) (λ x. Ok ((a.0.0 ∷ []) ++ x.0, x.1)) e a.2) [
        | inl k ↦ (let p = vf.goes i.0 a.0.0 a.0.1 a.1 in
            goes_on_behind wide true e {Q = λ us ys ws. (zs : List A) × (ys ≡ a.0.0 ∷ zs) × R us zs ws} (λ us vs ws ys l r. subst (λ zs. R (sep ∷ us) zs ws) (sym r.1) (IsRepeated.more l r.2)) p
            (goes_on_front wide true e {Q = λ xs us ys ws. (a.0.0 ∷ xs ≡ ys) × (us ≡ ws)} (λ us vs ws xs ys l r. (xs, sym r.0, subst (λ zs. R us xs zs) r.1 l)) (λ xs. record { tokens = []; value = a.0.0 ∷ xs; derived = λ other. (refl, refl) })
            (stops_at n a.0.1 (shorter ts i.0 a.0.1 a.0.0 (only ts i.0 i.1) p n h) e k c)))
        | inr k ↦ absurd (let j = k.2 in cc)
      ]
    ]))
  ]
