-- Reading a list item by item, as a loop does.
use Rattle.std.proofs.Common.{arith, length, ◌<◌, ◌≤◌, ◌≡◌, ℕ, zero, suc, Bool, List, [], ◌∷◌, ◌++◌, Some, None, Result, Ok, Err, refl, sym, ap, subst, ◌∙◌, append_assoc}
use Rattle.std.proofs.lemmas.List.{append-nil}
use Rattle.semantics.specs.declared.token.Token.{Token}
use Rattle.query_parser.specs.Inside.Fronts.{after}
use Rattle.query_parser.specs.Inside.Steps.{Fails, Reader, excess, with_front, more}
use Rattle.query_parser.specs.declared.fault.GrammarFault.{GrammarFault}
use Rattle.query_parser.specs.Inside.Stops.{Stop, fault_of}
use Rattle.query_parser.specs.declared.fault.GrammarFault.TheVariants as faults
use Rattle.query_parser.specs.Inside.Stops as halts

-- What a list is read as.
abbrev Parts : Type 0 → Type 0
Parts A = Result (List A × List Token) Stop

-- the list ends
pub more_ends : {A : Type 0} (sep : Token → Bool) (b : List Token → Bool) (f : Reader A) (n : ℕ) (ts : List Token) → after sep ts ≡ None → more sep b f n ts ≡ Ok ([], ts)
unfolding more
more_ends sep b f zero ts e = rw e refl
more_ends sep b f (suc n) ts e = rw e refl

-- too many
pub more_over : {A : Type 0} (sep : Token → Bool) (b : List Token → Bool) (f : Reader A) (ts behind : List Token) → after sep ts ≡ Some behind → more sep b f 0 ts ≡ Err (excess b behind)
unfolding more
more_over sep b f ts behind e = rw e refl

-- an item that is none
pub more_fails : {A : Type 0} (sep : Token → Bool) (b : List Token → Bool) (f : Reader A) (n : ℕ) (ts behind : List Token) (fault : Stop) → after sep ts ≡ Some behind → f behind ≡ Err fault → more sep b f (suc n) ts ≡ Err fault
unfolding more
more_fails sep b f n ts behind fault e d = rw (e, d) refl

-- one more item
pub more_goes : {A : Type 0} (sep : Token → Bool) (b : List Token → Bool) (f : Reader A) (n : ℕ) (ts behind left : List Token) (x : A) → after sep ts ≡ Some behind → f behind ≡ Ok (x, left) → more sep b f (suc n) ts ≡ with_front (x ∷ []) (more sep b f n left)
unfolding more
more_goes sep b f n ts behind left x e d = rw (e, d) refl

pub front_twice : {A : Type 0} (a b : List A) (read : Parts A) → with_front a (with_front b read) ≡ with_front (a ++ b) read
front_twice {A} a b (Err e) = refl
front_twice {A} a b (Ok x) = ap (λ (ys : List A). Ok (ys, x.1)) (sym (append_assoc a b x.0))

pub front_fails : {A : Type 0} (a : List A) (read : Parts A) (fault : Stop) → read ≡ Err fault → with_front a read ≡ Err fault
front_fails a read fault e = rw e refl

pub front_ends : {A : Type 0} (a : List A) (ts : List Token) (read : Parts A) → read ≡ Ok ([], ts) → with_front a read ≡ Ok (a, ts)
front_ends {A} a ts read e = rw e (ap (λ (ys : List A). Ok (ys, ts)) (append-nil a))

-- the turn of a loop
pub front_goes : {A : Type 0} (sep : Token → Bool) (b : List Token → Bool) (f : Reader A) (n : ℕ) (front : List A) (ts behind left : List Token) (x : A) (total : Parts A) → after sep ts ≡ Some behind → f behind ≡ Ok (x, left) → with_front front (more sep b f (suc n) ts) ≡ total → with_front (front ++ x ∷ []) (more sep b f n left) ≡ total
front_goes sep b f n front ts behind left x total e d h = sym (front_twice front (x ∷ []) (more sep b f n left)) ∙ (ap (with_front front) (sym (more_goes sep b f n ts behind left x e d)) ∙ h)

-- the ways in which a loop ends
pub loop_over : {A : Type 0} (sep : Token → Bool) (b : List Token → Bool) (f : Reader A) (front : List A) (ts behind : List Token) (total : Parts A) → after sep ts ≡ Some behind → with_front front (more sep b f 0 ts) ≡ total → total ≡ Err (excess b behind)
loop_over sep b f front ts behind total e h = sym h ∙ front_fails front (more sep b f 0 ts) (excess b behind) (more_over sep b f ts behind e)

pub loop_ends : {A : Type 0} (sep : Token → Bool) (b : List Token → Bool) (f : Reader A) (n : ℕ) (front : List A) (ts : List Token) (total : Parts A) → after sep ts ≡ None → with_front front (more sep b f n ts) ≡ total → total ≡ Ok (front, ts)
loop_ends sep b f n front ts total e h = sym h ∙ front_ends front ts (more sep b f n ts) (more_ends sep b f n ts e)

-- what fails where reading stops
pub stopped : {Y : Type 0} (e : GrammarFault) (stop : Stop) (read : Result Y Stop) → e ≡ fault_of stop → read ≡ Err stop → Fails e read
stopped e (halts.unexpected n) read h d = subst (λ (f : GrammarFault). Fails f read) (sym h) d
stopped e (halts.over_limit n) read h d = subst (λ (f : GrammarFault). Fails f read) (sym h) (n, d)

pub loop_fails : {A : Type 0} (e : GrammarFault) (sep : Token → Bool) (b : List Token → Bool) (f : Reader A) (n : ℕ) (front : List A) (ts behind : List Token) (total : Parts A) → after sep ts ≡ Some behind → Fails e (f behind) → with_front front (more sep b f (suc n) ts) ≡ total → Fails e total
loop_fails faults.OutOfMemory sep b f n front ts behind total e d h = tt
loop_fails faults.OverLimit sep b f n front ts behind total e (k, d) h = (k, sym h ∙ front_fails front (more sep b f (suc n) ts) (halts.over_limit k) (more_fails sep b f n ts behind (halts.over_limit k) e d))
loop_fails (faults.Unexpected k) sep b f n front ts behind total e d h = sym h ∙ front_fails front (more sep b f (suc n) ts) (halts.unexpected k) (more_fails sep b f n ts behind (halts.unexpected k) e d)

front_nil : {A : Type 0} (read : Parts A) → with_front [] read ≡ read
front_nil (Err e) = refl
front_nil (Ok x) = refl

-- What is left to read, with what was read before, is the whole; n items are enough for it.
pub record Unread {A : Type 0} (sep : Token → Bool) (b : List Token → Bool) (f : Reader A) (front : List A) (ts : List Token) (total : Parts A) : Type 0 where
  pub n : ℕ
  pub room : length ts ≤ n
  pub told : with_front front (more sep b f n ts) ≡ total

pub unread_all : {A : Type 0} (sep : Token → Bool) (b : List Token → Bool) (f : Reader A) (ts : List Token) → Unread sep b f [] ts (more sep b f (length ts) ts)
unread_all sep b f ts = record { n = length ts; room = omega arith; told = front_nil (more sep b f (length ts) ts) }

goes_at : {A : Type 0} (n : ℕ) (sep : Token → Bool) (b : List Token → Bool) (f : Reader A) (front : List A) (ts behind left : List Token) (x : A) (total : Parts A) → length ts ≤ n → with_front front (more sep b f n ts) ≡ total → after sep ts ≡ Some behind → f behind ≡ Ok (x, left) → length left < length behind → length behind < length ts → Unread sep b f (front ++ x ∷ []) left total
goes_at zero sep b f front ts behind left x total room told e d h k = absurd (omega arith)
goes_at (suc n) sep b f front ts behind left x total room told e d h k = record { n = n; room = omega arith; told = front_goes sep b f n front ts behind left x total e d told }

pub unread_goes : {A : Type 0} (sep : Token → Bool) (b : List Token → Bool) (f : Reader A) (front : List A) (ts behind left : List Token) (x : A) (total : Parts A) → Unread sep b f front ts total → after sep ts ≡ Some behind → f behind ≡ Ok (x, left) → length left < length behind → length behind < length ts → Unread sep b f (front ++ x ∷ []) left total
unread_goes sep b f front ts behind left x total u e d h k = goes_at u.n sep b f front ts behind left x total u.room u.told e d h k

pub unread_ends : {A : Type 0} (sep : Token → Bool) (b : List Token → Bool) (f : Reader A) (front : List A) (ts : List Token) (total : Parts A) → Unread sep b f front ts total → after sep ts ≡ None → total ≡ Ok (front, ts)
unread_ends sep b f front ts total u e = loop_ends sep b f u.n front ts total e u.told

fails_at : {A : Type 0} (n : ℕ) (e : GrammarFault) (sep : Token → Bool) (b : List Token → Bool) (f : Reader A) (front : List A) (ts behind : List Token) (total : Parts A) → length ts ≤ n → with_front front (more sep b f n ts) ≡ total → after sep ts ≡ Some behind → Fails e (f behind) → length behind < length ts → Fails e total
fails_at zero e sep b f front ts behind total room told d h k = absurd (omega arith)
fails_at (suc n) e sep b f front ts behind total room told d h k = loop_fails e sep b f n front ts behind total d h told

pub unread_fails : {A : Type 0} (e : GrammarFault) (sep : Token → Bool) (b : List Token → Bool) (f : Reader A) (front : List A) (ts behind : List Token) (total : Parts A) → Unread sep b f front ts total → after sep ts ≡ Some behind → Fails e (f behind) → length behind < length ts → Fails e total
unread_fails e sep b f front ts behind total u d h k = fails_at u.n e sep b f front ts behind total u.room u.told d h k

-- A fault of a part too many stands where reading stops at it.
pub refused : {Y : Type 0} (e : GrammarFault) (b : List Token → Bool) (ts : List Token) (read : Result Y Stop) → e ≡ fault_of (excess b ts) → read ≡ Err (excess b ts) → Fails e read
refused e b ts read h n = stopped e (excess b ts) read h n

-- The first part and those behind it.
pub unread_first : {A : Type 0} (sep : Token → Bool) (b : List Token → Bool) (f : Reader A) (x : A) (ts : List Token) → Unread sep b f (x ∷ []) ts (with_front (x ∷ []) (more sep b f (length ts) ts))
unread_first sep b f x ts = record { n = length ts; room = omega arith; told = refl }
