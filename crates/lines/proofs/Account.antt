-- What is read in several reads.
use Rattle.std.proofs.Common.{◌≡◌, ◌≤◌, ◌+◌, ℕ, List, [], ◌++◌, length, take, drop, Option, None, Some, Result, Ok, Err, IsErr, IsOk, refl, sym, ◌∙◌, arith, length-append, length-take, length-drop}
use Rattle.std.proofs.KnownBytes.{Consumes-nil, Consumes-trans}
use Rattle.std.specs.Io.KnownBytes.{Consumes, Keeps}
use Rattle.std.specs.Prelude.{IsErrAnd}
use Rattle.lines.specs.declared.fault.ReadFault.{ReadFault}
use Rattle.lines.specs.declared.input.Input.{Input}
use Rattle.lines.specs.Inside.Input.{HasAccount}
use Rattle.lines.specs.Rounds.{HasRead}

-- nothing is read
pub HasRead-none : (a : Option (List ℕ)) (n : ℕ) → HasRead a a n n
HasRead-none a n = record { bytes = []; lost = Consumes-nil a; count = omega arith }

-- a read that failed
pub HasRead-kept : (a b : Option (List ℕ)) (n : ℕ) → Keeps a b → HasRead a b n n
HasRead-kept None b n kept = record { bytes = []; lost = tt; count = omega arith }
HasRead-kept (Some x) None n kept = absurd kept
HasRead-kept (Some x) (Some y) n kept = record { bytes = []; lost = sym kept; count = omega arith }

-- a read that gave bytes
pub HasRead-some : (a b : Option (List ℕ)) (s : List ℕ) (at count n after : ℕ) → at + count ≤ length s → Consumes a b (take count (drop at s)) → after ≡ n + count → HasRead a b n after
HasRead-some a b s at count n after fits lost e = record {
  bytes = take count (drop at s);
  lost = lost;
  count = omega (arith, e, fits, length-take count (drop at s), length-drop at s);
}

-- one read behind another
pub HasRead-trans : (a b c : Option (List ℕ)) (k m n : ℕ) → HasRead a b k m → HasRead b c m n → HasRead a c k n
HasRead-trans a b c k m n p q = record {
  bytes = p.bytes ++ q.bytes;
  lost = Consumes-trans a b c p.bytes q.bytes p.lost q.lost;
  count = omega (arith, p.count, q.count, length-append p.bytes q.bytes);
}

-- what is a fault is no success
pub not-ok : {T E A : Type 0} (P : E → Type 0) (r : Result T E) → IsErrAnd r P → IsOk r → A
not-ok P (Ok x) is ok = absurd is
not-ok P (Err e) is ok = let wrong = ok in absurd cc

-- a call behind one that succeeded
pub HasAccount-trans : {R T U V : Type 0} (remaining : R → Option (List ℕ)) (a b c : Input R) (x : T) (y : Result U ReadFault) (z : Result V ReadFault) → (IsErr z → IsErr y) → (IsOk z → IsOk y)
    → HasAccount remaining a (Ok x) b → HasAccount remaining b y c → HasAccount remaining a z c
HasAccount-trans remaining a b c x y z failed well p q = record {
  size = q.size ∙ p.size;
  read = HasRead-trans (remaining a.source.reader) (remaining b.source.reader) (remaining c.source.reader) a.source.taken b.source.taken c.source.taken p.read q.read;
  cause = λ h. q.cause (failed h);
  told = λ h. q.told (well h) ∙ p.told refl;
}
