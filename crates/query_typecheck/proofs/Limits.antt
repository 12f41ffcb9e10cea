-- Limits of numbers that are capped.
use Rattle.std.proofs.Common.{◌≡◌, ◌∙◌, ℕ, ◌<◌, nat_lt, Bool, not, min, Result, ap, subst, arith}
use Rattle.std.proofs.lemmas.Bool.Decides.{nat_tests}
use Rattle.semantics.specs.declared.query_fault.QueryFault.TheVariants.{OverLimit}
use Rattle.semantics.specs.declared.query_fault.QueryFault.{QueryFault}
use Rattle.query_typecheck.specs.FirstFaults.{Answers, fault_unless, limit_fault}

-- Whether a capped number is above a limit below the cap is whether the number is.
capped_limit : (most n m : ℕ) → most < m → nat_lt most (min n m) ≡ nat_lt most n
capped_limit most n m h = grind (arith, nat_tests)

-- So it is over such a limit where the number is.
limit_of_capped : (most n : ℕ) → most < 18446744073709551615 → limit_fault most (min n 18446744073709551615) ≡ limit_fault most n
limit_of_capped most n h = ap (λ (t : Bool). fault_unless (not t) OverLimit) (capped_limit most n 18446744073709551615 h)

-- An answer to a capped number is one to the number.
pub answers_capped : {X : Type 0} (result : Result X QueryFault) (most count n : ℕ) → most < 18446744073709551615 → count ≡ min n 18446744073709551615 → Answers result (limit_fault most count) → Answers result (limit_fault most n)
answers_capped result most count n h capped answers = subst (Answers result) (ap (limit_fault most) capped ∙ limit_of_capped most n h) answers
