-- `is_decided` of IsAnswer follows from the other clauses of IsRun.
use Rattle.std.proofs.Common.{◌≡◌, ◌<◌, ℕ, List, length, Option, Some, None, Result, Ok, Err, refl, subst, arith}
use Rattle.std.specs.Prelude.{◌↔◌, IfErr, IfOk, IfSome, IsOk}
use Rattle.semantics.specs.Columns.{Field}
use Rattle.semantics.specs.Records.{refused_lines}
use Rattle.semantics.specs.Run.{IsResourceFault, IsWithin, Leaves}
use Rattle.semantics.specs.Syntax.{Query}
use Rattle.semantics.specs.declared.run_done.Done.{Done}
use Rattle.semantics.specs.declared.run_fault.RunFault.{RunFault}
use Rattle.semantics.specs.declared.run_fault.RunFault.TheVariants.{Reading, OutOfMemory, ThreadNotStarted, TooManyRefused, WritingReport, WritingRefused, WritingPart}

over : (limit : Option ℕ) (most : ℕ) (fields : List Field) (known : Option (List ℕ)) → limit ≡ Some most → IfSome known (λ input. most < length (refused_lines fields input))
    → IfSome known (λ input. IsOk {T = Done} {E = RunFault} (Err (TooManyRefused most)) ↔ IsWithin limit (length (refused_lines fields input)))
over limit most fields None is more = tt
over limit most fields (Some input) is more =
    (λ no. let wrong = no in absurd cc, λ few. let at_most = subst (λ (x : Option ℕ). IsWithin x (length (refused_lines fields input))) is few in absurd (omega (arith, more, at_most)))

pub decided : (result : Result Done RunFault) (limit : Option ℕ) (fields : List Field) (q : Query) (input out_old out_new err_old err_new : Option (List ℕ))
    → IfOk result (λ done. IfSome input (λ bytes. done.refused ≡ length (refused_lines fields bytes)))
    → IfOk result (λ done. IsWithin limit done.refused)
    → IfErr result (λ fault. Leaves fault limit fields q input out_old out_new err_old err_new)
    → IfErr result (λ fault. IsResourceFault fault → ⊥) → IfSome input (λ bytes. IsOk result ↔ IsWithin limit (length (refused_lines fields bytes)))
decided (Ok done) limit fields q None oo on eo en counts within leaves free = tt
decided (Ok done) limit fields q (Some bytes) oo on eo en counts within leaves free = (λ _. subst (IsWithin limit) counts within, λ _. refl)
decided (Err Reading) limit fields q input oo on eo en counts within leaves free = absurd (free tt)
decided (Err OutOfMemory) limit fields q input oo on eo en counts within leaves free = absurd (free tt)
decided (Err ThreadNotStarted) limit fields q input oo on eo en counts within leaves free = absurd (free tt)
decided (Err (TooManyRefused most)) limit fields q input oo on eo en counts within leaves free = over limit most fields input leaves.0 leaves.1
decided (Err WritingReport) limit fields q input oo on eo en counts within leaves free = absurd (free tt)
decided (Err WritingRefused) limit fields q input oo on eo en counts within leaves free = absurd (free tt)
decided (Err WritingPart) limit fields q input oo on eo en counts within leaves free = absurd (free tt)
