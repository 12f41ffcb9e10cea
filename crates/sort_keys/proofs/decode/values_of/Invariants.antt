use Rattle.std.proofs.Common.{◌≡◌, ◌++◌, List, length}
use Rattle.std.specs.List.{AllByRecursion}
use Rattle.semantics.specs.Values.{Datum}
use Rattle.values.specs.Datum.{data_of}
use Rattle.sort_keys.specs.Codes.{values_code}
use Rattle.sort_keys.specs.Decoding.{IsStorable}
use Rattle.sort_keys.proofs.decode.values_of.Given as goal

-- the values so far, with those that the rest is the code of, are the key
abbrev pub invariant-loop-rest : goal.invariant-loop-rest
invariant-loop-rest l = (key : List Datum) → AllByRecursion IsStorable key → l.fn.code ≡ values_code key
    → (left : List Datum) × AllByRecursion IsStorable left × (l.rest ≡ values_code left) × (data_of l.values.items ++ left ≡ key)

-- the bytes that are left
abbrev pub decreases-loop-rest : goal.decreases-loop-rest
decreases-loop-rest l = length l.rest
