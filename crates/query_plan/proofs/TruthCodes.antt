-- Truth values as numbers, by which equations of them are propositions.
use Rattle.std.specs.Prelude.{◌≡◌, ℕ, zero, suc, List, refl}
use Rattle.std.specs.Coded.{Coded, Coded-set, code_by, coded_list, coded_ℕ}
use Rattle.semantics.specs.declared.truth.Truth.{Truth}
use Rattle.semantics.specs.declared.truth.Truth.TheVariants.{True, Unknown, False}

abbrev number : Truth → ℕ
number False = 0
number Unknown = 1
number True = 2

abbrev of_number : ℕ → Truth
of_number zero = False
of_number (suc zero) = Unknown
of_number (suc (suc _)) = True

of_number-number : (t : Truth) → of_number (number t) ≡ t
of_number-number False = refl
of_number-number Unknown = refl
of_number-number True = refl

coded_truth : Coded Truth
coded_truth = code_by ℕ coded_ℕ number of_number of_number-number

-- an equation of two truth values is a proposition
pub truths-same : (t u : Truth) → IsProp (t ≡ u)
truths-same t u = Coded-set coded_truth t u

-- so is one of two lists of them
pub all-truths-same : (ts us : List Truth) → IsProp (ts ≡ us)
all-truths-same ts us = Coded-set (coded_list coded_truth) ts us
