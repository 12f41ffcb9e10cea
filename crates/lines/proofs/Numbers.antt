-- A whole number of 64 bits, as a column takes it.
use Rattle.std.proofs.Common.{◌≡◌, ℤ, pos, negsuc, true, cond, FitsSigned, w64, Option, Some, None, option_and_then, to_z, of_z, refl, ap, ◌∙◌, arith}
use Rattle.std.specs.Int.{w128}
use Rattle.std.proofs.lemmas.Bool.Decides.{nat_tests}
use Rattle.std.proofs.lemmas.Int.{to_z-of_z}
use Rattle.serde_json.specs.Data.{Num, number}
use Rattle.serde_json.specs.Find.{as_integer}
use Rattle.semantics.specs.declared.kind.Kind.TheVariants as kind
use Rattle.semantics.specs.Values.{whole}
use Rattle.semantics.specs.Records.{datum_taken, is_int64}
use Rattle.lines.proofs.Fitting.{int64_taken}

is_int64-fits : (z : ℤ) → FitsSigned w64 z → is_int64 z ≡ true
is_int64-fits (pos n) h = grind (arith, nat_tests, h.sfits)
is_int64-fits (negsuc n) h = grind (arith, nat_tests, h.sfits)

pub whole_taken : (o : Option Num) (z : ℤ) → option_and_then as_integer o ≡ Some z → FitsSigned w64 z → (n : Num) × (o ≡ Some n) × (datum_taken kind.Int (number n) ≡ Some (whole z))
whole_taken None z e fits = absurd (cc)
whole_taken (Some n) z e fits = (n, refl, ap (option_and_then int64_taken) e ∙ ap (λ b. cond b (Some (whole z)) None) (is_int64-fits z fits))

-- a number of 64 bits as one of 128
pub widened : (z wide : ℤ) → FitsSigned w64 z → FitsSigned w128 wide → wide ≡ to_z w64 (of_z w64 z) → to_z w128 (of_z w128 wide) ≡ z
widened z wide fits wide_fits is = to_z-of_z w128 wide wide_fits ∙ is ∙ to_z-of_z w64 z fits
