-- The number that a text is, by what stands behind its sign.
use Rattle.std.proofs.Common.{◌≡◌, ℕ, ◌-◌, ◌==◌, Bool, true, false, cond, List, length, take, drop, slice_index, Option, sym, ap, ◌∙◌, arith, take_all, length-drop}
use Rattle.fast_float.specs.Text.{Parts, minus, scan}
use Rattle.serde_json.specs.Data.{Num}
use Rattle.serde_json.specs.Read.{number_of, number_from}

-- the number, where it is known whether a minus stands first
abbrev by_sign : List ℕ → Bool → Option Num
by_sign s signed = cond signed (number_from true (scan (drop 1 s))) (number_from false (scan s))

module _ (s : List ℕ) (parts : Parts) where
  -- behind a minus
  pub number-behind_minus : true ≡ (slice_index s 0 == minus) → parts ≡ scan (take (length s - 1) (drop 1 s)) → number_of s ≡ number_from true parts
  unfolding number_of
  number-behind_minus first scanned = ap (by_sign s) (sym first) ∙ ap (λ digits. number_from true (scan digits)) (sym (take_all (length s - 1) (drop 1 s) (omega (arith, length-drop 1 s)))) ∙ ap (number_from true) (sym scanned)

  -- where no minus stands first
  pub number-no_minus : false ≡ (slice_index s 0 == minus) → parts ≡ scan s → number_of s ≡ number_from false parts
  unfolding number_of
  number-no_minus first scanned = ap (by_sign s) (sym first) ∙ ap (number_from false) (sym scanned)
