-- What is read at a place of some lines.
use Rattle.std.proofs.Common.{◌≡◌, ◌+◌, ◌<◌, ◌≤◌, ℕ, List, ◌∷◌, map, drop, length, get_or, Bor, Option, Some, None, Ok, Err, sym, ap, ◌∙◌, subst}
use Rattle.std.proofs.Math.ListN.{drop_of_length-le}
use Rattle.std.proofs.lemmas.List.{drop_more, get_or-map, length-map}
use Rattle.semantics.specs.Values.{Datum}
use Rattle.values.specs.Results.{◌>>=◌}
use Rattle.part_lines.specs.Faults.{ends_too_early, not_a_value}
use Rattle.part_lines.specs.Reading.{Stream, fault_at, first_line, reading_of, value_at, value_or_fault}

abbrev bytes_of : Bor (List ℕ) → List ℕ
bytes_of line = line.now

module _ (lines : List (Bor (List ℕ))) where
  abbrev stream : ℕ → Stream
  stream i = record { left = drop i (map bytes_of lines); place = i }

  at_line : (i : ℕ) (line : Bor (List ℕ)) → i < length lines → line ≡ get_or lines i line → (found : Option Datum) → reading_of line.now ≡ found
      → value_at (stream i) ≡ (value_or_fault found (stream (i + 1)) >>= λ d. Ok (d, stream (i + 1)))
  unfolding value_at
  at_line i line lt is found finds =
      let more = drop_more (map bytes_of lines) i line.now (subst (λ n. i < n) (sym (length-map lines bytes_of)) lt) in
      let here : get_or (map bytes_of lines) i line.now ≡ line.now = get_or-map bytes_of lines i line line.now lt ∙ ap bytes_of (sym is) in
      ap (λ ls. first_line ls i >>= λ l. value_or_fault (reading_of l.0) l.1 >>= λ d. Ok (d, l.1)) (more ∙ ap (λ l. l ∷ drop (i + 1) (map bytes_of lines)) here)
      ∙ ap (λ o. value_or_fault o (stream (i + 1)) >>= λ d. Ok (d, stream (i + 1))) finds

  pub good_line : (i : ℕ) (line : Bor (List ℕ)) → i < length lines → line ≡ get_or lines i line → (d : Datum) → reading_of line.now ≡ Some d
      → value_at (stream i) ≡ Ok (d, stream (i + 1))
  good_line i line lt is d finds = at_line i line lt is (Some d) finds

  pub bad_line : (i : ℕ) (line : Bor (List ℕ)) → i < length lines → line ≡ get_or lines i line → reading_of line.now ≡ None → value_at (stream i) ≡ Err (fault_at not_a_value (stream (i + 1)))
  bad_line i line lt is finds = at_line i line lt is None finds

  pub past_lines : (i : ℕ) → length lines ≤ i → value_at (stream i) ≡ Err (record { line = i + 1; kind = ends_too_early })
  unfolding value_at
  past_lines i le =
      let past = drop_of_length-le (map bytes_of lines) (subst (λ n. n ≤ i) (sym (length-map lines bytes_of)) le) in
      ap (λ ls. first_line ls i >>= λ l. value_or_fault (reading_of l.0) l.1 >>= λ d. Ok (d, l.1)) past
