-- The refused lines of an input are such as a reader of parts takes; and how many lines have a
-- record, and what holds of it.
use Rattle.std.proofs.Common.{◌≡◌, ◌<◌, ◌≤◌, ◌+◌, ℕ, Bool, true, false, cond, List, [], ◌∷◌, length, map, filter_map, get_or, option_map, Some, None, Result, Ok, Err, refl, sym, ap, ◌∙◌, arith}
use Rattle.std.proofs.lemmas.Bool.Decides.{nat_tests}
use Rattle.std.proofs.lemmas.List.{length-map}
use Rattle.std.proofs.lemmas.List.Sums.{count_by-le-length, length-filter, position_or_len_is}
use Rattle.std.proofs.lemmas.Slice.Eq.{bytes_eq-Decides}
use Rattle.std.specs.List.{AllByRecursion, enumerate_from, position_or_len}
use Rattle.std.specs.Prelude.{nat_lt, position}
use Rattle.std.specs.Result.{result_err, result_ok}
use Rattle.std.specs.Str.{bytes_eq}
use Rattle.semantics.specs.Canonical.{name_at}
use Rattle.semantics.specs.Columns.{Field, names_of}
use Rattle.semantics.specs.Conditions.{is_kept, kept_records}
use Rattle.semantics.specs.Lines.{lines}
use Rattle.semantics.specs.Records.{Fits, decode_line, refused_lines, valid_records}
use Rattle.semantics.specs.Syntax.{Query}
use Rattle.semantics.specs.Texts.{fault_text}
use Rattle.semantics.specs.Values.{Datum}
use Rattle.semantics.specs.declared.line_fault.LineFault.{LineFault}
use Rattle.semantics.specs.declared.line_fault.LineFault.TheVariants.{TooLong, NoJson, NoObject, BadValue}
use Rattle.values.specs.Schema.{IsSchema}
use Rattle.lines.proofs.Outcomes.{decoded-bad_value, decoded-fits}
use Rattle.tables.proofs.Bags.{all-filter}
use Rattle.parts.specs.ReadingParts.{fault_named}
use Rattle.parts.proofs.Accepted.{AreRefusedFor}
use Rattle.parts.proofs.FaultNames.{column, name-at, name-there, size}

-- ---- what a fault's text names

found-at : {X : Type 0} (test : X → Bool) (xs : List X) (i : ℕ) → i < length xs → position_or_len test xs ≡ i → position test xs ≡ Some i
found-at test xs i within at =
    let there : nat_lt (position_or_len test xs) (length xs) ≡ true = grind (arith, nat_tests, at, within) in
    ap (λ (b : Bool). cond b (Some (position_or_len test xs)) None) there ∙ ap (λ (n : ℕ). Some n) at

module _ (fields : List Field) (schema : IsSchema fields) where
  -- the columns before one have other names
  other-name : (k place : ℕ) → k < place → place < length fields → bytes_eq (name_at fields place) (get_or (names_of fields) k []) ≡ true → ⊥
  other-name k place less there same =
      let names : name_at fields place ≡ get_or (names_of fields) k [] = (bytes_eq-Decides (name_at fields place) (get_or (names_of fields) k [])).0 same in
      schema.names_differ k place column less there
      (sym (name-there fields schema k (omega (arith, less, there))) ∙ sym names ∙ name-at fields schema place ∙ name-there fields schema place there)

  no-other : (b : Bool) → (b ≡ true → ⊥) → b ≡ false
  no-other true h = absurd (h refl)
  no-other false h = refl

  -- a column is the first one of its name
  name-place : (place : ℕ) → place < length fields → position (bytes_eq (name_at fields place)) (names_of fields) ≡ Some place
  name-place place there =
      let within : place < length (names_of fields) = omega (arith, there, size fields schema) in
      found-at (bytes_eq (name_at fields place)) (names_of fields) place within
      (position_or_len_is (bytes_eq (name_at fields place)) (names_of fields) place [] (omega (arith, within))
      (λ k less. no-other (bytes_eq (name_at fields place) (get_or (names_of fields) k [])) (other-name k place less there))
      (λ _. (bytes_eq-Decides (name_at fields place) (get_or (names_of fields) place [])).1 (name-at fields schema place)))

  -- the text of a fault that a line has names it
  named : (line : List ℕ) (fault : LineFault) → decode_line fields line ≡ Err fault → fault_named fields (fault_text fields fault) ≡ Some fault
  named line TooLong e = refl
  named line NoJson e = refl
  named line NoObject e = refl
  named line (BadValue place) e = ap (option_map BadValue) (name-place place (decoded-bad_value fields line place e))

-- ---- the refused lines

abbrev Answer : Type 0
Answer = Result (List Datum) LineFault

-- the refused lines, where the first line has this number
abbrev refused_from : ℕ → List Answer → List (ℕ × LineFault)
refused_from n found = filter_map (λ p. option_map (λ fault. (p.0, fault)) (result_err p.1)) (enumerate_from n found)

-- one line more in front
refused-more : (fields : List Field) (total n last : ℕ) (answer : Answer) (found : List Answer) → last < n → n ≤ total
    → ((fault : LineFault) → answer ≡ Err fault → fault_named fields (fault_text fields fault) ≡ Some fault)
    → ((before : ℕ) → before < n + 1 → AreRefusedFor fields total before (refused_from (n + 1) found))
    → AreRefusedFor fields total last (refused_from n (answer ∷ found))
refused-more fields total n last (Ok r) found above within names more = more last (omega (arith, above))
refused-more fields total n last (Err fault) found above within names more = (above, within, names fault refl, more n (omega arith))

refused-from : (fields : List Field) → IsSchema fields → (total : ℕ) (ls : List (List ℕ)) (n last : ℕ) → last < n → n + length ls ≤ total + 1
    → AreRefusedFor fields total last (refused_from n (map (decode_line fields) ls))
refused-from fields schema total [] n last above within = tt
refused-from fields schema total (l ∷ ls) n last above within =
    refused-more fields total n last (decode_line fields l) (map (decode_line fields) ls) above (omega (arith, within)) (named fields schema l)
    (λ before less. refused-from fields schema total ls (n + 1) before less (omega (arith, within)))

-- the refused lines of an input are such ones of its lines
pub refused-fit : (fields : List Field) → IsSchema fields → (input : List ℕ) → AreRefusedFor fields (length (lines input)) 0 (refused_lines fields input)
refused-fit fields schema input = refused-from fields schema (length (lines input)) (lines input) 1 0 (omega arith) (omega arith)

-- ---- how many lines there are

parted-from : (n : ℕ) (found : List Answer) → length {A = List Datum} (filter_map result_ok found) + length (refused_from n found) ≡ length found
parted-from n [] = omega arith
parted-from n (Ok r ∷ found) = let more = parted-from (n + 1) found in omega (arith, more)
parted-from n (Err fault ∷ found) = let more = parted-from (n + 1) found in omega (arith, more)

-- each line has a record or is refused
pub lines-parted : (fields : List Field) (input : List ℕ) → length (valid_records fields input) + length (refused_lines fields input) ≡ length (lines input)
lines-parted fields input = parted-from 1 (map (decode_line fields) (lines input)) ∙ length-map (lines input) (decode_line fields)

-- what WHERE keeps and what is refused are no more than the lines
pub kept-few : (fields : List Field) (q : Query) (input : List ℕ)
    → length (kept_records fields q (valid_records fields input)) + length (refused_lines fields input) ≤ length (lines input)
kept-few fields q input =
    let records = valid_records fields input in
    let kept = length-filter (is_kept fields q) records in
    let fewer = count_by-le-length (is_kept fields q) records in
    let all = lines-parted fields input in
    omega (arith, kept, fewer, all)

-- ---- what holds of the records

-- where a property holds of each record, it holds of each that WHERE keeps
pub kept-all : (P : List Datum → Type 0) (fields : List Field) (q : Query) (records : List (List Datum)) → AllByRecursion P records → AllByRecursion P (kept_records fields q records)
kept-all P fields q records h = all-filter P (is_kept fields q) records h

valid-more : (P : List Datum → Type 0) (answer : Answer) (found : List Answer) → ((r : List Datum) → answer ≡ Ok r → P r) → AllByRecursion P (filter_map result_ok found)
    → AllByRecursion P (filter_map result_ok (answer ∷ found))
valid-more P (Ok r) found holds more = (holds r refl, more)
valid-more P (Err fault) found holds more = more

valid-fit : (fields : List Field) (ls : List (List ℕ)) → AllByRecursion (Fits fields) (filter_map result_ok (map (decode_line fields) ls))
valid-fit fields [] = tt
valid-fit fields (l ∷ ls) = valid-more (Fits fields) (decode_line fields l) (map (decode_line fields) ls) (decoded-fits fields l) (valid-fit fields ls)

-- the records that WHERE keeps fit their columns
pub records-fit : (fields : List Field) (q : Query) (input : List ℕ) → AllByRecursion (Fits fields) (kept_records fields q (valid_records fields input))
records-fit fields q input = kept-all (Fits fields) fields q (valid_records fields input) (valid-fit fields (lines input))
