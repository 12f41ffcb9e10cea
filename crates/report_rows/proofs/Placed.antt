-- The codes of keys, one after the other, and the code of a row.
use Rattle.std.proofs.Common.{◌≡◌, ◌∙◌, ◌+◌, ◌<◌, ◌++◌, ℕ, List, [], ◌∷◌, drop, get_or, length, map, OnOk, Result, Ok, Err, append_assoc, ap, sym}
use Rattle.std.proofs.lemmas.List.{at_drop_more}
use Rattle.semantics.specs.ResultRows.{ResultRow}
use Rattle.semantics.specs.Values.{Datum}
use Rattle.sort_keys.specs.Codes.{index_code, values_code}
use Rattle.report_rows.specs.declared.coded_key.CodedKey.{CodedKey}
use Rattle.report_rows.specs.Inside.SortEntries.{CodedForm, coded_code, coded_form, keys_code, row_code}

-- the keys from a place on are the one there and those behind it
pub keys-next : (keys : List CodedKey) (place : ℕ) (key : CodedKey) → place < length keys → key ≡ get_or keys place key → drop place keys ≡ key ∷ drop (place + 1) keys
keys-next keys place key within here = at_drop_more (λ (ks : List CodedKey). ks) keys place key within ∙ ap (λ (k : CodedKey). k ∷ drop (place + 1) keys) (sym here)

-- one code more
pub code-next : (row : ResultRow) (all front new : List ℕ) (keys : List CodedKey) (place : ℕ) (key : CodedKey) → drop place keys ≡ key ∷ drop (place + 1) keys
    → new ≡ front ++ coded_code row (coded_form key) → front ++ keys_code row (map coded_form (drop place keys)) ≡ all
    → new ++ keys_code row (map coded_form (drop (place + 1) keys)) ≡ all
code-next row all front new keys place key here made so =
    let rest : List ℕ = keys_code row (map coded_form (drop (place + 1) keys)) in
    ap (λ (s : List ℕ). s ++ rest) made
    ∙ append_assoc front (coded_code row (coded_form key)) rest
    ∙ sym (ap (λ (ks : List CodedKey). front ++ keys_code row (map coded_form ks)) here)
    ∙ so

-- the code of a row, which is put together part by part
pub row-whole : (cs : List CodedForm) (row : ResultRow) (key : List Datum) (s0 s1 s2 s3 s4 : List ℕ) → s0 ≡ [] → s1 ≡ s0 ++ keys_code row cs → s2 ≡ s1 ++ index_code row.0 → s3 ≡ s2 ++ values_code key → s4 ≡ s3
    → key ≡ row.1.key → s4 ≡ row_code cs row
row-whole cs row key s0 s1 s2 s3 s4 none first second third last same_key =
    last
    ∙ third
    ∙ ap (λ (s : List ℕ). s ++ values_code key) (second ∙ ap (λ (s : List ℕ). s ++ index_code row.0) (first ∙ ap (λ (s : List ℕ). s ++ keys_code row cs) none))
    ∙ append_assoc (keys_code row cs) (index_code row.0) (values_code key)
    ∙ (λ i. keys_code row cs ++ (index_code row.0 ++ values_code (same_key i)))

-- what holds anyway holds where something was done
pub on-ok : {A B : Type 0} {P : Type 0} (r : Result A B) → P → OnOk r P
on-ok (Ok x) h = h
on-ok (Err e) h = tt
