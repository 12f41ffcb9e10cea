use Rattle.std.proofs.Common.{rules, ◌≡◌, ◌∷◌, FitsSigned, w64, Some, option_and_then, to_z, of_z, string_bytes, sym, ap, ◌∙◌}
use Rattle.std.specs.Int.{w128}
use Rattle.json.specs.Reads.{token_of}
use Rattle.serde_json.specs.Data.{null, boolean, number, string}
use Rattle.serde_json.specs.Find.{as_integer}
use Rattle.serde_json.specs.Read.{number_of}
use Rattle.semantics.specs.Values.{whole, text}
use Rattle.semantics.specs.Records.{datum_taken}
use Rattle.lines_json.proofs.Meaning.{first-boolean, first-null, first-number, first-string}
use Rattle.lines.proofs.Numbers.{whole_taken, widened}
use Rattle.lines.proofs.Placing.{null_taken}
use Rattle.lines.proofs.tokens.members.take_value.Goals as goal

pub returns-in_default-Null-clause-taken : goal.returns-in_default-Null-clause-taken
returns-in_default-Null-clause-taken c =
    let first = c.in_ok-next.ensures.value ∙ ap (λ k. token_of k ∷ c.next.new.self) c.in_default-Null.is-1 in (
      null,
      rw first (first-null 126 c.next.new.self),
      null_taken c.args.kind,
    )

pub returns-in_ok-number-in-Int-Number-clause-taken :
    goal.returns-in_ok-number-in-Int-Number-clause-taken
returns-in_ok-number-in-Int-Number-clause-taken c =
    let s = c.in-Int-Number.text.now in
    let z = c.in_ok-number-in-Int-Number.number in
    let fits : FitsSigned w64 z = search rules in
    let wide : FitsSigned w128 c.from.result = search rules in
    let same : to_z w128 (of_z w128 c.from.result) ≡ z = widened z c.from.result fits wide c.from.ensures in
    let is : option_and_then as_integer (number_of s) ≡ Some z = rw (← c.as_bytes.ensures.value) c.in_ok-number-in-Int-Number.ensures in
    let n = whole_taken (number_of s) z is fits in
    let first = c.in_ok-next.ensures.value ∙ ap (λ k. token_of k ∷ c.next.new.self) c.in-Int-Number.is-1 in (
      number n.0,
      rw first (first-number 126 s n.0 c.next.new.self n.1),
      ap (λ k. datum_taken k (number n.0)) c.in-Int-Number.is-0 ∙ n.2 ∙ ap (λ x. Some (whole x)) (sym same),
    )

pub returns-in_ok-copy-in-Text-String-clause-taken :
    goal.returns-in_ok-copy-in-Text-String-clause-taken
returns-in_ok-copy-in-Text-String-clause-taken c =
    let s = c.in-Text-String.text.now in
    let first = c.in_ok-next.ensures.value ∙ ap (λ k. token_of k ∷ c.next.new.self) c.in-Text-String.is-1 in
    let copied : string_bytes c.in_ok-copy-in-Text-String.field-0 ≡ s = c.in_ok-copy-in-Text-String.ensures in (
      string s,
      rw first (first-string 126 s c.next.new.self),
      ap (λ k. datum_taken k (string s)) c.in-Text-String.is-0 ∙ ap (λ x. Some (text x)) (sym copied),
    )

pub returns-in-Bool-Bool-clause-taken : goal.returns-in-Bool-Bool-clause-taken
returns-in-Bool-Bool-clause-taken c =
    let b = c.in-Bool-Bool.truth in
    let first = c.in_ok-next.ensures.value ∙ ap (λ k. token_of k ∷ c.next.new.self) c.in-Bool-Bool.is-1 in (
      boolean b,
      rw first (first-boolean 126 b c.next.new.self),
      ap (λ k. datum_taken k (boolean b)) c.in-Bool-Bool.is-0,
    )
