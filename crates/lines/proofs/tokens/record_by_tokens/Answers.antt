use Rattle.std.proofs.Common.{◌≡◌, [], ◌∷◌, Some, Ok, sym, ap, ◌∙◌, arith}
use Rattle.json.specs.Token.{Token}
use Rattle.json.specs.Lex.{tokens}
use Rattle.json.specs.Reads.{token_of}
use Rattle.serde_json.specs.Data.{object}
use Rattle.serde_json.specs.Read.{read}
use Rattle.values.specs.Datum.{data_of}
use Rattle.values.specs.Schema.{fields_of}
use Rattle.lines_json.specs.Meant.{AreMembers}
use Rattle.lines_json.proofs.Meaning.{first-object, read-one}
use Rattle.lines.proofs.Fitting.{fits-taken}
use Rattle.lines.proofs.Readings.{decoded-taken}
use Rattle.lines.proofs.tokens.record_by_tokens.Goals as goal

pub returns-in-None-clause-ok : goal.returns-in-None-clause-ok
returns-in-None-clause-ok c =
    let found = c.in_ok-values.ensures.taken in
    let r = c.next.new.self in
    let whole : c.in_ok-reader.reader ≡ tokens c.args.line.now = grind arith in
    let first : c.in_ok-reader.reader ≡ Token.begin_object ∷ r = c.in_ok-next.ensures.value ∙ ap (λ k. token_of k ∷ r) c.in-BeginObject.is in
    let all : tokens c.args.line.now ≡ Token.begin_object ∷ r = sym whole ∙ first in
    let last : AreMembers 126 r found.0 [] = rw (← c.in-None.ensures.value.0) found.1 in
    let is : read c.args.line.now ≡ Some (object found.0) = read-one c.args.line.now (object found.0) (rw all (first-object 127 r [] found.0 (omega arith) last)) in
    decoded-taken c.args.schema.now c.args.line.now c.columns.result.now c.in_ok-values.values.items found.0 c.requires c.utf8.line is c.columns.ensures.columns found.2 ∙ ap (λ d. Ok d) (sym c.new-in-None.ensures.values)

pub returns-in-None-clause-fits : goal.returns-in-None-clause-fits
returns-in-None-clause-fits c =
    let found = c.in_ok-values.ensures.taken in
    rw (c.new-in-None.ensures.values, ← c.columns.ensures.columns) (fits-taken (fields_of c.columns.result.now) found.0 (data_of c.in_ok-values.values.items) found.2)
