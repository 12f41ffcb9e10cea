use Rattle.std.proofs.Common.{◌≢◌, [], subst}
use Rattle.std.proofs.lemmas.Result.{err_from_is_err_and}
use Rattle.semantics.specs.Columns.{Field}
use Rattle.std.specs.Prelude.{List, ℕ, IsTrue, string_bytes}
use Rattle.std.specs.Str.{is_utf8}
use Rattle.semantics.specs.Canonical.{canonical_text}
use Rattle.values.specs.Schema.{IsSchema}
use Rattle.part_lines.proofs.Spellings.{utf8-held}
use Rattle.parts.specs.Inside.Reader.{IsKnown, stream_of}
use Rattle.parts.proofs.Answering.{known-all, known-fault, known-stands}
use Rattle.parts.proofs.Takes.{known-taken, none-given}
use Rattle.parts.proofs.join.read_parts.Goals as goal

pub returns-in_err-first-clause-answers : goal.returns-in_err-first-clause-answers
returns-in_err-first-clause-answers g c =
    let reader = c.in_ok-reader.reader in
    let p = err_from_is_err_and c.from_residual-in_err-first.result c.from_residual-in_err-first.ensures.1 in
    let some : IsKnown reader → (stream_of reader).left ≢ [] = λ known e. let none = (c.in_ok-has_line.ensures.none known).1 e in absurd cc in
    rw (p.1, p.2)
    (known-fault c.args.plan.now reader c.has_line.new.self c.in_ok-has_line.ensures.same some (g.R.Read.remaining c.args.reader) c.in_err-first.field-0.0 c.in_ok-reader.ensures.left c.in_ok-reader.ensures.line
    (λ known. c.in_err-first.ensures.read (c.in_ok-has_line.ensures.known known)))

pub returns-clause-answers : goal.returns-clause-answers
returns-clause-answers g c =
    let reader = c.in_ok-reader.reader in
    let first = c.in_ok-first.ensures in
    let some : IsKnown reader → (stream_of reader).left ≢ [] = λ known e. let none = (c.in_ok-has_line.ensures.none known).1 e in absurd cc in
    known-all c.args.plan.now reader c.has_line.new.self c.in_ok-has_line.ensures.same some c.contents_law.ensures (g.R.Read.remaining c.args.reader) c.in_ok-first.first c.next_numbered.new.reader c.join_rest.result c.in_ok-reader.ensures.left c.in_ok-reader.ensures.line
    first.sound first.one (λ known. first.read (c.in_ok-has_line.ensures.known known)) (λ known. c.join_rest.ensures.joins (first.known (c.in_ok-has_line.ensures.known known)))

pub returns-clause-stands : goal.returns-clause-stands
returns-clause-stands g c =
    let schema : IsSchema c.args.plan.now.fields = subst (λ (fields : List Field). IsSchema fields) c.schema.ensures.schema c.columns-columns.ensures.schema in
    known-stands c.args.plan.now (g.R.Read.remaining c.args.reader) c.join_rest.result schema (returns-clause-answers g c)

pub returns-then-not-branch-clause-takes : goal.returns-then-not-branch-clause-takes
returns-then-not-branch-clause-takes g c =
    none-given c.args.plan.now c.in_ok-reader.reader (g.R.Read.remaining c.args.reader) c.in_ok-reader.ensures.left (λ known. (c.in_ok-has_line.ensures.none known).0 c.if-not-branch.true)

pub returns-in_err-first-clause-takes : goal.returns-in_err-first-clause-takes
returns-in_err-first-clause-takes g c =
    let header = c.in_ok-header.header in
    let schema : IsSchema c.args.plan.now.fields = subst (λ (fields : List Field). IsSchema fields) c.schema.ensures.schema c.columns-columns.ensures.schema in
    let utf8 : IsTrue (is_utf8 (canonical_text c.args.plan.now.query)) = subst (λ (t : List ℕ). IsTrue (is_utf8 t)) c.in_ok-header.ensures.query (utf8-held (string_bytes header.query) header.query.ok) in
    known-taken c.args.plan.now (g.R.Read.remaining c.args.reader) c.from_residual-in_err-first.result schema utf8 (returns-in_err-first-clause-answers g c)

pub returns-clause-takes : goal.returns-clause-takes
returns-clause-takes g c =
    let header = c.in_ok-header.header in
    let schema : IsSchema c.args.plan.now.fields = subst (λ (fields : List Field). IsSchema fields) c.schema.ensures.schema c.columns-columns.ensures.schema in
    let utf8 : IsTrue (is_utf8 (canonical_text c.args.plan.now.query)) = subst (λ (t : List ℕ). IsTrue (is_utf8 t)) c.in_ok-header.ensures.query (utf8-held (string_bytes header.query) header.query.ok) in
    known-taken c.args.plan.now (g.R.Read.remaining c.args.reader) c.join_rest.result schema utf8 (returns-clause-answers g c)
