use Rattle.std.proofs.Common.{◌≡◌, ◌∷◌, [], List, ℕ, true, bytes_eq, sym, ap, ◌∙◌}
use Rattle.std.proofs.lemmas.Slice.Eq.{bytes_eq-Decides}
use Rattle.std.specs.String.{string_bytes}
use Rattle.json.specs.Lex.{tokens}
use Rattle.json.specs.Print.{quoted}
use Rattle.json.specs.Reads.{token_of}
use Rattle.json.specs.Token as json
use Rattle.json.specs.Token.{Token}
use Rattle.semantics.specs.Values.{text}
use Rattle.part_lines.specs.LineValues.{IsTextOf}
use Rattle.part_lines.proofs.Spellings.{tokens-text, utf8-held}
use Rattle.part_lines.proofs.line_values.read_escaped_string.Goals as goal

-- the only token of the line of a text is its string
its-tokens : (line s : List ℕ) → IsTextOf line (text s) → tokens line ≡ json.string s ∷ []
its-tokens line s t = ap tokens t.1 ∙ tokens-text (text s) t.0

pub returns-in_default : goal.returns-in_default
returns-in_default c s t =
    let all : json.string s ∷ [] ≡ [] = sym (its-tokens c.args.line.now s t) ∙ sym c.in_ok-reader.ensures.ok ∙ c.in_default.ensures.value.0 in
    absurd (cc all)

pub returns-in_default-string_in : goal.returns-in_default-string_in
returns-in_default-string_in c s t =
    let all : json.string s ∷ [] ≡ token_of c.in-Some.token ∷ c.next.new.self = sym (its-tokens c.args.line.now s t) ∙ sym c.in_ok-reader.ensures.ok ∙ c.in-Some.ensures.value in
    let first : token_of c.in-Some.token ≡ json.string s = cc all in
    c.in_default-string_in.ensures s first

pub returns-then-not-branch : goal.returns-then-not-branch
returns-then-not-branch c s t =
    let all : json.string s ∷ [] ≡ token_of c.in-Some.token ∷ c.next.new.self = sym (its-tokens c.args.line.now s t) ∙ sym c.in_ok-reader.ensures.ok ∙ c.in-Some.ensures.value in
    let found : token_of c.in-Some.token ≡ json.string c.in-Some-string_in.string.now = c.in-Some-string_in.ensures in
    let same : c.in-Some-string_in.string.now ≡ s = cc (all, found) in
    let written : quoted c.in-Some-string_in.string.now ≡ c.args.line.now = ap quoted same ∙ sym t.1 in
    let equal : bytes_eq (quoted c.in-Some-string_in.string.now) c.args.line.now ≡ true = (bytes_eq-Decides _ _).1 written in
    let is = c.in_ok-is_string_of.ensures in
    let other = c.if-not-branch.true in
    absurd (cc (is, equal, other))

pub returns : goal.returns
returns c =
    let is = c.in_ok-is_string_of.ensures in
    let not_other = c.if-not-branch.false in
    let equal : bytes_eq (quoted c.in-Some-string_in.string.now) c.args.line.now ≡ true = cc (is, not_other) in
    let copied : string_bytes c.in_ok-from_str.field-0 ≡ c.in-Some-string_in.string.now = c.in_ok-from_str.ensures.ok in (
      utf8-held (string_bytes c.in_ok-from_str.field-0) c.in_ok-from_str.field-0.ok,
      sym ((bytes_eq-Decides (quoted c.in-Some-string_in.string.now) c.args.line.now).0 equal) ∙ ap quoted (sym copied),
    )
