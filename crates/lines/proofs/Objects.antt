-- An object by its bytes: its members, one after another, and what the columns take of them.
use Rattle.std.proofs.Common.{◌≡◌, ℕ, ◌+◌, ◌<◌, ◌≤◌, true, false, List, [], ◌∷◌, length, get_or, Some, None, String, Global, string_bytes, refl, sym, ap, ◌∙◌, arith}
use Rattle.std.proofs.lemmas.List.{get_or_default}
use Rattle.std.proofs.lemmas.Str.{IsCharBoundary-after_ascii}
use Rattle.std.specs.Str.{IsCharBoundary, IsUtf8}
use Rattle.json.specs.Token as token
use Rattle.json.specs.Token.{Token}
use Rattle.json.specs.Lex.{Place, fresh, after_value, after_comma, begins_colon, may_begin, punctuate, tokens}
use Rattle.json.specs.Json.{members, read_key, value}
use Rattle.json.proofs.Grammar.{left, skip_value-shorter}
use Rattle.serde_json.specs.Data.{Data, Members, no_members, object, put, string}
use Rattle.serde_json.specs.Read.{of_members, read}
use Rattle.lines_json.specs.Meant.{AreMembers, IsValue}
use Rattle.lines_json.specs.Standing.{IsStringOf, IsTokenAt, lexemes}
use Rattle.lines_json.proofs.Lexemes.{before_end, lexemes-operator}
use Rattle.lines_json.proofs.Punctuation.{placed-comma, placed-name}
use Rattle.lines_json.proofs.Meaning.{IsAt, begins, first-object, first-string, member-next, members-closed, read-one}
use Rattle.values.specs.declared.schema.Column.{Column}
use Rattle.values.specs.declared.value.Value.{Value}
use Rattle.values.specs.declared.value.Value.TheVariants as value_of
use Rattle.values.specs.Datum.{datum_of}
use Rattle.semantics.specs.declared.kind.Kind.{Kind}
use Rattle.semantics.specs.declared.kind.Kind.TheVariants as kind
use Rattle.semantics.specs.Values as datum
use Rattle.semantics.specs.Records.{datum_taken}
use Rattle.lines.specs.Inside.Members.{AreMembersAt, AreTaken, IsMemberAt, IsTakenAt}
use Rattle.lines.proofs.Lexing.{IsPlaced, lexed-end, lexed-whole, placed-closing, placed-empty, placed-end, placed-opening, placed-string, string-token}

-- a column takes a value that is one token
pub token-taken : (text : List ℕ) (kind : Kind) (at stop : ℕ) (v : Value) (t : Token) (d : Data) → IsTokenAt text at stop t → IsPlaced t → ((rest : List Token) → IsValue 126 (t ∷ rest) d rest) → datum_taken kind d ≡ Some (datum_of v)
    → IsTakenAt text kind at stop v
token-taken text kind at stop v t d s placed first taken = record {
  value = record {
    later = s.later;
    within = s.within;
    meant = d;
    stands = λ apart place may. rw (s.stands, placed place (lexemes text stop) may apart) (first (punctuate after_value (lexemes text stop)));
  };
  taken = taken;
}

-- behind a quote a text may be cut
pub quote-boundary : (bytes : List ℕ) (at : ℕ) → IsUtf8 bytes → get_or bytes at 32 ≡ 34 → IsCharBoundary bytes (at + 1)
quote-boundary bytes at utf8 opens =
    let within : at < length bytes = before_end bytes at 34 opens refl in
    IsCharBoundary-after_ascii bytes at utf8 within (omega (arith, opens, get_or_default bytes at 0 32 within))

-- a column of texts takes a string
pub text-taken : (bytes : List ℕ) (at quote : ℕ) (content : List ℕ) (s : String Global) → get_or bytes at 32 ≡ 34 → IsStringOf bytes (at + 1) quote content → string_bytes s ≡ content → IsTakenAt bytes kind.Text at (quote + 1) (value_of.Text s)
text-taken bytes at quote content s opens stands is =
    token-taken bytes kind.Text at (quote + 1) (value_of.Text s) (token.string content) (string content) (string-token bytes at quote content opens stands) (placed-string content) (λ rest. first-string 126 content rest) (ap (λ x. Some (datum.text x)) (sym is))

-- a loop over the members of an object whose tokens begin at `first` is at `now`, and those so far
-- are `found`
abbrev pub IsAmong : (first now : List Token) → Members → Type 0
IsAmong first now found = IsAt (members (value 126)) first (λ ms. of_members ms no_members) now (λ ms. of_members ms found) (λ ms. ms)

-- The members of an object from behind its brace on up to a place where another one may stand, and
-- the columns take these values of them.
pub record AreMembersUpTo (text : List ℕ) (from at : ℕ) (columns : List Column) (values : List Value) : Type 0 where
  pub within : at ≤ length text
  pub place : Place
  pub may : may_begin place ≡ true
  pub found : Members
  pub among : IsAmong (punctuate fresh (lexemes text from)) (punctuate place (lexemes text at)) found
  pub taken : AreTaken columns values found

-- one member more, and what is behind it
record AreMembersBehind (text : List ℕ) (from stop : ℕ) (columns : List Column) (values : List Value) : Type 0 where
  pub found : Members
  pub among : IsAmong (punctuate fresh (lexemes text from)) (punctuate after_value (lexemes text stop)) found
  pub taken : AreTaken columns values found

module _ (text : List ℕ) (from : ℕ) (columns : List Column) where
  -- no member yet
  pub members-begin : (at : ℕ) (values : List Value) → at ≤ length text → lexemes text at ≡ lexemes text from → AreTaken columns values no_members → AreMembersUpTo text from at columns values
  members-begin at values within same taken = record {
    within = within;
    place = fresh;
    may = refl;
    found = no_members;
    among = rw same (begins (members (value 126)) (punctuate fresh (lexemes text from)) (λ ms. of_members ms no_members));
    taken = taken;
  }

  -- the brace that closes the object stands behind some members
  closed : (stop end : ℕ) (values : List Value) (place : Place) (found : Members) → IsAmong (punctuate fresh (lexemes text from)) (punctuate place (lexemes text stop)) found → AreTaken columns values found → end < length text
      → read_key (punctuate place (lexemes text stop)) ≡ Some (None, punctuate after_value (lexemes text (end + 1))) → AreMembersAt text from (end + 1) columns values
  closed stop end values place found among taken within key = record {
    within = omega arith;
    found = found;
    stand = members-closed (value 126) (punctuate fresh (lexemes text from)) (punctuate place (lexemes text stop)) found (punctuate after_value (lexemes text (end + 1))) among key;
    taken = taken;
  }

  -- an object without members
  pub members-none : (end : ℕ) (values : List Value) → lexemes text end ≡ lexemes text from → AreTaken columns values no_members → get_or text end 32 ≡ 125 → AreMembersAt text from (end + 1) columns values
  members-none end values same taken mark =
      let brace = lexemes-operator text end 125 refl refl mark in
      closed from end values fresh no_members (begins (members (value 126)) (punctuate fresh (lexemes text from)) (λ ms. of_members ms no_members)) taken
      (before_end text end 125 mark refl)
      (ap (λ ls. read_key (punctuate fresh ls)) (sym same ∙ brace) ∙ ap read_key (placed-empty (lexemes text (end + 1))))

  module _ (at stop end : ℕ) (old new : List Value) (so_far : AreMembersUpTo text from at columns old) (m : IsMemberAt text at stop columns old new) (same : lexemes text end ≡ lexemes text stop) where
    -- a member is passed
    passed : begins_colon (lexemes text end) ≡ false → AreMembersBehind text from stop columns new
    passed apart =
        let now = punctuate so_far.place (lexemes text at) in
        let behind = punctuate fresh (lexemes text m.start) in
        let next = punctuate after_value (lexemes text stop) in
        let first : now ≡ token.key m.name ∷ behind = ap (punctuate so_far.place) m.named.stands ∙ placed-name so_far.place m.name (lexemes text m.start) so_far.may in
        let is : IsValue 126 behind m.value.meant next = m.value.stands (ap begins_colon (sym same) ∙ apart) fresh refl in
        record {
          found = put m.name m.value.meant so_far.found;
          among = member-next (value 126) (punctuate fresh (lexemes text from)) now so_far.found m.name behind next m.value.meant so_far.among (ap read_key first) is (skip_value-shorter 126 behind next (ap left is.parsed));
          taken = m.takes so_far.found so_far.taken;
        }

    -- a comma stands behind a member
    pub members-more : (j : ℕ) → get_or text end 32 ≡ 44 → j ≤ length text → lexemes text j ≡ lexemes text (end + 1) → AreMembersUpTo text from j columns new
    members-more j mark within again =
        let comma_there = lexemes-operator text end 44 refl refl mark in
        let b = passed (ap begins_colon comma_there) in
        let on : punctuate after_value (lexemes text stop) ≡ punctuate after_comma (lexemes text j) =
        ap (punctuate after_value) (sym same ∙ comma_there) ∙ placed-comma (lexemes text (end + 1)) ∙ ap (punctuate after_comma) (sym again) in
        record {
          within = within;
          place = after_comma;
          may = refl;
          found = b.found;
          among = rw (← on) b.among;
          taken = b.taken;
        }

    -- the brace that closes the object stands behind a member
    pub members-end : get_or text end 32 ≡ 125 → AreMembersAt text from (end + 1) columns new
    members-end mark =
        let brace = lexemes-operator text end 125 refl refl mark in
        let b = passed (ap begins_colon brace) in
        closed stop end new after_value b.found b.among b.taken (before_end text end 125 mark refl)
        (ap (λ ls. read_key (punctuate after_value ls)) (sym same ∙ brace) ∙ ap read_key (placed-closing (lexemes text (end + 1))))

-- a text that is one object
pub read-members : (text : List ℕ) (brace stop end : ℕ) (columns : List Column) (values : List Value) → lexemes text brace ≡ lexemes text 0 → get_or text brace 32 ≡ 123
    → (all : AreMembersAt text (brace + 1) stop columns values) → lexemes text end ≡ lexemes text stop → length text ≤ end → end ≤ length text → read text ≡ Some (object all.found)
read-members text brace stop end columns values same mark all again past within =
    let opens : tokens text ≡ token.begin_object ∷ punctuate fresh (lexemes text (brace + 1)) =
    ap (punctuate fresh) (lexed-whole text ∙ sym same ∙ lexemes-operator text brace 123 refl refl mark) ∙ placed-opening (lexemes text (brace + 1)) in
    let last : end ≡ length text = omega arith in
    let ends : punctuate after_value (lexemes text stop) ≡ [] = ap (punctuate after_value) (sym again ∙ ap (lexemes text) last ∙ lexed-end text) ∙ placed-end in
    let found : AreMembers 126 (punctuate fresh (lexemes text (brace + 1))) all.found [] = rw (← ends) all.stand in
    read-one text (object all.found) (rw opens (first-object 127 (punctuate fresh (lexemes text (brace + 1))) [] all.found (omega arith) found))
