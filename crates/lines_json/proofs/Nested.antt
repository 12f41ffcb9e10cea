-- Values, items and members by the places where they end.
use Rattle.std.proofs.Common.{◌≡◌, ℕ, ◌+◌, ◌-◌, ◌<◌, ◌≤◌, Bool, true, false, List, ◌∷◌, length, get_or, Option, Some, None, is_some, refl, sym, ap, ◌∙◌, subst, arith}
use Rattle.json.specs.Token.{Token}
use Rattle.json.specs.Lex.{token, colon, Place, fresh, after_value, after_comma, begins_colon, may_begin, may_close, punctuate}
use Rattle.json.specs.Json.{after_end_array, read_key, items, members, value}
use Rattle.json.proofs.Grammar.{closed_array, left, skip_value-shorter, value_is}
use Rattle.serde_json.specs.Data.{Num, Data, null, boolean, number, string, array, object, Items, no_items, item, Members, no_members, put}
use Rattle.serde_json.specs.Read.{number_of, of_items, of_members}
use Rattle.lines_json.specs.Inside.Contents.{AreItemsAt, AreMembersAt, IsNameAt}
use Rattle.lines_json.specs.Meant.{IsValue}
use Rattle.lines_json.specs.Standing.{IsStringOf, IsTokenAt, IsValueAt, lexemes}
use Rattle.lines_json.proofs.Lexemes.{before_end, lexemes-operator, lexemes-string}
use Rattle.lines_json.proofs.Punctuation.{let_through, placed-comma, placed-name, placed-string, punctuate-token}
use Rattle.lines_json.proofs.Meaning.{IsAt, begins, first-array, first-boolean, first-null, first-number, first-object, first-string, item-next, items-closed, member-next, members-closed}

module _ (text : List ℕ) (depth : ℕ) where
  -- ---- values

  -- the tokens from a place on are these
  among : (place : Place) (at : ℕ) (tokens rest : List Token) (d : Data) → punctuate place (lexemes text at) ≡ tokens → IsValue depth tokens d rest → IsValue depth (punctuate place (lexemes text at)) d rest
  among place at tokens rest d e v = subst (λ ts. IsValue depth ts d rest) (sym e) v

  pub value-boolean : (at stop : ℕ) (b : Bool) → IsTokenAt text at stop (Token.boolean b) → IsValueAt text depth at stop
  value-boolean at stop b t = record {
    later = t.later;
    within = t.within;
    meant = boolean b;
    stands = λ _ place may. among place at _ _ (boolean b) (ap (punctuate place) t.stands ∙ punctuate-token place (Token.boolean b) _ ∙ let_through _ _ _ _ may) (first-boolean depth b _);
  }

  pub value-null : (at stop : ℕ) → IsTokenAt text at stop Token.null → IsValueAt text depth at stop
  value-null at stop t = record {
    later = t.later;
    within = t.within;
    meant = null;
    stands = λ _ place may. among place at _ _ null (ap (punctuate place) t.stands ∙ punctuate-token place Token.null _ ∙ let_through _ _ _ _ may) (first-null depth _);
  }

  -- the value of a number that has one
  its_number : (digits : List ℕ) (o : Option Num) → number_of digits ≡ o → is_some o ≡ true → (n : Num) × (number_of digits ≡ Some n)
  its_number digits None e some = absurd (cc)
  its_number digits (Some n) e some = (n, e)

  pub value-number : (at stop : ℕ) (digits : List ℕ) → IsTokenAt text at stop (Token.number digits) → is_some (number_of digits) ≡ true → IsValueAt text depth at stop
  value-number at stop digits t some =
      let n = its_number digits (number_of digits) refl some in
      record {
        later = t.later;
        within = t.within;
        meant = number n.0;
        stands = λ _ place may. among place at _ _ (number n.0) (ap (punctuate place) t.stands ∙ punctuate-token place (Token.number digits) _ ∙ let_through _ _ _ _ may) (first-number depth digits n.0 _ n.1);
      }

  pub value-string : (at quote : ℕ) (bytes : List ℕ) → get_or text at 32 ≡ 34 → IsStringOf text (at + 1) quote bytes → IsValueAt text depth at (quote + 1)
  value-string at quote bytes e s = record {
    later = omega (arith, s.later);
    within = omega (arith, s.within);
    meant = string bytes;
    stands = λ no_name place may. among place at _ _ (string bytes) (ap (punctuate place) (lexemes-string text at quote bytes e s) ∙ placed-string place bytes _ no_name may) (first-string depth bytes _);
  }

  pub value-array : (at stop : ℕ) → get_or text at 32 ≡ 91 → 0 < depth → AreItemsAt text (depth - 1) (at + 1) stop → IsValueAt text depth at stop
  value-array at stop e deep a = record {
    later = omega (arith, a.later);
    within = a.within;
    meant = array a.meant;
    stands = λ _ place may. among place at _ _ (array a.meant) (ap (punctuate place) (lexemes-operator text at 91 refl refl e) ∙ punctuate-token place Token.begin_array _ ∙ let_through _ _ _ _ may)
        (first-array depth _ _ a.meant deep a.stand);
  }

  pub value-object : (at stop : ℕ) → get_or text at 32 ≡ 123 → 0 < depth → AreMembersAt text (depth - 1) (at + 1) stop → IsValueAt text depth at stop
  value-object at stop e deep a = record {
    later = omega (arith, a.later);
    within = a.within;
    meant = object a.meant;
    stands = λ _ place may. among place at _ _ (object a.meant) (ap (punctuate place) (lexemes-operator text at 123 refl refl e) ∙ punctuate-token place Token.begin_object _ ∙ let_through _ _ _ _ may)
        (first-object depth _ _ a.meant deep a.stand);
  }

-- ---- where a value stands first

-- what is behind it is shorter
value-shorter : (depth : ℕ) (tokens rest : List Token) (d : Data) → IsValue depth tokens d rest → length rest < length tokens
value-shorter depth tokens rest d v = skip_value-shorter depth tokens rest (ap left v.parsed)

none_of : {A : Type 0} (o : Option A) → ((a : A) → o ≡ Some a → ⊥) → o ≡ None
none_of None never = refl
none_of (Some a) never = absurd (never a refl)

-- no array is closed
unclosed : (depth : ℕ) (tokens rest : List Token) (d : Data) → IsValue depth tokens d rest → after_end_array tokens ≡ None
unclosed depth tokens rest d v = none_of (after_end_array tokens) (λ behind e. (let none : value depth tokens ≡ None = ap (value depth) (closed_array tokens behind e) ∙ value_is depth (Token.end_array ∷ behind) in cc (none, v.parsed)))

-- ---- items

-- The items from one place to another are passed, and there the tokens go on as they do at a place
-- of the grammar.
pub record IsAmongItems (text : List ℕ) (depth from : ℕ) (place : Place) (at : ℕ) : Type 0 where
  pub later : from ≤ at
  pub within : at ≤ length text
  pub back : Items → Items
  pub passed : IsAt (items (value depth)) (punctuate fresh (lexemes text from)) of_items (punctuate place (lexemes text at)) of_items back

module _ (text : List ℕ) (depth from : ℕ) where
  -- the same at another place, where the same tokens are left
  same_items : (old new : Place) (at next : ℕ) → IsAmongItems text depth from old at → from ≤ next → next ≤ length text → punctuate old (lexemes text at) ≡ punctuate new (lexemes text next) → IsAmongItems text depth from new next
  same_items old new at next s later within e = record {
    later = later;
    within = within;
    back = s.back;
    passed = subst (λ ts. IsAt (items (value depth)) (punctuate fresh (lexemes text from)) of_items ts of_items s.back) e s.passed;
  }

  pub items-begin : (at : ℕ) → from ≤ at → at ≤ length text → lexemes text at ≡ lexemes text from → IsAmongItems text depth from fresh at
  items-begin at later within same = same_items fresh fresh from at first later within (ap (punctuate fresh) (sym same))
    where
      first : IsAmongItems text depth from fresh from
      first = record { later = omega arith; within = omega arith; back = λ ds. ds; passed = begins (items (value depth)) (punctuate fresh (lexemes text from)) of_items }

  pub items-item : (place : Place) (at stop next : ℕ) → IsAmongItems text depth from place at → may_begin place ≡ true → IsValueAt text depth at stop → stop ≤ next → next ≤ length text
      → lexemes text next ≡ lexemes text stop → begins_colon (lexemes text next) ≡ false → IsAmongItems text depth from after_value next
  items-item place at stop next s may v past within same no_name =
      let now = punctuate place (lexemes text at) in
      let rest = punctuate after_value (lexemes text stop) in
      let stands = v.stands (ap begins_colon (sym same) ∙ no_name) place may in
      same_items after_value after_value stop next
      (record {
        later = omega (arith, s.later, v.later);
        within = v.within;
        back = λ ds. s.back (item v.meant ds);
        passed = item-next (value depth) (punctuate fresh (lexemes text from)) now s.back rest v.meant s.passed (unclosed depth now rest v.meant stands) stands (value-shorter depth now rest v.meant stands);
      })
      (omega (arith, s.later, v.later)) within (ap (punctuate after_value) (sym same))

  pub items-comma : (at next : ℕ) → IsAmongItems text depth from after_value at → get_or text at 32 ≡ 44 → at + 1 ≤ next → next ≤ length text → lexemes text next ≡ lexemes text (at + 1)
      → IsAmongItems text depth from after_comma next
  items-comma at next s e past within same =
      same_items after_value after_comma at next s (omega (arith, s.later)) within
      (ap (punctuate after_value) (lexemes-operator text at 44 refl refl e) ∙ placed-comma _ ∙ ap (punctuate after_comma) (sym same))

  pub items-close : (place : Place) (at : ℕ) → IsAmongItems text depth from place at → may_close place ≡ true → get_or text at 32 ≡ 93 → AreItemsAt text depth from (at + 1)
  items-close place at s may e =
      let below : at < length text = before_end text at 93 e refl in
      let now = punctuate place (lexemes text at) in
      let closed : now ≡ Token.end_array ∷ punctuate after_value (lexemes text (at + 1)) =
      ap (punctuate place) (lexemes-operator text at 93 refl refl e) ∙ punctuate-token place Token.end_array _ ∙ let_through _ _ _ _ may in
      record {
        later = omega (arith, s.later);
        within = omega arith;
        meant = s.back no_items;
        stand = items-closed (value depth) (punctuate fresh (lexemes text from)) now s.back _ s.passed (ap after_end_array closed);
      }

-- ---- members

-- The members from one place to another are passed, and `found` is what they mean.
pub record IsAmongMembers (text : List ℕ) (depth from : ℕ) (place : Place) (at : ℕ) : Type 0 where
  pub later : from ≤ at
  pub within : at ≤ length text
  pub found : Members
  pub passed : IsAt (members (value depth)) (punctuate fresh (lexemes text from)) (λ ms. of_members ms no_members) (punctuate place (lexemes text at)) (λ ms. of_members ms found) (λ ms. ms)

module _ (text : List ℕ) where
  pub name-at : (at quote behind start : ℕ) (bytes : List ℕ) → get_or text at 32 ≡ 34 → IsStringOf text (at + 1) quote bytes → quote + 1 ≤ behind → lexemes text behind ≡ lexemes text (quote + 1)
      → get_or text behind 32 ≡ 58 → behind + 1 ≤ start → start ≤ length text → lexemes text start ≡ lexemes text (behind + 1) → IsNameAt text at start
  name-at at quote behind start bytes e s past same c further within again = record {
    later = omega (arith, s.later);
    within = within;
    name = bytes;
    stands = lexemes-string text at quote bytes e s ∙ ap (λ ls. token (Token.string bytes) ∷ ls) (sym same ∙ lexemes-operator text behind 58 refl refl c ∙ ap (λ ls. colon ∷ ls) (sym again));
  }

module _ (text : List ℕ) (depth from : ℕ) where
  same_members : (old new : Place) (at next : ℕ) → IsAmongMembers text depth from old at → from ≤ next → next ≤ length text → punctuate old (lexemes text at) ≡ punctuate new (lexemes text next) → IsAmongMembers text depth from new next
  same_members old new at next s later within e = record {
    later = later;
    within = within;
    found = s.found;
    passed = subst (λ ts. IsAt (members (value depth)) (punctuate fresh (lexemes text from)) (λ ms. of_members ms no_members) ts (λ ms. of_members ms s.found) (λ ms. ms)) e s.passed;
  }

  pub members-begin : (at : ℕ) → from ≤ at → at ≤ length text → lexemes text at ≡ lexemes text from → IsAmongMembers text depth from fresh at
  members-begin at later within same = same_members fresh fresh from at first later within (ap (punctuate fresh) (sym same))
    where
      first : IsAmongMembers text depth from fresh from
      first = record { later = omega arith; within = omega arith; found = no_members; passed = begins (members (value depth)) (punctuate fresh (lexemes text from)) (λ ms. of_members ms no_members) }

  pub members-member : (place : Place) (at start stop next : ℕ) → IsAmongMembers text depth from place at → may_begin place ≡ true → IsNameAt text at start → IsValueAt text depth start stop → stop ≤ next → next ≤ length text
      → lexemes text next ≡ lexemes text stop → begins_colon (lexemes text next) ≡ false → IsAmongMembers text depth from after_value next
  members-member place at start stop next s may n v past within same no_name =
      let now = punctuate place (lexemes text at) in
      let behind = punctuate fresh (lexemes text start) in
      let rest = punctuate after_value (lexemes text stop) in
      let named : now ≡ Token.key n.name ∷ behind = ap (punctuate place) n.stands ∙ placed-name place n.name _ may in
      let stands = v.stands (ap begins_colon (sym same) ∙ no_name) fresh refl in
      same_members after_value after_value stop next
      (record {
        later = omega (arith, s.later, n.later, v.later);
        within = v.within;
        found = put n.name v.meant s.found;
        passed = member-next (value depth) (punctuate fresh (lexemes text from)) now s.found n.name behind rest v.meant s.passed (ap read_key named) stands (value-shorter depth behind rest v.meant stands);
      })
      (omega (arith, s.later, n.later, v.later)) within (ap (punctuate after_value) (sym same))

  pub members-comma : (at next : ℕ) → IsAmongMembers text depth from after_value at → get_or text at 32 ≡ 44 → at + 1 ≤ next → next ≤ length text → lexemes text next ≡ lexemes text (at + 1)
      → IsAmongMembers text depth from after_comma next
  members-comma at next s e past within same =
      same_members after_value after_comma at next s (omega (arith, s.later)) within
      (ap (punctuate after_value) (lexemes-operator text at 44 refl refl e) ∙ placed-comma _ ∙ ap (punctuate after_comma) (sym same))

  pub members-close : (place : Place) (at : ℕ) → IsAmongMembers text depth from place at → may_close place ≡ true → get_or text at 32 ≡ 125 → AreMembersAt text depth from (at + 1)
  members-close place at s may e =
      let below : at < length text = before_end text at 125 e refl in
      let now = punctuate place (lexemes text at) in
      let closed : now ≡ Token.end_object ∷ punctuate after_value (lexemes text (at + 1)) =
      ap (punctuate place) (lexemes-operator text at 125 refl refl e) ∙ punctuate-token place Token.end_object _ ∙ let_through _ _ _ _ may in
      record {
        later = omega (arith, s.later);
        within = omega arith;
        meant = s.found;
        stand = members-closed (value depth) (punctuate fresh (lexemes text from)) now s.found _ s.passed (ap read_key closed);
      }
