-- Each text of a record is the content of a string that begins behind a quote of its line.
use Rattle.std.proofs.Common.{◌≡◌, ℕ, suc, ◌+◌, ◌-◌, ◌≤◌, ℤ, Bool, true, false, cond, nat_eq, nat_lt, ◌&&◌, ◌==◌, List, [], ◌∷◌, ◌++◌, length, map, drop, take, Option, Some, None, option_and_then, option_map, Ok, Err, unwrap_or, Ordering, Less, Equal, Greater, IsUtf8, IsTrue, refl, ap, subst, ◌∙◌, arith, nat_cmp, le_trans, length-append}
use Rattle.std.proofs.lemmas.Bool.Decides.{nat_tests}
use Rattle.std.proofs.lemmas.Str.{IsUtf8-from_is_utf8, is_utf8-from_IsUtf8}
use Rattle.std.specs.Prelude.{⊤}
use Rattle.std.specs.List.{AllByRecursion, cons_option, filter_map, position, starts_with}
use Rattle.std.specs.Result.{result_ok}
use Rattle.std.specs.Str.{is_utf8}
use Rattle.std.specs.Option.{is_none, option_map_or}
use Rattle.std.specs.Ordering.{match_ordering}
use Rattle.std.specs.Cmp.Lexicographic.{slice_cmp}
use Rattle.json.specs.Print.{escape, quoted}
use Rattle.json.specs.Token.{Token}
use Rattle.json.specs.Text.{content, plain}
use Rattle.json.specs.Word.{after_number, ends_word, head, is_operator, is_space, literal, number_before, word}
use Rattle.json.specs.Ascii as ascii
use Rattle.json.specs.Lex.{Class, Lexeme, Mode, Place, backslash, begins_colon, between, class, colon, comma, if_allowed, in_escape, in_string, in_word, lex, lex_byte, may_begin, may_close, operator, operator_lexeme, other, place_token, punctuate, quote, space, string_token, token, tokens, after_comma, after_key, after_value, fresh}
use Rattle.json.specs.Json as tree
use Rattle.json.specs.Json.{if_last, value}
use Rattle.json.specs.Tree.{json_tokens, members_tokens}
use Rattle.json.proofs.Unique.Spelling.{value-json_tokens_back}
use Rattle.serde_json.specs.Data as json
use Rattle.serde_json.specs.Data.{Data, Members, Num, member, no_members, put}
use Rattle.serde_json.specs.Find.{as_integer, get_member}
use Rattle.serde_json.specs.Read.{max_depth, number_of, of_items, of_json, of_members, read}
use Rattle.semantics.specs.Columns.{Field}
use Rattle.semantics.specs.Lines.{lines}
use Rattle.semantics.specs.Values.{Datum, boolean, null, text, whole}
use Rattle.semantics.specs.declared.kind.Kind.{Kind}
use Rattle.semantics.specs.declared.kind.Kind.TheVariants as kind
use Rattle.semantics.specs.declared.line_fault.LineFault.TheVariants.{BadValue, TooLong}
use Rattle.semantics.specs.Records.{all_taken, data_taken, datum_taken, decode_line, is_int64, max_line_len, member_of, record_of, valid_records}
use Rattle.parts.proofs.StringContent.{around_ascii, content-short, content-utf8}

-- what holds of a text, where a value is one
abbrev pub TextIs : (List ℕ → Type 0) → Datum → Type 0
TextIs P (text s) = P s
TextIs P (whole n) = ⊤
TextIs P (boolean b) = ⊤
TextIs P null = ⊤

-- what holds of the content of each string that begins behind a quote of the bytes
abbrev pub BehindQuotes : (List ℕ → Type 0) → List ℕ → Type 0
BehindQuotes P xs = (front rest s : List ℕ) → xs ≡ front ++ 34 ∷ rest → content plain rest ≡ Some s → P s

-- ---- tokens

-- of all bytes only the quote is of its class
no_quote : (a b : Bool) → cond a operator (cond b space other) ≡ quote → ⊥
no_quote true b e = cc
no_quote false true e = cc
no_quote false false e = cc

quote-byte : (x : ℕ) → class x ≡ quote → x ≡ 34
quote-byte x e =
    elim (x == 34) as (λ b. (x == 34) ≡ b → cond b quote (cond (x == 92) backslash (cond (is_operator x) operator (cond (is_space x) space other))) ≡ quote → x ≡ 34) [
      | true ↦ λ is f. grind (arith, nat_tests, is)
      | false ↦ λ is f. elim (x == 92) as (λ b. cond b backslash (cond (is_operator x) operator (cond (is_space x) space other)) ≡ quote → x ≡ 34) [
        | true ↦ λ g. absurd cc
        | false ↦ λ g. absurd (no_quote (is_operator x) (is_space x) g)
      ] f
    ] refl e

module _ (P : List ℕ → Type 0) where
  -- what holds of a string, where a token is one
  abbrev TokenIs : Token → Type 0
  TokenIs Token.begin_object = ⊤
  TokenIs Token.end_object = ⊤
  TokenIs Token.begin_array = ⊤
  TokenIs Token.end_array = ⊤
  TokenIs (Token.key s) = ⊤
  TokenIs (Token.string s) = P s
  TokenIs (Token.number s) = ⊤
  TokenIs (Token.boolean b) = ⊤
  TokenIs Token.null = ⊤
  TokenIs Token.bad = ⊤

  abbrev LexemeIs : Lexeme → Type 0
  LexemeIs (token t) = TokenIs t
  LexemeIs comma = ⊤
  LexemeIs colon = ⊤

  either-token : (b : Bool) (t u : Token) → TokenIs t → TokenIs u → TokenIs (cond b t u)
  either-token true t u h k = h
  either-token false t u h k = k

  number_before-held : (t : List ℕ) (o : Option (List ℕ)) → TokenIs (number_before t o)
  number_before-held t None = tt
  number_before-held t (Some rest) = either-token (ends_word rest) (Token.number (take (length t - length rest) t)) Token.bad tt tt

  literal-held : (name : List ℕ) (named : Token) (t : List ℕ) → TokenIs named → TokenIs (literal name named t)
  literal-held name named t h = either-token (starts_with nat_eq t name && ends_word (drop (length name) t)) named Token.bad h tt

  -- a word is no string
  word-held : (t : List ℕ) → TokenIs (word t)
  unfolding word
  word-held t =
      let true_word = literal ascii.true_text (Token.boolean true) t in
      let false_word = literal ascii.false_text (Token.boolean false) t in
      let null_word = literal ascii.null_text Token.null t in
      let number_word = number_before t (after_number t) in
      let no_truth = cond (head t == ascii.lower_n) null_word number_word in
      either-token (head t == ascii.lower_t) true_word (cond (head t == ascii.lower_f) false_word no_truth) (literal-held ascii.true_text (Token.boolean true) t tt)
      (either-token (head t == ascii.lower_f) false_word no_truth (literal-held ascii.false_text (Token.boolean false) t tt)
      (either-token (head t == ascii.lower_n) null_word number_word (literal-held ascii.null_text Token.null t tt) (number_before-held t (after_number t))))

  one_operator-held : (a b c d e : Bool)
      → LexemeIs (cond a (token Token.begin_object) (cond b (token Token.end_object) (cond c (token Token.begin_array) (cond d (token Token.end_array) (cond e comma colon)))))
  one_operator-held true b c d e = tt
  one_operator-held false true c d e = tt
  one_operator-held false false true d e = tt
  one_operator-held false false false true e = tt
  one_operator-held false false false false true = tt
  one_operator-held false false false false false = tt

  operator-held : (x : ℕ) → LexemeIs (operator_lexeme x)
  operator-held x = one_operator-held (x == ascii.open_brace) (x == ascii.close_brace) (x == ascii.open_bracket) (x == ascii.close_bracket) (x == ascii.comma)

  string-held : (o : Option (List ℕ)) → ((s : List ℕ) → o ≡ Some s → P s) → TokenIs (string_token o)
  string-held None h = tt
  string-held (Some s) h = h s refl

  -- a byte of this class, and what is read behind it
  lex_byte-held : (m : Mode) (c : Class) (x : ℕ) (xs : List ℕ) (k : Mode → List Lexeme) → (c ≡ quote → (s : List ℕ) → content plain xs ≡ Some s → P s)
      → ((next : Mode) → AllByRecursion LexemeIs (k next)) → AllByRecursion LexemeIs (lex_byte m c x xs k)
  lex_byte-held between quote x xs k h more = (string-held (content plain xs) (h refl), more in_string)
  lex_byte-held between backslash x xs k h more = (tt, more in_word)
  lex_byte-held between operator x xs k h more = (operator-held x, more between)
  lex_byte-held between space x xs k h more = more between
  lex_byte-held between other x xs k h more = (word-held (x ∷ xs), more in_word)
  lex_byte-held in_word quote x xs k h more = more in_word
  lex_byte-held in_word backslash x xs k h more = more in_word
  lex_byte-held in_word operator x xs k h more = (operator-held x, more between)
  lex_byte-held in_word space x xs k h more = more between
  lex_byte-held in_word other x xs k h more = more in_word
  lex_byte-held in_string quote x xs k h more = more between
  lex_byte-held in_string backslash x xs k h more = more in_escape
  lex_byte-held in_string operator x xs k h more = more in_string
  lex_byte-held in_string space x xs k h more = more in_string
  lex_byte-held in_string other x xs k h more = more in_string
  lex_byte-held in_escape quote x xs k h more = more in_string
  lex_byte-held in_escape backslash x xs k h more = more in_string
  lex_byte-held in_escape operator x xs k h more = more in_string
  lex_byte-held in_escape space x xs k h more = more in_string
  lex_byte-held in_escape other x xs k h more = more in_string

  lex-held : (m : Mode) (xs : List ℕ) → BehindQuotes P xs → AllByRecursion LexemeIs (lex m xs)
  unfolding lex
  lex-held m [] h = tt
  lex-held m (x ∷ xs) h =
      lex_byte-held m (class x) x xs (λ next. lex next xs)
      (λ is s e. h [] xs s (ap (λ y. y ∷ xs) (quote-byte x is)) e)
      (λ next. lex-held next xs (λ front rest s e. h (x ∷ front) rest s (ap (λ l. x ∷ l) e)))

  if_allowed-held : (b : Bool) (t : Token) (k : Place → List Token) (next : Place) → TokenIs t → AllByRecursion TokenIs (k next) → AllByRecursion TokenIs (if_allowed b t k next)
  if_allowed-held true t k next h more = (h, more)
  if_allowed-held false t k next h more = (tt, tt)

  place_token-held : (p : Place) (t : Token) (before_colon : Bool) (k : Place → List Token) → TokenIs t → ((next : Place) → AllByRecursion TokenIs (k next))
      → AllByRecursion TokenIs (place_token p t before_colon k)
  place_token-held p Token.begin_object before k h more = if_allowed-held (may_begin p) _ k _ tt (more _)
  place_token-held p Token.end_object before k h more = if_allowed-held (may_close p) _ k _ tt (more _)
  place_token-held p Token.begin_array before k h more = if_allowed-held (may_begin p) _ k _ tt (more _)
  place_token-held p Token.end_array before k h more = if_allowed-held (may_close p) _ k _ tt (more _)
  place_token-held p (Token.key s) before k h more = (tt, tt)
  place_token-held p (Token.string s) true k h more = if_allowed-held (may_begin p) _ k _ tt (more _)
  place_token-held p (Token.string s) false k h more = if_allowed-held (may_begin p) _ k _ h (more _)
  place_token-held p (Token.number s) before k h more = if_allowed-held (may_begin p) _ k _ tt (more _)
  place_token-held p (Token.boolean b) before k h more = if_allowed-held (may_begin p) _ k _ tt (more _)
  place_token-held p Token.null before k h more = if_allowed-held (may_begin p) _ k _ tt (more _)
  place_token-held p Token.bad before k h more = (tt, tt)

  punctuate-held : (p : Place) (ls : List Lexeme) → AllByRecursion LexemeIs ls → AllByRecursion TokenIs (punctuate p ls)
  unfolding punctuate
  punctuate-held fresh [] h = tt
  punctuate-held after_value [] h = tt
  punctuate-held after_comma [] h = (tt, tt)
  punctuate-held after_key [] h = (tt, tt)
  punctuate-held fresh (token t ∷ ls) h = place_token-held fresh t (begins_colon ls) (λ next. punctuate next ls) h.0 (λ next. punctuate-held next ls h.1)
  punctuate-held after_value (token t ∷ ls) h = place_token-held after_value t (begins_colon ls) (λ next. punctuate next ls) h.0 (λ next. punctuate-held next ls h.1)
  punctuate-held after_comma (token t ∷ ls) h = place_token-held after_comma t (begins_colon ls) (λ next. punctuate next ls) h.0 (λ next. punctuate-held next ls h.1)
  punctuate-held after_key (token t ∷ ls) h = place_token-held after_key t (begins_colon ls) (λ next. punctuate next ls) h.0 (λ next. punctuate-held next ls h.1)
  punctuate-held fresh (comma ∷ ls) h = (tt, tt)
  punctuate-held after_value (comma ∷ ls) h = punctuate-held after_comma ls h.1
  punctuate-held after_comma (comma ∷ ls) h = (tt, tt)
  punctuate-held after_key (comma ∷ ls) h = (tt, tt)
  punctuate-held fresh (colon ∷ ls) h = (tt, tt)
  punctuate-held after_value (colon ∷ ls) h = (tt, tt)
  punctuate-held after_comma (colon ∷ ls) h = (tt, tt)
  punctuate-held after_key (colon ∷ ls) h = punctuate-held fresh ls h.1

  tokens-held : (line : List ℕ) → BehindQuotes P line → AllByRecursion TokenIs (tokens line)
  tokens-held line h = punctuate-held fresh (lex between line) (lex-held between line h)

  -- the tokens in front, and those behind them
  first-held : (ts us : List Token) → AllByRecursion TokenIs (ts ++ us) → AllByRecursion TokenIs ts
  first-held [] us h = tt
  first-held (t ∷ ts) us h = (h.0, first-held ts us h.1)

  second-held : (ts us : List Token) → AllByRecursion TokenIs (ts ++ us) → AllByRecursion TokenIs us
  second-held [] us h = h
  second-held (t ∷ ts) us h = second-held ts us h.1

  -- ---- members

  -- what holds of a string, where a JSON value is one
  abbrev StringIs : Data → Type 0
  StringIs json.null = ⊤
  StringIs (json.boolean b) = ⊤
  StringIs (json.number n) = ⊤
  StringIs (json.string s) = P s
  StringIs (json.array ds) = ⊤
  StringIs (json.object ms) = ⊤

  abbrev MembersAre : Members → Type 0
  MembersAre no_members = ⊤
  MembersAre (member k d ms) = StringIs d × MembersAre ms

  number-held : (o : Option Num) (d : Data) → option_map json.number o ≡ Some d → StringIs d
  number-held None d e = absurd cc
  number-held (Some n) d e = let same : json.number n ≡ d = cc in subst StringIs same tt

  array-held : (o : Option json.Items) (d : Data) → option_map json.array o ≡ Some d → StringIs d
  array-held None d e = absurd cc
  array-held (Some ds) d e = let same : json.array ds ≡ d = cc in subst StringIs same tt

  object-held : (o : Option Members) (d : Data) → option_map json.object o ≡ Some d → StringIs d
  object-held None d e = absurd cc
  object-held (Some ms) d e = let same : json.object ms ≡ d = cc in subst StringIs same tt

  of_json-held : (j : tree.Json) (d : Data) → AllByRecursion TokenIs (json_tokens j) → of_json j ≡ Some d → StringIs d
  of_json-held tree.null d h e = let same : json.null ≡ d = cc in subst StringIs same tt
  of_json-held (tree.boolean b) d h e = let same : json.boolean b ≡ d = cc in subst StringIs same tt
  of_json-held (tree.number s) d h e = number-held (number_of s) d e
  of_json-held (tree.string s) d h e = let same : json.string s ≡ d = cc in subst StringIs same h.0
  of_json-held (tree.array js) d h e = array-held (of_items js) d e
  of_json-held (tree.object ms) d h e = object-held (of_members ms no_members) d e

  by_order-held : (o : Ordering) (a b c : Members) → MembersAre a → MembersAre b → MembersAre c → MembersAre (match_ordering o a b c)
  by_order-held Less a b c h i j = h
  by_order-held Equal a b c h i j = i
  by_order-held Greater a b c h i j = j

  put-held : (k : List ℕ) (d : Data) (ms : Members) → StringIs d → MembersAre ms → MembersAre (put k d ms)
  put-held k d no_members h more = (h, tt)
  put-held k d (member l e ms) h more = by_order-held (slice_cmp nat_cmp k l) _ _ _ (h, more) (h, more.1) (more.0, put-held k d ms h more.1)

  of_members-held : (ms : tree.Members) (found all : Members) → AllByRecursion TokenIs (members_tokens ms) → MembersAre found → of_members ms found ≡ Some all → MembersAre all
  of_members-held tree.no_members found all h so_far e = let same : found ≡ all = cc in subst MembersAre same so_far
  of_members-held (tree.member k j ms) found all h so_far e =
      elim (of_json j) as (λ o. of_json j ≡ o → option_and_then (λ d. of_members ms (put k d found)) o ≡ Some all → MembersAre all) [
        | None ↦ λ is f. absurd cc
        | Some d ↦ λ is f.
            of_members-held ms (put k d found) all (second-held (json_tokens j) (members_tokens ms) h.1)
            (put-held k d found (of_json-held j d (first-held (json_tokens j) (members_tokens ms) h.1) is) so_far) f
      ] refl e

  -- ---- the object that a line is

  object-members : (j : tree.Json) (ms : Members) → AllByRecursion TokenIs (json_tokens j) → of_json j ≡ Some (json.object ms) → MembersAre ms
  object-members tree.null ms h e = absurd cc
  object-members (tree.boolean b) ms h e = absurd cc
  object-members (tree.number s) ms h e =
      elim (number_of s) as (λ o. option_map json.number o ≡ Some (json.object ms) → MembersAre ms) [ None ↦ λ f. absurd cc | Some n ↦ λ f. absurd cc ] e
  object-members (tree.string s) ms h e = absurd cc
  object-members (tree.array js) ms h e =
      elim (of_items js) as (λ o. option_map json.array o ≡ Some (json.object ms) → MembersAre ms) [ None ↦ λ f. absurd cc | Some n ↦ λ f. absurd cc ] e
  object-members (tree.object js) ms h e =
      elim (of_members js no_members) as (λ o. of_members js no_members ≡ o → option_map json.object o ≡ Some (json.object ms) → MembersAre ms) [
        | None ↦ λ is f. absurd cc
        | Some found ↦ λ is f. of_members-held js no_members ms h.1 tt cc
      ] refl e

  last-held : (j : tree.Json) (rest : List Token) (ms : Members) → AllByRecursion TokenIs (json_tokens j) → option_and_then of_json (if_last j rest) ≡ Some (json.object ms) → MembersAre ms
  last-held j [] ms h e = object-members j ms h e
  last-held j (t ∷ rest) ms h e = absurd cc

  read-held : (line : List ℕ) (ms : Members) → BehindQuotes P line → read line ≡ Some (json.object ms) → MembersAre ms
  read-held line ms h e =
      elim (value max_depth (tokens line)) as (λ o. value max_depth (tokens line) ≡ o
      → option_and_then of_json (option_and_then (λ p. if_last p.0 p.1) o) ≡ Some (json.object ms) → MembersAre ms) [
        | None ↦ λ is f. absurd cc
        | Some p ↦ λ is f.
            last-held p.0 p.1 ms
            (first-held (json_tokens p.0) p.1 (subst (AllByRecursion TokenIs) (value-json_tokens_back max_depth (tokens line) p.1 p.0 is) (tokens-held line h))) f
      ] refl e

  -- ---- what the columns take

  found-held : (o : Ordering) (d : Option Data) (e : Data) → StringIs (unwrap_or d json.null) → StringIs e → StringIs (unwrap_or (match_ordering o d (Some e) d) json.null)
  found-held Less d e h k = h
  found-held Equal d e h k = k
  found-held Greater d e h k = h

  member_of-held : (ms : Members) (name : List ℕ) → MembersAre ms → StringIs (member_of ms name)
  member_of-held no_members name h = tt
  member_of-held (member l e ms) name h = found-held (slice_cmp nat_cmp name l) (get_member name ms) e (member_of-held ms name h.1) h.0

  -- what is taken, if anything is
  abbrev TakenIs : Option Datum → Type 0
  TakenIs None = ⊤
  TakenIs (Some d) = TextIs P d

  whole-held : (b : Bool) (z : ℤ) → TakenIs (cond b (Some (whole z)) None)
  whole-held true z = tt
  whole-held false z = tt

  integer-held : (o : Option ℤ) → TakenIs (option_and_then (λ z. cond (is_int64 z) (Some (whole z)) None) o)
  integer-held None = tt
  integer-held (Some z) = whole-held (is_int64 z) z

  datum_taken-held : (k : Kind) (d : Data) → StringIs d → TakenIs (datum_taken k d)
  datum_taken-held kind.Int json.null h = tt
  datum_taken-held kind.Int (json.number n) h = integer-held (as_integer n)
  datum_taken-held kind.Int (json.boolean b) h = tt
  datum_taken-held kind.Int (json.string s) h = tt
  datum_taken-held kind.Int (json.array js) h = tt
  datum_taken-held kind.Int (json.object ms) h = tt
  datum_taken-held kind.Text json.null h = tt
  datum_taken-held kind.Text (json.string s) h = h
  datum_taken-held kind.Text (json.number n) h = tt
  datum_taken-held kind.Text (json.boolean b) h = tt
  datum_taken-held kind.Text (json.array js) h = tt
  datum_taken-held kind.Text (json.object ms) h = tt
  datum_taken-held kind.Bool json.null h = tt
  datum_taken-held kind.Bool (json.boolean b) h = tt
  datum_taken-held kind.Bool (json.number n) h = tt
  datum_taken-held kind.Bool (json.string s) h = tt
  datum_taken-held kind.Bool (json.array js) h = tt
  datum_taken-held kind.Bool (json.object ms) h = tt

  data_taken-held : (fields : List Field) (ms : Members) → MembersAre ms → AllByRecursion TakenIs (data_taken fields ms)
  data_taken-held [] ms h = tt
  data_taken-held (f ∷ fields) ms h = (datum_taken-held f.kind (member_of ms f.name) (member_of-held ms f.name h), data_taken-held fields ms h)

  filter_map-held : (found : List (Option Datum)) → AllByRecursion TakenIs found → AllByRecursion (TextIs P) (filter_map (λ o. o) found)
  filter_map-held [] h = tt
  filter_map-held (None ∷ found) h = filter_map-held found h.1
  filter_map-held (Some d ∷ found) h = (h.0, filter_map-held found h.1)

  all_taken-held : (found : List (Option Datum)) (values : List Datum) → AllByRecursion TakenIs found → all_taken found ≡ Ok values → AllByRecursion (TextIs P) values
  all_taken-held found values h e =
      elim (position is_none found) as (λ o. option_map_or (λ place. Err (BadValue place)) o (Ok (filter_map (λ o. o) found)) ≡ Ok values → AllByRecursion (TextIs P) values) [
        | None ↦ λ f. let same : filter_map (λ o. o) found ≡ values = cc in subst (AllByRecursion (TextIs P)) same (filter_map-held found h)
        | Some place ↦ λ f. absurd cc
      ] e

  record_of-held : (fields : List Field) (line : List ℕ) (values : List Datum) (o : Option Data) → BehindQuotes P line → read line ≡ o → record_of fields o ≡ Ok values
      → AllByRecursion (TextIs P) values
  record_of-held fields line values None h is e = absurd cc
  record_of-held fields line values (Some json.null) h is e = absurd cc
  record_of-held fields line values (Some (json.boolean b)) h is e = absurd cc
  record_of-held fields line values (Some (json.number n)) h is e = absurd cc
  record_of-held fields line values (Some (json.string s)) h is e = absurd cc
  record_of-held fields line values (Some (json.array ds)) h is e = absurd cc
  record_of-held fields line values (Some (json.object ms)) h is e =
      all_taken-held (data_taken fields ms) values (data_taken-held fields ms (read-held line ms h is)) e

-- ---- lines

-- a line that has a record is no longer than a line may be, is in UTF-8, and has a reading
abbrev pub IsLine : List Field → List ℕ → List Datum → Type 0
IsLine fields line values = (nat_lt max_line_len (length line) ≡ false) × (is_utf8 line ≡ true) × (record_of fields (read line) ≡ Ok values)

decoded : (fields : List Field) (line : List ℕ) (values : List Datum) (long utf8 : Bool) → nat_lt max_line_len (length line) ≡ long → is_utf8 line ≡ utf8
    → cond long (Err TooLong) (record_of fields (cond utf8 (read line) None)) ≡ Ok values → IsLine fields line values
decoded fields line values true utf8 long is e = absurd cc
decoded fields line values false false long is e = absurd cc
decoded fields line values false true long is e = (long, is, e)

pub decoded-line : (fields : List Field) (line : List ℕ) (values : List Datum) → decode_line fields line ≡ Ok values → IsLine fields line values
decoded-line fields line values e = decoded fields line values (nat_lt max_line_len (length line)) (is_utf8 line) refl refl e

-- each text of a record is the content of a string that begins behind a quote of the line
pub record-texts : (P : List ℕ → Type 0) (fields : List Field) (line : List ℕ) (values : List Datum)
    → ((front rest s : List ℕ) → line ≡ front ++ 34 ∷ rest → content plain rest ≡ Some s → P s)
    → decode_line fields line ≡ Ok values → AllByRecursion (TextIs P) values
record-texts P fields line values h e = record_of-held P fields line values (read line) h refl (decoded-line fields line values e).2

-- ---- texts are short

not_longer : (most n : ℕ) → nat_lt most n ≡ false → n ≤ most
not_longer most n e = grind (arith, nat_tests, e)

-- a text is in UTF-8, and as a string of JSON no longer than a line may be
abbrev pub IsShort : List ℕ → Type 0
IsShort s = IsTrue (is_utf8 s) × (length (quoted s) ≤ max_line_len)

string-short : (line front rest s : List ℕ) → IsUtf8 line → length line ≤ max_line_len → line ≡ front ++ 34 ∷ rest → content plain rest ≡ Some s → IsShort s
string-short line front rest s utf8 bound e is =
    let size : length line ≡ length front + suc (length rest) = ap length e ∙ length-append front (34 ∷ rest) in
    let around : length (quoted s) ≡ suc (length (escape s) + 1) = ap suc (length-append (escape s) (34 ∷ [])) in
    let short : length (escape s) + 1 ≤ length rest = content-short rest s is in
    let within : length (quoted s) ≤ length line = omega (arith, size, around, short) in
    (is_utf8-from_IsUtf8 s (content-utf8 rest s (around_ascii front 34 rest (omega arith) (subst IsUtf8 e utf8)).1 is), le_trans within bound)

record-short : (fields : List Field) (line : List ℕ) (values : List Datum) → decode_line fields line ≡ Ok values → AllByRecursion (TextIs IsShort) values
record-short fields line values e =
    let is = decoded-line fields line values e in
    record-texts IsShort fields line values
    (λ front rest s. string-short line front rest s (IsUtf8-from_is_utf8 line is.1) (not_longer max_line_len (length line) is.0)) e

records-short-of : (fields : List Field) (all : List (List ℕ)) → AllByRecursion (λ values. AllByRecursion (TextIs IsShort) values) (filter_map result_ok (map (decode_line fields) all))
records-short-of fields [] = tt
records-short-of fields (line ∷ all) =
    elim (decode_line fields line) as (λ r. decode_line fields line ≡ r
    → AllByRecursion (λ values. AllByRecursion (TextIs IsShort) values) (cons_option (result_ok r) (filter_map result_ok (map (decode_line fields) all)))) [
      | Ok values ↦ λ is. (record-short fields line values is, records-short-of fields all)
      | Err fault ↦ λ is. records-short-of fields all
    ] refl

-- the texts of the records of an input are in UTF-8, and as strings of JSON no longer than a line
-- may be
pub records-short : (fields : List Field) (input : List ℕ) → AllByRecursion (λ values. AllByRecursion (TextIs IsShort) values) (valid_records fields input)
records-short fields input = records-short-of fields (lines input)
