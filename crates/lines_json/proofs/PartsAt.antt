-- The parts of a string by the places where they end.
use Rattle.std.proofs.Common.{◌≡◌, ℕ, ◌+◌, ◌-◌, ◌<◌, ◌≤◌, true, false, ◌==◌, List, [], ◌∷◌, ◌++◌, length, take, drop, get_or, Some, refl, sym, ap, ◌∙◌, subst, arith}
use Rattle.std.proofs.lemmas.List.{append-nil, drop-drop, drop_more, get_or_default}
use Rattle.std.proofs.lemmas.Str.{IsCharBoundary-after_ascii, encode_ascii}
use Rattle.std.specs.List.{prefix_len}
use Rattle.std.specs.Char.{encode_utf8}
use Rattle.std.specs.Str.{IsCharBoundary, IsUtf8}
use Rattle.json.specs.Text.{Within, content, plain, after_backslash, after_high, after_u, is_high_surrogate, is_low_surrogate, prepend, surrogate_pair}
use Rattle.json.specs.Lex.{Mode, in_escape, in_string}
use Rattle.json.specs.Run.{is_plain}
use Rattle.lines_json.specs.Inside.Contents.{IsEscapeAt, IsPart, IsPartAt, IsShortEscape, code_unit_at}
use Rattle.lines_json.specs.Standing.{IsStringOf}
use Rattle.lines_json.proofs.Fronts.{four_bytes, one_byte}
use Rattle.lines_json.proofs.Lexemes.{before_end, lex-closing_quote}
use Rattle.lines_json.proofs.Parts.{behind_backslash, behind_u, high_part, is_no_space, is_no_u, last_digit-ascii, letter_part, low_part, plain_part, two_parts, unit_part}

module _ (text : List ℕ) where
  -- what stands at a place, by its first bytes
  at_front : (mode : Mode) (state : Within) (at stop : ℕ) (front bytes : List ℕ) → drop at text ≡ front → IsPart mode state front bytes (drop stop text) → IsPart mode state (drop at text) bytes (drop stop text)
  at_front mode state at stop front bytes e p = subst (λ t. IsPart mode state t bytes (drop stop text)) (sym e) p

  first_is : (at x : ℕ) → get_or text at 32 ≡ x → (x == 32) ≡ false → drop at text ≡ x ∷ drop (at + 1) text
  first_is at x e other = drop_more text at 32 (before_end text at x e other) ∙ ap (λ y. y ∷ drop (at + 1) text) e

  -- ---- escapes

  -- the last byte of a part that ends before `stop`
  last_byte : (at stop : ℕ) → stop ≡ at + 1 → get_or text at 0 < 128 → get_or text (stop - 1) 0 < 128
  last_byte at stop next small = let back : at ≡ stop - 1 = omega (arith, next) in subst (λ k. get_or text k 0 < 128) back small

  pub letter-at : (at x c : ℕ) → get_or text at 32 ≡ x → IsShortEscape x c → IsEscapeAt text at (at + 1) c
  letter-at at x c e short =
      let other : (x == 32) ≡ false = is_no_space x c short.is in
      let below : at < length text = before_end text at x e other in
      let rest = drop (at + 1) text in
      record {
        later = omega arith;
        within = omega arith;
        last = last_byte at (at + 1) refl (omega (arith, e, short.letter_ascii, get_or_default text at 32 0 below));
        part = subst (λ bytes. IsPart in_escape after_backslash (drop at text) bytes rest) (sym (encode_ascii c short.meant_ascii))
            (at_front in_escape after_backslash at (at + 1) (x ∷ rest) (c ∷ []) (first_is at x e other) (letter_part x c rest (is_no_u x c short.is) short.is));
      }

  pub behind_u-at : (at stop : ℕ) (bytes : List ℕ) → get_or text at 32 ≡ 117 → IsPartAt in_string after_u text (at + 1) stop bytes → IsPartAt in_escape after_backslash text at stop bytes
  behind_u-at at stop bytes e p = record {
    later = omega (arith, p.later);
    within = p.within;
    last = p.last;
    part = at_front in_escape after_backslash at stop (117 ∷ drop (at + 1) text) bytes (first_is at 117 e refl) (behind_u (drop (at + 1) text) bytes (drop stop text) p.part);
  }

  pub unit-at : (at unit : ℕ) → at + 4 ≤ length text → code_unit_at text at ≡ Some unit → is_high_surrogate unit ≡ false → is_low_surrogate unit ≡ false → IsPartAt in_string after_u text at (at + 4) (encode_utf8 unit)
  unit-at at unit room spelt high low = record {
    later = omega arith;
    within = room;
    last = last_byte (at + 3) (at + 4) (omega arith) (last_digit-ascii _ _ _ _ unit spelt);
    part = at_front in_string after_u at (at + 4) _ (encode_utf8 unit) (four_bytes text at room) (unit_part _ _ _ _ (drop (at + 4) text) unit spelt high low);
  }

  pub high-at : (at unit stop : ℕ) (bytes : List ℕ) → at + 4 ≤ length text → code_unit_at text at ≡ Some unit → is_high_surrogate unit ≡ true → IsPartAt in_string (after_high unit) text (at + 4) stop bytes
      → IsPartAt in_string after_u text at stop bytes
  high-at at unit stop bytes room spelt high p = record {
    later = omega (arith, p.later);
    within = p.within;
    last = p.last;
    part = at_front in_string after_u at stop _ bytes (four_bytes text at room) (high_part _ _ _ _ (drop (at + 4) text) unit spelt bytes (drop stop text) high p.part);
  }

  pub low-at : (at high unit : ℕ) → at + 6 ≤ length text → get_or text at 0 ≡ 92 → get_or text (at + 1) 0 ≡ 117 → code_unit_at text (at + 2) ≡ Some unit → is_low_surrogate unit ≡ true
      → IsPartAt in_string (after_high high) text at (at + 6) (encode_utf8 (surrogate_pair high unit))
  low-at at high unit room slash letter spelt low =
      let six : at + 2 + 4 ≡ at + 6 = omega arith in
      let rest = drop (at + 2 + 4) text in
      let bytes = encode_utf8 (surrogate_pair high unit) in
      let front : drop at text ≡ 92 ∷ 117 ∷ _ ∷ _ ∷ _ ∷ _ ∷ rest =
      one_byte text at (at + 1) (omega arith) (omega arith) ∙ ap (λ x. x ∷ drop (at + 1) text) slash
      ∙ ap (λ t. 92 ∷ t) (one_byte text (at + 1) (at + 2) (omega arith) (omega arith) ∙ ap (λ x. x ∷ drop (at + 2) text) letter ∙ ap (λ t. 117 ∷ t) (four_bytes text (at + 2) (omega arith))) in
      record {
        later = omega arith;
        within = room;
        last = last_byte (at + 2 + 3) (at + 6) (omega arith) (last_digit-ascii _ _ _ _ unit spelt);
        part = subst (λ k. IsPart in_string (after_high high) (drop at text) bytes (drop k text)) six
            (at_front in_string (after_high high) at (at + 2 + 4) _ bytes front (low_part _ _ _ _ rest unit spelt high low));
      }

  -- ---- strings

  pub plain-at : (at stop : ℕ) → stop ≡ at + prefix_len is_plain (drop at text) → IsPart in_string plain (drop at text) (take (stop - at) (drop at text)) (drop stop text)
  plain-at at stop e =
      let n = prefix_len is_plain (drop at text) in
      let long : n ≡ stop - at = omega (arith, e) in
      let rest : drop n (drop at text) ≡ drop stop text = drop-drop n at text ∙ ap (λ k. drop k text) (sym e) in
      subst (λ t. IsPart in_string plain (drop at text) (take (stop - at) (drop at text)) t) rest
      (subst (λ k. IsPart in_string plain (drop at text) (take k (drop at text)) (drop n (drop at text))) long (plain_part (drop at text)))

  escape-at : (at stop meant : ℕ) → get_or text at 32 ≡ 92 → IsEscapeAt text (at + 1) stop meant → IsPart in_string plain (drop at text) (encode_utf8 meant) (drop stop text)
  escape-at at stop meant e p = at_front in_string plain at stop (92 ∷ drop (at + 1) text) (encode_utf8 meant) (first_is at 92 e refl) (behind_backslash (drop (at + 1) text) (encode_utf8 meant) (drop stop text) p.part)

  -- plain text behind the parts so far
  pub plain_behind : (from at stop : ℕ) (bytes : List ℕ) → IsPart in_string plain (drop from text) bytes (drop at text) → stop ≡ at + prefix_len is_plain (drop at text)
      → IsPart in_string plain (drop from text) (bytes ++ take (stop - at) (drop at text)) (drop stop text)
  plain_behind from at stop bytes p e = two_parts in_string plain (drop from text) bytes (drop at text) _ (drop stop text) p (plain-at at stop e)

  -- an escape behind them
  pub escape_behind : (from at stop meant : ℕ) (bytes : List ℕ) → IsPart in_string plain (drop from text) bytes (drop at text) → get_or text at 32 ≡ 92 → IsEscapeAt text (at + 1) stop meant
      → IsPart in_string plain (drop from text) (bytes ++ encode_utf8 meant) (drop stop text)
  escape_behind from at stop meant bytes p e escape = two_parts in_string plain (drop from text) bytes (drop at text) _ (drop stop text) p (escape-at at stop meant e escape)

  -- the text may be cut behind an escape
  pub escape-boundary : (at stop meant : ℕ) → IsUtf8 text → IsEscapeAt text at stop meant → IsCharBoundary text stop
  escape-boundary at stop meant utf8 escape =
      let back : stop - 1 + 1 ≡ stop = omega (arith, escape.later) in
      subst (IsCharBoundary text) back (IsCharBoundary-after_ascii text (stop - 1) utf8 (omega (arith, escape.later, escape.within)) escape.last)

  content-closing_quote : (at : ℕ) → get_or text at 32 ≡ 34 → content plain (drop at text) ≡ Some []
  unfolding content
  content-closing_quote at e = ap (content plain) (first_is at 34 e refl)

  pub closed-at : (from quote : ℕ) (bytes : List ℕ) → from ≤ quote → get_or text quote 32 ≡ 34 → IsPart in_string plain (drop from text) bytes (drop quote text) → IsStringOf text from quote bytes
  closed-at from quote bytes later e p = record {
    later = later;
    within = before_end text quote 34 e refl;
    closing = e;
    means = p.means ∙ ap (prepend bytes) (content-closing_quote quote e) ∙ ap Some (append-nil bytes);
    rest = p.passes ∙ lex-closing_quote text quote e;
  }

  -- a part in front of the rest of a string
  pub longer_string : (from stop quote : ℕ) (a b : List ℕ) → from ≤ stop → IsPart in_string plain (drop from text) a (drop stop text) → IsStringOf text stop quote b → IsStringOf text from quote (a ++ b)
  longer_string from stop quote a b later p s = record {
    later = omega (arith, s.later);
    within = s.within;
    closing = s.closing;
    means = p.means ∙ ap (prepend a) s.means;
    rest = p.passes ∙ s.rest;
  }
