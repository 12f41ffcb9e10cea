-- The content of a string: how long its escape is, and that it is UTF-8 where its text is.
use Rattle.std.proofs.Common.{◌≡◌, ℕ, ◌+◌, ◌*◌, ◌/◌, ◌<◌, ◌≤◌, Bool, true, false, cond, ◌&&◌, ◌||◌, ◌==◌, nat_lt, List, [], ◌∷◌, ◌++◌, length, Option, Some, None, option_and_then, IsUtf8, refl, sym, ap, ◌∙◌, subst, arith, append_assoc, append-nil}
use Rattle.std.proofs.Math.Seq.{get_or-append_seam, take-append_seam, drop-append_seam}
use Rattle.std.proofs.lemmas.Bool.{and_parts, eqb-false, eqb-true, ltb-false, ltb-true}
use Rattle.std.proofs.lemmas.Bool.Decides.{nat_tests}
use Rattle.std.proofs.lemmas.List.{length-append}
use Rattle.std.proofs.lemmas.List.Concat.{flat_map-append}
use Rattle.std.proofs.lemmas.Option.{IfSome_then, cond_some}
use Rattle.std.proofs.lemmas.Str.{IsCharBoundary-before_ascii, IsUtf8-append, IsUtf8-drop, IsUtf8-encode, IsUtf8-past_char, IsUtf8-take, encode_ascii}
use lib.Utf8.{low_scalar, next}
use Rattle.std.specs.Char.{IsScalar, digit_value, encode_utf8, is_digit}
use Rattle.std.specs.Option.{IfSome}
use Rattle.std.specs.Prelude.{⊤}
use Rattle.json.proofs.Printed.Strings.{escape_byte_plain}
use Rattle.json.specs.Print.{escape, escape_byte}
use Rattle.json.specs.Text.{Within, after_backslash, after_high, after_u, code_unit, content, is_high_surrogate, is_low_surrogate, plain, prepend, short_escape, surrogate_pair}

-- ---- what holds of a value, if there is one

module _ {A : Type 0} (P : A → Type 0) where
  IfSome-cond : (b : Bool) (x y : Option A) → (b ≡ true → IfSome x P) → (b ≡ false → IfSome y P) → IfSome (cond b x y) P
  IfSome-cond true x y f g = f refl
  IfSome-cond false x y f g = g refl

  IfSome-and_then : (f : ℕ → Option A) (o : Option ℕ) → ((u : ℕ) → o ≡ Some u → IfSome (f u) P) → IfSome (option_and_then f o) P
  IfSome-and_then f None h = tt
  IfSome-and_then f (Some u) h = h u refl

IfSome-prepend : (P Q : List ℕ → Type 0) (a : List ℕ) (r : Option (List ℕ)) → IfSome r Q → ((s : List ℕ) → Q s → P (a ++ s)) → IfSome (prepend a r) P
IfSome-prepend P Q a None h f = tt
IfSome-prepend P Q a (Some s) h f = f s h

IfSome-at : (P : List ℕ → Type 0) (r : Option (List ℕ)) (s : List ℕ) → r ≡ Some s → IfSome r P → P s
IfSome-at P r s e h = subst (λ o. IfSome o P) e h

-- ---- code units

-- four ASCII bytes that spell the code unit u
record IsUnitOf (a b c d u : ℕ) : Type 0 where
  first : a < 128
  second : b < 128
  third : c < 128
  fourth : d < 128
  small : u < 65536

hex-ascii : (x : ℕ) → is_digit x 16 ≡ true → x < 128
hex-ascii x h = grind (arith, nat_tests, h)

is_unit : (a b c d u : ℕ) → code_unit a b c d ≡ Some u → IsUnitOf a b c d u
unfolding code_unit
is_unit a b c d u e =
    let spelt = cond_some (is_digit a 16 && is_digit b 16 && is_digit c 16 && is_digit d 16) (digit_value a * 4096 + digit_value b * 256 + digit_value c * 16 + digit_value d) u e in
    let p = and_parts (is_digit a 16 && is_digit b 16 && is_digit c 16) (is_digit d 16) spelt.0 in
    let q = and_parts (is_digit a 16 && is_digit b 16) (is_digit c 16) p.0 in
    let r = and_parts (is_digit a 16) (is_digit b 16) q.0 in
    record {
      first = hex-ascii a r.0;
      second = hex-ascii b r.1;
      third = hex-ascii c q.1;
      fourth = hex-ascii d p.1;
      small = omega (arith, ltb-true (digit_value a) 16 r.0, ltb-true (digit_value b) 16 r.1, ltb-true (digit_value c) 16 q.1, ltb-true (digit_value d) 16 p.1, spelt.1);
    }

-- ---- how long an escape is

pub escape_byte-six : (x : ℕ) → length (escape_byte x) ≤ 6
unfolding escape_byte
escape_byte-six x = grind arith

escape_high : (x : ℕ) → 128 ≤ x → length (escape_byte x) ≡ 1
escape_high x h = ap length (escape_byte_plain x (λ e. omega (arith, h, e)) (λ e. omega (arith, h, e)) (omega (arith, h)))

length-escape-cons : (x : ℕ) (xs : List ℕ) → length (escape (x ∷ xs)) ≡ length (escape_byte x) + length (escape xs)
length-escape-cons x xs = length-append (escape_byte x) (escape xs)

pub length-escape-append : (xs ys : List ℕ) → length (escape (xs ++ ys)) ≡ length (escape xs) + length (escape ys)
length-escape-append xs ys = ap length (flat_map-append escape_byte xs ys) ∙ length-append (escape xs) (escape ys)

-- bytes of which none is ASCII: their escape is as long as they are
abbrev AreHigh : List ℕ → Type 0
AreHigh [] = Unit {0}
AreHigh (x ∷ xs) = (128 ≤ x) × AreHigh xs

length-escape-high : (xs : List ℕ) → AreHigh xs → length (escape xs) ≡ length xs
length-escape-high [] h = refl
length-escape-high (x ∷ xs) h = omega (arith, length-escape-cons x xs, escape_high x h.0, length-escape-high xs h.1)

escape_one : (x : ℕ) → length (escape (x ∷ [])) ≤ 6
escape_one x = omega (arith, length-escape-cons x [], escape_byte-six x)

high-six : (xs : List ℕ) → AreHigh xs → length xs ≤ 6 → length (escape xs) ≤ 6
high-six xs h le = omega (arith, length-escape-high xs h, le)

up_to_six : (b : Bool) (xs ys : List ℕ) → (b ≡ true → length (escape xs) ≤ 6) → (b ≡ false → length (escape ys) ≤ 6) → length (escape (cond b xs ys)) ≤ 6
up_to_six true xs ys h k = h refl
up_to_six false xs ys h k = k refl

-- the escape of a character
escape_encode-six : (u : ℕ) → length (escape (encode_utf8 u)) ≤ 6
unfolding encode_utf8
escape_encode-six u =
    up_to_six (nat_lt u 128) _ _ (λ _. escape_one u)
    (λ _. up_to_six (nat_lt u 2048) _ _ (λ _. high-six ((192 + u / 64) ∷ next u ∷ []) (omega arith, (omega arith, tt)) (omega arith))
    (λ _. up_to_six (nat_lt u 65536) _ _ (λ _. high-six ((224 + u / 4096) ∷ next (u / 64) ∷ next u ∷ []) (omega arith, (omega arith, (omega arith, tt))) (omega arith))
    (λ _. high-six ((240 + u / 262144) ∷ next (u / 4096) ∷ next (u / 64) ∷ next u ∷ []) (omega arith, (omega arith, (omega arith, (omega arith, tt)))) (omega arith))))

-- what a short escape stands for is escaped by at most two bytes
abbrev AtMostTwo : ℕ → Type 0
AtMostTwo c = length (escape_byte c) ≤ 2

short_escape-two : (x : ℕ) → IfSome (short_escape x) AtMostTwo
unfolding short_escape escape_byte
short_escape-two x =
    IfSome-cond AtMostTwo ((x == 34) || (x == 92) || (x == 47)) _ _ (λ e. grind (arith, nat_tests, e))
    (λ _. IfSome-cond AtMostTwo (x == 98) _ _ (λ _. omega arith)
    (λ _. IfSome-cond AtMostTwo (x == 102) _ _ (λ _. omega arith)
    (λ _. IfSome-cond AtMostTwo (x == 110) _ _ (λ _. omega arith)
    (λ _. IfSome-cond AtMostTwo (x == 114) _ _ (λ _. omega arith)
    (λ _. IfSome-cond AtMostTwo (x == 116) _ _ (λ _. omega arith) (λ _. tt))))))

-- ---- the content of a string, escaped again

-- how many bytes were read since the last place in plain text
abbrev consumed : Within → ℕ
consumed plain = 0
consumed after_backslash = 1
consumed after_u = 2
consumed (after_high h) = 6

abbrev IsShort : ℕ → List ℕ → Type 0
IsShort n s = length (escape s) + 1 ≤ n

fewer : (n m : ℕ) (r : Option (List ℕ)) → IfSome r (IsShort m) → m ≤ n → IfSome r (IsShort n)
fewer n m r h le = IfSome_then r h (λ s k. omega (arith, k, le))

longer : (n m : ℕ) (a : List ℕ) (r : Option (List ℕ)) → IfSome r (IsShort m) → length (escape a) + m ≤ n → IfSome (prepend a r) (IsShort n)
longer n m a r h le = IfSome-prepend (IsShort n) (IsShort m) a r h (λ s k. omega (arith, k, le, length-escape-append a s))

content-short-from : (w : Within) (xs : List ℕ) → IfSome (content w xs) (IsShort (length xs + consumed w))
unfolding content
content-short-from plain [] = tt
content-short-from plain (x ∷ xs) =
    let n = length (x ∷ xs) + 0 in
    IfSome-cond (IsShort n) (x == 34) _ _ (λ q. omega arith)
    (λ q. IfSome-cond (IsShort n) (x == 92) _ _ (λ b. fewer n _ _ (content-short-from after_backslash xs) (omega arith))
    (λ b. IfSome-cond (IsShort n) (nat_lt x 32) _ _ (λ l. tt)
    (λ l. longer n _ (x ∷ []) _ (content-short-from plain xs) (omega (arith, length-escape-cons x [], ap length (escape_byte_plain x (eqb-false x 34 q) (eqb-false x 92 b) (ltb-false x 32 l)))))))
content-short-from after_backslash [] = tt
content-short-from after_backslash (x ∷ xs) =
    let n = length (x ∷ xs) + 1 in
    IfSome-cond (IsShort n) (x == 117) _ _ (λ u. fewer n _ _ (content-short-from after_u xs) (omega arith))
    (λ u. IfSome-and_then (IsShort n) _ (short_escape x)
    (λ c e. longer n _ (c ∷ []) _ (content-short-from plain xs) (omega (arith, length-escape-cons c [], subst (λ o. IfSome o AtMostTwo) e (short_escape-two x)))))
content-short-from after_u [] = tt
content-short-from after_u (a ∷ []) = tt
content-short-from after_u (a ∷ b ∷ []) = tt
content-short-from after_u (a ∷ b ∷ c ∷ []) = tt
content-short-from after_u (a ∷ b ∷ c ∷ d ∷ xs) =
    let n = length (a ∷ b ∷ c ∷ d ∷ xs) + 2 in
    IfSome-and_then (IsShort n) _ (code_unit a b c d)
    (λ u e. IfSome-cond (IsShort n) (is_high_surrogate u) _ _ (λ h. fewer n _ _ (content-short-from (after_high u) xs) (omega arith))
    (λ h. IfSome-cond (IsShort n) (is_low_surrogate u) _ _ (λ l. tt) (λ l. longer n _ (encode_utf8 u) _ (content-short-from plain xs) (omega (arith, escape_encode-six u)))))
content-short-from (after_high h) [] = tt
content-short-from (after_high h) (s ∷ []) = tt
content-short-from (after_high h) (s ∷ u ∷ []) = tt
content-short-from (after_high h) (s ∷ u ∷ a ∷ []) = tt
content-short-from (after_high h) (s ∷ u ∷ a ∷ b ∷ []) = tt
content-short-from (after_high h) (s ∷ u ∷ a ∷ b ∷ c ∷ []) = tt
content-short-from (after_high h) (s ∷ u ∷ a ∷ b ∷ c ∷ d ∷ xs) =
    let n = length (s ∷ u ∷ a ∷ b ∷ c ∷ d ∷ xs) + 6 in
    IfSome-cond (IsShort n) ((s == 92) && (u == 117)) _ _
    (λ _. IfSome-and_then (IsShort n) _ (code_unit a b c d)
    (λ l e. IfSome-cond (IsShort n) (is_low_surrogate l) _ _
    (λ y. longer n _ (encode_utf8 (surrogate_pair h l)) _ (content-short-from plain xs) (omega (arith, escape_encode-six (surrogate_pair h l)))) (λ y. tt))) (λ _. tt)

-- the content of a string, escaped again, is not longer than the text it was read of, up to its
-- closing quote
pub content-short : (xs s : List ℕ) → content plain xs ≡ Some s → length (escape s) + 1 ≤ length xs
content-short xs s e = omega (arith, IfSome-at (IsShort (length xs + 0)) (content plain xs) s e (content-short-from plain xs))

-- ---- the content of a string of a text in UTF-8

-- a text in UTF-8 may be cut on both sides of an ASCII byte
pub around_ascii : (front : List ℕ) (x : ℕ) (rest : List ℕ) → x < 128 → IsUtf8 (front ++ x ∷ rest) → IsUtf8 front × IsUtf8 rest
around_ascii front x rest small u =
    let text = front ++ x ∷ rest in
    let n = length front in
    let before = IsCharBoundary-before_ascii text n (omega (arith, length-append front (x ∷ rest))) (omega (arith, small, get_or-append_seam front x rest 0)) in
    let behind : IsUtf8 (x ∷ rest) = subst IsUtf8 (drop-append_seam front (x ∷ rest)) (IsUtf8-drop text n u before) in
    (subst IsUtf8 (take-append_seam front (x ∷ rest)) (IsUtf8-take text n u before), IsUtf8-past_char (x ∷ rest) rest x behind (ap (λ l. l ++ rest) (sym (encode_ascii x small))))

-- the letter behind a backslash, and what it stands for
record AreAscii (x c : ℕ) : Type 0 where
  letter : x < 128
  meant : c < 128

short_escape-ascii : (x : ℕ) → IfSome (short_escape x) (AreAscii x)
unfolding short_escape
short_escape-ascii x =
    IfSome-cond (AreAscii x) ((x == 34) || (x == 92) || (x == 47)) _ _ (λ e. let low : x < 128 = grind (arith, nat_tests, e) in record { letter = low; meant = low })
    (λ _. IfSome-cond (AreAscii x) (x == 98) _ _ (λ e. known 98 8 e (omega arith) (omega arith))
    (λ _. IfSome-cond (AreAscii x) (x == 102) _ _ (λ e. known 102 12 e (omega arith) (omega arith))
    (λ _. IfSome-cond (AreAscii x) (x == 110) _ _ (λ e. known 110 10 e (omega arith) (omega arith))
    (λ _. IfSome-cond (AreAscii x) (x == 114) _ _ (λ e. known 114 13 e (omega arith) (omega arith))
    (λ _. IfSome-cond (AreAscii x) (x == 116) _ _ (λ e. known 116 9 e (omega arith) (omega arith)) (λ _. tt))))))
  where
    known : (y c : ℕ) → (x == y) ≡ true → y < 128 → c < 128 → AreAscii x c
    known y c e low small = record { letter = omega (arith, eqb-true x y e, low); meant = small }

scalar-unit : (u : ℕ) → u < 65536 → is_high_surrogate u ≡ false → is_low_surrogate u ≡ false → IsScalar u
scalar-unit u small high low = grind (arith, nat_tests, high, low, small)

scalar-pair : (h l : ℕ) → is_high_surrogate h ≡ true → is_low_surrogate l ≡ true → IsScalar (surrogate_pair h l)
scalar-pair h l high low = grind (arith, nat_tests, high, low)

ascii-utf8 : (x : ℕ) → x < 128 → IsUtf8 (x ∷ [])
ascii-utf8 x small = subst IsUtf8 (encode_ascii x small) (IsUtf8-encode x (low_scalar x (omega (arith, small))))

-- the bytes so far and those of the content behind them, together
abbrev IsUtf8Behind : List ℕ → List ℕ → Type 0
IsUtf8Behind front s = IsUtf8 (front ++ s)

-- the half that waits for its other half is an upper one
abbrev IsHighHalf : Within → Type 0
IsHighHalf plain = ⊤
IsHighHalf after_backslash = ⊤
IsHighHalf after_u = ⊤
IsHighHalf (after_high h) = is_high_surrogate h ≡ true

-- what an escape stands for, behind a text in UTF-8 and in front of the rest of the content
escape-behind : (front bytes : List ℕ) (r : Option (List ℕ)) → IsUtf8 front → IsUtf8 bytes → IfSome r (IsUtf8Behind []) → IfSome (prepend bytes r) (IsUtf8Behind front)
escape-behind front bytes r u v h = IfSome-prepend (IsUtf8Behind front) (IsUtf8Behind []) bytes r h (λ s w. IsUtf8-append front (bytes ++ s) u (IsUtf8-append bytes s v w))

-- a text in UTF-8 may be cut on both sides of four ASCII bytes
around_unit : (front : List ℕ) (a b c d u : ℕ) (rest : List ℕ) → IsUnitOf a b c d u → IsUtf8 (front ++ a ∷ b ∷ c ∷ d ∷ rest) → IsUtf8 front × IsUtf8 rest
around_unit front a b c d u rest is utf8 =
    let p = around_ascii front a (b ∷ c ∷ d ∷ rest) is.first utf8 in
    let q = around_ascii [] b (c ∷ d ∷ rest) is.second p.1 in
    let r = around_ascii [] c (d ∷ rest) is.third q.1 in
    (p.0, (around_ascii [] d rest is.fourth r.1).1)

-- The front is what was taken of plain text so far: it may end within a character, which the text
-- behind it completes. An escape is ASCII, so that it stands between characters.
content-utf8-behind : (w : Within) (xs front : List ℕ) → IsHighHalf w → IsUtf8 (front ++ xs) → IfSome (content w xs) (IsUtf8Behind front)
unfolding content
content-utf8-behind plain [] front half u = tt
content-utf8-behind plain (x ∷ xs) front half u =
    let P = IsUtf8Behind front in
    IfSome-cond P (x == 34) _ _ (λ q. subst IsUtf8 (sym (append-nil front)) (around_ascii front x xs (omega (arith, eqb-true x 34 q)) u).0)
    (λ q. IfSome-cond P (x == 92) _ _
    (λ b. let p = around_ascii front x xs (omega (arith, eqb-true x 92 b)) u in
    IfSome_then (content after_backslash xs) (content-utf8-behind after_backslash xs [] tt p.1) (λ s v. IsUtf8-append front s p.0 v))
    (λ b. IfSome-cond P (nat_lt x 32) _ _ (λ l. tt)
    (λ l. IfSome-prepend P (IsUtf8Behind (front ++ x ∷ [])) (x ∷ []) _ (content-utf8-behind plain xs (front ++ x ∷ []) tt (subst IsUtf8 (sym (append_assoc front (x ∷ []) xs)) u))
    (λ s v. subst IsUtf8 (append_assoc front (x ∷ []) s) v))))
content-utf8-behind after_backslash [] front half u = tt
content-utf8-behind after_backslash (x ∷ xs) front half u =
    let P = IsUtf8Behind front in
    IfSome-cond P (x == 117) _ _
    (λ e. let p = around_ascii front x xs (omega (arith, eqb-true x 117 e)) u in
    IfSome_then (content after_u xs) (content-utf8-behind after_u xs [] tt p.1) (λ s v. IsUtf8-append front s p.0 v))
    (λ _. IfSome-and_then P _ (short_escape x)
    (λ c e. let are = subst (λ o. IfSome o (AreAscii x)) e (short_escape-ascii x) in
    let p = around_ascii front x xs are.letter u in
    escape-behind front (c ∷ []) _ p.0 (ascii-utf8 c are.meant) (content-utf8-behind plain xs [] tt p.1)))
content-utf8-behind after_u [] front half u = tt
content-utf8-behind after_u (a ∷ []) front half u = tt
content-utf8-behind after_u (a ∷ b ∷ []) front half u = tt
content-utf8-behind after_u (a ∷ b ∷ c ∷ []) front half u = tt
content-utf8-behind after_u (a ∷ b ∷ c ∷ d ∷ xs) front half u =
    let P = IsUtf8Behind front in
    IfSome-and_then P _ (code_unit a b c d)
    (λ v e. let is = is_unit a b c d v e in
    let p = around_unit front a b c d v xs is u in
    IfSome-cond P (is_high_surrogate v) _ _ (λ h. IfSome_then (content (after_high v) xs) (content-utf8-behind (after_high v) xs [] h p.1) (λ s k. IsUtf8-append front s p.0 k))
    (λ h. IfSome-cond P (is_low_surrogate v) _ _ (λ l. tt)
    (λ l. escape-behind front (encode_utf8 v) _ p.0 (IsUtf8-encode v (scalar-unit v is.small h l)) (content-utf8-behind plain xs [] tt p.1))))
content-utf8-behind (after_high h) [] front half u = tt
content-utf8-behind (after_high h) (s ∷ []) front half u = tt
content-utf8-behind (after_high h) (s ∷ t ∷ []) front half u = tt
content-utf8-behind (after_high h) (s ∷ t ∷ a ∷ []) front half u = tt
content-utf8-behind (after_high h) (s ∷ t ∷ a ∷ b ∷ []) front half u = tt
content-utf8-behind (after_high h) (s ∷ t ∷ a ∷ b ∷ c ∷ []) front half u = tt
content-utf8-behind (after_high h) (s ∷ t ∷ a ∷ b ∷ c ∷ d ∷ xs) front half u =
    let P = IsUtf8Behind front in
    IfSome-cond P ((s == 92) && (t == 117)) _ _
    (λ e. let both = and_parts (s == 92) (t == 117) e in
    let p = around_ascii front s (t ∷ a ∷ b ∷ c ∷ d ∷ xs) (omega (arith, eqb-true s 92 both.0)) u in
    let q = around_ascii [] t (a ∷ b ∷ c ∷ d ∷ xs) (omega (arith, eqb-true t 117 both.1)) p.1 in
    IfSome-and_then P _ (code_unit a b c d)
    (λ l is. let r = around_unit [] a b c d l xs (is_unit a b c d l is) q.1 in
    IfSome-cond P (is_low_surrogate l) _ _
    (λ low. escape-behind front (encode_utf8 (surrogate_pair h l)) _ p.0 (IsUtf8-encode _ (scalar-pair h l half low)) (content-utf8-behind plain xs [] tt r.1)) (λ _. tt))) (λ _. tt)

-- the content of a string of a text in UTF-8 is in UTF-8
pub content-utf8 : (xs s : List ℕ) → IsUtf8 xs → content plain xs ≡ Some s → IsUtf8 s
content-utf8 xs s u e = IfSome-at (IsUtf8Behind []) (content plain xs) s e (content-utf8-behind plain xs [] tt u)
