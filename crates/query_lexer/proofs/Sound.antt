-- What is read in front of a text is a token there.
use Rattle.std.proofs.Common.{Bool, true, false, cond, eqb, ◌≡◌, ◌≢◌, ℕ, ℤ, zero, suc, ◌<◌, ◌≤◌, ◌+◌, ◌^◌, List, [], ◌∷◌, ◌++◌, length, take, drop, get_or, Option, Some, None, refl, sym, ap, subst, ◌∙◌, append_assoc, arith, inl, inr, ◌||◌, take-append-drop}
use Rattle.std.proofs.lemmas.Bool.{eqb-true}
use Rattle.std.proofs.lemmas.Bool.Decides.{nat_tests}
use Rattle.std.proofs.lemmas.List.Folds.{length-prefix_len}
use Rattle.std.proofs.Math.IntN.{neg_ℤ}
use Rattle.std.specs.Prelude.{pos, nat_le, nat_lt}
use Rattle.std.specs.List.{prefix_len, list_all}
use Rattle.std.specs.Char.{is_ascii_digit}
use Rattle.std.specs.Str.Parse.{digits_value}
use Rattle.semantics.specs.declared.token.Token.{Token}
use Rattle.semantics.specs.declared.token.Token.TheVariants as tokens
use Rattle.semantics.specs.declared.token.Word.{Word}
use Rattle.semantics.specs.declared.token.Sign.{Sign}
use Rattle.semantics.specs.declared.token.Sign.TheVariants as s
use Rattle.semantics.specs.Words.{begins_word, continues_word, is_word, reserved_word, with_quotes_doubled, quoted_text}
use Rattle.semantics.specs.Tokens.{begins_with, is_digits, sign_text, IsLongestSign, IsToken}
use Rattle.query_lexer.specs.Options.{◌>>=◌, choose}
use Rattle.query_lexer.specs.Steps.{behind, sign_at, order_at, sign_behind_less, sign_behind_greater, word_of, word_at, quoted_at, name_of, name_behind, text_behind, digits_at, number_of, number_behind, number_at, other_at, token_at}
use Rattle.query_lexer.specs.Inside.Steps.{with_bytes}
use Rattle.query_lexer.specs.Steps
use Rattle.query_lexer.proofs.Cut.{begins_goes}
use Rattle.query_lexer.proofs.Doubling.{quoted_other, quoted_close, quoted_twice, quoted_nil}
use Rattle.query_lexer.proofs.Inversions.{bind_some, choose_some, some_is, test_some}
use Rattle.query_lexer.proofs.Fronts.{front_passes, front_stops, no_word}

-- The token k stands in front of bs, and rest behind it.
pub record Found (bs : List ℕ) (k : Token) (rest : List ℕ) : Type 0 where
  pub front : List ℕ
  pub cut : bs ≡ front ++ rest
  pub is : IsToken front k rest

-- ---- words

word_front_at : (b : ℕ) (bs : List ℕ) (t : Bool) → begins_word b ≡ true → t ≡ true → is_word (take (cond t (1 + prefix_len continues_word bs) 0) (b ∷ bs)) ≡ true
word_front_at b bs true h e = let k : 1 + prefix_len continues_word bs ≡ suc (prefix_len continues_word bs) = omega arith in rw (k, h) (front_passes continues_word bs)
word_front_at b bs false h e = absurd cc

word_front : (bs : List ℕ) → begins_with begins_word bs ≡ true → is_word (take (prefix_len continues_word bs) bs) ≡ true
word_front [] h = absurd cc
word_front (b ∷ bs) h = word_front_at b bs (continues_word b) h (begins_goes b h)

word_is : (front rest : List ℕ) (o : Option Word) → reserved_word front ≡ o → is_word front ≡ true → begins_with continues_word rest ≡ false → IsToken front (choose o (tokens.Name front) (λ w. tokens.Word w)) rest
word_is front rest None e h s = IsToken.name h e s
word_is front rest (Some w) e h s = IsToken.keyword h e s

word_s : (bs : List ℕ) → begins_with begins_word bs ≡ true → Found bs (word_at bs).0 (word_at bs).1
word_s bs h = record {
  front = take (prefix_len continues_word bs) bs;
  cut = sym (take-append-drop (prefix_len continues_word bs) bs);
  is = word_is (take (prefix_len continues_word bs) bs) (drop (prefix_len continues_word bs) bs) (reserved_word (take (prefix_len continues_word bs) bs)) refl (word_front bs h) (front_stops continues_word bs);
}

-- ---- quotes

-- No such byte stands in front.
pub begins_not : (q : ℕ) (bs : List ℕ) → behind q bs ≡ None → begins_with (λ b. eqb b q) bs ≡ false
begins_not q [] e = refl
begins_not q (b ∷ bs) e = not_taken (eqb b q) bs e where
  not_taken : (t : Bool) (bs : List ℕ) → cond t (Some bs) None ≡ None → t ≡ false
  not_taken true bs e = absurd cc
  not_taken false bs e = refl

-- What stands behind this byte.
pub behind_cut : (c : ℕ) (bs rest : List ℕ) → behind c bs ≡ Some rest → bs ≡ c ∷ rest
behind_cut c [] rest e = absurd cc
behind_cut c (b ∷ bs) rest e =
    let h = test_some (eqb b c) bs rest e in
    let same : b ≡ c = eqb-true b c h.0 in
    let left = h.1 in cc

-- What is quoted: its bytes with each quote doubled, and a quote that no further quote follows.
abbrev IsQuoted : ℕ → List ℕ → (List ℕ × List ℕ) → Type 0
IsQuoted q bs x = (bs ≡ with_quotes_doubled q x.0 ++ q ∷ x.1) × (begins_with (λ b. eqb b q) x.1 ≡ false)

front_some : (front : List ℕ) (o : Option (List ℕ × List ℕ)) (x : List ℕ × List ℕ) → with_bytes front o ≡ Some x → (y : List ℕ × List ℕ) × (o ≡ Some y) × (x ≡ (front ++ y.0, y.1))
front_some front o x e =
    let h = bind_some o (λ y. Some (front ++ y.0, y.1)) x e in
    (h.0, h.1, sym (some_is (front ++ h.0.0, h.0.1) x h.2))

quoted_more : (q b : ℕ) (t : Bool) (bs : List ℕ) (y : List ℕ × List ℕ) → t ≡ eqb b q → t ≡ false → IsQuoted q bs y → b ∷ bs ≡ (cond t (q ∷ q ∷ []) (b ∷ []) ++ with_quotes_doubled q y.0) ++ q ∷ y.1
quoted_more q b true bs y e f h = absurd cc
quoted_more q b false bs y e f h = ap (λ (zs : List ℕ). b ∷ zs) h.0

quoted_pair : (q : ℕ) (t : Bool) (bs : List ℕ) (y : List ℕ × List ℕ) → t ≡ true → IsQuoted q bs y → q ∷ q ∷ bs ≡ (cond t (q ∷ q ∷ []) (q ∷ []) ++ with_quotes_doubled q y.0) ++ q ∷ y.1
quoted_pair q true bs y e h = ap (λ (zs : List ℕ). q ∷ q ∷ zs) h.0
quoted_pair q false bs y e h = absurd cc

abbrev QuotedUpTo : ℕ → ℕ → Type 0
QuotedUpTo n q = (bs : List ℕ) (x : List ℕ × List ℕ) → length bs ≤ n → quoted_at q bs ≡ Some x → IsQuoted q bs x

quoted_step : (n q b : ℕ) (t : Bool) (o : Option (List ℕ)) (bs : List ℕ) (x : List ℕ × List ℕ) → eqb b q ≡ t → behind q bs ≡ o → QuotedUpTo n q → length bs ≤ n → quoted_at q (b ∷ bs) ≡ Some x → IsQuoted q (b ∷ bs) x
quoted_step n q b false o bs x t_is o_is again room e =
    let other : b ≢ q = λ same. let k = not_same b q t_is same in k in
    let h = front_some (b ∷ []) (quoted_at q bs) x (sym (quoted_other q b bs other) ∙ e) in
    let i = again bs h.0 room h.1 in
    subst (λ (y : List ℕ × List ℕ). IsQuoted q (b ∷ bs) y) (sym h.2) (quoted_more q b (eqb b q) bs h.0 refl t_is i, i.1) where
      not_same : (b q : ℕ) → eqb b q ≡ false → b ≡ q → ⊥
      not_same b q e same = grind (arith, nat_tests)
quoted_step n q b true None bs x t_is o_is again room e =
    let same : b ≡ q = eqb-true b q t_is in
    let h = some_is ([], bs) x (sym (quoted_close q bs o_is) ∙ (ap (λ (k : ℕ). quoted_at q (k ∷ bs)) (sym same) ∙ e)) in
    subst (λ (y : List ℕ × List ℕ). IsQuoted q (b ∷ bs) y) h (ap (λ (k : ℕ). k ∷ bs) same, begins_not q bs o_is)
quoted_step n q b true (Some more) bs x t_is o_is again room e =
    let same : b ≡ q = eqb-true b q t_is in
    let left = behind_cut q bs more o_is in
    let h = front_some (q ∷ []) (quoted_at q more) x (sym (quoted_twice q bs more o_is) ∙ (ap (λ (k : ℕ). quoted_at q (k ∷ bs)) (sym same) ∙ e)) in
    let i = again more h.0 (omega (arith, ap length left)) h.1 in
    let whole : b ∷ bs ≡ q ∷ q ∷ more = cc in
    subst (λ (y : List ℕ × List ℕ). IsQuoted q (b ∷ bs) y) (sym h.2) (whole ∙ quoted_pair q (eqb q q) more h.0 (is_same q) i, i.1) where
      is_same : (q : ℕ) → eqb q q ≡ true
      is_same q = grind (arith, nat_tests)

quoted_up_to : (n q : ℕ) → QuotedUpTo n q
quoted_up_to n q [] x room e = absurd (let h = quoted_nil q in cc)
quoted_up_to zero q (b ∷ bs) x room e = absurd (omega arith)
quoted_up_to (suc n) q (b ∷ bs) x room e = quoted_step n q b (eqb b q) (behind q bs) bs x refl refl (quoted_up_to n q) (omega arith) e

quoted_s : (q : ℕ) (bs : List ℕ) (x : List ℕ × List ℕ) → quoted_at q bs ≡ Some x → IsQuoted q bs x
quoted_s q bs x e = quoted_up_to (length bs) q bs x (omega arith) e

quoted_cut : (q : ℕ) (bs : List ℕ) (x : List ℕ × List ℕ) → IsQuoted q bs x → q ∷ bs ≡ quoted_text q x.0 ++ x.1
quoted_cut q bs x h = ap (λ (zs : List ℕ). q ∷ zs) (h.0 ∙ sym (append_assoc (with_quotes_doubled q x.0) (q ∷ []) x.1))

name_is : (name rest : List ℕ) (k : Token) → begins_with (λ b. eqb b 34) rest ≡ false → name_of name ≡ Some k → IsToken (quoted_text 34 name) k rest
name_is [] rest k h e = absurd cc
name_is (b ∷ bs) rest k h e = subst (λ (j : Token). IsToken (quoted_text 34 (b ∷ bs)) j rest) (some_is (tokens.Name (b ∷ bs)) k e) (IsToken.quoted_name h)

-- An answer with its token and rest.
abbrev FoundBy : List ℕ → (Token × List ℕ) → Type 0
FoundBy bs y = Found bs y.0 y.1

name_s : (bs rest : List ℕ) (k : Token) → name_behind bs ≡ Some (k, rest) → Found (34 ∷ bs) k rest
unfolding name_behind
name_s bs rest k e =
    let a = bind_some (quoted_at 34 bs) (λ x. name_of x.0 >>= λ j. Some (j, x.1)) (k, rest) e in
    let b = bind_some (name_of a.0.0) (λ j. Some (j, a.0.1)) (k, rest) a.2 in
    let q = quoted_s 34 bs a.0 a.1 in
    subst (FoundBy (34 ∷ bs)) (some_is (b.0, a.0.1) (k, rest) b.2) record { front = quoted_text 34 a.0.0; cut = quoted_cut 34 bs a.0 q; is = name_is a.0.0 a.0.1 b.0 q.1 b.1 }

text_s : (bs rest : List ℕ) (k : Token) → text_behind bs ≡ Some (k, rest) → Found (39 ∷ bs) k rest
unfolding text_behind
text_s bs rest k e =
    let a = bind_some (quoted_at 39 bs) (λ x. Some (tokens.Text x.0, x.1)) (k, rest) e in
    let q = quoted_s 39 bs a.0 a.1 in
    subst (FoundBy (39 ∷ bs)) (some_is (tokens.Text a.0.0, a.0.1) (k, rest) a.2) record { front = quoted_text 39 a.0.0; cut = quoted_cut 39 bs a.0 q; is = IsToken.text q.1 }

-- ---- numbers

some_digits : (ds : List ℕ) → list_all is_ascii_digit ds ≡ true → 0 < length ds → is_digits ds ≡ true
some_digits [] h k = absurd (omega arith)
some_digits (d ∷ ds) h k = h

abbrev IsDigitFront : List ℕ → (List ℕ × List ℕ) → Type 0
IsDigitFront bs x = (bs ≡ x.0 ++ x.1) × (is_digits x.0 ≡ true) × (begins_with continues_word x.1 ≡ false)

digits_cut : (n : ℕ) (t u : Bool) (bs : List ℕ) (x : List ℕ × List ℕ) → t ≡ eqb n 0 → u ≡ begins_with begins_word (drop n bs) → list_all is_ascii_digit (take n bs) ≡ true → begins_with is_ascii_digit (drop n bs) ≡ false → length (take n bs) ≡ n → cond (t || u) None (Some (take n bs, drop n bs)) ≡ Some x → IsDigitFront bs x
digits_cut n true u bs x t_is u_is all stop long e = absurd cc
digits_cut n false true bs x t_is u_is all stop long e = absurd cc
digits_cut n false false bs x t_is u_is all stop long e =
    let some : 0 < n = positive n (sym t_is) in
    subst (λ (y : List ℕ × List ℕ). IsDigitFront bs y) (some_is (take n bs, drop n bs) x e)
    (sym (take-append-drop n bs), some_digits (take n bs) all (omega arith), no_word (drop n bs) (sym u_is) stop) where
      positive : (n : ℕ) → eqb n 0 ≡ false → 0 < n
      positive n e = grind (arith, nat_tests)

digits_s : (bs : List ℕ) (x : List ℕ × List ℕ) → digits_at bs ≡ Some x → IsDigitFront bs x
unfolding digits_at
digits_s bs x e =
    digits_cut (prefix_len is_ascii_digit bs) (eqb (prefix_len is_ascii_digit bs) 0) (begins_with begins_word (drop (prefix_len is_ascii_digit bs) bs)) bs x refl refl
    (front_passes is_ascii_digit bs) (front_stops is_ascii_digit bs) (length-prefix_len is_ascii_digit bs) e

at_most : (a b : ℕ) → nat_le a b ≡ true → a ≤ b
at_most a b e = grind (arith, nat_tests)

less : (a b : ℕ) → nat_lt a b ≡ true → a < b
less a b e = grind (arith, nat_tests)

number_is : (ds rest : List ℕ) (i : ℤ) → is_digits ds ≡ true → begins_with continues_word rest ≡ false → number_of false (digits_value 10 ds) ≡ Some i → IsToken ds (tokens.Integer i) rest
unfolding number_of
number_is ds rest i d stop e =
    let h = test_some (nat_lt (digits_value 10 ds) (2 ^ 63)) (pos (digits_value 10 ds)) i e in
    subst (λ (j : ℤ). IsToken ds (tokens.Integer j) rest) h.1 (IsToken.number d (less (digits_value 10 ds) (2 ^ 63) h.0) stop)

negative_is : (ds rest : List ℕ) (i : ℤ) → is_digits ds ≡ true → begins_with continues_word rest ≡ false → number_of true (digits_value 10 ds) ≡ Some i → IsToken (45 ∷ ds) (tokens.Integer i) rest
unfolding number_of
negative_is ds rest i d stop e =
    let h = test_some (nat_le (digits_value 10 ds) (2 ^ 63)) (neg_ℤ (pos (digits_value 10 ds))) i e in
    subst (λ (j : ℤ). IsToken (45 ∷ ds) (tokens.Integer j) rest) h.1 (IsToken.negative d (at_most (digits_value 10 ds) (2 ^ 63) h.0) stop)

plain_number_s : (bs rest : List ℕ) (k : Token) → number_behind false bs ≡ Some (k, rest) → Found bs k rest
unfolding number_behind
plain_number_s bs rest k e =
    let a = bind_some (digits_at bs) (λ x. number_of false (digits_value 10 x.0) >>= λ i. Some (tokens.Integer i, x.1)) (k, rest) e in
    let b = bind_some (number_of false (digits_value 10 a.0.0)) (λ i. Some (tokens.Integer i, a.0.1)) (k, rest) a.2 in
    let d = digits_s bs a.0 a.1 in
    subst (FoundBy bs) (some_is (tokens.Integer b.0, a.0.1) (k, rest) b.2) record { front = a.0.0; cut = d.0; is = number_is a.0.0 a.0.1 b.0 d.1 d.2 b.1 }

negative_s : (bs rest : List ℕ) (k : Token) → number_behind true bs ≡ Some (k, rest) → Found (45 ∷ bs) k rest
unfolding number_behind
negative_s bs rest k e =
    let a = bind_some (digits_at bs) (λ x. number_of true (digits_value 10 x.0) >>= λ i. Some (tokens.Integer i, x.1)) (k, rest) e in
    let b = bind_some (number_of true (digits_value 10 a.0.0)) (λ i. Some (tokens.Integer i, a.0.1)) (k, rest) a.2 in
    let d = digits_s bs a.0 a.1 in
    subst (FoundBy (45 ∷ bs)) (some_is (tokens.Integer b.0, a.0.1) (k, rest) b.2) record { front = 45 ∷ a.0.0; cut = ap (λ (zs : List ℕ). 45 ∷ zs) d.0; is = negative_is a.0.0 a.0.1 b.0 d.1 d.2 b.1 }

-- The same token in front of an equal text.
moved : (bs cs : List ℕ) (k : Token) (rest : List ℕ) → bs ≡ cs → Found cs k rest → Found bs k rest
moved bs cs k rest e f = record { front = f.front; cut = e ∙ f.cut; is = f.is }

number_s : (bs rest : List ℕ) (k : Token) → number_at bs ≡ Some (k, rest) → Found bs k rest
unfolding number_at
number_s bs rest k e =
    elim (choose_some (behind 45 bs) (number_behind false bs) (λ r. number_behind true r) (k, rest) e) [
      | inl h ↦ plain_number_s bs rest k h.1
      | inr h ↦ moved bs (45 ∷ h.0) k rest (behind_cut 45 bs h.0 h.1) (negative_s h.0 rest k h.2)
    ]

other_s : (bs rest : List ℕ) (k : Token) → other_at bs ≡ Some (k, rest) → Found bs k rest
unfolding other_at
other_s bs rest k e =
    elim (choose_some (behind 34 bs) (choose (behind 39 bs) (number_at bs) (λ r. text_behind r)) (λ r. name_behind r) (k, rest) e) [
      | inr h ↦ moved bs (34 ∷ h.0) k rest (behind_cut 34 bs h.0 h.1) (name_s h.0 rest k h.2)
      | inl h ↦ elim (choose_some (behind 39 bs) (number_at bs) (λ r. text_behind r) (k, rest) h.1) [
        | inr j ↦ moved bs (39 ∷ j.0) k rest (behind_cut 39 bs j.0 j.1) (text_s j.0 rest k j.2)
        | inl j ↦ number_s bs rest k j.1
      ]
    ]

-- ---- signs

-- The first byte, or 0.
abbrev first_byte : List ℕ → ℕ
first_byte bs = get_or bs 0 0

-- A sign of one character, which begins no sign of two, is the longest.
alone : (c : ℕ) (sign : Sign) (rest : List ℕ) → sign_text sign ≡ c ∷ [] → (c ≡ 60 → ⊥) → (c ≡ 62 → ⊥) → IsLongestSign sign rest
alone c sign rest e f g s.Open behind h = rw e (omega arith)
alone c sign rest e f g s.Close behind h = rw e (omega arith)
alone c sign rest e f g s.Comma behind h = rw e (omega arith)
alone c sign rest e f g s.Star behind h = rw e (omega arith)
alone c sign rest e f g s.Equal behind h = rw e (omega arith)
alone c sign rest e f g s.NotEqual behind h = absurd (f (ap first_byte (rw e at h)))
alone c sign rest e f g s.Less behind h = rw e (omega arith)
alone c sign rest e f g s.LessOrEqual behind h = absurd (f (ap first_byte (rw e at h)))
alone c sign rest e f g s.Greater behind h = rw e (omega arith)
alone c sign rest e f g s.GreaterOrEqual behind h = absurd (g (ap first_byte (rw e at h)))

-- A sign of two characters is the longest.
double : (sign : Sign) (rest : List ℕ) → 2 ≤ length (sign_text sign) → IsLongestSign sign rest
double sign rest e s.Open behind h = omega arith
double sign rest e s.Close behind h = omega arith
double sign rest e s.Comma behind h = omega arith
double sign rest e s.Star behind h = omega arith
double sign rest e s.Equal behind h = omega arith
double sign rest e s.NotEqual behind h = e
double sign rest e s.Less behind h = omega arith
double sign rest e s.LessOrEqual behind h = e
double sign rest e s.Greater behind h = omega arith
double sign rest e s.GreaterOrEqual behind h = e

-- The second byte, or 0.
abbrev second_byte : List ℕ → ℕ
second_byte bs = get_or bs 1 0

-- What is read as no byte c has no byte c in front.
not_first : (c : ℕ) (rest more : List ℕ) → Steps.behind c rest ≡ None → rest ≡ c ∷ more → ⊥
not_first c rest more e h = let k = is_first c more in let j : Steps.behind c rest ≡ Some more = rw h k in absurd cc where
  is_first : (c : ℕ) (more : List ℕ) → Steps.behind c (c ∷ more) ≡ Some more
  is_first c more = grind (arith, nat_tests)

-- Two different bytes.
not_equal : (a b : ℕ) → a < b → a ≡ b → ⊥
not_equal a b h e = omega arith

-- All but the first byte.
tail_of : List ℕ → List ℕ
tail_of bs = drop 1 bs

less_alone : (rest : List ℕ) → Steps.behind 61 rest ≡ None → Steps.behind 62 rest ≡ None → IsLongestSign s.Less rest
unfolding tail_of
less_alone rest e f s.Open more h = omega arith
less_alone rest e f s.Close more h = omega arith
less_alone rest e f s.Comma more h = omega arith
less_alone rest e f s.Star more h = omega arith
less_alone rest e f s.Equal more h = omega arith
less_alone rest e f s.NotEqual more h = absurd (not_first 62 rest more f (ap tail_of h))
less_alone rest e f s.Less more h = omega arith
less_alone rest e f s.LessOrEqual more h = absurd (not_first 61 rest more e (ap tail_of h))
less_alone rest e f s.Greater more h = omega arith
less_alone rest e f s.GreaterOrEqual more h = absurd (not_equal 60 62 (omega arith) (ap first_byte h))

greater_alone : (rest : List ℕ) → Steps.behind 61 rest ≡ None → IsLongestSign s.Greater rest
unfolding tail_of
greater_alone rest e s.Open more h = omega arith
greater_alone rest e s.Close more h = omega arith
greater_alone rest e s.Comma more h = omega arith
greater_alone rest e s.Star more h = omega arith
greater_alone rest e s.Equal more h = omega arith
greater_alone rest e s.NotEqual more h = absurd (not_equal 60 62 (omega arith) (sym (ap first_byte h)))
greater_alone rest e s.Less more h = omega arith
greater_alone rest e s.LessOrEqual more h = absurd (not_equal 60 62 (omega arith) (sym (ap first_byte h)))
greater_alone rest e s.Greater more h = omega arith
greater_alone rest e s.GreaterOrEqual more h = absurd (not_first 61 rest more e (ap tail_of h))

-- A sign in front, as long as it can be.
abbrev IsSign : List ℕ → (Sign × List ℕ) → Type 0
IsSign bs x = (bs ≡ sign_text x.0 ++ x.1) × IsLongestSign x.0 x.1

less_s : (bs : List ℕ) (o p : Option (List ℕ)) → Steps.behind 61 bs ≡ o → Steps.behind 62 bs ≡ p → IsSign (60 ∷ bs) (choose o (choose p (s.Less, bs) (λ r. (s.NotEqual, r))) (λ r. (s.LessOrEqual, r)))
less_s bs (Some r) p e f = (ap (λ (zs : List ℕ). 60 ∷ zs) (behind_cut 61 bs r e), double s.LessOrEqual r (omega arith))
less_s bs None (Some r) e f = (ap (λ (zs : List ℕ). 60 ∷ zs) (behind_cut 62 bs r f), double s.NotEqual r (omega arith))
less_s bs None None e f = (refl, less_alone bs e f)

greater_s : (bs : List ℕ) (o : Option (List ℕ)) → Steps.behind 61 bs ≡ o → IsSign (62 ∷ bs) (choose o (s.Greater, bs) (λ r. (s.GreaterOrEqual, r)))
greater_s bs (Some r) e = (ap (λ (zs : List ℕ). 62 ∷ zs) (behind_cut 61 bs r e), double s.GreaterOrEqual r (omega arith))
greater_s bs None e = (refl, greater_alone bs e)

-- The same sign in front of an equal text.
moved_sign : (bs cs : List ℕ) (x y : Sign × List ℕ) → bs ≡ cs → x ≡ y → IsSign cs x → IsSign bs y
moved_sign bs cs x y e f h = subst (λ (z : Sign × List ℕ). IsSign bs z) f (e ∙ h.0, h.1)

order_s : (bs : List ℕ) (x : Sign × List ℕ) → order_at bs ≡ Some x → IsSign bs x
unfolding order_at sign_behind_less sign_behind_greater
order_s bs x e =
    elim (choose_some (Steps.behind 60 bs) (choose (Steps.behind 62 bs) None (λ r. Some (sign_behind_greater r))) (λ r. Some (sign_behind_less r)) x e) [
      | inr h ↦ moved_sign bs (60 ∷ h.0) (sign_behind_less h.0) x (behind_cut 60 bs h.0 h.1) (some_is (sign_behind_less h.0) x h.2) (less_s h.0 (Steps.behind 61 h.0) (Steps.behind 62 h.0) refl refl)
      | inl h ↦ elim (choose_some (Steps.behind 62 bs) None (λ r. Some (sign_behind_greater r)) x h.1) [
        | inr j ↦ moved_sign bs (62 ∷ j.0) (sign_behind_greater j.0) x (behind_cut 62 bs j.0 j.1) (some_is (sign_behind_greater j.0) x j.2) (greater_s j.0 (Steps.behind 61 j.0) refl)
        | inl j ↦ absurd (let k = j.1 in cc)
      ]
    ]

-- One way of reading a sign of one character, or the other ways.
either_s : (c : ℕ) (sign : Sign) (bs : List ℕ) (others : Option (Sign × List ℕ)) (x : Sign × List ℕ) → sign_text sign ≡ c ∷ [] → (c ≡ 60 → ⊥) → (c ≡ 62 → ⊥) → (others ≡ Some x → IsSign bs x) → choose (Steps.behind c bs) others (λ r. Some (sign, r)) ≡ Some x → IsSign bs x
either_s c sign bs others x told f g again e =
    elim (choose_some (Steps.behind c bs) others (λ r. Some (sign, r)) x e) [
      | inr h ↦ moved_sign bs (c ∷ h.0) (sign, h.0) x (behind_cut c bs h.0 h.1) (some_is (sign, h.0) x h.2) (rw told refl, alone c sign h.0 told f g)
      | inl h ↦ again h.1
    ]

sign_s : (bs : List ℕ) (x : Sign × List ℕ) → sign_at bs ≡ Some x → IsSign bs x
unfolding sign_at
sign_s bs x e =
    either_s 40 s.Open bs _ x refl (λ h. omega arith) (λ h. omega arith)
    (either_s 41 s.Close bs _ x refl (λ h. omega arith) (λ h. omega arith)
    (either_s 44 s.Comma bs _ x refl (λ h. omega arith) (λ h. omega arith)
    (either_s 42 s.Star bs _ x refl (λ h. omega arith) (λ h. omega arith)
    (either_s 61 s.Equal bs _ x refl (λ h. omega arith) (λ h. omega arith) (order_s bs x))))) e

-- ---- tokens

token_at_s : (t : Bool) (bs rest : List ℕ) (k : Token) → begins_with begins_word bs ≡ t → cond t (Some (word_at bs)) (choose (sign_at bs) (other_at bs) (λ x. Some (tokens.Sign x.0, x.1))) ≡ Some (k, rest) → Found bs k rest
token_at_s true bs rest k t_is e = subst (FoundBy bs) (some_is (word_at bs) (k, rest) e) (word_s bs t_is)
token_at_s false bs rest k t_is e =
    elim (choose_some (sign_at bs) (other_at bs) (λ x. Some (tokens.Sign x.0, x.1)) (k, rest) e) [
      | inl h ↦ other_s bs rest k h.1
      | inr h ↦ (let i = sign_s bs h.0 h.1 in
          subst (FoundBy bs) (some_is (tokens.Sign h.0.0, h.0.1) (k, rest) h.2) record { front = sign_text h.0.0; cut = i.0; is = IsToken.sign i.1 })
    ]

-- What is read in front is a token there.
pub token_s : (bs rest : List ℕ) (k : Token) → token_at bs ≡ Some (k, rest) → Found bs k rest
unfolding token_at
token_s bs rest k e = token_at_s (begins_with begins_word bs) bs rest k refl e
