-- Each text derives a query or has one fault.
use Rattle.std.proofs.Common.{arith, length, ◌<◌, ◌≤◌, ◌≡◌, ◌⊎◌, inl, inr, ℕ, zero, suc, Some, List, [], ◌∷◌, ◌++◌, refl, ap, subst, ◌∙◌}
use Rattle.std.specs.Prelude.{slice_get}
use Rattle.semantics.specs.declared.query_fault.QueryFault.{QueryFault}
use Rattle.semantics.specs.declared.query_fault.QueryFault.TheVariants as faults
use Rattle.semantics.specs.declared.token.Token.{Token}
use Rattle.semantics.specs.Tokens.{Spells, StopsAt}
use Rattle.query_lexer.proofs.Unique.{one as spells_one}
use Rattle.query_lexer.proofs.Stops.{decided as spells_or_stops, not_both as spells_and_stops, one as stops_one}
use Rattle.semantics.specs.Syntax.{Query}
use Rattle.semantics.specs.Leaves.{language_limits}
use Rattle.semantics.specs.Grammar.{DerivesWithin}
use Rattle.semantics.specs.Reading.{Derives, SpellsTooMuch, IsUnexpectedAt, IsRefusalOf}
use Rattle.semantics.specs.Prefixes.{IsUnexpected, IsOverLimit}
use Rattle.query_parser.proofs.Faults.{at_most_or, unexpected_once, unexpected_keeps, derived_keeps, decided as derives_or_goes_wrong}
use Rattle.query.proofs.Places.{starts_of_all}

-- ---- no two

-- What holds of the tokens of a text holds of whatever tokens it spells.
moved : {text starts others : List ℕ} {ks ls : List Token} (P : List Token → Type 0) → Spells text ks starts → Spells text ls others → P ls → P ks
moved {text} {starts} {others} {ks} {ls} P s q p = subst P (spells_one text ls ks others starts q s).0 p

same_byte : (text : List ℕ) (byte other : ℕ) → IsUnexpectedAt text byte → IsUnexpectedAt text other → byte ≡ other
same_byte text byte other u v =
    let starts_are = (spells_one text u.tokens v.tokens u.starts v.starts u.spelled v.spelled).1 in
    let place = unexpected_once u.tokens u.place v.place u.unexpected (moved (λ ks. IsUnexpected ks v.place) u.spelled v.spelled v.unexpected) in
    let same : slice_get (u.starts ++ length text ∷ []) u.place ≡ slice_get (v.starts ++ length text ∷ []) v.place = ap (λ n. slice_get (u.starts ++ length text ∷ []) n) place ∙ ap (λ xs. slice_get (xs ++ length text ∷ []) v.place) starts_are in
    let byte_is = u.begins in
    let other_is = v.begins in cc

unexpected_stops : (text : List ℕ) (byte at : ℕ) → IsUnexpectedAt text byte → StopsAt text at → ⊥
unexpected_stops text byte at u s = spells_and_stops text u.starts u.tokens at u.spelled s

over_stops : (text : List ℕ) (at : ℕ) → length text ≤ 65536 → (65536 < length text) ⊎ SpellsTooMuch text → StopsAt text at → ⊥
over_stops text at short (inl long) s = omega (arith, short, long)
over_stops text at short (inr o) s = spells_and_stops text o.starts o.tokens at o.spelled s

over_unexpected : (text : List ℕ) (byte : ℕ) → length text ≤ 65536 → (65536 < length text) ⊎ SpellsTooMuch text → IsUnexpectedAt text byte → ⊥
over_unexpected text byte short (inl long) u = omega (arith, short, long)
over_unexpected text byte short (inr o) u = unexpected_keeps u.tokens u.place u.unexpected (moved IsOverLimit u.spelled o.spelled o.over)

pub one : (text : List ℕ) (fault other : QueryFault) → IsRefusalOf text fault → IsRefusalOf text other → fault ≡ other
one text (faults.NoToken at) (faults.NoToken other) f g = ap (λ (n : ℕ). faults.NoToken n) (stops_one text at other f.1 g.1)
one text (faults.NoToken at) (faults.Unexpected byte) f g = absurd (unexpected_stops text byte at g.1 f.1)
one text (faults.NoToken at) faults.OverLimit f g = absurd (over_stops text at f.0 g f.1)
one text (faults.Unexpected byte) (faults.NoToken at) f g = absurd (unexpected_stops text byte at f.1 g.1)
one text (faults.Unexpected byte) (faults.Unexpected other) f g = ap (λ (n : ℕ). faults.Unexpected n) (same_byte text byte other f.1 g.1)
one text (faults.Unexpected byte) faults.OverLimit f g = absurd (over_unexpected text byte f.0 g f.1)
one text faults.OverLimit (faults.NoToken at) f g = absurd (over_stops text at g.0 f g.1)
one text faults.OverLimit (faults.Unexpected byte) f g = absurd (over_unexpected text byte g.0 f g.1)
one text faults.OverLimit faults.OverLimit f g = refl
one text (faults.UnknownColumn name) other f g = absurd f
one text faults.TypesDisagree other f g = absurd f
one text (faults.NotGrouped name) other f g = absurd f
one text faults.FunctionNotAllowed other f g = absurd f
one text (faults.RepeatedHeader header) other f g = absurd f
one text faults.OutOfMemory other f g = absurd f
one text fault other f g = absurd g

pub not_both : (text : List ℕ) (q : Query) (fault : QueryFault) → Derives text q → IsRefusalOf text fault → ⊥
not_both text q (faults.NoToken at) d f = spells_and_stops text d.starts d.tokens at d.spelled f.1
not_both text q (faults.Unexpected byte) d f = let u = f.1 in (moved (λ ks. IsUnexpected ks u.place) d.spelled u.spelled u.unexpected).derives_none _ q d.derived
not_both text q faults.OverLimit d f = of_over f where
  of_over : (65536 < length text) ⊎ SpellsTooMuch text → ⊥
  of_over (inl long) = omega (arith, d.short, long)
  of_over (inr o) = derived_keeps d.tokens q d.derived (moved IsOverLimit d.spelled o.spelled o.over)
not_both text q (faults.UnknownColumn name) d f = f
not_both text q faults.TypesDisagree d f = f
not_both text q (faults.NotGrouped name) d f = f
not_both text q faults.FunctionNotAllowed d f = f
not_both text q (faults.RepeatedHeader header) d f = f
not_both text q faults.OutOfMemory d f = f

-- ---- one of them

-- At each place up to the end of a list and one number more stands a number.
byte_at : (xs : List ℕ) (last place : ℕ) → place ≤ length xs → (byte : ℕ) × (slice_get (xs ++ last ∷ []) place ≡ Some byte)
byte_at [] last zero h = (last, refl)
byte_at [] last (suc place) h = absurd (omega arith)
byte_at (x ∷ xs) last zero h = (x, refl)
byte_at (x ∷ xs) last (suc place) h = byte_at xs last place (omega (arith, h))

abbrev Decided : List ℕ → Type 0
Decided text = ((q : Query) × Derives text q) ⊎ ((fault : QueryFault) × IsRefusalOf text fault)

of_tokens : (text starts : List ℕ) (ks : List Token) → length text ≤ 65536 → Spells text ks starts → Decided text
of_tokens text starts ks short s = elim (derives_or_goes_wrong ks) [
  | inl d ↦ inl (d.0, record { short = short; tokens = ks; starts = starts; spelled = s; derived = d.1 })
  | inr e ↦ elim e [
    | inl u ↦ (let b = byte_at starts (length text) u.0 (omega (arith, u.1.inside, starts_of_all s)) in
        inr (faults.Unexpected b.0, (short, record { tokens = ks; starts = starts; spelled = s; place = u.0; begins = b.1; unexpected = u.1 })))
    | inr o ↦ inr (faults.OverLimit, inr record { tokens = ks; starts = starts; spelled = s; over = o })
  ]
]

pub decided : (text : List ℕ) → Decided text
decided text = elim (at_most_or (length text) 65536) [
  | inr long ↦ inr (faults.OverLimit, inl long)
  | inl short ↦ elim (spells_or_stops text) [
    | inl s ↦ of_tokens text s.1 s.0 short s.2
    | inr n ↦ inr (faults.NoToken n.0, (short, n.1))
  ]
]

-- ---- what is answered is told, and no other

-- What is answered is this fault, or that memory ran out.
abbrev Told : List ℕ → QueryFault → Type 0
Told text found = (fault : QueryFault) → IsRefusalOf text fault → (found ≡ fault) ⊎ (found ≡ faults.OutOfMemory)

pub told_no_token : (text : List ℕ) (at : ℕ) → length text ≤ 65536 → StopsAt text at → Told text (faults.NoToken at)
told_no_token text at short s fault f = inl (one text (faults.NoToken at) fault (short, s) f)

pub told_unexpected : (text : List ℕ) (byte : ℕ) → length text ≤ 65536 → IsUnexpectedAt text byte → Told text (faults.Unexpected byte)
told_unexpected text byte short u fault f = inl (one text (faults.Unexpected byte) fault (short, u) f)

pub told_too_much : (text : List ℕ) → SpellsTooMuch text → Told text faults.OverLimit
told_too_much text o fault f = inl (one text faults.OverLimit fault (inr o) f)

pub told_query : (text starts : List ℕ) (ks : List Token) (q : Query) → length text ≤ 65536 → Spells text ks starts → DerivesWithin language_limits ks q → (fault : QueryFault) → IsRefusalOf text fault → ⊥
told_query text starts ks q short s d fault f = not_both text q fault record { short = short; tokens = ks; starts = starts; spelled = s; derived = d } f
