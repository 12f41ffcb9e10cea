-- The lines of what a reader gives, over rounds.
use Rattle.std.proofs.Common.{◌≡◌, ◌⊎◌, inl, inr, ◌+◌, ◌-◌, ◌<◌, ◌≤◌, ◌==◌, ℕ, true, false, Bool, List, [], ◌∷◌, ◌++◌, length, take, drop, slice_index, slice_range, Option, Some, None, Result, Ok, Err, refl, sym, ap, subst, ◌∙◌, arith, append-nil, length-append, length-drop}
use Rattle.std.proofs.lemmas.Bool.{cases_Bool, cases_lt}
use Rattle.std.proofs.lemmas.List.{drop-append-le, drop_all, drop-drop}
use Rattle.std.proofs.Math.Seq.{drop-nil, get_or-append_seam}
use Rattle.std.specs.Io.KnownBytes.{Consumes, IsAtEnd, Keeps, prepend_known}
use Rattle.std.specs.Prelude.{◌↔◌, IfOk, IfSome, IsSome, OnOk, min, unwrap_or}
use Rattle.memchr.specs.Find.{IsFirstByte, is_byte}
use Rattle.lines.proofs.Feeds.{range_to_end}
use Rattle.lines.proofs.Fronts.{lines-whole_lines}
use Rattle.lines.proofs.Splits.{lines-some, text_lines_first, text_lines_last}
use Rattle.lines.specs.Pieces.{AreWholeLines, EndsInFeed}
use Rattle.lines.specs.Rounds.{HasMoved, RoundsState}
use Rattle.lines.specs.declared.fault.ReadFault.{ReadFault}
use Rattle.semantics.specs.Lines.{line_feed, lines}
use Rattle.parts.specs.Inside.Reader.{HasLine, IsAtLine, IsLineAt, left_at}

-- ---- whole lines

-- what is left behind a place of whole lines is whole lines
feed-behind : (k : ℕ) (bytes : List ℕ) (e : EndsInFeed bytes) → k ≤ length e.front → AreWholeLines (drop k bytes)
feed-behind k bytes e l =
    inr record { front = drop k e.front; is = ap (drop k) e.is ∙ drop-append-le k e.front (line_feed ∷ []) l }

whole-ended : (k : ℕ) (bytes : List ℕ) (e : EndsInFeed bytes) → (k ≤ length e.front) ⊎ (length e.front < k) → AreWholeLines (drop k bytes)
whole-ended k bytes e (inl l) = feed-behind k bytes e l
whole-ended k bytes e (inr l) =
    let size = ap length e.is ∙ length-append e.front (line_feed ∷ []) in
    inl (drop_all k bytes (omega (arith, size, l)))

pub whole-behind : (k : ℕ) (bytes : List ℕ) → AreWholeLines bytes → AreWholeLines (drop k bytes)
whole-behind k bytes (inl none) = inl (ap (drop k) none ∙ drop-nil k)
whole-behind k bytes (inr e) = elim (cases_lt (length e.front) k) [ inl l ↦ whole-ended k bytes e (inr l) | inr l ↦ whole-ended k bytes e (inl l) ]

-- bytes that end in a line feed have one
has-feed : (bytes : List ℕ) → EndsInFeed bytes → IsFirstByte (is_byte line_feed) bytes None → ⊥
has-feed bytes e none =
    let size = ap length e.is ∙ length-append e.front (line_feed ∷ []) in
    let there : slice_index bytes (length e.front) ≡ line_feed = ap (λ (xs : List ℕ). slice_index xs (length e.front)) e.is ∙ get_or-append_seam e.front line_feed [] 0 in
    none (length e.front) (omega arith) (omega (arith, size)) (ap (λ b. b == line_feed) there)

-- ---- the first line

first-followed : (bytes rest : List ℕ) (i : ℕ) → IsFirstByte (is_byte line_feed) bytes (Some i) → AreWholeLines bytes ⊎ (rest ≡ [])
    → lines (bytes ++ rest) ≡ take (i - 0) bytes ∷ lines (drop (i + 1) bytes ++ rest)
first-followed bytes rest i is (inl whole) =
    lines-whole_lines bytes rest whole
    ∙ ap (λ ls. ls ++ lines rest) (text_lines_first bytes i is)
    ∙ ap (λ ls. take (i - 0) bytes ∷ ls) (sym (lines-whole_lines (drop (i + 1) bytes) rest (whole-behind (i + 1) bytes whole)))
first-followed bytes rest i is (inr none) =
    ap (λ xs. lines (bytes ++ xs)) none
    ∙ ap lines (append-nil bytes)
    ∙ text_lines_first bytes i is
    ∙ ap (λ xs. take (i - 0) bytes ∷ lines xs) (sym (append-nil (drop (i + 1) bytes)) ∙ ap (λ xs. drop (i + 1) bytes ++ xs) (sym none))

last-followed : (bytes rest : List ℕ) → 0 < length bytes → IsFirstByte (is_byte line_feed) bytes None → AreWholeLines bytes ⊎ (rest ≡ [])
    → lines (bytes ++ rest) ≡ bytes ∷ lines ([] ++ rest)
last-followed bytes rest some is (inl (inl none)) = absurd (omega (arith, some, ap length none))
last-followed bytes rest some is (inl (inr feed)) = absurd (has-feed bytes feed is)
last-followed bytes rest some is (inr none) =
    ap (λ xs. lines (bytes ++ xs)) none
    ∙ ap lines (append-nil bytes)
    ∙ text_lines_last bytes some is
    ∙ ap (λ xs. bytes ∷ lines xs) (drop_all (length bytes) bytes (omega arith) ∙ sym none)

pub line-ended : (round : List ℕ) (place i : ℕ) → IsFirstByte (is_byte line_feed) (take (length round - place) (drop place round)) (Some i)
    → IsLineAt round place (place + i) (slice_range round place (place + i))
line-ended round place i h =
    let is = subst (λ (xs : List ℕ). IsFirstByte (is_byte line_feed) xs (Some i)) (range_to_end place round) h in
    let below = is.0.high in
    let size = length-drop place round in
    record {
      later = omega arith;
      within = omega (arith, below, size);
      is_first = λ rest ends.
          first-followed (drop place round) rest i is ends
          ∙ ap (λ n. take n (drop place round) ∷ lines (drop (i + 1) (drop place round) ++ rest)) (let e : i - 0 ≡ place + i - place = omega arith in e)
          ∙ ap (λ xs. take (place + i - place) (drop place round) ∷ lines (xs ++ rest)) (drop-drop (i + 1) place round ∙ ap (λ n. drop n round) (let e : place + (i + 1) ≡ place + i + 1 = omega arith in e));
    }

pub line-unended : (round : List ℕ) (place : ℕ) → place < length round → IsFirstByte (is_byte line_feed) (take (length round - place) (drop place round)) None
    → IsLineAt round place (length round) (slice_range round place (length round))
line-unended round place some h =
    let is = subst (λ (xs : List ℕ). IsFirstByte (is_byte line_feed) xs None) (range_to_end place round) h in
    record {
      later = omega arith;
      within = omega arith;
      is_first = λ rest ends.
          last-followed (drop place round) rest (omega (arith, length-drop place round)) is ends
          ∙ ap (λ xs. xs ∷ lines ([] ++ rest)) (sym (range_to_end place round))
          ∙ ap (λ xs. slice_range round place (length round) ∷ lines (xs ++ rest)) (sym (drop_all (length round + 1) round (omega arith)));
    }

-- ---- a round more

module _ {R : Type 0} (old new : RoundsState R) (place : ℕ) (past : length old.round ≤ place) where
  here : drop place old.round ≡ []
  here = drop_all place old.round past

  -- the same is to come, where it is known
  keeps-given : (left next : Option (List ℕ)) → Consumes left next new.round → Keeps (prepend_known (drop place old.round) left) (prepend_known new.round next)
  keeps-given None next given = tt
  keeps-given (Some bytes) None given = absurd given
  keeps-given (Some bytes) (Some rest) given = sym given ∙ sym (ap (λ xs. xs ++ bytes) here)

  keeps-none : (left next : Option (List ℕ)) → Keeps left next → new.round ≡ [] → Keeps (prepend_known (drop place old.round) left) (prepend_known new.round next)
  keeps-none None next same none = tt
  keeps-none (Some bytes) None same none = absurd same
  keeps-none (Some bytes) (Some rest) same none = ap (λ xs. xs ++ rest) none ∙ same ∙ sym (ap (λ xs. xs ++ bytes) here)

  pub moved-keeps : (found : Result Bool ReadFault) → HasMoved old found new → OnOk found (Keeps (left_at old place) (left_at new 0))
  moved-keeps (Ok true) moved = keeps-given old.left new.left (moved.round refl).left
  moved-keeps (Ok false) moved = keeps-none old.left new.left (moved.none refl).same (moved.none refl).round
  moved-keeps (Err e) moved = tt

-- ---- the line that was read

-- the next line begins behind its line feed, or at the end of the round
next-place : (round : List ℕ) (end : ℕ) → drop (min (length round) (end + 1)) round ≡ drop (end + 1) round
next-place round end = elim (cases_lt (length round) (end + 1)) [
  | inl l ↦ ap (λ n. drop n round) (let e : min (length round) (end + 1) ≡ length round = grind arith in e) ∙ drop_all (length round) round (omega arith) ∙ sym (drop_all (end + 1) round (omega (arith, l)))
  | inr l ↦ ap (λ n. drop n round) (let e : min (length round) (end + 1) ≡ end + 1 = grind arith in e)
]

next-ends : {R : Type 0} (rounds : RoundsState R) (place end : ℕ) → place ≤ end → AreWholeLines (drop place rounds.round) ⊎ IsAtEnd rounds.left
    → AreWholeLines (drop (end + 1) rounds.round) ⊎ IsAtEnd rounds.left
next-ends rounds place end l (inl whole) =
    inl (subst AreWholeLines (drop-drop (end + 1 - place) place rounds.round ∙ ap (λ n. drop n rounds.round) (let e : place + (end + 1 - place) ≡ end + 1 = omega (arith, l) in e)) (whole-behind (end + 1 - place) (drop place rounds.round) whole))
next-ends rounds place end l (inr end-of) = inr end-of

pub next-at_line : {R : Type 0} (rounds : RoundsState R) (place end line next : ℕ) → place < length rounds.round → place ≤ end → next ≡ min (length rounds.round) (end + 1) → IsAtLine rounds place line
    → IsAtLine rounds next (line + 1)
next-at_line rounds place end line next some l is at =
    let working : rounds.failed ≡ false = elim (cases_Bool rounds.failed) [ inl failed ↦ (let none = ap length (at.lost failed) in absurd (omega (arith, some, none))) | inr works ↦ works ] in
    let count = at.count working in
    let limit = at.limit in
    let least : next ≤ length rounds.round = rw is grind arith in
    let later : place + 1 ≤ next = rw is grind (arith, some, l) in
    record {
      within = least;
      ends = subst (λ (xs : List ℕ). AreWholeLines xs ⊎ IsAtEnd rounds.left) (sym (next-place rounds.round end) ∙ ap (λ n. drop n rounds.round) (sym is)) (next-ends rounds place end l at.ends);
      lost = at.lost;
      count = λ e. omega (arith, count, least, later);
      few = omega (arith, count, limit, some);
      limit = limit;
    }

pub taken : {R : Type 0} (rounds : RoundsState R) (place end next : ℕ) (line : List ℕ) (known : Option (List ℕ)) → IsLineAt rounds.round place end line → next ≡ min (length rounds.round) (end + 1)
    → AreWholeLines (drop place rounds.round) ⊎ IsAtEnd known
    → IfSome (prepend_known (drop place rounds.round) known) (λ bytes. IfSome (prepend_known (drop next rounds.round) known) (λ rest. lines bytes ≡ line ∷ lines rest))
taken rounds place end next line None stands is ends = tt
taken rounds place end next line (Some rest) stands is ends =
    stands.is_first rest ends ∙ ap (λ xs. line ∷ lines (xs ++ rest)) (sym (next-place rounds.round end) ∙ ap (λ n. drop n rounds.round) (sym is))

-- ---- whether there is a line

-- where a byte is behind the place, there is a line
bytes-some : (bytes front rest : List ℕ) → front ++ rest ≡ bytes → 0 < length front → lines bytes ≡ [] → ⊥
bytes-some bytes front rest same some none =
    let size = length-append front rest in
    let long : 0 < length bytes = omega (arith, ap length same, size, some) in
    omega (arith, lines-some bytes long, ap length none)

some-known : (known next : Option (List ℕ)) (front : List ℕ) → IsSome known → Keeps known (prepend_known front next) → 0 < length front → lines (unwrap_or known []) ≡ [] → ⊥
some-known None next front is keeps some none = absurd cc
some-known (Some bytes) None front is keeps some none = absurd keeps
some-known (Some bytes) (Some rest) front is keeps some none = bytes-some bytes front rest keeps some none

none-known : (known : Option (List ℕ)) → IsSome known → IsAtEnd known → lines (unwrap_or known []) ≡ []
none-known None is end = absurd cc
none-known (Some bytes) is end = ap lines end

pub found-line : {R : Type 0} (old new : RoundsState R) (place next : ℕ) (found : Result Bool ReadFault) → OnOk found (Keeps (left_at old place) (left_at new next)) → (found ≡ Ok true → HasLine new next)
    → (found ≡ Ok false → IsAtEnd (left_at old place)) → IsSome (left_at old place) → IfOk found (λ b. b ≡ false ↔ (lines (unwrap_or (left_at old place) []) ≡ []))
found-line old new place next (Err e) keeps some none known = tt
found-line old new place next (Ok true) keeps some none known =
    let here = some refl in
    let long : 0 < length (drop next new.round) = omega (arith, here, length-drop next new.round) in
    (λ e. absurd cc, λ empty. absurd (some-known (left_at old place) new.left (drop next new.round) known keeps long empty))
found-line old new place next (Ok false) keeps some none known = (λ e. none-known (left_at old place) known (none refl), λ empty. refl)
