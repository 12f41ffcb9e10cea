-- Parts that are joined one after the other, as a loop does it.
use Rattle.std.proofs.Common.{◌≡◌, ◌≢◌, ◌+◌, ℕ, List, [], ◌∷◌, ◌++◌, map, Result, Ok, Err, refl, sym, ap, subst, ◌∙◌, append_assoc, append-nil}
use Rattle.std.proofs.lemmas.Grind.{flat_map-append}
use Rattle.std.proofs.lemmas.List.Concat.{flat_map-cons}
use Rattle.part_lines.specs.Reading.{Stream}
use Rattle.query_plan.specs.Planned.{PlannedQuery}
use Rattle.tables.proofs.Following.{one-piece}
use Rattle.tables.proofs.OnePiece.{behind-stands, own-input}
use Rattle.tables.specs.Contents.{HasContents}
use Rattle.semantics.specs.Parts.{ContentsForm, contents_over, newline_terminated, concatenated}
use Rattle.values.specs.Results.{◌>>=◌}
use Rattle.tables.specs.Partials.{HasOwnIndexes, StandsForInput, concatenation, whole_piece}
use Rattle.tables.specs.Sound.{IsSoundUnder}
use Rattle.tables.specs.States.{PartialState}
use Rattle.parts.specs.declared.fault.PartsRefusal.{PartsRefusal}
use Rattle.parts.specs.declared.fault.PartsRefusal.TheVariants as refusal
use Rattle.parts.specs.Faults.{PartedFault, in_part, parted_of}
use Rattle.parts.specs.Inside.Faults.{RefusesParts}
use Rattle.parts.specs.Inside.Gathering.{IsOfOnePiece, contents_in}
use Rattle.parts.specs.Inside.Joining.{ArePartsFrom, JoinsBehind}
use Rattle.parts.specs.Joining.{StandsForAll}
use Rattle.parts.specs.Inside.Reader.{IsKnown, ReaderState, stream_of}
use Rattle.parts.specs.ReadingParts.{behind_part, part_at, with_fault}
use Rattle.parts.proofs.Closing.{closed-contents, concatenated-whole}
use Rattle.parts.proofs.Onward.{at_end, at_fault, at_part}

-- ---- what a result stands for

-- that a result of one piece with the contents of an input stands for it
abbrev pub ContentsLaw : Type 0
ContentsLaw =
    (plan : PlannedQuery) (partial : PartialState) (input : List ℕ)
    → IsSoundUnder plan partial → HasContents partial (contents_over plan.fields plan.query input) → StandsForInput plan partial input

-- the last of some things, and those before it
record IsLast {A B : Type 0} (f : A → B) (xs : List A) (front : List B) (b : B) : Type 0 where
  before : List A
  last : A
  all : xs ≡ before ++ last ∷ []
  front_is : front ≡ map f before
  last_is : b ≡ f last

last-of : {A B : Type 0} (f : A → B) (xs : List A) (front : List B) (b : B) → front ++ b ∷ [] ≡ map f xs → IsLast f xs front b
last-of f [] [] b e = absurd cc
last-of f [] (c ∷ front) b e = absurd cc
last-of f (x ∷ []) [] b e = record { before = []; last = x; all = refl; front_is = refl; last_is = cc }
last-of f (x ∷ y ∷ xs) [] b e = absurd cc
last-of {A} f (x ∷ xs) (c ∷ front) b e =
    let more = last-of f xs front b cc in
    let here : c ≡ f x = cc in
    record { before = x ∷ more.before; last = more.last; all = ap (λ (ys : List A). x ∷ ys) more.all; front_is = (λ i. here i ∷ more.front_is i); last_is = more.last_is }

stands-alone : ContentsLaw → (plan : PlannedQuery) (partial : PartialState) (input : List ℕ) → IsSoundUnder plan partial → IsOfOnePiece partial → contents_in partial ≡ contents_over plan.fields plan.query input
    → StandsForInput plan partial (newline_terminated input)
stands-alone law plan partial input sound one is =
    law plan partial (newline_terminated input) sound
    (subst (λ (c : ContentsForm). HasContents partial c) (is ∙ closed-contents plan.fields plan.query input) (record { refusals = one; groups = refl }))

concatenated-push : (inputs : List (List ℕ)) (input : List ℕ) → concatenated inputs ++ newline_terminated input ≡ concatenated (inputs ++ input ∷ [])
concatenated-push inputs input = sym (flat_map-append newline_terminated inputs (input ∷ []) ∙ ap (λ xs. concatenated inputs ++ xs) (flat_map-cons newline_terminated input [] ∙ append-nil (newline_terminated input)))

-- the first part stands for its input
pub first-stands : ContentsLaw → (plan : PlannedQuery) (partial : PartialState) → IsSoundUnder plan partial → IsOfOnePiece partial → StandsForAll plan (contents_in partial ∷ []) partial
first-stands law plan partial sound one inputs e =
    let l = last-of (contents_over plan.fields plan.query) inputs [] (contents_in partial) e in
    let none : l.before ≡ [] = empty l.before l.front_is in
    subst (StandsForInput plan partial)
    (ap (λ (xs : List (List ℕ)). concatenated xs ++ newline_terminated l.last) (sym none) ∙ concatenated-push l.before l.last ∙ ap concatenated (sym l.all))
    (stands-alone law plan partial l.last sound one l.last_is)
  where
    empty : (xs : List (List ℕ)) → [] ≡ map (contents_over plan.fields plan.query) xs → xs ≡ []
    empty [] e = refl
    empty (x ∷ xs) e = absurd cc

-- and one more behind others for all
follow-stands : ContentsLaw → (plan : PlannedQuery) (all : List ContentsForm) (whole rest next : PartialState) → StandsForAll plan all whole → IsSoundUnder plan rest → IsOfOnePiece rest
    → (HasOwnIndexes whole → HasOwnIndexes rest → next ≡ concatenation whole rest) → StandsForAll plan (all ++ contents_in rest ∷ []) next
follow-stands law plan all whole rest next stands sound one is inputs e =
    let l = last-of (contents_over plan.fields plan.query) inputs all (contents_in rest) e in
    let front = concatenated l.before in
    let joined = front ++ newline_terminated l.last in
    let before = stands l.before l.front_is in
    let behind = stands-alone law plan rest l.last sound one l.last_is in
    let stands_for_one = is (own-input plan whole front before) (own-input plan rest (newline_terminated l.last) behind)
    ∙ behind-stands plan whole rest front (newline_terminated l.last) before behind (concatenated-whole l.before) in
    subst (StandsForInput plan next) (concatenated-push l.before l.last ∙ ap concatenated (sym l.all)) (record { pieces = whole_piece joined; stands = stands_for_one; cut = one-piece joined })

-- ---- what is read

-- parts that were read, and what those behind them are read as
abbrev behind_all : List ContentsForm → Result (List ContentsForm) PartedFault → Result (List ContentsForm) PartedFault
behind_all all answer = answer >>= λ more. Ok (all ++ more)

behind-one : (all : List ContentsForm) (c : ContentsForm) (answer : Result (List ContentsForm) PartedFault) → behind_all all (behind_part c answer) ≡ behind_all (all ++ c ∷ []) answer
behind-one all c (Ok more) = ap (λ (cs : List ContentsForm). Ok cs) (sym (append_assoc all (c ∷ []) more))
behind-one all c (Err fault) = refl

pub read-Ok : {A E F : Type 0} (view : E → F) (read : Result A E) (a : A) → with_fault view read ≡ Ok a → read ≡ Ok a
read-Ok view (Ok x) a e = ap Ok cc
read-Ok view (Err fault) a e = absurd cc

pub record IsFaultOf {A E F : Type 0} (view : E → F) (read : Result A E) (g : F) : Type 0 where
  pub fault : E
  pub is : read ≡ Err fault
  pub seen : view fault ≡ g

pub read-Err : {A E F : Type 0} (view : E → F) (read : Result A E) (g : F) → with_fault view read ≡ Err g → IsFaultOf view read g
read-Err view (Ok x) g e = absurd cc
read-Err view (Err fault) g e = record { fault = fault; is = refl; seen = cc }

-- Behind parts whose result is `first` some more were read, up to where a reader is; the result of
-- all is `whole`, and the next part has the number `part`.
pub record IsJoining (plan : PlannedQuery) (start : ReaderState) (first : PartialState) (reader : ReaderState) (part : ℕ) (whole : PartialState) : Type 0 where
  pub more : List ContentsForm
  pub sound : IsSoundUnder plan whole
  pub stands : (all : List ContentsForm) → StandsForAll plan all first → StandsForAll plan (all ++ more) whole
  pub read : IsKnown start
      → IsKnown reader
      × ((answer : Result (List ContentsForm) PartedFault) → ArePartsFrom plan.fields plan.query part whole.lines (stream_of reader) answer → ArePartsFrom plan.fields plan.query 2 first.lines (stream_of start) (behind_all more answer))

-- before the second one
pub begins : (plan : PlannedQuery) (start : ReaderState) (first : PartialState) → IsSoundUnder plan first → IsJoining plan start first start 2 first
begins plan start first sound = record {
  more = [];
  sound = sound;
  stands = λ all stands. subst (λ (cs : List ContentsForm). StandsForAll plan cs first) (sym (append-nil all)) stands;
  read = λ known. (known, λ answer read. subst (ArePartsFrom plan.fields plan.query 2 first.lines (stream_of start)) (same answer) read);
}
  where
    same : (answer : Result (List ContentsForm) PartedFault) → answer ≡ behind_all [] answer
    same (Ok more) = refl
    same (Err fault) = refl

module _ (plan : PlannedQuery) (start : ReaderState) (first : PartialState) (reader : ReaderState) (part : ℕ) (whole : PartialState) (j : IsJoining plan start first reader part whole) where
  abbrev From : ℕ → ℕ → Stream → Result (List ContentsForm) PartedFault → Type 0
  From p before s answer = ArePartsFrom plan.fields plan.query p before s answer

  -- where no line is left, these are all
  pub no-more : IsKnown start → (stream_of reader).left ≡ [] → JoinsBehind plan first 2 (stream_of start) (Ok whole)
  no-more known none =
      let all = (j.read known).1 (Ok []) (at_end plan.fields plan.query part whole.lines (stream_of reader) none) in
      (j.more, subst (From 2 first.lines (stream_of start)) (ap Ok (append-nil j.more)) all, j.stands)

  -- where a line is left that begins no good part, there is a fault
  pub a-fault : (s : Stream) (e : PartsRefusal) → stream_of reader ≡ s → s.left ≢ [] → IsKnown start → RefusesParts e (with_fault (in_part part) (part_at plan.fields plan.query whole.lines s))
      → JoinsBehind plan first 2 (stream_of start) (Err e)
  a-fault s refusal.Reading same some known h = tt
  a-fault s refusal.OutOfMemory same some known h = tt
  a-fault s (refusal.Fault f) same some known h =
      let w = read-Err (in_part part) (part_at plan.fields plan.query whole.lines s) (parted_of f) h in
      let here = subst (λ (t : Stream). From part whole.lines t (Err (in_part part w.fault))) (sym same) (at_fault plan.fields plan.query part whole.lines s w.fault some w.is) in
      subst (λ (g : PartedFault). From 2 first.lines (stream_of start) (Err g)) w.seen ((j.read known).1 (Err (in_part part w.fault)) here)

  -- where a part was read, there is one more
  pub one-more : ContentsLaw → (s : Stream) (after : ReaderState) (rest next : PartialState) → (IsKnown reader → stream_of reader ≡ s) → (IsKnown reader → s.left ≢ [])
      → (IsKnown reader → IsKnown after) → (IsKnown reader → with_fault (in_part part) (part_at plan.fields plan.query whole.lines s) ≡ Ok (contents_in rest, stream_of after))
      → IsSoundUnder plan rest → IsOfOnePiece rest → (HasOwnIndexes whole → HasOwnIndexes rest → next ≡ concatenation whole rest)
      → next.lines ≡ whole.lines + rest.lines → IsSoundUnder plan next
      → IsJoining plan start first after (part + 1) next
  one-more law s after rest next same some still read sound one is lines sound_too = record {
    more = j.more ++ contents_in rest ∷ [];
    sound = sound_too;
    stands = λ all given.
        subst (λ (cs : List ContentsForm). StandsForAll plan cs next) (append_assoc all j.more (contents_in rest ∷ []))
        (follow-stands law plan (all ++ j.more) whole rest next (j.stands all given) sound one is);
    read = λ known.
        let here = (j.read known).0 in (
          still here,
          λ answer others.
              let is = read-Ok (in_part part) (part_at plan.fields plan.query whole.lines s) (contents_in rest, stream_of after) (read here) in
              let behind = subst (λ (n : ℕ). From (part + 1) n (stream_of after) answer) lines others in
              let all = at_part plan.fields plan.query part whole.lines s (contents_in rest) (stream_of after) answer (some here) is behind in
              subst (From 2 first.lines (stream_of start)) (behind-one j.more (contents_in rest) answer) ((j.read known).1 (behind_part (contents_in rest) answer) (subst (λ (t : Stream). From part whole.lines t (behind_part (contents_in rest) answer)) (sym (same here)) all)),
        );
  }
