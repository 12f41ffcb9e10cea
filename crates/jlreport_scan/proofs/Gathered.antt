-- The result over all rounds so far, and what it is after one more.
use Rattle.std.proofs.Common.{◌≡◌, ◌⊎◌, ◌∙◌, ◌+◌, ◌-◌, ◌*◌, ◌<◌, cond, ◌≤◌, ◌^◌, ℕ, Bool, true, false, List, [], ◌∷◌, ◌++◌, length, map, Option, None, Some, option_map, Result, Ok, Err, inl, inr, refl, sym, ap, subst, arith, append-nil, append_assoc, length-append}
use Rattle.std.specs.Prelude.{IfSome, IsErr, IsErrAnd}
use Rattle.std.specs.Io.KnownBytes.{Consumes, IsAtEnd}
use Rattle.std.proofs.KnownBytes.{Consumes-nil, Consumes-trans}
use Rattle.std.proofs.lemmas.List.{length-map}
use Rattle.semantics.specs.Columns.{Field}
use Rattle.lines.specs.declared.fault.ReadFault.{ReadFault}
use Rattle.semantics.specs.declared.line_fault.LineFault.{LineFault}
use Rattle.semantics.specs.Records.{refused_lines}
use Rattle.semantics.specs.Lines.{line_feed, lines}
use Rattle.lines.specs.Pieces.{AreWholeLines, EndsInFeed}
use Rattle.lines.specs.Rounds.{HasMoved, RoundsState}
use Rattle.lines.specs.Clip.{clip_lines}
use Rattle.lines.proofs.Fronts.{refused-whole_lines}
use Rattle.lines.proofs.Clips.{refused-clip}
use Rattle.tables.specs.Partials.{StandsFor, StandsForInput, whole_piece}
use Rattle.tables.specs.States.{PartialState}
use Rattle.tables.proofs.Following.{one-piece}
use Rattle.jlreport_scan.specs.Inside.Pieces.{StandsBehind, StandsForRounds}
use Rattle.jlreport_scan.specs.Gathered.{IsGather, IsWhole}
use Rattle.jlreport_scan.specs.Inside.Faults.{IsWant, Refuses}
use Rattle.jlreport_scan.specs.Faults.{Stops}
use Rattle.jlreport_scan.specs.declared.fault.GatherFault.{GatherFault}
use Rattle.jlreport_scan.specs.declared.fault.GatherFault.TheVariants.{Reading, OutOfMemory, ThreadNotStarted, TooManyRefused}
use Rattle.jlreport_scan.proofs.Tallies.{length-lines, lines-of-input, refused-of-input}
use Rattle.query_plan.specs.Planned.{PlannedQuery}

-- ---- whole lines

-- whatever stands before bytes that end in a line feed, all of it does
feed-behind : (bytes more : List ℕ) → EndsInFeed more → EndsInFeed (bytes ++ more)
feed-behind bytes more e = record { front = bytes ++ e.front; is = ap (λ xs. bytes ++ xs) e.is ∙ sym (append_assoc bytes e.front (line_feed ∷ [])) }

-- of whole lines at the front of an input and the rest, as many are refused as of each
pub refused-both : (fields : List Field) (front rest : List ℕ) → AreWholeLines front
    → length (refused_lines fields (front ++ rest)) ≡ length (refused_lines fields front) + length (refused_lines fields rest)
refused-both fields front rest whole =
    let shift : ℕ × LineFault → ℕ × LineFault = λ line. (length (lines front) + line.0, line.1) in
    ap length (refused-whole_lines fields front rest whole)
    ∙ length-append (refused_lines fields front) (map shift (refused_lines fields rest))
    ∙ ap (λ n. length (refused_lines fields front) + n) (length-map (refused_lines fields rest) shift)

-- ---- what was read so far, where it is known what the reader gives

-- where nothing is left, it is all, clipped
at-end : (known left : Option (List ℕ)) (bytes : List ℕ) → Consumes (option_map clip_lines known) left bytes → IsAtEnd left → IfSome known (λ input. bytes ≡ clip_lines input)
at-end None left bytes h end = tt
at-end (Some input) None bytes h end = absurd h
at-end (Some input) (Some rest) bytes h end = sym (h ∙ ap (λ xs. bytes ++ xs) end ∙ append-nil bytes)

-- not more of its lines are refused than of the whole input
refused-so_far : (fields : List Field) (known left : Option (List ℕ)) (bytes : List ℕ) → Consumes (option_map clip_lines known) left bytes → AreWholeLines bytes ⊎ IsAtEnd left
    → IfSome known (λ input. length (refused_lines fields bytes) ≤ length (refused_lines fields input))
refused-so_far fields None left bytes h ends = tt
refused-so_far fields (Some input) None bytes h ends = absurd h
refused-so_far fields (Some input) (Some rest) bytes h (inl whole) =
    let all = ap (λ b. length (refused_lines fields b)) h in
    let clipped = ap length (refused-clip fields input) in
    omega (arith, all, clipped, refused-both fields bytes rest whole)
refused-so_far fields (Some input) (Some rest) bytes h (inr end) =
    let all = ap (λ b. length (refused_lines fields b)) (h ∙ ap (λ xs. bytes ++ xs) end ∙ append-nil bytes) in
    let clipped = ap length (refused-clip fields input) in
    omega (arith, all, clipped)

-- ---- a round

-- where a round is given, none before it was the last
not-over : {R : Type 0} (bytes : List ℕ) (old new : RoundsState R) (found : Result Bool ReadFault) (failed : Bool) → old.failed ≡ failed → HasMoved old found new → found ≡ Ok true
    → old.over ≡ true → AreWholeLines bytes
not-over bytes old new found true e moved is over = let wrong = subst (λ r. IsErr r) is (moved.failed e) in absurd cc
not-over bytes old new found false e moved is over = let wrong = sym is ∙ moved.over over e in absurd cc

whole-before : {R : Type 0} (bytes : List ℕ) (old new : RoundsState R) (found : Result Bool ReadFault) → HasMoved old found new → found ≡ Ok true
    → AreWholeLines bytes ⊎ (old.over ≡ true) → AreWholeLines bytes
whole-before bytes old new found moved is (inl whole) = whole
whole-before bytes old new found moved is (inr over) = not-over bytes old new found old.failed refl moved is over

ends-after : {R : Type 0} (bytes : List ℕ) (new : RoundsState R) → EndsInFeed new.round ⊎ (new.over ≡ true) → AreWholeLines (bytes ++ new.round) ⊎ (new.over ≡ true)
ends-after bytes new (inl feed) = inl (inr (feed-behind bytes new.round feed))
ends-after bytes new (inr over) = inr over

end-after : {R : Type 0} (bytes : List ℕ) (new : RoundsState R) → (new.over ≡ true → IsAtEnd new.left) → EndsInFeed new.round ⊎ (new.over ≡ true) → AreWholeLines (bytes ++ new.round) ⊎ IsAtEnd new.left
end-after bytes new last (inl feed) = inl (inr (feed-behind bytes new.round feed))
end-after bytes new last (inr over) = inr (last over)

-- so does what stands for the front and the rest as one piece
pub behind-as_one : (plan : PlannedQuery) (partial sum : PartialState) (rest : List ℕ)
    → ((front : List ℕ) → StandsForInput plan partial front → AreWholeLines front → StandsFor plan sum (whole_piece (front ++ rest))) → StandsBehind plan partial rest sum
behind-as_one plan partial sum rest as_one = record { behind = λ front given whole. record { pieces = whole_piece (front ++ rest); stands = as_one front given whole; cut = one-piece (front ++ rest) } }

module _ {R : Type 0} (plan : PlannedQuery) (known : Option (List ℕ)) (limit : ℕ) (old new : RoundsState R) (found : Result Bool ReadFault) (partial sum : PartialState)
    (s : StandsForRounds plan known limit old partial) (moved : HasMoved old found new) (is : found ≡ Ok true) where
  -- what stands for the round behind the rounds before it stands for all of them
  all-rounds : StandsBehind plan partial new.round sum → StandsForInput plan sum (s.bytes ++ new.round)
  all-rounds behind = behind.behind s.bytes s.stands (whole-before s.bytes old new found moved is s.ends)

  -- as many lines are refused as before and in the round
  pub refused-behind : StandsBehind plan partial new.round sum → sum.refused ≡ partial.refused + length (refused_lines plan.fields new.round)
  refused-behind behind =
      omega (
        arith,
        refused-of-input plan sum (s.bytes ++ new.round) (all-rounds behind),
        refused-of-input plan partial s.bytes s.stands,
        refused-both plan.fields s.bytes new.round (whole-before s.bytes old new found moved is s.ends),
      )

  pub next-behind : StandsBehind plan partial new.round sum → sum.refused ≤ limit → StandsForRounds plan known limit new sum
  next-behind behind few =
      let given = moved.round is in
      record {
        bytes = s.bytes ++ new.round;
        stands = all-rounds behind;
        left = Consumes-trans (option_map clip_lines known) old.left new.left s.bytes new.round s.left given.left;
        count = (let c = s.count in let g = given.given in omega (arith, c, g, length-append s.bytes new.round));
        ends = ends-after s.bytes new given.feed;
        within = few;
      }

-- whose bytes are handed out, the rounds are the same
pub handed-out : {R : Type 0} (plan : PlannedQuery) (known : Option (List ℕ)) (limit : ℕ) (rounds rest : RoundsState R) (partial : PartialState)
    → rest ≡ record rounds { round = [] } → StandsForRounds plan known limit rounds partial → StandsForRounds plan known limit rest partial
handed-out {R = R} plan known limit rounds rest partial e s =
    subst (λ (r : RoundsState R). StandsForRounds plan known limit r partial) (sym e)
    record { bytes = s.bytes; stands = s.stands; left = s.left; count = s.count; ends = s.ends; within = s.within }

-- with each move there is less to give, or none was found
pub less-left : {R : Type 0} (old new : RoundsState R) (found : Bool) → HasMoved old (Ok found) new
    → 2 * (9223372036854775808 - new.given) + cond found 1 0 < 2 * (9223372036854775808 - old.given) + 1
less-left old new true moved = let given = moved.round refl in let g = given.given in let some = given.some in let limit = moved.limit in omega (arith, g, some, limit)
less-left old new false moved = let g = (moved.none refl).given in omega (arith, g)

-- before the first round
pub no-round : {R : Type 0} (plan : PlannedQuery) (known : Option (List ℕ)) (limit : ℕ) (rounds : RoundsState R) (partial : PartialState)
    → rounds.left ≡ option_map clip_lines known → rounds.given ≡ 0 → StandsFor plan partial [] → StandsForRounds plan known limit rounds partial
no-round plan known limit rounds partial left given stands =
    record {
      bytes = [];
      stands = record { pieces = []; stands = stands; cut = record { in_order = λ k lt. absurd (omega (arith, lt)); joined = refl; feeds = tt } };
      left = subst (λ l. Consumes (option_map clip_lines known) l []) (sym left) (Consumes-nil (option_map clip_lines known));
      count = given;
      ends = inl (inl refl);
      within = (let r : partial.refused ≡ 0 = ap (λ (p : PartialState). p.refused) stands in omega (arith, r));
    }

-- where no round is left, the result is over all
pub no-more : {R : Type 0} (plan : PlannedQuery) (known : Option (List ℕ)) (limit : ℕ) (old new : RoundsState R) (found : Result Bool ReadFault) (partial : PartialState)
    → StandsForRounds plan known limit old partial → HasMoved old found new → found ≡ Ok false → IsWhole plan known partial
no-more plan known limit old new found partial s moved is =
    record { bytes = s.bytes; stands = s.stands; clipped = at-end known old.left s.bytes s.left (moved.none is).left }

-- ---- what is asked of a round

-- the rounds before it are whole lines
pub front-before : {R : Type 0} (plan : PlannedQuery) (known : Option (List ℕ)) (limit : ℕ) (old new : RoundsState R) (found : Result Bool ReadFault) (partial : PartialState)
    → StandsForRounds plan known limit old partial → HasMoved old found new → found ≡ Ok true → (front : List ℕ) × StandsForInput plan partial front × AreWholeLines front
front-before plan known limit old new found partial s moved is = (s.bytes, s.stands, whole-before s.bytes old new found moved is s.ends)

-- with its bytes, as many as the lines so far, it is short
pub short-round : {R : Type 0} (plan : PlannedQuery) (known : Option (List ℕ)) (limit : ℕ) (old new : RoundsState R) (found : Result Bool ReadFault) (partial : PartialState)
    → StandsForRounds plan known limit old partial → HasMoved old found new → found ≡ Ok true → partial.lines + length new.round < 2 ^ 63
short-round plan known limit old new found partial s moved is =
    let c = s.count in
    let g = (moved.round is).given in
    let m = moved.limit in
    omega (arith, c, g, m, lines-of-input plan partial s.bytes s.stands, length-lines s.bytes)

pub few-behind : {R : Type 0} (plan : PlannedQuery) (known : Option (List ℕ)) (limit : ℕ) (old new : RoundsState R) (found : Result Bool ReadFault) (partial : PartialState)
    → StandsForRounds plan known limit old partial → HasMoved old found new → found ≡ Ok true → partial.lines + length (lines new.round) < 2 ^ 63
few-behind plan known limit old new found partial s moved is =
    let c = s.count in
    let g = (moved.round is).given in
    let m = moved.limit in
    omega (arith, c, g, m, lines-of-input plan partial s.bytes s.stands, length-lines s.bytes, length-lines new.round)

-- ---- where a round is over the limit

above : (known : Option (List ℕ)) (count : List ℕ → ℕ) (most so_far : ℕ) → most < so_far → IfSome known (λ input. so_far ≤ count input) → IfSome known (λ input. most < count input)
above None count most so_far l few = tt
above (Some input) count most so_far l few = omega (arith, l, few)

stops-there : {R : Type 0} (plan : PlannedQuery) (known : Option (List ℕ)) (limit : ℕ) (most : Option ℕ) (old new : RoundsState R) (found : Result Bool ReadFault) (partial : PartialState) (fault : GatherFault)
    → StandsForRounds plan known limit old partial → HasMoved old found new → found ≡ Ok true
    → IsWant fault ⊎ Refuses fault most (partial.refused + length (refused_lines plan.fields new.round)) → Stops fault most plan.fields known
stops-there plan known limit most old new found partial fault s moved is (inl (inl e)) = subst (λ (f : GatherFault). Stops f most plan.fields known) (sym e) tt
stops-there plan known limit most old new found partial fault s moved is (inl (inr e)) = subst (λ (f : GatherFault). Stops f most plan.fields known) (sym e) tt
stops-there plan known limit most old new found partial Reading s moved is (inr h) = absurd h
stops-there plan known limit most old new found partial OutOfMemory s moved is (inr h) = absurd h
stops-there plan known limit most old new found partial ThreadNotStarted s moved is (inr h) = absurd h
stops-there plan known limit most old new found partial (TooManyRefused n) s moved is (inr h) =
    let given = moved.round is in
    let whole = whole-before s.bytes old new found moved is s.ends in
    let so_far = length (refused_lines plan.fields (s.bytes ++ new.round)) in
    let left = Consumes-trans (option_map clip_lines known) old.left new.left s.bytes new.round s.left given.left in
    let more : n < so_far = omega (arith, h.1, refused-of-input plan partial s.bytes s.stands, refused-both plan.fields s.bytes new.round whole) in
    (h.0, above known (λ input. length (refused_lines plan.fields input)) n so_far more (refused-so_far plan.fields known new.left (s.bytes ++ new.round) left (end-after s.bytes new given.last given.feed)))

pub round-stops : {R : Type 0} (plan : PlannedQuery) (known : Option (List ℕ)) (limit : ℕ) (most : Option ℕ) (old new : RoundsState R) (found : Result Bool ReadFault) (partial : PartialState)
    (before : ℕ) (round : List ℕ) (fault : GatherFault) → StandsForRounds plan known limit old partial → HasMoved old found new → found ≡ Ok true → before ≡ partial.refused → round ≡ new.round
    → IsWant fault ⊎ Refuses fault most (before + length (refused_lines plan.fields round)) → Stops fault most plan.fields known
round-stops plan known limit most old new found partial before round fault s moved is e f h =
    let there = subst (λ (bytes : List ℕ). IsWant fault ⊎ Refuses fault most (before + length (refused_lines plan.fields bytes))) f h in
    stops-there plan known limit most old new found partial fault s moved is
    (subst (λ (n : ℕ). IsWant fault ⊎ Refuses fault most (n + length (refused_lines plan.fields new.round))) e there)

-- ---- what gathering answers

-- a fault, which says of the input what it says
pub gather-fault : (r : Result PartialState GatherFault) (limit : Option ℕ) (plan : PlannedQuery) (known : Option (List ℕ)) (P : GatherFault → Type 0)
    → IsErrAnd r P → ((fault : GatherFault) → P fault → Stops fault limit plan.fields known) → IsGather r limit plan known
gather-fault (Ok partial) limit plan known P h stops = absurd h
gather-fault (Err fault) limit plan known P h stops = record { is_whole = tt; is_within = tt; stops = stops fault h }
