-- Reading parts goes forward: behind what was read there are no more lines than before it, and
-- behind a part there are fewer. So as many parts as there are lines are all of them.
use Rattle.std.proofs.Common.{◌≡◌, ◌≢◌, ◌≤◌, ◌+◌, ◌-◌, ◌^◌, ℕ, zero, suc, List, [], ◌∷◌, length, None, Result, Ok, Err, refl, ap, subst, ◌∙◌, arith}
use Rattle.std.specs.Prelude.{⊤, IfOk, nat_lt}
use Rattle.std.specs.Str.{bytes_eq}
use Rattle.hex.specs.Hex.{encode_lower}
use Rattle.part_lines.specs.Groups.{ShapeForm}
use Rattle.part_lines.specs.Reading.{Stream, count_at, count_within, groups_at, passed, value_at}
use Rattle.semantics.specs.Parts.{text_of, ContentsForm, columns_text, values_with}
use Rattle.semantics.specs.Canonical.{canonical_text}
use Rattle.semantics.specs.Columns.{Field}
use Rattle.semantics.specs.Syntax.{Query}
use Rattle.semantics.specs.declared.line_fault.LineFault.{LineFault}
use Rattle.values.specs.Results.{◌>>=◌}
use Rattle.sha2.specs.Sha256.{sha256}
use Rattle.part_lines.specs.Faults.{Fault, FaultKind, not_a_part, other_columns, other_query, out_of_order, out_of_range, too_many_lines, wrong_checksum}
use Rattle.parts.specs.Faults.{PartedFault, in_part}
use Rattle.parts.specs.Inside.Joining.{ArePartsFrom}
use Rattle.parts.specs.ReadingParts.{all_refused_at, behind_part, can_have, checksum_at, contents_at, fault_named, group_count_at, header_at, header_of, line_fault_in, lines_at, mark_at, mark_in, none_other, other_at, other_text, part_at, parts_from, refused_at, refused_line_at, said_at, shape_under, text_at, text_in, with_fault}
use Rattle.parts.proofs.Back.{seen, then-known}
use Rattle.parts.proofs.Forward.{count-forward, groups-forward, value-fewer, value-forward, within-forward}

-- behind it there are no more lines
abbrev IsWithin : {A : Type 0} → ℕ → A × Stream → Type 0
IsWithin lines read = length read.1.left ≤ lines

-- behind it there are fewer
abbrev IsBelow : {A : Type 0} → ℕ → A × Stream → Type 0
IsBelow lines read = length read.1.left + 1 ≤ lines

abbrev GoesOn : {A : Type 0} → (Stream → Result (A × Stream) Fault) → Type 0
GoesOn one = (s : Stream) → IfOk (one s) (IsWithin (length s.left))

-- what reads no line
apart : {A B : Type 0} (test : Result A Fault) (f : A → Result B Fault) (Q : B → Type 0) → ((a : A) → IfOk (f a) Q) → IfOk (test >>= f) Q
apart test f Q k = then-known test f (λ _. ⊤) Q (some test) (λ a _. k a)
  where
    some : {A : Type 0} (r : Result A Fault) → IfOk r (λ _. ⊤)
    some (Ok a) = tt
    some (Err fault) = tt

-- one reading, which there may be more lines before
behind : {A : Type 0} (one : Stream → Result (A × Stream) Fault) (s : Stream) (lines : ℕ) → GoesOn one → length s.left ≤ lines → IfOk (one s) (IsWithin lines)
behind {A} one s lines h l = less (one s) (h s)
  where
    less : (read : Result (A × Stream) Fault) → IfOk read (IsWithin (length s.left)) → IfOk read (IsWithin lines)
    less (Ok x) k = omega (arith, k, l)
    less (Err fault) k = tt

next : {A B : Type 0} (lines : ℕ) (read : Result (A × Stream) Fault) (f : A × Stream → Result (B × Stream) Fault) → IfOk read (IsWithin lines) → ((x : A × Stream) → length x.1.left ≤ lines → IfOk (f x) (IsWithin lines)) → IfOk (read >>= f) (IsWithin lines)
next {A} {B} lines read f h k = then-known read f (IsWithin lines) (IsWithin lines) h k

-- ---- the header

text-on : GoesOn text_at
unfolding text_at
text-on s = next (length s.left) (value_at s) (λ d. text_in d.0 d.1 >>= λ t. Ok (t, d.1)) (value-forward s) (λ d l. apart (text_in d.0 d.1) (λ t. Ok (t, d.1)) (IsWithin (length s.left)) (λ t. l))

other-on : (wanted : List ℕ) → GoesOn (other_at wanted)
unfolding other_at
other-on wanted s = next (length s.left) (text_at s) (λ t. Ok (other_text wanted t.0, t.1)) (text-on s) (λ t l. l)

said-on : (wanted : List ℕ) (kind : List ℕ → FaultKind) → GoesOn (said_at wanted kind)
unfolding said_at
said-on wanted kind s =
    next (length s.left) (other_at wanted s) (λ o. none_other o.0 kind o.1 >>= λ u. Ok (tt, o.1)) (other-on wanted s) (λ o l. apart (none_other o.0 kind o.1) (λ u. Ok (tt, o.1)) (IsWithin (length s.left)) (λ u. l))

mark-below : (s : Stream) → IfOk (mark_at s) (IsBelow (length s.left))
unfolding mark_at
mark-below s =
    let as_mark : Fault → Fault = λ fault. record { line = fault.line; kind = not_a_part } in
    then-known (with_fault as_mark (value_at s)) (λ d. mark_in d.0 d.1 >>= λ u. Ok (tt, d.1)) (IsBelow (length s.left)) (IsBelow (length s.left)) (seen as_mark (value_at s) (IsBelow (length s.left)) (value-fewer s.left s.place))
    (λ d l. apart (mark_in d.0 d.1) (λ u. Ok (tt, d.1)) (IsBelow (length s.left)) (λ u. l))

-- from fewer lines there are fewer
below : {A : Type 0} (one : Stream → Result (A × Stream) Fault) (s : Stream) (lines : ℕ) → GoesOn one → length s.left + 1 ≤ lines → IfOk (one s) (IsBelow lines)
below {A} one s lines h l = less (one s) (h s)
  where
    less : (read : Result (A × Stream) Fault) → IfOk read (IsWithin (length s.left)) → IfOk read (IsBelow lines)
    less (Ok x) k = omega (arith, k, l)
    less (Err fault) k = tt

still : {A B : Type 0} (lines : ℕ) (read : Result (A × Stream) Fault) (f : A × Stream → Result (B × Stream) Fault) → IfOk read (IsBelow lines) → ((x : A × Stream) → length x.1.left + 1 ≤ lines → IfOk (f x) (IsBelow lines)) → IfOk (read >>= f) (IsBelow lines)
still {A} {B} lines read f h k = then-known read f (IsBelow lines) (IsBelow lines) h k

header-below : (columns query : List ℕ) (s : Stream) → IfOk (header_of columns query s) (IsBelow (length s.left))
unfolding header_of
header-below columns query s =
    still (length s.left) (mark_at s) (λ m. said_at columns other_columns m.1 >>= λ c. said_at query other_query c.1) (mark-below s)
    (λ m l.
    still (length s.left) (said_at columns other_columns m.1) (λ c. said_at query other_query c.1) (below (said_at columns other_columns) m.1 (length s.left) (said-on columns other_columns) l)
    (λ c l. below (said_at query other_query) c.1 (length s.left) (said-on query other_query) l))

-- ---- the contents

lines-on : (before : ℕ) → GoesOn (lines_at before)
unfolding lines_at
lines-on before s =
    next (length s.left) (count_at s) (λ n. passed (nat_lt (before + n.0) (2 ^ 63)) too_many_lines n.1 >>= λ u. Ok n) (count-forward s)
    (λ n l. apart (passed (nat_lt (before + n.0) (2 ^ 63)) too_many_lines n.1) (λ u. Ok n) (IsWithin (length s.left)) (λ u. l))

group_count-on : (shape : ShapeForm) → GoesOn (group_count_at shape)
unfolding group_count_at
group_count-on shape s =
    next (length s.left) (count_at s) (λ n. passed (can_have shape.columns n.0) out_of_range n.1 >>= λ u. Ok n) (count-forward s)
    (λ n l. apart (passed (can_have shape.columns n.0) out_of_range n.1) (λ u. Ok n) (IsWithin (length s.left)) (λ u. l))

-- what is read behind the number of a refused line, and behind its text
abbrev found : List Field → ℕ × Stream → List ℕ × Stream → Result ((ℕ × LineFault) × Stream) Fault
found fields n t = line_fault_in (fault_named fields t.0) t.1 >>= λ fault. Ok ((n.0, fault), t.1)

abbrev behind-number : List Field → ℕ → ℕ × Stream → Result ((ℕ × LineFault) × Stream) Fault
behind-number fields last n = passed (nat_lt last n.0) out_of_order n.1 >>= λ u. text_at n.1 >>= found fields n

number-behind : (fields : List Field) (last : ℕ) (n : ℕ × Stream) (lines : ℕ) → length n.1.left ≤ lines → IfOk (behind-number fields last n) (IsWithin lines)
number-behind fields last n lines l =
    apart (passed (nat_lt last n.0) out_of_order n.1) (λ u. text_at n.1 >>= found fields n) (IsWithin lines)
    (λ u.
    next lines (text_at n.1) (found fields n) (behind text_at n.1 lines text-on l)
    (λ t m. apart (line_fault_in (fault_named fields t.0) t.1) (λ fault. Ok ((n.0, fault), t.1)) (IsWithin lines) (λ fault. m)))

refused_line-on : (fields : List Field) (lines last : ℕ) → GoesOn (refused_line_at fields lines last)
unfolding refused_line_at
refused_line-on fields lines last s = next (length s.left) (count_within lines s) (behind-number fields last) (within-forward lines s) (λ n l. number-behind fields last n (length s.left) l)

refused-on : (fields : List Field) (lines n last : ℕ) → GoesOn (refused_at fields lines n last)
unfolding refused_at
refused-on fields lines zero last s = omega arith
refused-on fields lines (suc n) last s =
    next (length s.left) (refused_line_at fields lines last s) (λ x. refused_at fields lines n x.0.0 x.1 >>= λ xs. Ok (x.0 ∷ xs.0, xs.1)) (refused_line-on fields lines last s)
    (λ x l.
    next (length s.left) (refused_at fields lines n x.0.0 x.1) (λ xs. Ok (x.0 ∷ xs.0, xs.1)) (behind (refused_at fields lines n x.0.0) x.1 (length s.left) (refused-on fields lines n x.0.0) l) (λ xs m. m))

all_refused-on : (fields : List Field) (lines : ℕ) → GoesOn (all_refused_at fields lines)
unfolding all_refused_at
all_refused-on fields lines s =
    next (length s.left) (count_within lines s) (λ n. refused_at fields lines n.0 0 n.1) (within-forward lines s) (λ n l. behind (refused_at fields lines n.0 0) n.1 (length s.left) (refused-on fields lines n.0 0) l)

pub no-lines : (left : List (List ℕ)) → length left ≤ 0 → left ≡ []
no-lines [] l = refl
no-lines (line ∷ more) l = absurd (omega (arith, l))

module _ (fields : List Field) (q : Query) where
  abbrev shape : ShapeForm
  shape = shape_under fields q

  -- what is read behind the number of the groups, and behind the refused lines
  abbrev behind-count : ℕ → List (ℕ × LineFault) → ℕ × Stream → Result (ContentsForm × Stream) Fault
  behind-count n refused count = groups_at shape count.0 None (n - length refused) count.1 >>= λ groups. Ok (record { lines = n; refused = refused; groups = groups.0 }, groups.1)

  abbrev behind-refused : ℕ → List (ℕ × LineFault) × Stream → Result (ContentsForm × Stream) Fault
  behind-refused n refused = group_count_at shape refused.1 >>= behind-count n refused.0

  count-behind : (n : ℕ) (refused : List (ℕ × LineFault)) (count : ℕ × Stream) (lines : ℕ) → length count.1.left ≤ lines → IfOk (behind-count n refused count) (IsWithin lines)
  count-behind n refused count lines l =
      next lines (groups_at shape count.0 None (n - length refused) count.1) (λ groups. Ok (record { lines = n; refused = refused; groups = groups.0 }, groups.1))
      (behind (groups_at shape count.0 None (n - length refused)) count.1 lines (groups-forward shape count.0 None (n - length refused)) l) (λ groups m. m)

  refused-behind : (n : ℕ) (refused : List (ℕ × LineFault) × Stream) (lines : ℕ) → length refused.1.left ≤ lines → IfOk (behind-refused n refused) (IsWithin lines)
  refused-behind n refused lines l =
      next lines (group_count_at shape refused.1) (behind-count n refused.0) (behind (group_count_at shape) refused.1 lines (group_count-on shape) l) (λ count m. count-behind n refused.0 count lines m)

  contents-on : (before : ℕ) → GoesOn (contents_at fields q before)
  unfolding contents_at
  contents-on before s =
      next (length s.left) (lines_at before s) (λ n. all_refused_at fields n.0 n.1 >>= behind-refused n.0) (lines-on before s)
      (λ n l.
      next (length s.left) (all_refused_at fields n.0 n.1) (behind-refused n.0) (behind (all_refused_at fields n.0) n.1 (length s.left) (all_refused-on fields n.0) l)
      (λ refused m. refused-behind n.0 refused (length s.left) m))

  -- ---- parts

  checksum-on : (bytes : List ℕ) → GoesOn (checksum_at bytes)
  unfolding checksum_at
  checksum-on bytes s =
      next (length s.left) (text_at s) (λ t. passed (bytes_eq t.0 (encode_lower (sha256 bytes))) wrong_checksum t.1 >>= λ u. Ok (tt, t.1)) (text-on s)
      (λ t l. apart (passed (bytes_eq t.0 (encode_lower (sha256 bytes))) wrong_checksum t.1) (λ u. Ok (tt, t.1)) (IsWithin (length s.left)) (λ u. l))

  pub part-below : (before : ℕ) (s : Stream) → IfOk (part_at fields q before s) (IsBelow (length s.left))
  unfolding part_at
  part-below before s =
      let checked = λ (contents : ContentsForm × Stream). checksum_at (text_of (values_with fields q contents.0)) contents.1 >>= λ checksum. Ok (contents.0, checksum.1) in
      still (length s.left) (header_at fields q s) (λ header. contents_at fields q before header.1 >>= checked) (header-below (columns_text fields) (canonical_text q) s)
      (λ header l.
      still (length s.left) (contents_at fields q before header.1) checked (below (contents_at fields q before) header.1 (length s.left) (contents-on before) l)
      (λ contents m.
      let bytes = text_of (values_with fields q contents.0) in
      still (length s.left) (checksum_at bytes contents.1) (λ checksum. Ok (contents.0, checksum.1)) (below (checksum_at bytes) contents.1 (length s.left) (checksum-on bytes) m) (λ checksum k. k)))

  -- where no line is left, there is no part
  pub at_end : (part before : ℕ) (s : Stream) → s.left ≡ [] → ArePartsFrom fields q part before s (Ok [])
  unfolding parts_from
  at_end part before s none zero l = refl
  at_end part before s none (suc most) l = rw none refl

  -- where lines are left, these are a part and those behind it
  pub one : (most part before : ℕ) (left : List (List ℕ)) (place : ℕ) → left ≢ []
      → let s : Stream = record { left = left; place = place } in
      parts_from fields q (suc most) part before s ≡ (with_fault (in_part part) (part_at fields q before s) >>= λ x. behind_part x.0 (parts_from fields q most (part + 1) (before + x.0.lines) x.1))
  unfolding parts_from
  one most part before [] place some = absurd (some refl)
  one most part before (line ∷ more) place some = refl

  pub at_fault : (part before : ℕ) (s : Stream) (fault : Fault) → s.left ≢ [] → part_at fields q before s ≡ Err fault → ArePartsFrom fields q part before s (Err (in_part part fault))
  at_fault part before s fault some is zero l = absurd (some (no-lines s.left l))
  at_fault part before s fault some is (suc most) l =
      one most part before s.left s.place some ∙ ap (λ r. with_fault (in_part part) r >>= λ x. behind_part x.0 (parts_from fields q most (part + 1) (before + x.0.lines) x.1)) is

  pub at_part : (part before : ℕ) (s : Stream) (contents : ContentsForm) (next : Stream) (others : Result (List ContentsForm) PartedFault) → s.left ≢ [] → part_at fields q before s ≡ Ok (contents, next)
      → ArePartsFrom fields q (part + 1) (before + contents.lines) next others → ArePartsFrom fields q part before s (behind_part contents others)
  at_part part before s contents next others some is more zero l = absurd (some (no-lines s.left l))
  at_part part before s contents next others some is more (suc most) l =
      let fewer : length next.left + 1 ≤ length s.left = subst (λ r. IfOk r (IsBelow (length s.left))) is (part-below before s) in
      one most part before s.left s.place some
      ∙ ap (λ r. with_fault (in_part part) r >>= λ x. behind_part x.0 (parts_from fields q most (part + 1) (before + x.0.lines) x.1)) is
      ∙ ap (behind_part contents) (more most (omega (arith, fewer, l)))
