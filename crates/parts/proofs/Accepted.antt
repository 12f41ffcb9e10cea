-- The lines of a part whose contents fit are read, to the last one.
use Rattle.std.proofs.Common.{◌≡◌, ◌+◌, ◌-◌, ◌^◌, ◌<◌, ◌≤◌, ℕ, suc, Bool, true, cond, List, [], ◌∷◌, ◌++◌, length, take, drop, Some, None, Result, Ok, Err, refl, sym, ap, subst, ◌∙◌, append_assoc, length-append, arith}
use Rattle.std.proofs.lemmas.Bool.{eq-eqb, eqb-true, lt-ltb}
use Rattle.std.proofs.lemmas.List.Concat.{flat_map-cons}
use Rattle.std.proofs.lemmas.Slice.Eq.{slice_eq-Decides}
use Rattle.std.specs.Prelude.{⊤, nat_lt}
use Rattle.std.specs.Str.{bytes_eq}
use Rattle.hex.specs.Hex.{encode_lower}
use Rattle.sha2.specs.Sha256.{sha256}
use Rattle.semantics.specs.Canonical.{canonical_text}
use Rattle.semantics.specs.Columns.{Field}
use Rattle.semantics.specs.Parts.{ContentsForm, checksum, columns_text, groups_values, mark, number, refused_line_values, refused_values, text_of, values_with}
use Rattle.semantics.specs.Syntax.{Query}
use Rattle.semantics.specs.Texts.{fault_text}
use Rattle.semantics.specs.Values.{Datum, text}
use Rattle.semantics.specs.declared.line_fault.LineFault.{LineFault}
use Rattle.values.specs.Results.{◌>>=◌}
use Rattle.part_lines.proofs.Read.{count-read, groups-read, value-read, within-read}
use Rattle.part_lines.proofs.ReadAs.{lines-first}
use Rattle.part_lines.specs.Groups.{ShapeForm}
use Rattle.part_lines.specs.Known.{AreGroupsFor, HaveValues}
use Rattle.part_lines.specs.Reading.{Stream, behind, count_at, count_within, fault_at, groups_at, passed, reading_of, value_at}
use Rattle.part_lines.specs.Faults.{Fault, FaultKind, not_a_part, other_columns, other_query, out_of_order, out_of_range, too_many_lines, wrong_checksum}
use Rattle.parts.specs.Shown.{shown}
use Rattle.parts.specs.ReadingParts.{all_refused_at, can_have, checksum_at, contents_at, fault_named, group_count_at, header_at, header_of, line_fault_in, lines_at, mark_at, other_at, other_text, part_at, refused_at, refused_line_at, said_at, shape_under, text_at, with_fault}

-- ---- what lines of values are read as

-- Where the next lines have these values, the reading gives this thing, and the lines behind them
-- are left.
abbrev pub Reads : {A : Type 0} → (Stream → Result (A × Stream) Fault) → List Datum → A → Type 0
Reads one ds a = (s : Stream) (ls rest : List (List ℕ)) → HaveValues ls ds → s.left ≡ ls ++ rest → one s ≡ Ok (a, behind ds rest s)

-- Refused lines of so many lines: each has a number above the one before, and a fault that its text
-- names.
abbrev pub AreRefusedFor : List Field → (lines last : ℕ) → List (ℕ × LineFault) → Type 0
AreRefusedFor fields lines last [] = ⊤
AreRefusedFor fields lines last (x ∷ xs) = (last < x.0) × (x.0 ≤ lines) × (fault_named fields (fault_text fields x.1) ≡ Some x.1) × AreRefusedFor fields lines x.0 xs

-- Contents of which a reader refuses nothing, behind parts of so many lines.
pub record AreContentsFor (fields : List Field) (q : Query) (before : ℕ) (c : ContentsForm) : Type 0 where
  pub few : before + c.lines < 2 ^ 63
  pub refused_few : length c.refused ≤ c.lines
  pub refused : AreRefusedFor fields c.lines 0 c.refused
  pub possible : can_have (shape_under fields q).columns (length c.groups) ≡ true
  pub groups_few : length c.groups < 2 ^ 64
  pub groups : AreGroupsFor (shape_under fields q) (record { last = None; left = c.lines - length c.refused }) c.groups

-- ---- one reading and then another one

abbrev at : List (List ℕ) → ℕ → Stream
at left place = record { left = left; place = place }

nothing-read : {A : Type 0} (a : A) → Reads (λ s. Ok (a, s)) [] a
nothing-read {A} a s [] rest h stands =
    let give : Stream → Result (A × Stream) Fault = λ t. Ok (a, t) in
    let same : s.place ≡ s.place + 0 = omega arith in
    λ i. give (at (stands i) (same i))
nothing-read a s (l ∷ ls) rest h stands = absurd h

-- what follows reads no more lines
and_done : {A B : Type 0} (one : Stream → Result (A × Stream) Fault) (ds : List Datum) (a : A) (f : A × Stream → Result (B × Stream) Fault) (b : B)
    → Reads one ds a → ((s : Stream) → f (a, s) ≡ Ok (b, s)) → Reads (λ s. one s >>= f) ds b
and_done one ds a f b h k s ls rest has stands = ap (λ r. r >>= f) (h s ls rest has stands) ∙ k (behind ds rest s)

-- what follows reads more
and_on : {A B : Type 0} (one : Stream → Result (A × Stream) Fault) (ds : List Datum) (a : A) (f : A × Stream → Result (B × Stream) Fault) (es : List Datum) (b : B)
    → Reads one ds a → Reads (λ s. f (a, s)) es b → Reads (λ s. one s >>= f) (ds ++ es) b
and_on {A} {B} one ds a f es b h k s ls rest has stands =
    let parts = lines-first (λ line d. reading_of line ≡ Some d) ds es ls has in
    let first : List (List ℕ) = take (length ds) ls in
    let others : List (List ℕ) = drop (length ds) ls in
    let here : s.left ≡ first ++ (others ++ rest) = stands ∙ ap (λ (m : List (List ℕ)). m ++ rest) parts.2 ∙ append_assoc first others rest in
    let give : ℕ → Result (B × Stream) Fault = λ place. Ok (b, at rest place) in
    let there : s.place + length ds + length es ≡ s.place + length (ds ++ es) = omega (arith, length-append ds es) in
    ap (λ r. r >>= f) (h s first (others ++ rest) parts.0 here) ∙ k (behind ds (others ++ rest) s) others rest parts.1 refl ∙ ap give there

if_true : {B : Type 0} (test : Bool) (kind : FaultKind) (s : Stream) (f : Unit {0} → Result B Fault) → test ≡ true → passed test kind s >>= f ≡ f tt
if_true test kind s f holds = ap (λ b. (cond b (Ok tt) (Err (fault_at kind s))) >>= f) holds

-- ---- texts

-- a text is equal to itself
itself : (t : List ℕ) → bytes_eq t t ≡ true
itself t = (slice_eq-Decides (λ x y. (eqb-true x y, eq-eqb x y)) t t (bytes_eq t t) refl).1 refl

text-read : (t : List ℕ) → Reads text_at (text t ∷ []) t
unfolding text_at
text-read t = and_done value_at (text t ∷ []) (text t) _ t (value-read (text t)) (λ s. refl)

other-read : (t : List ℕ) → Reads (other_at t) (text t ∷ []) None
unfolding other_at
other-read t = and_done text_at (text t ∷ []) t (λ x. Ok (other_text t x.0, x.1)) None (text-read t) (λ s. ap (λ b. Ok (cond b None (Some (shown t)), s)) (itself t))

said-read : (t : List ℕ) (kind : List ℕ → FaultKind) → Reads (said_at t kind) (text t ∷ []) tt
unfolding said_at
said-read t kind = and_done (other_at t) (text t ∷ []) None _ tt (other-read t) (λ s. refl)

mark-read : Reads mark_at (text mark ∷ []) tt
unfolding mark_at
mark-read =
    let as_mark : Fault → Fault = λ fault. record { line = fault.line; kind = not_a_part } in
    and_done (λ s. with_fault as_mark (value_at s)) (text mark ∷ []) (text mark) _ tt (λ s ls rest has stands. ap (with_fault as_mark) (value-read (text mark) s ls rest has stands)) (λ s. refl)

header-read : (columns query : List ℕ) → Reads (header_of columns query) (text mark ∷ text columns ∷ text query ∷ []) tt
unfolding header_of
header-read columns query =
    and_on mark_at (text mark ∷ []) tt _ (text columns ∷ text query ∷ []) tt mark-read
    (and_on (said_at columns other_columns) (text columns ∷ []) tt _ (text query ∷ []) tt (said-read columns other_columns) (said-read query other_query))

checksum-read : (bytes : List ℕ) → Reads (checksum_at bytes) (checksum bytes ∷ []) tt
unfolding checksum_at
checksum-read bytes =
    let sum : List ℕ = encode_lower (sha256 bytes) in
    and_done text_at (text sum ∷ []) sum _ tt (text-read sum) (λ s. if_true (bytes_eq sum sum) wrong_checksum s _ (itself sum))

-- ---- numbers

lines-read : (before n : ℕ) → before + n < 2 ^ 63 → Reads (lines_at before) (number n ∷ []) n
unfolding lines_at
lines-read before n few =
    and_done count_at (number n ∷ []) n _ n (count-read n (omega (arith, few)))
    (λ s. if_true (nat_lt (before + n) (2 ^ 63)) too_many_lines s _ (lt-ltb (before + n) (2 ^ 63) few))

group_count-read : (shape : ShapeForm) (n : ℕ) → n < 2 ^ 64 → can_have shape.columns n ≡ true → Reads (group_count_at shape) (number n ∷ []) n
unfolding group_count_at
group_count-read shape n small possible =
    and_done count_at (number n ∷ []) n _ n (count-read n small) (λ s. if_true (can_have shape.columns n) out_of_range s _ possible)

-- ---- refused lines

refused_line-read : (fields : List Field) (lines last : ℕ) (line : ℕ × LineFault) → lines < 2 ^ 63 → last < line.0 → line.0 ≤ lines → fault_named fields (fault_text fields line.1) ≡ Some line.1
    → Reads (refused_line_at fields lines last) (refused_line_values fields line) line
unfolding refused_line_at
refused_line-read fields lines last line small above within named =
    let t : List ℕ = fault_text fields line.1 in
    and_on (count_within lines) (number line.0 ∷ []) line.0 _ (text t ∷ []) line
    (within-read lines line.0 (omega (arith, small, within)) within)
    (λ s ls rest has stands.
    if_true (nat_lt last line.0) out_of_order s (λ u. text_at s >>= λ x. line_fault_in (fault_named fields x.0) x.1 >>= λ fault. Ok ((line.0, fault), x.1)) (lt-ltb last line.0 above)
    ∙ and_done text_at (text t ∷ []) t (λ x. line_fault_in (fault_named fields x.0) x.1 >>= λ fault. Ok ((line.0, fault), x.1)) line (text-read t)
    (λ r. ap (λ o. line_fault_in o r >>= λ fault. Ok ((line.0, fault), r)) named) s ls rest has stands)

refused-read : (fields : List Field) (lines last : ℕ) (refused : List (ℕ × LineFault)) → lines < 2 ^ 63 → AreRefusedFor fields lines last refused
    → Reads (refused_at fields lines (length refused) last) (refused_values fields refused) refused
unfolding refused_at
refused-read fields lines last [] small h = nothing-read []
refused-read fields lines last (line ∷ refused) small h =
    subst (λ ds. Reads (refused_at fields lines (suc (length refused)) last) ds (line ∷ refused)) (sym (flat_map-cons (refused_line_values fields) line refused))
    (and_on (refused_line_at fields lines last) (refused_line_values fields line) line (λ x. refused_at fields lines (length refused) x.0.0 x.1 >>= λ xs. Ok (x.0 ∷ xs.0, xs.1))
    (refused_values fields refused) (line ∷ refused)
    (refused_line-read fields lines last line small h.0 h.1 h.2)
    (and_done (refused_at fields lines (length refused) line.0) (refused_values fields refused) refused (λ xs. Ok (line ∷ xs.0, xs.1)) (line ∷ refused)
    (refused-read fields lines line.0 refused small h.3) (λ s. refl)))

all_refused-read : (fields : List Field) (lines : ℕ) (refused : List (ℕ × LineFault)) → lines < 2 ^ 63 → length refused ≤ lines → AreRefusedFor fields lines 0 refused
    → Reads (all_refused_at fields lines) (number (length refused) ∷ refused_values fields refused) refused
unfolding all_refused_at
all_refused-read fields lines refused small few h =
    and_on (count_within lines) (number (length refused) ∷ []) (length refused) (λ n. refused_at fields lines n.0 0 n.1) (refused_values fields refused) refused
    (within-read lines (length refused) (omega (arith, small, few)) few)
    (refused-read fields lines 0 refused small h)

-- ---- contents, and the whole part

module _ (fields : List Field) (q : Query) where
  abbrev shape : ShapeForm
  shape = shape_under fields q

  contents-read : (before : ℕ) (c : ContentsForm) → AreContentsFor fields q before c
      → Reads (contents_at fields q before) (number c.lines ∷ number (length c.refused) ∷ refused_values fields c.refused ++ number (length c.groups) ∷ groups_values c.groups) c
  unfolding contents_at
  contents-read before c h =
      let small : c.lines < 2 ^ 63 = omega (arith, h.few) in
      let good : ℕ = c.lines - length c.refused in
      let groups_ds : List Datum = number (length c.groups) ∷ groups_values c.groups in
      let refused_ds : List Datum = number (length c.refused) ∷ refused_values fields c.refused in
      and_on (lines_at before) (number c.lines ∷ []) c.lines _ (refused_ds ++ groups_ds) c (lines-read before c.lines h.few)
      (and_on (all_refused_at fields c.lines) refused_ds c.refused _ groups_ds c (all_refused-read fields c.lines c.refused small h.refused_few h.refused)
      (and_on (group_count_at shape) (number (length c.groups) ∷ []) (length c.groups) _ (groups_values c.groups) c (group_count-read shape (length c.groups) h.groups_few h.possible)
      (and_done (groups_at shape (length c.groups) None good) (groups_values c.groups) c.groups _ c
      (groups-read shape (record { last = None; left = good }) c.groups (omega (arith, small)) h.groups)
      (λ s. refl))))

  pub part-read : (before : ℕ) (c : ContentsForm) → AreContentsFor fields q before c → Reads (part_at fields q before) (values_with fields q c ++ checksum (text_of (values_with fields q c)) ∷ []) c
  unfolding part_at
  part-read before c h =
      let count : Datum = number (length c.groups) in
      let bytes : List ℕ = text_of (values_with fields q c) in
      let header_ds : List Datum = text mark ∷ text (columns_text fields) ∷ text (canonical_text q) ∷ [] in
      let refused_ds : List Datum = refused_values fields c.refused in
      let contents_ds : List Datum = number c.lines ∷ number (length c.refused) ∷ refused_ds ++ count ∷ groups_values c.groups in
      let same : header_ds ++ (contents_ds ++ checksum bytes ∷ []) ≡ values_with fields q c ++ checksum bytes ∷ [] =
      ap (λ (ds : List Datum). header_ds ++ ((number c.lines ∷ number (length c.refused) ∷ ds) ++ checksum bytes ∷ [])) (sym (append_assoc refused_ds (count ∷ []) (groups_values c.groups))) in
      subst (λ (ds : List Datum). Reads (part_at fields q before) ds c) same
      (and_on (header_at fields q) header_ds tt _ (contents_ds ++ checksum bytes ∷ []) c (header-read (columns_text fields) (canonical_text q))
      (and_on (contents_at fields q before) contents_ds c _ (checksum bytes ∷ []) c (contents-read before c h)
      (and_done (checksum_at bytes) (checksum bytes ∷ []) tt (λ x. Ok (c, x.1)) c (checksum-read bytes) (λ s. refl))))
