-- The lines of a part, if they are read at all, are read as its contents.
use Rattle.std.proofs.Common.{◌≡◌, ◌+◌, ◌-◌, ℕ, suc, Bool, true, false, List, [], ◌∷◌, ◌++◌, length, take, drop, Option, Some, None, Result, Ok, Err, refl, sym, ap, subst, ◌∙◌, append_assoc}
use Rattle.std.proofs.lemmas.List.Concat.{flat_map-cons}
use Rattle.std.specs.Prelude.{◌^◌, IfOk, IfSome, nat_lt}
use Rattle.part_lines.proofs.Again.{count-again, groups_at-again, value-again, within-again}
use Rattle.part_lines.specs.Groups.{HaveShape, ShapeForm}
use Rattle.semantics.specs.Parts.{groups_values, ContentsForm, text_of, columns_text, mark, number, refused_line_values, refused_values, values_with}
use Rattle.part_lines.specs.Known.{AreReadAs}
use Rattle.part_lines.specs.Reading.{Stream, count_at, count_within, groups_at, passed, value_at}
use Rattle.semantics.specs.Canonical.{canonical_text}
use Rattle.semantics.specs.Columns.{Field}
use Rattle.semantics.specs.Syntax.{Query}
use Rattle.semantics.specs.Values.{Datum, text}
use Rattle.semantics.specs.declared.line_fault.LineFault.{LineFault}
use Rattle.semantics.specs.Texts.{fault_text}
use Rattle.values.specs.Results.{◌>>=◌}
use Rattle.part_lines.specs.Faults.{Fault, FaultKind, not_a_part, other_columns, other_query, out_of_order, out_of_range, too_many_lines, wrong_checksum}
use Rattle.hex.specs.Hex.{encode_lower}
use Rattle.sha2.specs.Sha256.{sha256}
use Rattle.std.specs.Str.{bytes_eq}
use Rattle.parts.specs.ReadingParts.{all_refused_at, checksum_at, contents_at, fault_named, can_have, group_count_at, header_at, header_of, kind_of_mark, line_fault_in, lines_at, mark_at, mark_in, none_other, other_at, other_text, part_at, refused_at, refused_line_at, said_at, shape_under, text_at, text_in, with_fault}

-- ---- one reading and then another one

-- it is this thing, and these lines are left
abbrev pub IsRead : {A : Type 0} → A → List (List ℕ) → A × Stream → Type 0
IsRead a rest read = (read.0 ≡ a) × (read.1.left ≡ rest)

-- where the next lines are read as these values, the reading gives this thing, if it gives
-- anything, and the lines behind them are left
abbrev pub ReadsBack : {A : Type 0} → (Stream → Result (A × Stream) Fault) → List Datum → A → Type 0
ReadsBack one ds a = (s : Stream) (ls rest : List (List ℕ)) → AreReadAs ls ds → s.left ≡ ls ++ rest → IfOk (one s) (IsRead a rest)

pub then-known : {A B : Type 0} (read : Result A Fault) (f : A → Result B Fault) (P : A → Type 0) (Q : B → Type 0) → IfOk read P → ((a : A) → P a → IfOk (f a) Q) → IfOk (read >>= f) Q
then-known (Ok a) f P Q h k = k a h
then-known (Err fault) f P Q h k = tt

nothing : {A : Type 0} (a : A) → ReadsBack (λ s. Ok (a, s)) [] a
nothing a s [] rest reads stands = (refl, stands)
nothing a s (l ∷ ls) rest reads stands = absurd reads

-- what follows reads no line
pub no-more : {A B : Type 0} (one : Stream → Result (A × Stream) Fault) (ds : List Datum) (a : A) (f : A × Stream → Result (B × Stream) Fault) (b : B)
    → ReadsBack one ds a → ((s : Stream) → IfOk (f (a, s)) (λ r. (r.0 ≡ b) × (r.1 ≡ s))) → ReadsBack (λ s. one s >>= f) ds b
no-more {A} {B} one ds a f b h k s ls rest reads stands =
    then-known (one s) f (IsRead a rest) (IsRead b rest) (h s ls rest reads stands)
    (λ x is. subst (λ (y : A). IfOk (f (y, x.1)) (IsRead b rest)) (sym is.0) (left (f (a, x.1)) x.1 is.1 (k x.1)))
  where
    left : (r : Result (B × Stream) Fault) (t : Stream) → t.left ≡ rest → IfOk r (λ x. (x.0 ≡ b) × (x.1 ≡ t)) → IfOk r (IsRead b rest)
    left (Ok x) t there is = (is.0, ap (λ (u : Stream). u.left) is.1 ∙ there)
    left (Err fault) t there is = tt

-- the lines of some values and of more are those of the first and those of the others
lines-of : (ds es : List Datum) (ls : List (List ℕ)) → AreReadAs ls (ds ++ es) → AreReadAs (take (length ds) ls) ds × AreReadAs (drop (length ds) ls) es × (ls ≡ take (length ds) ls ++ drop (length ds) ls)
lines-of [] es ls reads = (tt, reads, refl)
lines-of (d ∷ ds) es [] reads = absurd reads
lines-of (d ∷ ds) es (l ∷ ls) reads = let more = lines-of ds es ls reads.1 in ((reads.0, more.0), more.1, ap (λ (m : List (List ℕ)). l ∷ m) more.2)

-- what follows reads more
pub and-more : {A B : Type 0} (one : Stream → Result (A × Stream) Fault) (ds : List Datum) (a : A) (f : A × Stream → Result (B × Stream) Fault) (es : List Datum) (b : B)
    → ReadsBack one ds a → ReadsBack (λ s. f (a, s)) es b → ReadsBack (λ s. one s >>= f) (ds ++ es) b
and-more {A} one ds a f es b h k s ls rest reads stands =
    let parts = lines-of ds es ls reads in
    let first : List (List ℕ) = take (length ds) ls in
    let others : List (List ℕ) = drop (length ds) ls in
    let here : s.left ≡ first ++ (others ++ rest) = stands ∙ ap (λ (m : List (List ℕ)). m ++ rest) parts.2 ∙ append_assoc first others rest in
    then-known (one s) f (IsRead a (others ++ rest)) (IsRead b rest) (h s first (others ++ rest) parts.0 here)
    (λ x is. subst (λ (y : A). IfOk (f (y, x.1)) (IsRead b rest)) (sym is.0) (k x.1 others rest parts.1 is.1))

-- a test changes nothing
pub then-passed : {B : Type 0} (test : Bool) (kind : FaultKind) (s : Stream) (f : Unit {0} → Result B Fault) (Q : B → Type 0) → IfOk (f tt) Q → IfOk (passed test kind s >>= f) Q
then-passed true kind s f Q h = h
then-passed false kind s f Q h = tt

-- ---- texts

text-again : (t : List ℕ) → ReadsBack text_at (text t ∷ []) t
unfolding text_at
text-again t = no-more value_at (text t ∷ []) (text t) (λ d. text_in d.0 d.1 >>= λ x. Ok (x, d.1)) t (value-again (text t)) (λ s. (refl, refl))

other-again : (wanted t : List ℕ) → ReadsBack (other_at wanted) (text t ∷ []) (other_text wanted t)
unfolding other_at
other-again wanted t = no-more text_at (text t ∷ []) t (λ x. Ok (other_text wanted x.0, x.1)) (other_text wanted t) (text-again t) (λ s. (refl, refl))

said-again : (wanted t : List ℕ) (kind : List ℕ → FaultKind) → ReadsBack (said_at wanted kind) (text t ∷ []) tt
unfolding said_at
said-again wanted t kind =
    no-more (other_at wanted) (text t ∷ []) (other_text wanted t) (λ o. none_other o.0 kind o.1 >>= λ u. Ok (tt, o.1)) tt (other-again wanted t) (λ s. same (other_text wanted t) s)
  where
    same : (o : Option (List ℕ)) (s : Stream) → IfOk {T = Unit {0} × Stream} (none_other o kind s >>= λ u. Ok (tt, s)) (λ r. (r.0 ≡ tt) × (r.1 ≡ s))
    same None s = (refl, refl)
    same (Some t) s = tt

-- a fault seen in another way is one
pub seen : {A E F : Type 0} (view : E → F) (read : Result A E) (P : A → Type 0) → IfOk read P → IfOk (with_fault view read) P
seen view (Ok a) P h = h
seen view (Err fault) P h = tt

mark-again : (t : List ℕ) → ReadsBack mark_at (text t ∷ []) tt
unfolding mark_at
mark-again t =
    let as_mark : Fault → Fault = λ fault. record { line = fault.line; kind = not_a_part } in
    no-more (λ s. with_fault as_mark (value_at s)) (text t ∷ []) (text t) (λ d. mark_in d.0 d.1 >>= λ u. Ok (tt, d.1)) tt
    (λ s ls rest reads stands. seen as_mark (value_at s) (IsRead (text t) rest) (value-again (text t) s ls rest reads stands))
    (λ s. then-passed (bytes_eq t mark) (kind_of_mark t) s (λ u. Ok (tt, s)) (λ (r : Unit {0} × Stream). (r.0 ≡ tt) × (r.1 ≡ s)) (refl, refl))

header-again : (columns query m c k : List ℕ) → ReadsBack (header_of columns query) (text m ∷ text c ∷ text k ∷ []) tt
unfolding header_of
header-again columns query m c k =
    and-more mark_at (text m ∷ []) tt (λ x. said_at columns other_columns x.1 >>= λ y. said_at query other_query y.1) (text c ∷ text k ∷ []) tt (mark-again m)
    (and-more (said_at columns other_columns) (text c ∷ []) tt (λ y. said_at query other_query y.1) (text k ∷ []) tt (said-again columns c other_columns) (said-again query k other_query))

checksum-again : (bytes t : List ℕ) → ReadsBack (checksum_at bytes) (text t ∷ []) tt
unfolding checksum_at
checksum-again bytes t =
    no-more text_at (text t ∷ []) t (λ x. passed (bytes_eq x.0 (encode_lower (sha256 bytes))) wrong_checksum x.1 >>= λ u. Ok (tt, x.1)) tt (text-again t)
    (λ s. then-passed (bytes_eq t (encode_lower (sha256 bytes))) wrong_checksum s (λ u. Ok (tt, s)) (λ (r : Unit {0} × Stream). (r.0 ≡ tt) × (r.1 ≡ s)) (refl, refl))

-- ---- numbers

lines-again : (before n : ℕ) → ReadsBack (lines_at before) (number n ∷ []) n
unfolding lines_at
lines-again before n =
    no-more count_at (number n ∷ []) n (λ x. passed (nat_lt (before + x.0) (2 ^ 63)) too_many_lines x.1 >>= λ u. Ok x) n (count-again n)
    (λ s. then-passed (nat_lt (before + n) (2 ^ 63)) too_many_lines s (λ u. Ok (n, s)) (λ (r : ℕ × Stream). (r.0 ≡ n) × (r.1 ≡ s)) (refl, refl))

group_count-again : (shape : ShapeForm) (n : ℕ) → ReadsBack (group_count_at shape) (number n ∷ []) n
unfolding group_count_at
group_count-again shape n =
    no-more count_at (number n ∷ []) n (λ x. passed (can_have shape.columns x.0) out_of_range x.1 >>= λ u. Ok x) n (count-again n)
    (λ s. then-passed (can_have shape.columns n) out_of_range s (λ u. Ok (n, s)) (λ (r : ℕ × Stream). (r.0 ≡ n) × (r.1 ≡ s)) (refl, refl))

-- ---- refused lines

-- the text of a fault names no other one
abbrev pub NamesAlone : List Field → Type 0
NamesAlone fields = (fault : LineFault) → IfSome (fault_named fields (fault_text fields fault)) (λ found. found ≡ fault)

named : (o : Option LineFault) (fault : LineFault) (n : ℕ) (s : Stream) → IfSome o (λ found. found ≡ fault)
    → IfOk {T = (ℕ × LineFault) × Stream} (line_fault_in o s >>= λ f. Ok ((n, f), s)) (λ r. (r.0 ≡ (n, fault)) × (r.1 ≡ s))
named None fault n s h = tt
named (Some found) fault n s h = (ap (λ (f : LineFault). (n, f)) h, refl)

refused_line-again : (fields : List Field) (lines last : ℕ) (line : ℕ × LineFault) → NamesAlone fields → ReadsBack (refused_line_at fields lines last) (refused_line_values fields line) line
unfolding refused_line_at
refused_line-again fields lines last line alone =
    and-more (count_within lines) (number line.0 ∷ []) line.0
    (λ n. passed (nat_lt last n.0) out_of_order n.1 >>= λ u. text_at n.1 >>= λ t. line_fault_in (fault_named fields t.0) t.1 >>= λ f. Ok ((n.0, f), t.1))
    (text (fault_text fields line.1) ∷ []) line (within-again lines line.0)
    (λ s ls rest reads stands.
    then-passed (nat_lt last line.0) out_of_order s (λ u. text_at s >>= λ t. line_fault_in (fault_named fields t.0) t.1 >>= λ f. Ok ((line.0, f), t.1)) (IsRead line rest)
    (no-more text_at (text (fault_text fields line.1) ∷ []) (fault_text fields line.1) (λ t. line_fault_in (fault_named fields t.0) t.1 >>= λ f. Ok ((line.0, f), t.1)) line (text-again (fault_text fields line.1))
    (λ t. named (fault_named fields (fault_text fields line.1)) line.1 line.0 t (alone line.1)) s ls rest reads stands))

refused-again : (fields : List Field) (lines last : ℕ) (refused : List (ℕ × LineFault)) → NamesAlone fields → ReadsBack (refused_at fields lines (length refused) last) (refused_values fields refused) refused
unfolding refused_at
refused-again fields lines last [] alone = nothing []
refused-again fields lines last (line ∷ refused) alone =
    subst (λ ds. ReadsBack (refused_at fields lines (suc (length refused)) last) ds (line ∷ refused)) (sym (flat_map-cons (refused_line_values fields) line refused))
    (and-more (refused_line_at fields lines last) (refused_line_values fields line) line (λ x. refused_at fields lines (length refused) x.0.0 x.1 >>= λ xs. Ok (x.0 ∷ xs.0, xs.1)) (refused_values fields refused) (line ∷ refused) (refused_line-again fields lines last line alone)
    (no-more (refused_at fields lines (length refused) line.0) (refused_values fields refused) refused (λ xs. Ok (line ∷ xs.0, xs.1)) (line ∷ refused) (refused-again fields lines line.0 refused alone) (λ s. (refl, refl))))

all_refused-again : (fields : List Field) (lines : ℕ) (refused : List (ℕ × LineFault)) → NamesAlone fields → ReadsBack (all_refused_at fields lines) (number (length refused) ∷ refused_values fields refused) refused
unfolding all_refused_at
all_refused-again fields lines refused alone =
    and-more (count_within lines) (number (length refused) ∷ []) (length refused) (λ n. refused_at fields lines n.0 0 n.1) (refused_values fields refused) refused
    (within-again lines (length refused)) (refused-again fields lines 0 refused alone)

-- ---- contents

module _ (fields : List Field) (q : Query) where
  -- what is read behind the number of the groups, behind the refused lines, and behind the number
  -- of the lines
  abbrev behind-count : ℕ → List (ℕ × LineFault) → ℕ × Stream → Result (ContentsForm × Stream) Fault
  behind-count n refused count = groups_at (shape_under fields q) count.0 None (n - length refused) count.1 >>= λ groups. Ok (record { lines = n; refused = refused; groups = groups.0 }, groups.1)

  abbrev behind-refused : ℕ → List (ℕ × LineFault) × Stream → Result (ContentsForm × Stream) Fault
  behind-refused n refused = group_count_at (shape_under fields q) refused.1 >>= behind-count n refused.0

  abbrev behind-lines : ℕ × Stream → Result (ContentsForm × Stream) Fault
  behind-lines n = all_refused_at fields n.0 n.1 >>= behind-refused n.0

  groups-back : (c : ContentsForm) → HaveShape (shape_under fields q) c.groups → ReadsBack (λ s. behind-count c.lines c.refused (length c.groups, s)) (groups_values c.groups) c
  groups-back c shaped =
      let good : ℕ = c.lines - length c.refused in
      no-more (groups_at (shape_under fields q) (length c.groups) None good) (groups_values c.groups) c.groups (λ groups. Ok (record { lines = c.lines; refused = c.refused; groups = groups.0 }, groups.1)) c
      (groups_at-again (shape_under fields q) c.groups None good shaped) (λ s. (refl, refl))

  contents-again : (before : ℕ) (c : ContentsForm) → NamesAlone fields → HaveShape (shape_under fields q) c.groups
      → ReadsBack (contents_at fields q before) (number c.lines ∷ number (length c.refused) ∷ refused_values fields c.refused ++ number (length c.groups) ∷ groups_values c.groups) c
  unfolding contents_at
  contents-again before c alone shaped =
      let groups_ds : List Datum = number (length c.groups) ∷ groups_values c.groups in
      let refused_ds : List Datum = number (length c.refused) ∷ refused_values fields c.refused in
      and-more (lines_at before) (number c.lines ∷ []) c.lines behind-lines (refused_ds ++ groups_ds) c (lines-again before c.lines)
      (and-more (all_refused_at fields c.lines) refused_ds c.refused (behind-refused c.lines) groups_ds c (all_refused-again fields c.lines c.refused alone)
      (and-more (group_count_at (shape_under fields q)) (number (length c.groups) ∷ []) (length c.groups) (behind-count c.lines c.refused) (groups_values c.groups) c (group_count-again (shape_under fields q) (length c.groups)) (groups-back c shaped)))

  -- what is read behind the first lines, and behind the contents
  abbrev behind-contents : ContentsForm × Stream → Result (ContentsForm × Stream) Fault
  behind-contents c = checksum_at (text_of (values_with fields q c.0)) c.1 >>= λ checksum. Ok (c.0, checksum.1)

  abbrev behind-header : ℕ → Unit {0} × Stream → Result (ContentsForm × Stream) Fault
  behind-header before header = contents_at fields q before header.1 >>= behind-contents

  pub part-again : (before : ℕ) (c : ContentsForm) (checksum : List ℕ) → NamesAlone fields → HaveShape (shape_under fields q) c.groups → ReadsBack (part_at fields q before) (values_with fields q c ++ text checksum ∷ []) c
  unfolding part_at
  part-again before c checksum alone shaped =
      let count : Datum = number (length c.groups) in
      let header_ds : List Datum = text mark ∷ text (columns_text fields) ∷ text (canonical_text q) ∷ [] in
      let refused_ds : List Datum = refused_values fields c.refused in
      let contents_ds : List Datum = number c.lines ∷ number (length c.refused) ∷ refused_ds ++ count ∷ groups_values c.groups in
      let same : header_ds ++ (contents_ds ++ text checksum ∷ []) ≡ values_with fields q c ++ text checksum ∷ [] =
      ap (λ (ds : List Datum). header_ds ++ ((number c.lines ∷ number (length c.refused) ∷ ds) ++ text checksum ∷ [])) (sym (append_assoc refused_ds (count ∷ []) (groups_values c.groups))) in
      subst (λ (ds : List Datum). ReadsBack (part_at fields q before) ds c) same
      (and-more (header_at fields q) header_ds tt (behind-header before) (contents_ds ++ text checksum ∷ []) c (header-again (columns_text fields) (canonical_text q) mark (columns_text fields) (canonical_text q))
      (and-more (contents_at fields q before) contents_ds c behind-contents (text checksum ∷ []) c (contents-again before c alone shaped)
      (no-more (checksum_at (text_of (values_with fields q c))) (text checksum ∷ []) tt (λ x. Ok (c, x.1)) c (checksum-again (text_of (values_with fields q c)) checksum) (λ s. (refl, refl)))))
