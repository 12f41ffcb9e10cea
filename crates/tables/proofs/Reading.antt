-- The lines of a piece as far as they have been read.
use Rattle.std.proofs.Common.{◌≡◌, ◌==◌, ◌+◌, ◌<◌, ◌≤◌, ℕ, suc, Bool, true, false, cond, List, [], ◌∷◌, ◌++◌, length, map, filter, filter_map, option_map, Option, Some, None, Result, Ok, Err, sym, ap, subst, ◌∙◌, arith, append-nil, append_assoc, length-append}
use Rattle.std.proofs.lemmas.List.{map-append, length-map}
use Rattle.std.proofs.lemmas.List.Elements.{All-from_recursion, filter_map-append}
use Rattle.std.proofs.lemmas.List.FromFn.{length-enumerate_from}
use Rattle.std.proofs.lemmas.List.Splits.{length-slice_split}
use Rattle.std.specs.List.{All, AllByRecursion, cons_option, enumerate_from, onto_first, slice_split}
use Rattle.std.specs.Result.{result_err, result_ok}
use Rattle.semantics.specs.Values.{Datum}
use Rattle.semantics.specs.Columns.{Field}
use Rattle.semantics.specs.declared.line_fault.LineFault.{LineFault}
use Rattle.semantics.specs.Lines.{line_feed, lines, without_empty_last}
use Rattle.semantics.specs.Records.{decode_line, valid_records}
use Rattle.semantics.specs.ResultRows.{aggregate_functions}
use Rattle.semantics.specs.Sets.{grouping_places}
use Rattle.semantics.specs.Conditions.{is_kept, kept_records}
use Rattle.semantics.specs.Groups.{Record}
use Rattle.group_tables.specs.Table.{Contents, IsTableOf, both_tables, table_of}
use Rattle.group_tables.proofs.GroupsLaw.{table-is}
use Rattle.group_tables.proofs.Joint.{table_of-append}
use Rattle.tables.specs.Laws.{kept-append}
use Rattle.tables.specs.Partials.{of_pieces, whole_piece}
use Rattle.tables.specs.declared.fold.Folding.{Folding}
use Rattle.tables.specs.Inside.Folding.{HasRead}
use Rattle.tables.specs.Folding.{valid_records_of, refused_lines_of}
use Rattle.query_plan.specs.Planned.{PlannedQuery}

-- ---- an input has at most as many lines as bytes

shorter : (b : Bool) (part : List ℕ) → length (cond b [] (part ∷ [])) ≤ 1
shorter true part = omega arith
shorter false part = omega arith

onto-le : (x : ℕ) (parts : List (List ℕ)) (n : ℕ) → 0 < length parts → length (without_empty_last parts) ≤ n → length (without_empty_last (onto_first x parts)) ≤ suc n
onto-le x [] n some h = absurd (omega (arith, some))
onto-le x (part ∷ []) n some h = let s = shorter (length (x ∷ part) == 0) (x ∷ part) in omega (arith, s)
onto-le x (part ∷ next ∷ more) n some h = omega (arith, h)

behind-le : (parts : List (List ℕ)) (n : ℕ) → 0 < length parts → length (without_empty_last parts) ≤ n → length (without_empty_last ([] ∷ parts)) ≤ suc n
behind-le [] n some h = absurd (omega (arith, some))
behind-le (part ∷ more) n some h = omega (arith, h)

either-le : (b : Bool) (x : ℕ) (parts : List (List ℕ)) (n : ℕ) → 0 < length parts → length (without_empty_last parts) ≤ n
    → length (without_empty_last (cond b ([] ∷ parts) (onto_first x parts))) ≤ suc n
either-le true x parts n some h = behind-le parts n some h
either-le false x parts n some h = onto-le x parts n some h

pub length-lines : (bytes : List ℕ) → length (lines bytes) ≤ length bytes
length-lines [] = omega arith
length-lines (x ∷ bytes) = either-le (x == line_feed) x (slice_split (λ b. b == line_feed) bytes) (length bytes)
    (let some = length-slice_split (λ b. b == line_feed) bytes in omega (arith, some)) (length-lines bytes)

-- ---- one more line

valid-more : (fields : List Field) (ls : List (List ℕ)) (line : List ℕ) → valid_records_of fields (ls ++ line ∷ []) ≡ valid_records_of fields ls ++ filter_map result_ok (decode_line fields line ∷ [])
valid-more fields ls line = ap (filter_map result_ok) (map-append (decode_line fields) ls (line ∷ [])) ∙ filter_map-append result_ok (map (decode_line fields) ls) (decode_line fields line ∷ [])

pub valid-ok : (fields : List Field) (ls : List (List ℕ)) (line : List ℕ) (row : List Datum) → decode_line fields line ≡ Ok row → valid_records_of fields (ls ++ line ∷ []) ≡ valid_records_of fields ls ++ row ∷ []
valid-ok fields ls line row e = valid-more fields ls line ∙ ap (λ t. valid_records_of fields ls ++ filter_map result_ok (t ∷ [])) e

pub valid-err : (fields : List Field) (ls : List (List ℕ)) (line : List ℕ) (fault : LineFault) → decode_line fields line ≡ Err fault → valid_records_of fields (ls ++ line ∷ []) ≡ valid_records_of fields ls
valid-err fields ls line fault e = valid-more fields ls line ∙ ap (λ t. valid_records_of fields ls ++ filter_map result_ok (t ∷ [])) e ∙ append-nil (valid_records_of fields ls)

pub enumerate-append : {X : Type 0} (n : ℕ) (xs ys : List X) → enumerate_from n (xs ++ ys) ≡ enumerate_from n xs ++ enumerate_from (n + length xs) ys
enumerate-append n [] ys = ap (λ m. enumerate_from m ys) (let e : n ≡ n + 0 = omega arith in e)
enumerate-append n (x ∷ xs) ys = ap (λ l. (n, x) ∷ l) (enumerate-append (n + 1) xs ys
    ∙ ap (λ m. enumerate_from (n + 1) xs ++ enumerate_from m ys) (let e : n + 1 + length xs ≡ n + suc (length xs) = omega arith in e))

abbrev pub numbered_fault : ℕ × Result (List Datum) LineFault → Option (ℕ × LineFault)
numbered_fault p = option_map (λ fault. (p.0, fault)) (result_err p.1)

refused-more : (fields : List Field) (ls : List (List ℕ)) (line : List ℕ)
    → refused_lines_of fields (ls ++ line ∷ []) ≡ refused_lines_of fields ls ++ filter_map numbered_fault ((length ls + 1, decode_line fields line) ∷ [])
refused-more fields ls line =
    ap (λ rs. filter_map numbered_fault (enumerate_from 1 rs)) (map-append (decode_line fields) ls (line ∷ []))
    ∙ ap (filter_map numbered_fault) (enumerate-append 1 (map (decode_line fields) ls) (decode_line fields line ∷ []))
    ∙ filter_map-append numbered_fault (enumerate_from 1 (map (decode_line fields) ls)) (enumerate_from (1 + length (map (decode_line fields) ls)) (decode_line fields line ∷ []))
    ∙ ap (λ n. refused_lines_of fields ls ++ filter_map numbered_fault ((n, decode_line fields line) ∷ []))
    (let long = length-map ls (decode_line fields) in let e : 1 + length (map (decode_line fields) ls) ≡ length ls + 1 = omega (arith, long) in e)

pub refused-ok : (fields : List Field) (ls : List (List ℕ)) (line : List ℕ) (row : List Datum) → decode_line fields line ≡ Ok row → refused_lines_of fields (ls ++ line ∷ []) ≡ refused_lines_of fields ls
refused-ok fields ls line row e = refused-more fields ls line ∙ ap (λ t. refused_lines_of fields ls ++ filter_map numbered_fault ((length ls + 1, t) ∷ [])) e ∙ append-nil (refused_lines_of fields ls)

pub refused-err : (fields : List Field) (ls : List (List ℕ)) (line : List ℕ) (fault : LineFault) → decode_line fields line ≡ Err fault
    → refused_lines_of fields (ls ++ line ∷ []) ≡ refused_lines_of fields ls ++ (length ls + 1, fault) ∷ []
refused-err fields ls line fault e = refused-more fields ls line ∙ ap (λ t. refused_lines_of fields ls ++ filter_map numbered_fault ((length ls + 1, t) ∷ [])) e

-- ---- how many they are

cons-le : {B : Type 0} (o : Option B) (ys : List B) (n : ℕ) → length ys ≤ n → length (cons_option o ys) ≤ suc n
cons-le None ys n h = omega (arith, h)
cons-le (Some y) ys n h = omega (arith, h)

kept-le : {A B : Type 0} (f : A → Option B) (xs : List A) → length (filter_map f xs) ≤ length xs
kept-le f [] = omega arith
kept-le f (x ∷ xs) = cons-le (f x) (filter_map f xs) (length xs) (kept-le f xs)

pub length-valid_of : (fields : List Field) (ls : List (List ℕ)) → length (valid_records_of fields ls) ≤ length ls
length-valid_of fields ls = let h = kept-le result_ok (map (decode_line fields) ls) in let long = length-map ls (decode_line fields) in omega (arith, h, long)

-- ---- the records that are kept

one-le : {A : Type 0} (b : Bool) (x : A) (ys : List A) (n : ℕ) → length ys ≤ n → length (cond b (x ∷ ys) ys) ≤ suc n
one-le true x ys n h = omega (arith, h)
one-le false x ys n h = omega (arith, h)

filter-le : {A : Type 0} (p : A → Bool) (xs : List A) → length (filter p xs) ≤ length xs
filter-le p [] = omega arith
filter-le p (x ∷ xs) = one-le (p x) x (filter p xs) (length xs) (filter-le p xs)

pub length-kept : (plan : PlannedQuery) (rows : List (List Datum)) → length (kept_records plan.fields plan.query rows) ≤ length rows
length-kept plan rows = filter-le (is_kept plan.fields plan.query) rows

pub length-refused_of : (fields : List Field) (ls : List (List ℕ)) → length (refused_lines_of fields ls) ≤ length ls
length-refused_of fields ls =
    let rs = map (decode_line fields) ls in
    let h = kept-le numbered_fault (enumerate_from 1 rs) in
    let long = length-map ls (decode_line fields) in
    let same = length-enumerate_from 1 rs in
    omega (arith, h, long, same)

numbers-below : (bound n : ℕ) (rs : List (Result (List Datum) LineFault)) → n + length rs ≤ bound → AllByRecursion (λ line. line.0 < bound) (filter_map numbered_fault (enumerate_from n rs))
numbers-below bound n [] h = tt
numbers-below bound n (Ok row ∷ rs) h = numbers-below bound (n + 1) rs (omega (arith, h))
numbers-below bound n (Err fault ∷ rs) h = (omega (arith, h), numbers-below bound (n + 1) rs (omega (arith, h)))

at-most : (n : ℕ) (ls : List (ℕ × LineFault)) → AllByRecursion (λ line. line.0 < n + 1) ls → AllByRecursion (λ line. line.0 ≤ n) ls
at-most n [] h = tt
at-most n (l ∷ ls) h = (let a = h.0 in omega (arith, a), at-most n ls h.1)

-- no refused line has a number above that of the lines
pub refused-numbers : (fields : List Field) (ls : List (List ℕ)) → All (λ line. line.0 ≤ length ls) (refused_lines_of fields ls)
refused-numbers fields ls = All-from_recursion (λ line. line.0 ≤ length ls) (refused_lines_of fields ls)
    (at-most (length ls) (refused_lines_of fields ls) (numbers-below (length ls + 1) 1 (map (decode_line fields) ls) (let long = length-map ls (decode_line fields) in omega (arith, long))))

-- behind these records no line has been read
pub nothing-read : (plan : PlannedQuery) (before : List Record) (table : Contents) (folding : Folding)
    → IsTableOf (grouping_places plan.fields plan.query) (aggregate_functions plan.fields plan.query) table (kept_records plan.fields plan.query before)
    → folding.table ≡ table → folding.lines ≡ 0 → folding.refused ≡ 0 → folding.refusals ≡ [] → HasRead plan before folding []
nothing-read plan before table folding held same none nobody nothing = record {
  table = subst (λ (t : Contents). IsTableOf (grouping_places plan.fields plan.query) (aggregate_functions plan.fields plan.query) t (kept_records plan.fields plan.query (before ++ []))) (sym same)
      (subst (λ (rows : List Record). IsTableOf (grouping_places plan.fields plan.query) (aggregate_functions plan.fields plan.query) table (kept_records plan.fields plan.query rows)) (sym (append-nil before)) held);
  lines = none;
  count = nobody;
  refused = nothing;
}

-- some lines have been read, and with those that are left they are all
pub record HasReadSome (plan : PlannedQuery) (before : List Record) (folding : Folding) (left all : List (List ℕ)) : Type 0 where
  pub seen : List (List ℕ)
  pub has_read : HasRead plan before folding seen
  pub is : seen ++ left ≡ all

-- ---- a line that has been read

pub read-ok : (plan : PlannedQuery) (before : List Record) (old new : Folding) (seen : List (List ℕ)) (line : List ℕ) (row : List Datum) → decode_line plan.fields line ≡ Ok row → HasRead plan before old seen
    → ((rows : List (List Datum)) → IsTableOf (grouping_places plan.fields plan.query) (aggregate_functions plan.fields plan.query) old.table (kept_records plan.fields plan.query rows) → IsTableOf (grouping_places plan.fields plan.query) (aggregate_functions plan.fields plan.query) new.table (kept_records plan.fields plan.query (rows ++ row ∷ [])))
    → new.lines ≡ old.lines → new.refused ≡ old.refused → new.refusals ≡ old.refusals
    → HasRead plan before (record { table = new.table; lines = new.lines + 1; refused = new.refused; refusals = new.refusals; marks = new.marks }) (seen ++ line ∷ [])
read-ok plan before old new seen line row e h added same count stay = record {
  table = subst (λ (rows : List (List Datum)). IsTableOf (grouping_places plan.fields plan.query) (aggregate_functions plan.fields plan.query) new.table (kept_records plan.fields plan.query rows))
      (append_assoc before (valid_records_of plan.fields seen) (row ∷ []) ∙ ap (λ rows. before ++ rows) (sym (valid-ok plan.fields seen line row e)))
      (added (before ++ valid_records_of plan.fields seen) h.table);
  lines = (let a = h.lines in let b = length-append seen (line ∷ []) in omega (arith, same, a, b));
  count = count ∙ h.count ∙ ap length (sym (refused-ok plan.fields seen line row e));
  refused = stay ∙ h.refused ∙ sym (refused-ok plan.fields seen line row e);
}

pub read-err : (plan : PlannedQuery) (before : List Record) (old new : Folding) (seen : List (List ℕ)) (line : List ℕ) (fault : LineFault) → decode_line plan.fields line ≡ Err fault → HasRead plan before old seen
    → new.table ≡ old.table → new.lines ≡ old.lines → new.refused ≡ old.refused + 1 → new.refusals ≡ old.refusals ++ (old.lines + 1, fault) ∷ []
    → HasRead plan before (record { table = new.table; lines = new.lines + 1; refused = new.refused; refusals = new.refusals; marks = new.marks }) (seen ++ line ∷ [])
read-err plan before old new seen line fault e h stay same one more = record {
  table = subst (λ (t : Contents). IsTableOf (grouping_places plan.fields plan.query) (aggregate_functions plan.fields plan.query) t (kept_records plan.fields plan.query (before ++ valid_records_of plan.fields (seen ++ line ∷ [])))) (sym stay)
      (subst (λ (rows : List (List Datum)). IsTableOf (grouping_places plan.fields plan.query) (aggregate_functions plan.fields plan.query) old.table (kept_records plan.fields plan.query (before ++ rows))) (sym (valid-err plan.fields seen line fault e)) h.table);
  lines = (let a = h.lines in let b = length-append seen (line ∷ []) in omega (arith, same, a, b));
  count = (let a = h.count in let b = ap length (refused-err plan.fields seen line fault e) in let d = length-append (refused_lines_of plan.fields seen) ((length seen + 1, fault) ∷ []) in omega (arith, one, a, b, d));
  refused = more ∙ ap (λ rs. rs ++ (old.lines + 1, fault) ∷ []) h.refused ∙ ap (λ n. refused_lines_of plan.fields seen ++ (n + 1, fault) ∷ []) h.lines ∙ sym (refused-err plan.fields seen line fault e);
}

-- ---- records behind those of earlier pieces

-- the records that are kept, of earlier ones and of these lines, are no more than the earlier ones
-- and the lines
pub length-kept_behind : (plan : PlannedQuery) (before : List Record) (ls : List (List ℕ)) → length (kept_records plan.fields plan.query (before ++ valid_records_of plan.fields ls)) ≤ length before + length ls
length-kept_behind plan before ls =
    let few = length-kept plan (before ++ valid_records_of plan.fields ls) in
    let both = length-append before (valid_records_of plan.fields ls) in
    let valid = length-valid_of plan.fields ls in
    omega (arith, few, both, valid)

-- what is noted of lines that have been read
pub well-numbered : (fields : List Field) (n : ℕ) (refused : List (ℕ × LineFault)) (ls : List (List ℕ)) → n ≡ length ls → refused ≡ refused_lines_of fields ls → All (λ line. line.0 ≤ n) refused
well-numbered fields n refused ls e f =
    subst (λ (rs : List (ℕ × LineFault)). All (λ line. line.0 ≤ n) rs) (sym f) (subst (λ m. All (λ line. line.0 ≤ m) (refused_lines_of fields ls)) (sym e) (refused-numbers fields ls))

-- what is read onto a table is put together with it
pub read-both : (plan : PlannedQuery) (table : Contents) (before : List Record) (folding : Folding) (bytes : List ℕ)
    → IsTableOf (grouping_places plan.fields plan.query) (aggregate_functions plan.fields plan.query) table (kept_records plan.fields plan.query before)
    → HasRead plan before folding (lines bytes) → folding.table ≡ both_tables table (of_pieces plan (whole_piece bytes)).table
read-both plan table before folding bytes is read =
    let grouping = grouping_places plan.fields plan.query in
    let fs = aggregate_functions plan.fields plan.query in
    let valid = valid_records plan.fields bytes in
    let first = kept_records plan.fields plan.query before in
    let second = kept_records plan.fields plan.query valid in
    table-is grouping fs folding.table (kept_records plan.fields plan.query (before ++ valid)) read.table
    ∙ ap (table_of grouping fs) (kept-append plan before valid)
    ∙ table_of-append grouping fs first second
    ∙ (λ i. both_tables (sym (table-is grouping fs table first is) i) (table_of grouping fs (kept_records plan.fields plan.query (sym (append-nil valid) i))))
