-- Bytes that wait in a buffer, and are written piece by piece.
use Rattle.std.proofs.Common.{◌≡◌, ◌∙◌, ◌+◌, ◌++◌, ◌<◌, ◌≤◌, List, [], ℕ, Option, append_assoc, append-nil, ap, drop, get_or, length, refl, subst, sym, take, take_all}
use Rattle.std.proofs.KnownBytes.{Appends-nil, Appends-trans}
use Rattle.std.proofs.lemmas.Grind.{flat_map-append}
use Rattle.std.proofs.lemmas.List.{flat_map_more, take-append-drop, take_more}
use Rattle.std.specs.Io.KnownBytes.{Appends}
use Rattle.report.specs.Report.{refusals_of}
use Rattle.semantics.specs.Columns.{Field}
use Rattle.semantics.specs.Run.{AppendsBeginning}
use Rattle.semantics.specs.Texts.{refused_line}
use Rattle.semantics.specs.declared.line_fault.LineFault.{LineFault}
use Rattle.semantics.specs.declared.line_fault.LineFault.TheVariants.{TooLong}
use Rattle.jlreport_engine.specs.Inside.Written.{Sends}

regroup : (a b c d : List ℕ) → (a ++ (b ++ c)) ++ d ≡ (a ++ b) ++ (c ++ d)
regroup a b c d = ap (λ (xs : List ℕ). xs ++ d) (sym (append_assoc a b c)) ∙ append_assoc (a ++ b) c d

-- nothing of what waits is written
pub sent-none : (x : Option (List ℕ)) (held : List ℕ) → Sends x x held held
sent-none x held = ([], refl, Appends-nil x)

-- all of it is written, and nothing waits
pub sent-whole : (x y : Option (List ℕ)) (held left : List ℕ) → left ≡ [] → Appends x y held → Sends x y held left
sent-whole x y held left none written = (held, sym (append-nil held) ∙ ap (λ (xs : List ℕ). held ++ xs) (sym none), written)

-- some of what waits is written, and then more waits
pub sends-more : (x y z : Option (List ℕ)) (all held left line new : List ℕ) → Sends x y all held → Sends y z held left → new ≡ left ++ line → Sends x z (all ++ line) new
sends-more x y z all held left line new s t pushed = (
  s.0 ++ t.0,
  ap (λ (xs : List ℕ). xs ++ line) (s.1 ∙ ap (λ (xs : List ℕ). s.0 ++ xs) t.1) ∙ regroup s.0 t.0 left line ∙ ap (λ (xs : List ℕ). (s.0 ++ t.0) ++ xs) (sym pushed),
  Appends-trans x y z s.0 t.0 s.2 t.2,
)

-- all that waits is written
pub sent-all : (x y z : Option (List ℕ)) (all held : List ℕ) → Sends x y all held → Appends y z held → Appends x z all
sent-all x y z all held s written = subst (Appends x z) (sym s.1) (Appends-trans x y z s.0 held s.2 written)

-- a beginning of what waits is written, and more was to follow
pub sent-some : (x y z : Option (List ℕ)) (all held more : List ℕ) → Sends x y all held → AppendsBeginning y z held → AppendsBeginning x z (all ++ more)
sent-some x y z all held more s begun = (
  s.0 ++ begun.0,
  begun.1 ++ more,
  ap (λ (xs : List ℕ). xs ++ more) (s.1 ∙ ap (λ (xs : List ℕ). s.0 ++ xs) begun.2) ∙ regroup s.0 begun.0 begun.1 more,
  Appends-trans x y z s.0 begun.0 s.2 begun.3,
)

-- the list of lines is that of the first of them, and then that of the others
pub list-parted : (fields : List Field) (lines : List (ℕ × LineFault)) (i : ℕ) → refusals_of fields (take i lines) ++ refusals_of fields (drop i lines) ≡ refusals_of fields lines
list-parted fields lines i =
    sym (flat_map-append (refused_line fields) (take i lines) (drop i lines)) ∙ ap (refusals_of fields) (take-append-drop i lines)

-- one line more
pub list-more : (fields : List Field) (lines : List (ℕ × LineFault)) (i : ℕ) → i < length lines
    → refusals_of fields (take i lines) ++ refused_line fields (get_or lines i (0, TooLong)) ≡ refusals_of fields (take (i + 1) lines)
list-more fields lines i within =
    flat_map_more (refused_line fields) [] (take i lines) (get_or lines i (0, TooLong)) ∙ ap (refusals_of fields) (sym (take_more lines i (0, TooLong) within))

-- ---- the list of refused lines

-- the list of the lines so far
abbrev pub SendsLines : List Field → List (ℕ × LineFault) → ℕ → (old new : Option (List ℕ)) → List ℕ → Type 0
SendsLines fields lines i old new waits = Sends old new (refusals_of fields (take i lines)) waits

-- one line more waits
pub line-sent : (fields : List Field) (lines : List (ℕ × LineFault)) (i : ℕ) (x y z : Option (List ℕ)) (held left new : List ℕ) → i < length lines → SendsLines fields lines i x y held → Sends y z held left
    → new ≡ left ++ refused_line fields (get_or lines i (0, TooLong)) → SendsLines fields lines (i + 1) x z new
line-sent fields lines i x y z held left new within s t pushed =
    subst (λ (all : List ℕ). Sends x z all new) (list-more fields lines i within)
    (sends-more x y z (refusals_of fields (take i lines)) held left (refused_line fields (get_or lines i (0, TooLong))) new s t pushed)

-- a beginning of what waits is written, and so a beginning of the list
pub list-begun : (fields : List Field) (lines : List (ℕ × LineFault)) (i : ℕ) (x y z : Option (List ℕ)) (held : List ℕ) → SendsLines fields lines i x y held → AppendsBeginning y z held → AppendsBeginning x z (refusals_of fields lines)
list-begun fields lines i x y z held s begun =
    subst (AppendsBeginning x z) (list-parted fields lines i) (sent-some x y z (refusals_of fields (take i lines)) held (refusals_of fields (drop i lines)) s begun)

-- some of what waits is written, and so a beginning of the list
pub list-left : (fields : List Field) (lines : List (ℕ × LineFault)) (i : ℕ) (x y z : Option (List ℕ)) (held left : List ℕ) → SendsLines fields lines i x y held → Sends y z held left → AppendsBeginning x z (refusals_of fields lines)
list-left fields lines i x y z held left s t = list-begun fields lines i x y z held s (t.0, left, t.1, t.2)

-- all lines wait, and are written
pub list-sent : (fields : List Field) (lines : List (ℕ × LineFault)) (i : ℕ) (x y z : Option (List ℕ)) (held : List ℕ) → length lines ≤ i → SendsLines fields lines i x y held → Appends y z held → Appends x z (refusals_of fields lines)
list-sent fields lines i x y z held all s written =
    subst (λ (ls : List (ℕ × LineFault)). Appends x z (refusals_of fields ls)) (take_all i lines all) (sent-all x y z (refusals_of fields (take i lines)) held s written)
