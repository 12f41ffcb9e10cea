use native.Mathlib.Nat.{ℕ_set}
use Rattle.std.proofs.Common.{◌≡◌, ◌+◌, ◌<◌, ◌^◌, ◌++◌, ◌∷◌, [], ℕ, List, length, rules, subst, sym, ap, ◌∙◌, append_assoc, append-nil, arith, length-append}
use Rattle.std.proofs.Math.Logic.{∥∥₁_elim, ∥∥₁_map}
use Rattle.std.proofs.Props.{props}
use Rattle.semantics.specs.Lines.{lines}
use Rattle.lines.specs.Checked.{line_bytes}
use Rattle.tables.specs.Inside.Folding.{HasRead}
use Rattle.tables.proofs.Reading.{nothing-read, well-numbered}
use Rattle.tables.proofs.fold.read_onto.Goals as goal

-- with one more there are at most as many as all
few : (before : ℕ) (seen rest all : List (List ℕ)) (line : List ℕ) → seen ++ line ∷ rest ≡ all → before + length all < 2 ^ 63 → before + length seen + 1 < 2 ^ 63
few before seen rest all line e short =
    let a = ap length e in
    let b = length-append seen (line ∷ rest) in
    omega (arith, a, b, short)

pub loop-line-init : goal.loop-line-init
loop-line-init c = λ before held. record {
  seen = [];
  has_read = nothing-read c.args.plan.now before c.args.table c.begin-folding.result held c.begin-folding.ensures.table c.begin-folding.ensures.lines c.begin-folding.ensures.refused c.begin-folding.ensures.refusals;
  is = c.into_iter-line-iterator.ensures.into_iter_gives ∙ c.checked_lines_of-line-items.ensures;
}

pub read-requires : goal.read-requires
read-requires c =
    let left : c.loop-line.line-iterator ≡ line_bytes c.in-Some.line ∷ c.next.new.self = search rules in
    ∥∥₁_map c.requires (λ r.
    let v = c.loop-line.invariant r.before r.is_table in
    record {
      before = r.before;
      seen = v.seen;
      has_read = v.has_read;
      few = few (length r.before) v.seen c.next.new.self (lines c.args.piece.now) (line_bytes c.in-Some.line) (ap (λ ls. v.seen ++ ls) (sym left) ∙ v.is) r.few;
    })

pub loop-line-preserved : goal.loop-line-preserved
loop-line-preserved c = λ before held.
    let left : c.loop-line.line-iterator ≡ line_bytes c.in-Some.line ∷ c.next.new.self = search rules in
    let v = c.loop-line.invariant before held in
    record {
      seen = v.seen ++ line_bytes c.in-Some.line ∷ [];
      has_read = c.in_ok-read.ensures before v.seen v.has_read;
      is = append_assoc v.seen (line_bytes c.in-Some.line ∷ []) c.next.new.self ∙ ap (λ ls. v.seen ++ ls) (sym left) ∙ v.is;
    }

pub returns-clause-read : goal.returns-clause-read
returns-clause-read c = λ before held.
    let v = c.loop-line.invariant before held in
    subst (HasRead c.args.plan.now before c.loop-line.folding)
    (sym (append-nil v.seen) ∙ ap (λ ls. v.seen ++ ls) (sym c.in-None.ensures.steps.0) ∙ v.is) v.has_read

pub returns-clause-lines : goal.returns-clause-lines
returns-clause-lines c = ∥∥₁_elim c.requires (ℕ_set _ _) (λ r. (returns-clause-read c r.before r.is_table).lines)

pub returns-clause-refused : goal.returns-clause-refused
returns-clause-refused c = ∥∥₁_elim c.requires (ℕ_set _ _) (λ r. (returns-clause-read c r.before r.is_table).count)

pub returns-clause-numbered : goal.returns-clause-numbered
returns-clause-numbered c = ∥∥₁_elim c.requires (hlevel props) (λ r.
    let read = returns-clause-read c r.before r.is_table in
    well-numbered c.args.plan.now.fields c.loop-line.folding.lines c.loop-line.folding.refusals (lines c.args.piece.now) read.lines read.refused)
