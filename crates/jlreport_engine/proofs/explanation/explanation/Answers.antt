use Rattle.std.proofs.Common.{◌∙◌, ◌≤◌, ◌++◌, ℕ, List, length, ap, arith, sym, append_assoc, string_bytes}
use Rattle.std.proofs.lemmas.List.{length-map, take_all}
use Rattle.std.specs.Global.{Vec}
use Rattle.std.specs.Prelude.{codes, decimal}
use Rattle.std.specs.List.{enumerate_from, flat_map}
use Rattle.semantics.specs.Sets.{sets_of}
use Rattle.semantics.specs.Canonical.{canonical_text}
use Rattle.semantics.specs.Explanation.{set_line}
use Rattle.jlreport_engine.proofs.Explained.{lines-next, lines_from}
use Rattle.jlreport_engine.proofs.explanation.explanation.Goals as goal

pub loop-index-preserved : goal.loop-index-preserved
loop-index-preserved c =
    let fields = c.args.plan.now.fields in
    let sets = sets_of fields c.args.plan.now.query in
    let i = c.loop-index.index-counter in
    let front = canonical_text c.args.plan.now.query ++ codes "\n" in
    let last = decimal i ++ (codes ": " ++ (string_bytes c.in_ok-set.set ++ codes "\n")) in
    c.in_ok-writeln.ensures.bytes ∙ ap (λ text. text ++ last) c.loop-index.invariant ∙ append_assoc front (lines_from fields 0 i sets) last
    ∙ ap (λ lines. front ++ lines) (sym (lines-next fields sets i (string_bytes c.in_ok-set.set) c.in_ok-set.ensures.text))

pub set_text-requires : goal.set_text-requires
set_text-requires c =
    let n = length-map c.sets-count.result.now (λ (s : Vec ℕ). s.items) in let e = ap length c.sets-count.ensures.sets in omega (arith, c.loop-index-test.true, n, e)

pub returns : goal.returns
returns c =
    let fields = c.args.plan.now.fields in
    let sets = sets_of fields c.args.plan.now.query in
    let past : length sets ≤ c.loop-index.index-counter =
    let n = length-map c.sets-count.result.now (λ (s : Vec ℕ). s.items) in let e = ap length c.sets-count.ensures.sets in omega (arith, c.loop-index-test.false, n, e) in
    c.loop-index.invariant
    ∙ ap (λ (all : List (List ℕ)). canonical_text c.args.plan.now.query ++ codes "\n" ++ flat_map (set_line fields) (enumerate_from 0 all)) (take_all c.loop-index.index-counter sets past)
