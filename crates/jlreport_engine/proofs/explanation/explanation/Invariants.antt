use Rattle.std.proofs.Common.{◌≡◌, ◌++◌, string_bytes}
use Rattle.std.specs.Prelude.{codes}
use Rattle.semantics.specs.Sets.{sets_of}
use Rattle.semantics.specs.Canonical.{canonical_text}
use Rattle.jlreport_engine.proofs.Explained.{lines_from}
use Rattle.jlreport_engine.proofs.explanation.explanation.Given as goal

abbrev pub invariant-loop-index : goal.invariant-loop-index
invariant-loop-index l =
    string_bytes l.text ≡ canonical_text l.plan.query ++ codes "\n"
    ++ lines_from l.plan.fields 0 l.index-counter (sets_of l.plan.fields l.plan.query)
