use Rattle.std.proofs.Common.{◌≡◌, [], map, take}
use Rattle.csv.specs.Records.{fields_of, partial_of}
use Rattle.semantics.specs.Canonical.{header_text}
use Rattle.report.proofs.text.headers.Given as goal

abbrev pub invariant-loop-item : goal.invariant-loop-item
invariant-loop-item l = record {
  texts : fields_of l.fields ≡ map header_text (take l.item l.plan.query.items);
  whole : partial_of l.fields ≡ [];
}
