use Rattle.std.proofs.Common.{append_assoc, string_bytes, refl}
use Rattle.std.specs.Prelude.{codes}
use Rattle.query_printer.proofs.Pushes.{pushed}
use Rattle.query_printer.proofs.predicates.+push_expression.Goals as goal

pub push_filter-returns : goal.push_filter-returns
push_filter-returns t c =
    pushed c.push_str-2.result (string_bytes c.push_str-2.new.self) (string_bytes c.push_predicate.new.out) (codes ")") _ c.push_str-2.ensures.bytes (rw (c.in_ok-push_predicate.ensures, c.in_ok-push_str.ensures.bytes) (simp append_assoc refl))
