use Rattle.std.proofs.Common.{append_assoc, string_bytes, refl}
use Rattle.std.specs.Prelude.{codes}
use Rattle.query_printer.proofs.Pushes.{pushed}
use Rattle.query_printer.proofs.clauses.push_select.Goals as goal

pub returns : goal.returns
returns c =
    pushed c.push_str-2.result (string_bytes c.push_str-2.new.self) (string_bytes c.write_list.new.out) (codes " FROM lines") _ c.push_str-2.ensures.bytes (rw (c.in_ok-write_list.ensures, c.in_ok-push_str.ensures.bytes) (simp append_assoc refl))
