use Rattle.std.proofs.Common.{◌++◌, map, append_assoc, string_bytes}
use Rattle.std.specs.Prelude.{codes}
use Rattle.query_ast.specs.Syntax.{element_form}
use Rattle.semantics.specs.Syntax.{element_forms}
use Rattle.semantics.specs.Canonical.{comma_list, group_texts, in_brackets}
use Rattle.query_printer.proofs.Pushes.{sets_form, written}
use Rattle.query_printer.proofs.groups.+push_group.Goals as goal

pub push_group-returns-in_ok-push_str-in-Sets : goal.push_group-returns-in_ok-push_str-in-Sets
push_group-returns-in_ok-push_str-in-Sets t c =
    let list = in_brackets (comma_list (group_texts (element_forms (map element_form c.in-Sets.groups.items)))) in
    written c.push_bracketed.result (string_bytes c.push_bracketed.new.out) (string_bytes c.push_str.new.self ++ list) _
    (rw c.deref-in-Sets.ensures.value at c.push_bracketed.ensures)
    (rw (c.in_ok-push_str-in-Sets.ensures.bytes, c.in-Sets.is, sets_form c.in-Sets.groups) (append_assoc (string_bytes c.args.out.now) (codes "GROUPING SETS ") list))
