use Rattle.std.proofs.Common.{◌∙◌, ◌++◌, length, map, append_assoc, string_bytes, sym}
use Rattle.query_ast.specs.Syntax.{element_form}
use Rattle.semantics.specs.Syntax.{element_forms}
use Rattle.semantics.specs.Canonical.{comma_list, group_by_text, group_texts}
use Rattle.query_printer.proofs.Pushes.{above_zero, group_clause, written}
use Rattle.query_printer.proofs.clauses.push_group_by.Goals as goal

pub returns : goal.returns
returns c =
    let some = above_zero (length c.args.groups.now) (sym c.is_empty.ensures ∙ c.if-is_empty.false) in
    let list = comma_list (group_texts (element_forms (map element_form c.args.groups.now))) in
    written c.push_groups.result (string_bytes c.push_groups.new.out) (string_bytes c.push_str.new.self ++ list) _ c.push_groups.ensures
    (rw (c.in_ok-push_str.ensures.bytes, c.group_by_text.ensures, group_clause (group_by_text c.args.distinct) c.args.groups.now some) (append_assoc (string_bytes c.args.out.now) (group_by_text c.args.distinct) list))
