use Rattle.std.proofs.Common.{◌≡◌, ◌≤◌, length, string_bytes, ◌∙◌, ap, sym, subst}
use Rattle.std.proofs.lemmas.Result.{IfOk-weaker}
use Rattle.semantics.specs.Canonical.{canonical_text}
use Rattle.query_ast.specs.Syntax.{tree_form}
use Rattle.semantics.specs.Reading.{Derives}
use Rattle.query.proofs.Again.{derives-again}
use Rattle.query.proofs.printer.print.Goals as goal

pub returns-clause-again : goal.returns-clause-again
returns-clause-again c =
    let q = c.args.query.now in
    IfOk-weaker c.print_tree.result
    (λ text. string_bytes text ≡ canonical_text (tree_form c.tree.result.now))
    (λ text. length (string_bytes text) ≤ 65536 → Derives (string_bytes text) q)
    (λ text is short.
    let same = is ∙ ap canonical_text c.tree.ensures.form in
    subst (λ bytes. Derives bytes q) (sym same)
    (derives-again q c.tree.ensures.derived (subst (λ bytes. length bytes ≤ 65536) same short)))
    c.print_tree.ensures
