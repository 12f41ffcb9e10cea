use Rattle.std.proofs.Common.{◌≡◌, map, take, drop, string_bytes}
use Rattle.std.specs.List.{enumerate_from}
use Rattle.query_ast.specs.Syntax.{item_form}
use Rattle.semantics.specs.Canonical.{header_text}
use Rattle.query_typecheck.specs.FirstFaults.{first_fault, header_fault, headers_fault}
use Rattle.query_typecheck.proofs.resolution.check_headers.Given as goal

abbrev pub invariant-loop-item : goal.invariant-loop-item
invariant-loop-item l =
    let headers = map header_text (map item_form l.items) in
    (map string_bytes l.headers.items ≡ take l.item-index headers)
    × (first_fault (λ p. header_fault (take p.0 headers) p.1) (enumerate_from l.item-index (drop l.item-index headers)) ≡ headers_fault headers)
