use Rattle.std.proofs.Common.{◌≡◌, ◌∙◌, None, ap, subst, sym, arith}
use Rattle.jlreport_scan.specs.Inside.Pieces.{IsUnder}
use Rattle.jlreport_scan.specs.Gathered.{limit_number}
use Rattle.jlreport_scan.proofs.round.whole_of.Goals as goal

pub unreachable-requires : goal.unreachable-requires
unreachable-requires c =
    let above = subst (IsUnder c.requires.0 (limit_number c.args.options.max_refused)) c.in-Over-None.is-0 c.requires.2 in
    let limit : limit_number c.args.options.max_refused ≡ limit_number None = ap limit_number (sym c.max_refused.ensures ∙ c.in-Over-None.is-1) in
    let few = c.requires.1 in
    omega (arith, above, limit, few)

pub returns-in-Over-Some-clause-fault : goal.returns-in-Over-Some-clause-fault
returns-in-Over-Some-clause-fault c = λ count under.
    let is = sym c.max_refused.ensures ∙ c.in-Over-Some.is-1 in
    let above = subst (IsUnder count (limit_number c.args.options.max_refused)) c.in-Over-Some.is-0 under in
    let limit = ap limit_number is in
    (is, omega (arith, above, limit))
