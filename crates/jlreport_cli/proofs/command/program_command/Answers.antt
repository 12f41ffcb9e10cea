use Rattle.std.proofs.Common.{◌∙◌, ap, ap₂, subst, sym}
use Rattle.std.proofs.lemmas.List.{nil_from_length}
use Rattle.std.specs.Array.Iter.{array_into_iter_items}
use Rattle.std.specs.List.{AllByRecursion, fold}
use Rattle.clap.specs.Words.{app_of, with_rule}
use Rattle.jlreport_cli.proofs.Published.{IsLocal, with_argument}
use Rattle.jlreport_cli.proofs.command.program_command.Goals as goal

pub loop-argument-init : goal.loop-argument-init
loop-argument-init c =
    let are = c.into_iter-argument-iterator.ensures.into_iter_gives.0 in
    let one = ap₂ with_rule c.described_command-command.ensures c.required_option.ensures.rule in
    let two = ap₂ with_rule one c.required_option-2.ensures.rule in
    let three = ap₂ with_rule two c.defaulted_option.ensures.rule in
    let four = ap₂ with_rule three c.defaulted_option-2.ensures.rule in
    let five = ap₂ with_rule four c.number_option.ensures.rule in
    let six = ap₂ with_rule five c.flag.ensures.rule in
    let seven = ap₂ with_rule six c.flag-2.ensures.rule in
    let eight = ap₂ with_rule seven c.flag-3.ensures.rule in
    let nine = ap₂ with_rule eight c.flag-4.ensures.rule in
    record {
      whole = ap (fold with_argument (app_of c.described_command-command.result)) are ∙ ap₂ with_rule nine c.required_word.ensures.rule;
      local = subst (AllByRecursion IsLocal) (sym are) (
        c.required_option.ensures.local,
        (
          c.required_option-2.ensures.local,
          (
            c.defaulted_option.ensures.local,
            (c.defaulted_option-2.ensures.local, (c.number_option.ensures.local, (c.flag.ensures.local, (c.flag-2.ensures.local, (c.flag-3.ensures.local, (c.flag-4.ensures.local, (c.required_word.ensures.local, tt))))))),
          ),
        ),
      );
    }

pub loop-argument-preserved : goal.loop-argument-preserved
loop-argument-preserved c =
    let i = c.loop-argument.invariant in
    let rest = array_into_iter_items c.next.new.self in
    let are = c.in-Some.ensures.steps in
    let local = subst (AllByRecursion IsLocal) are i.local in
    let added = c.in_ok-command.ensures.shape local.0 in
    record {
      whole = ap (λ app. fold with_argument app rest) added ∙ ap (fold with_argument (app_of c.loop-argument.command)) (sym are) ∙ i.whole;
      local = local.1;
    }

pub returns-clause-ok : goal.returns-clause-ok
returns-clause-ok c = ap (fold with_argument (app_of c.loop-argument.command)) (sym (nil_from_length _ c.in-None.ensures.steps.0)) ∙ c.loop-argument.invariant.whole
