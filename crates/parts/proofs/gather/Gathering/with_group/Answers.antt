use Rattle.parts.proofs.Shaped.{can-hold}
use Rattle.parts.proofs.gather.Gathering.with_group.Goals as goal

pub returns-clause-gathering : goal.returns-clause-gathering
returns-clause-gathering c =
    record {
      can = can-hold c.args.plan.now c.args.self.partial c.in_ok-partial.partial c.args.self.last c.args.self.left c.args.group c.requires.fits c.requires.gathering.can c.requires.gathering.first c.in_ok-partial.ensures.groups c.in_ok-partial.ensures.holds;
      first = λ e. absurd cc;
    }
