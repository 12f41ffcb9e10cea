use Rattle.std.proofs.Common.{◌==◌}
use Rattle.sort_keys.proofs.Ends.{near-found}
use Rattle.sort_keys.proofs.split.short_text_len.Goals as goal

pub returns : goal.returns
returns c = near-found (λ b. b == 0) c.args.code.now c.in_ok-front.front.now 16 c.place_of_end.result c.in_ok-front.ensures.cases.same c.place_of_end.ensures
