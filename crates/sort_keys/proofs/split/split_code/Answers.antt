use Rattle.sort_keys.proofs.Lengths.{parted}
use Rattle.sort_keys.proofs.split.split_code.Goals as goal

pub returns-clause-front : goal.returns-clause-front
returns-clause-front c = parted c.args.code.now c.split_at.result.0.now c.split_at.result.1.now c.code_len.result c.min-len.result c.code_len.ensures.len c.min-len.ensures c.split_at.ensures.front c.split_at.ensures.back
