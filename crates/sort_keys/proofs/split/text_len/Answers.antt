use Rattle.std.proofs.Common.{◌==◌}
use Rattle.sort_keys.proofs.Ends.{first-byte}
use Rattle.sort_keys.proofs.split.text_len.Goals as goal

pub returns-in-None : goal.returns-in-None
returns-in-None c = first-byte (λ b. b == 0) c.args.code.now c.memchr.result c.memchr.ensures
