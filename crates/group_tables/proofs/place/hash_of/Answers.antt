use Rattle.group_tables.proofs.Hashes.{hash-is}
use Rattle.group_tables.proofs.place.hash_of.Goals as goal

pub returns-clause-value : goal.returns-clause-value
returns-clause-value c = hash-is c.args.code.now c.last_bytes.result c.from_be_bytes-number.result c.from_be_bytes-number.ensures c.last_bytes.ensures
