-- Seeds of hashes.
use Rattle.std.specs.Prelude.{⊤}
use Rattle.std.specs.declared.hash.DefaultHasher.{DefaultHasher}
use Rattle.std.specs.Hash.DefaultHasher.{initial}
use Rattle.std.specs.RandomState as random
use Rattle.group_tables.specs.declared.hash.HashSeed.{HashSeed}
use Rattle.group_tables.specs.declared.hash.HashSeed.TheVariants as seed

-- The hasher that a seed begins with.
abbrev pub initial_hasher : HashSeed → DefaultHasher
initial_hasher seed.Fixed = initial
initial_hasher (seed.Random state) = random.initial_hasher state

-- The seed is not the fixed one.
abbrev pub IsDrawn : HashSeed → Type 0
IsDrawn seed.Fixed = ⊥
IsDrawn (seed.Random state) = ⊤
