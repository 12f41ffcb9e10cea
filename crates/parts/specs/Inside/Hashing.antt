-- Texts that are hashed piece by piece.
use Rattle.std.specs.Prelude.{◌≡◌, ℕ, List, ◌++◌}
use Rattle.sha2.specs.Hashers.{Holds256}
use Rattle.parts.specs.declared.checksum.TextHasher.{TextHasher}

-- A hasher of texts holds a text: what its hasher was given, and behind it the end.
abbrev pub HoldsText : TextHasher → List ℕ → Type 0
HoldsText hasher text = (front : List ℕ) × Holds256 hasher.hasher front × (text ≡ front ++ hasher.end.items)
