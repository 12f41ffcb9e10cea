-- How a message shows a text of a part.
use Rattle.std.specs.Char.{encode_utf8}
use Rattle.std.specs.Int.{to_be_bytes, w16}
use Rattle.std.specs.Prelude.{◌&&◌, ◌||◌, ℕ, nat_le, Bool, List, ◌∷◌, ◌++◌, codes, drop, flat_map, take, if◌then◌else◌, []}
use Rattle.std.specs.Str.{chars, encode_utf8_all}
use Rattle.hex.specs.Hex.{encode_lower}
use Rattle.json.specs.Print.{quoted}

-- ---- a long text is cut

-- Two full stops where characters are left out, and nothing where none are.
abbrev pub dots : List ℕ → List ℕ
dots [] = []
dots (c ∷ cs) = codes ".."

-- The first of these characters, so many at most, and what stands for the others.
abbrev pub first_of : ℕ → List ℕ → List ℕ
first_of most cs = encode_utf8_all (take most cs) ++ dots (drop most cs)

-- A text of at most 200 characters, and of a longer one the first 200, and two full stops.
unfoldable pub shortened : List ℕ → List ℕ
shortened t = first_of 200 (chars t)

-- ---- characters that would change what is around them are escaped

-- Whether a character is not shown, or turns the direction of writing: DEL and the control
-- characters behind it (U+007F to U+009F), the embeddings and overrides (U+202A to U+202E), and the
-- isolates (U+2066 to U+2069).
abbrev pub is_hidden : ℕ → Bool
is_hidden c = (nat_le 0x7F c && nat_le c 0x9F) || (nat_le 0x202A c && nat_le c 0x202E) || (nat_le 0x2066 c && nat_le c 0x2069)

-- The escape of such a character in a string of JSON: its number in four hexadecimal digits.
abbrev pub escape_of : ℕ → List ℕ
escape_of c = codes "\\u" ++ encode_lower (to_be_bytes w16 c)

-- What stands for a character.
abbrev pub visible : ℕ → List ℕ
visible c = if is_hidden c then escape_of c else encode_utf8 c

-- What stands for a text, character by character.
unfoldable pub all_visible : List ℕ → List ℕ
all_visible t = flat_map visible (chars t)

-- ---- the two together

-- A text as a message shows it: a string of JSON, in quotes, in which no character is hidden. Of a
-- long text it has the first characters, each of them whole.
abbrev pub shown : List ℕ → List ℕ
shown t = all_visible (quoted (shortened t))
