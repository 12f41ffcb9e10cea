-- The limits of the product.
use Rattle.std.specs.Prelude.{◌^◌, ℕ}

-- An input has fewer bytes than this, and so fewer lines.
abbrev pub input_limit : ℕ
input_limit = 2 ^ 63

-- The most bytes of the text of a query.
abbrev pub max_query_len : ℕ
max_query_len = 65536

-- The most grouping sets that GROUP BY stands for.
abbrev pub most_grouping_sets : ℕ
most_grouping_sets = 256

-- The most different set functions of a query.
abbrev pub most_set_functions : ℕ
most_set_functions = 64

-- The most threads that share the work.
abbrev pub most_workers : ℕ
most_workers = 64

-- The most bytes of a piece of an input.
abbrev pub max_piece_len : ℕ
max_piece_len = 67108864
