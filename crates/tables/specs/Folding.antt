-- What a piece is as far as its lines have been read.
use Rattle.std.specs.Prelude.{ℕ, List, map, filter_map, option_map}
use Rattle.std.specs.List.{enumerate_from}
use Rattle.std.specs.Result.{result_ok, result_err}
use Rattle.semantics.specs.Columns.{Field}
use Rattle.semantics.specs.declared.line_fault.LineFault.{LineFault}
use Rattle.semantics.specs.Records.{decode_line}
use Rattle.semantics.specs.Groups.{Record}

-- The valid records of these lines.
abbrev pub valid_records_of : List Field → List (List ℕ) → List Record
valid_records_of fields ls = filter_map result_ok (map (decode_line fields) ls)

-- The refused ones of these lines, numbered from 1.
abbrev pub refused_lines_of : List Field → List (List ℕ) → List (ℕ × LineFault)
refused_lines_of fields ls = filter_map (λ p. option_map (λ fault. (p.0, fault)) (result_err p.1)) (enumerate_from 1 (map (decode_line fields) ls))
