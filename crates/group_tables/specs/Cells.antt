-- The cells of a group: the values of the set functions over it, apart from where they lie in
-- memory.
use Rattle.values.specs.Datum.{datum_of}
use Rattle.group_tables.specs.declared.cell.Cell.{Cell}
use Rattle.group_tables.specs.declared.cell.Cell.TheVariants as cell
use Rattle.semantics.specs.Aggregates.{CellValue, plain, ratio}

-- a cell: a value, or a sum and how many numbers were added
abbrev pub summary_of : Cell → CellValue
summary_of (cell.Plain value) = plain (datum_of value)
summary_of (cell.Ratio sum count) = ratio sum count
