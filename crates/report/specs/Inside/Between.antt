-- A writer of CSV into memory, and one between two rows.
use Rattle.std.specs.Prelude.{◌≡◌, ℕ, Option, Some, List, false}
use Rattle.std.specs.Global.{Vec}
use Rattle.std.specs.Io.KnownBytes.{Appends}
use Rattle.csv.specs.declared.writer.Writer.{Writer}
use Rattle.csv.specs.Writing.{fields_written, has_written, text_written, writer_setup, default_writer}

-- The writer has written whole rows, by the defaults of the crate.
pub record IsBetweenRows {W : Type 0} (w : Writer W) : Type 0 where
  pub fields : fields_written w ≡ 0
  pub wrote : has_written w ≡ false
  pub setup : writer_setup w ≡ default_writer

-- The bytes that a writer into memory has written, where it knows them.
abbrev pub text_in : Writer (Vec ℕ) → Option (List ℕ)
text_in writer = text_written (λ v. Some v.items) writer

-- a writer into memory has written these bytes more
abbrev pub HasWritten : Writer (Vec ℕ) → Writer (Vec ℕ) → List ℕ → Type 0
HasWritten old new bytes = Appends (text_in old) (text_in new) bytes
