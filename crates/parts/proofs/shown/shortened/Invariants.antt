use Rattle.std.proofs.Common.{◌≡◌, ◌-◌, ◌++◌, IsUtf8, chars, string_bytes}
use Rattle.std.specs.Str.Iter.{chars_rest}
use Rattle.parts.specs.Shown.{first_of, shortened}
use Rattle.parts.proofs.shown.shortened.Given as goal

abbrev pub invariant-loop : goal.invariant-loop
invariant-loop l = IsUtf8 (chars_rest l.rest) × (string_bytes l.short ++ first_of (200 - l.counter) (chars (chars_rest l.rest)) ≡ shortened l.fn.text)
