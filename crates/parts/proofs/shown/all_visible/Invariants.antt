use Rattle.std.proofs.Common.{◌≡◌, ◌++◌, IsUtf8, string_bytes}
use Rattle.std.specs.Str.Iter.{chars_rest}
use Rattle.parts.specs.Shown.{all_visible}
use Rattle.parts.proofs.shown.all_visible.Given as goal

abbrev pub invariant-loop-c : goal.invariant-loop-c
invariant-loop-c l = IsUtf8 (chars_rest l.c-iterator) × (string_bytes l.line ++ all_visible (chars_rest l.c-iterator) ≡ all_visible l.fn.text)
