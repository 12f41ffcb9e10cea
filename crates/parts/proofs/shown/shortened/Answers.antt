use Rattle.std.proofs.Common.{◌-◌, ◌+◌, List, ℕ, ◌++◌, chars, refl, sym, ap, ◌∙◌, append_assoc, append-nil, rules, string_bytes}
use Rattle.std.specs.Str.Iter.{chars_rest}
use Rattle.std.proofs.lemmas.Str.{IsUtf8-past_char}
use Rattle.parts.specs.Shown.{shortened}
use Rattle.parts.proofs.Visible.{first-empty, first-left, first-step}
use Rattle.parts.proofs.shown.shortened.Goals as goal

pub loop-init : goal.loop-init
unfolding shortened
loop-init c = (search rules, rw (c.new-short.ensures.bytes, c.chars-rest.ensures.rest) refl)

pub returns-in_default : goal.returns-in_default
returns-in_default c =
    let none = first-empty (200 - c.loop.counter) (chars_rest c.loop.rest) c.in_default.ensures.steps.0.0 in
    sym (append-nil _) ∙ ap (λ (xs : List ℕ). string_bytes c.loop.short ++ xs) (sym none) ∙ c.loop.invariant.1

pub loop-preserved : goal.loop-preserved
loop-preserved c =
    let held = c.loop.invariant in
    let parts = c.in-Some.ensures.steps.0 in
    let step =
    first-left 200 c.loop.counter (chars (chars_rest c.loop.rest)) c.loop-test.true
    ∙ first-step (200 - (c.loop.counter + 1)) _ _ c.in-Some.c held.0 parts in
    (IsUtf8-past_char _ _ c.in-Some.c held.0 parts, rw (c.in_ok-push.ensures.bytes, append_assoc) (rw step at held.1))
