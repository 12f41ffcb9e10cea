use Rattle.std.proofs.Common.{◌≡◌, ◌∙◌, true, false, ℕ, Vec, Global, ap, sym, subst, arith}
use Rattle.std.proofs.lemmas.Str.{IsUtf8-had}
use Rattle.std.specs.Str.{IsUtf8}
use Rattle.semantics.specs.Values.{text}
use Rattle.sort_keys.proofs.Decoding.{text-read, text-rest, text-some}
use Rattle.sort_keys.proofs.decode.split_text.Goals as goal

pub returns-in_default-clause-value : goal.returns-in_default-clause-value
returns-in_default-clause-value c = λ t s u is. absurd (text-some t s c.args.code.now is (sym c.in_default.is ∙ c.text_len.ensures))

pub returns-in-Ok-clause-value : goal.returns-in-Ok-clause-value
returns-in-Ok-clause-value c = λ t s u is.
    let found = sym c.in-Some.is ∙ c.text_len.ensures in
    let low = text-read t s c.args.code.now c.in_ok-bytes.bytes.items c.in-Some.len _ is found (omega arith) c.in_ok-bytes.ensures in
    (ap text (ap (λ (v : Vec ℕ Global). v.items) c.in-Ok.ensures.ok ∙ low), text-rest t s c.args.code.now c.in-Some.len is found)

pub returns-clause-value : goal.returns-clause-value
returns-clause-value c = λ t s u is.
    let found = sym c.in-Some.is ∙ c.text_len.ensures in
    let low = text-read t s c.args.code.now c.in_ok-bytes.bytes.items c.in-Some.len _ is found (omega arith) c.in_ok-bytes.ensures in
    let other : false ≡ true = c.in-Err.ensures.succeeds (subst IsUtf8 (sym low) (IsUtf8-had t u)) in
    absurd cc
