use Rattle.std.proofs.Common.{◌≡◌, ℕ, ◌<◌, Some, refl, sym, subst, arith}
use Rattle.json.specs.Text.{short_escape}
use Rattle.lines_json.specs.Inside.Contents.{IsShortEscape}
use Rattle.lines_json.proofs.escapes.short_escape.Goals as goal

known : (letter x meant : ℕ) → letter ≡ x → x < 128 → meant < 128 → short_escape x ≡ Some meant → IsShortEscape letter meant
known letter x meant e low small is = subst (λ y. IsShortEscape y meant) (sym e) (record { letter_ascii = low; meant_ascii = small; is = is })

pub returns-in-34 : goal.returns-in-34
unfolding short_escape
returns-in-34 c = known _ 34 34 c.in-34.is (omega arith) (omega arith) refl

pub returns-in-92 : goal.returns-in-92
unfolding short_escape
returns-in-92 c = known _ 92 92 c.in-92.is (omega arith) (omega arith) refl

pub returns-in-47 : goal.returns-in-47
unfolding short_escape
returns-in-47 c = known _ 47 47 c.in-47.is (omega arith) (omega arith) refl

pub returns-in-98 : goal.returns-in-98
unfolding short_escape
returns-in-98 c = known _ 98 8 c.in-98.is (omega arith) (omega arith) refl

pub returns-in-102 : goal.returns-in-102
unfolding short_escape
returns-in-102 c = known _ 102 12 c.in-102.is (omega arith) (omega arith) refl

pub returns-in-110 : goal.returns-in-110
unfolding short_escape
returns-in-110 c = known _ 110 10 c.in-110.is (omega arith) (omega arith) refl

pub returns-in-114 : goal.returns-in-114
unfolding short_escape
returns-in-114 c = known _ 114 13 c.in-114.is (omega arith) (omega arith) refl

pub returns-in-116 : goal.returns-in-116
unfolding short_escape
returns-in-116 c = known _ 116 9 c.in-116.is (omega arith) (omega arith) refl
