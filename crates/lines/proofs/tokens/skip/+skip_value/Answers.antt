use Rattle.std.proofs.Common.{◌≡◌, ℕ, ◌<◌, List, ◌∷◌, length, Option, Some, None, IfSome, is_some, true, Bool, Bor, ◌⊎◌, inl, inr, refl, arith}
use Rattle.json.specs.Token.{Token}
use Rattle.json.specs.Json.{after_end_array, read_key, items, members, value}
use Rattle.json.specs.Reads.{token_of}
use Rattle.json.specs.declared.token.Token as token
use Rattle.json.specs.declared.token.Token.TheVariants as variant
use Rattle.json.proofs.Grammar.{read_key-shorter}
use Rattle.serde_json.specs.Data.{Data, Num, null, boolean, number, string, array, object, item, no_items, no_members, put}
use Rattle.serde_json.specs.Read.{number_of, of_items, of_members}
use Rattle.lines_json.specs.Meant.{IsValue}
use Rattle.lines_json.proofs.Meaning.{begins, first-array, first-boolean, first-null, first-number, first-object, first-string, item-next, items-closed, member-next, members-closed}
use Rattle.lines.proofs.tokens.skip.+skip_value.Goals as goal

-- a value stands first, and these tokens are behind it
abbrev Passed : ℕ → List Token → List Token → Type 0
Passed depth old new = (d : Data) × IsValue depth old d new

-- a number that has a value stands first
passed-number : (depth : ℕ) (s : List ℕ) (r : List Token) (o : Option Num) → number_of s ≡ o → is_some o ≡ true → Passed depth (Token.number s ∷ r) r
passed-number depth s r None e some = absurd (cc)
passed-number depth s r (Some n) e some = (number n, first-number depth s n r e)

-- a string, a truth value or null stands first
passed-plain : (depth : ℕ) (r : List Token) (k : token.Token) → ((x : Bor (List ℕ)) × (k ≡ variant.String x)) ⊎ (((b : Bool) × (k ≡ variant.Bool b)) ⊎ (k ≡ variant.Null)) → Passed depth (token_of k ∷ r) r
passed-plain depth r k (inl p) = rw (p.1) (string p.0.now, first-string depth p.0.now r)
passed-plain depth r k (inr (inl p)) = rw (p.1) (boolean p.0, first-boolean depth p.0 r)
passed-plain depth r k (inr (inr p)) = rw p (null, first-null depth r)

in_some : {A : Type 0} {P Q : A → Type 0} (o : Option A) → ((a : A) → P a → Q a) → IfSome o P → IfSome o Q
in_some None f h = tt
in_some (Some a) f h = f a h

pub skip_value-returns-in-String-clause-passed : goal.skip_value-returns-in-String-clause-passed
skip_value-returns-in-String-clause-passed t c = rw (c.in_ok-next.ensures.value) (passed-plain c.args.depth c.next.new.self c.in_ok-next.field-0 c.in-String.is)

pub skip_value-returns-in-Number-clause-passed : goal.skip_value-returns-in-Number-clause-passed
skip_value-returns-in-Number-clause-passed t c =
    rw (c.in_ok-next.ensures.value, c.in-Number.is) (passed-number c.args.depth c.in-Number.text.now c.next.new.self (number_of c.in-Number.text.now) refl (rw (← c.as_bytes.ensures.value) (c.if-has_value.ensures refl)))

pub skip_value-returns-in-BeginArray-clause-passed : goal.skip_value-returns-in-BeginArray-clause-passed
skip_value-returns-in-BeginArray-clause-passed t c =
    let new = c.skip_items.new.reader in
    rw (c.in_ok-next.ensures.value, c.in-BeginArray.is) (in_some c.skip_items.result (λ done e. (array e.0, first-array c.args.depth c.next.new.self new e.0 c.if-depth-gt0.true e.1)) c.skip_items.ensures.passed)

pub skip_value-returns-in-BeginObject-clause-passed : goal.skip_value-returns-in-BeginObject-clause-passed
skip_value-returns-in-BeginObject-clause-passed t c =
    let new = c.skip_members.new.reader in
    rw (c.in_ok-next.ensures.value, c.in-BeginObject.is) (in_some c.skip_members.result (λ done e. (object e.0, first-object c.args.depth c.next.new.self new e.0 c.if-depth-gt0-2.true e.1)) c.skip_members.ensures.passed)

pub skip_items-items-init : goal.skip_items-items-init
skip_items-items-init t c = record {
  back = λ ds. ds;
  at = begins (items (value c.args.depth)) c.args.reader.now of_items;
  not_longer = omega arith;
}

pub skip_items-items-preserved : goal.skip_items-items-preserved
skip_items-items-preserved t c =
    let loop = c.items in
    let unclosed : after_end_array loop.reader ≡ None = grind arith in
    let stays : c.take_end_array.new.self ≡ loop.reader = grind arith in
    let passed : Passed c.args.depth loop.reader c.skip_value.new.reader = rw (← stays) c.in_ok-skip_value.ensures.passed in
    let shorter : length c.skip_value.new.reader < length loop.reader = rw (← stays) c.in_ok-skip_value.ensures.shorter in
    record {
      back = λ ds. loop.invariant.back (item passed.0 ds);
      at = item-next (value c.args.depth) c.args.reader.now loop.reader loop.invariant.back c.skip_value.new.reader passed.0 loop.invariant.at unclosed passed.1 shorter;
      not_longer = omega (arith, loop.invariant.not_longer, shorter);
    }

pub skip_items-returns-clause-passed : goal.skip_items-returns-clause-passed
skip_items-returns-clause-passed t c =
    let loop = c.items in
    let closed : after_end_array loop.reader ≡ Some c.take_end_array.new.self = grind arith in
    (loop.invariant.back no_items, items-closed (value c.args.depth) c.args.reader.now loop.reader loop.invariant.back c.take_end_array.new.self loop.invariant.at closed)

pub skip_members-members-init : goal.skip_members-members-init
skip_members-members-init t c = record {
  found = no_members;
  at = begins (members (value c.args.depth)) c.args.reader.now (λ ms. of_members ms no_members);
  not_longer = omega arith;
}

pub skip_members-members-preserved : goal.skip_members-members-preserved
skip_members-members-preserved t c =
    let loop = c.members in
    let name = c.in-Some.field-0.now in
    let behind = c.next_key.new.self in
    let key : read_key loop.reader ≡ Some (Some name, behind) = grind arith in
    let passed = c.in_ok-skip_value.ensures.passed in
    let shorter = c.in_ok-skip_value.ensures.shorter in
    record {
      found = put name passed.0 loop.invariant.found;
      at = member-next (value c.args.depth) c.args.reader.now loop.reader loop.invariant.found name behind c.skip_value.new.reader passed.0 loop.invariant.at key passed.1 shorter;
      not_longer = omega (arith, loop.invariant.not_longer, shorter, read_key-shorter loop.reader (Some name) behind key);
    }

pub skip_members-returns-clause-passed : goal.skip_members-returns-clause-passed
skip_members-returns-clause-passed t c =
    let loop = c.members in
    let closed : read_key loop.reader ≡ Some (None, c.next_key.new.self) = grind arith in
    (loop.invariant.found, members-closed (value c.args.depth) c.args.reader.now loop.reader loop.invariant.found c.next_key.new.self loop.invariant.at closed)
