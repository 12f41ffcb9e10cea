-- A parse under the program's command gives each argument that has to be given a value.
use Rattle.std.proofs.Common.{◌≡◌, ◌∙◌, ◌<◌, ◌≤◌, ◌&&◌, ap, subst, sym, refl, true, false, true≢false, not, arith, ℕ, zero, suc, Bool, List, [], ◌∷◌, Option, Some, None, is_some, length, map, codes, inl, inr}
use Rattle.std.specs.List.{list_all, slice_index_or}
use Rattle.std.specs.Str.{bytes_eq}
use Rattle.std.proofs.lemmas.List.{get_or-map, length-map}
use Rattle.std.proofs.lemmas.List.Sums.{AllPass-from_list_all}
use Rattle.std.proofs.lemmas.Slice.Eq.{bytes_eq-Decides}
use Rattle.clap.specs.declared.builder.action.ArgAction.{ArgAction}
use Rattle.clap.specs.declared.builder.action.ArgAction.TheVariants.{Set}
use Rattle.clap.specs.declared.builder.arg.Arg.{Arg}
use Rattle.clap.specs.declared.builder.command.Command.{Command}
use Rattle.clap.specs.declared.parser.matches.ArgMatches.{ArgMatches}
use Rattle.clap.specs.Facts.{least_values, unwrap_or_range}
use Rattle.clap.specs.Walk.{is_empty, is_simple_arg}
use Rattle.clap.specs.Words.{App, IsParsedFrom, IsPlain, IsPlainArg, Rule, Text, app_of, args_of, first_value, found_of, rule_of}
use Rattle.clap.proofs.CallerLemmas.{required_has_value}
use Rattle.clap.proofs.SimpleLemmas.{is_false, is_nil, plain_fields}
use Rattle.clap.proofs.TakesLemmas.{each_rule}
use Rattle.clap.proofs.WalkLemmas.{both}
use Rattle.semantics.specs.CommandLine.{command}

-- ---- tests, which compute at the program's command

-- the action keeps the value of its one use
abbrev is_set : Option ArgAction → Bool
is_set (Some Set) = true
is_set _ = false

-- the argument has to be given, with one value
abbrev takes_required_value : Rule → Bool
takes_required_value r = r.required && (is_set r.action && not (is_some r.range))

-- the rule has another name
abbrev has_other_name : Text → Rule → Bool
has_other_name name r = not (bytes_eq r.id name)

-- the argument at place k, and no other, has this name, and it has to be given, with one value
abbrev is_sole_at : Text → ℕ → List Rule → Bool
is_sole_at name k [] = false
is_sole_at name zero (r ∷ rs) = bytes_eq r.id name && (takes_required_value r && list_all (has_other_name name) rs)
is_sole_at name (suc k) (r ∷ rs) = has_other_name name r && is_sole_at name k rs

-- the name is none of those of the arguments that clap adds
abbrev is_free_name : Text → Bool
is_free_name name = not (is_empty name) && (not (bytes_eq name (codes "help")) && not (bytes_eq name (codes "version")))

-- the argument changes nothing in how words are read, and has no rule on another
abbrev is_loose : Rule → Bool
is_loose r = r.is_simple && r.is_free

-- the program's command has at place k an argument of this name that has to be given
abbrev pub is_required_at : Text → ℕ → Bool
is_required_at name k = is_free_name name && is_sole_at name k command.top.rules

-- ---- what they test

-- two texts that are the same pass the test
bytes_eq-same : (a b : Text) → a ≡ b → bytes_eq a b ≡ true
bytes_eq-same a b e = (bytes_eq-Decides a b).1 e

-- a text that passes the test of its own kind and fails it is none
not-both : (b : Bool) → b ≡ true → not b ≡ true → ⊥
not-both true e f = true≢false (sym f)
not-both false e f = true≢false (sym e)

-- the action that passes the test
is_set-Some : (o : Option ArgAction) → is_set o ≡ true → o ≡ Some Set
is_set-Some (Some Set) e = refl
is_set-Some (Some _) e = absurd (true≢false (sym e))
is_set-Some None e = absurd (true≢false (sym e))

-- nothing is there where the test says so
is_some-None : {X : Type 0} (o : Option X) → not (is_some o) ≡ true → o ≡ None
is_some-None None e = refl
is_some-None (Some x) e = absurd (true≢false (sym e))

-- the place is within the list
sole-within : (name : Text) (k : ℕ) (rs : List Rule) → is_sole_at name k rs ≡ true → k < length rs
sole-within name k [] e = absurd (true≢false (sym e))
sole-within name zero (r ∷ rs) e = omega arith
sole-within name (suc k) (r ∷ rs) e = let rest : k < length rs = sole-within name k rs (both (has_other_name name r) (is_sole_at name k rs) e).1 in omega arith

-- the rule at the place
sole-rule : (name : Text) (k : ℕ) (rs : List Rule) (d : Rule) → is_sole_at name k rs ≡ true
    → (bytes_eq (slice_index_or rs k d).id name ≡ true) × (takes_required_value (slice_index_or rs k d) ≡ true)
sole-rule name k [] d e = absurd (true≢false (sym e))
sole-rule name zero (r ∷ rs) d e = let parts = both _ _ e in (parts.0, (both _ _ parts.1).0)
sole-rule name (suc k) (r ∷ rs) d e = sole-rule name k rs d (both _ _ e).1

-- no other rule has the name
sole-alone : (name : Text) (k : ℕ) (rs : List Rule) → is_sole_at name k rs ≡ true
    → (j : ℕ) (d : Rule) → j < length rs → bytes_eq (slice_index_or rs j d).id name ≡ true → j ≡ k
sole-alone name k [] e j d lt same = absurd (omega arith)
sole-alone name zero (r ∷ rs) e zero d lt same = refl
sole-alone name zero (r ∷ rs) e (suc j) d lt same =
    let others : list_all (has_other_name name) rs ≡ true =
    (both (takes_required_value r) _ (both (bytes_eq r.id name) _ e).1).1 in
    absurd (not-both _ same (AllPass-from_list_all (has_other_name name) rs others j d (omega arith)))
sole-alone name (suc k) (r ∷ rs) e zero d lt same = absurd (not-both _ same (both _ _ e).0)
sole-alone name (suc k) (r ∷ rs) e (suc j) d lt same = ap suc (sole-alone name k rs (both _ _ e).1 j d (omega arith) same)

-- an argument with no rule on another excludes nothing
IsPlainArg-loose : (a : Arg) → is_loose (rule_of a) ≡ true → IsPlainArg a
IsPlainArg-loose a h =
    let parts = both _ _ h in
    let overrides = both _ _ parts.0 in
    let defaults = both _ _ overrides.1 in
    let groups = both _ _ defaults.1 in
    let exclusive = both _ _ parts.1 in
    let conflicts = both _ _ exclusive.1 in
    (is_false _ exclusive.0, is_nil _ conflicts.0, is_nil _ overrides.0, is_nil _ groups.0)

-- such an argument parts no value
val_delim-loose : (a : Arg) → is_loose (rule_of a) ≡ true → a.val_delim ≡ None
val_delim-loose a h =
    let simple : is_simple_arg a ≡ true = (both (rule_of a).is_simple (rule_of a).is_free h).0 in
    let overrides = both (is_empty a.overrides.items) _ simple in
    let defaults = both (is_empty a.default_vals_ifs.items) _ overrides.1 in
    let groups = both (is_empty a.groups.items) _ defaults.1 in
    is_some-None a.val_delim (both (not (is_some a.val_delim)) _ groups.1).0

-- each argument of the command is such a one
command-is_loose : list_all is_loose command.top.rules ≡ true
command-is_loose = refl

-- ---- the value

-- the argument at a place that passes the test has a value in each parse
value-at : (c : Command) (m : ArgMatches) (name : Text) (k : ℕ) (d : Arg)
    → app_of c ≡ command → IsParsedFrom c m → is_free_name name ≡ true → is_sole_at name k command.top.rules ≡ true
    → is_some (first_value (found_of m) name) ≡ true
value-at c m name k d is parsed free sole =
    let rules : map rule_of (args_of c) ≡ command.top.rules = ap (λ (a : App). a.top.rules) is in
    let fields = plain_fields c (ap (λ (a : App). a.top.is_plain) is) in
    let many : length (args_of c) ≡ length command.top.rules = sym (length-map (args_of c) rule_of) ∙ ap length rules in
    let loose = each_rule is_loose (args_of c) (ap (list_all is_loose) rules ∙ command-is_loose) in
    let plain : IsPlain c = ((λ j e lt. IsPlainArg-loose (slice_index_or (args_of c) j e) (loose j e lt)), fields.groups) in
    let low : k < length command.top.rules = sole-within name k command.top.rules sole in
    let within : k < length (args_of c) = omega (arith, low, many) in
    let a = slice_index_or (args_of c) k d in
    let rule_at : (j : ℕ) (e : Arg) → j < length (args_of c)
    → rule_of (slice_index_or (args_of c) j e) ≡ slice_index_or command.top.rules j (rule_of e) =
    λ j e lt. sym (get_or-map rule_of (args_of c) j e (rule_of e) lt) ∙ ap (λ rs. slice_index_or rs j (rule_of e)) rules in
    let facts = sole-rule name k command.top.rules (rule_of d) sole in
    let takes = both a.required (is_set a.action && not (is_some a.num_vals)) (ap takes_required_value (rule_at k d within) ∙ facts.1) in
    let takes_set = both (is_set a.action) (not (is_some a.num_vals)) takes.1 in
    let named : a.id.now ≡ name = (bytes_eq-Decides _ _).0 (ap (λ (r : Rule). bytes_eq r.id name) (rule_at k d within) ∙ facts.0) in
    let range : a.num_vals ≡ None = is_some-None a.num_vals takes_set.1 in
    let least : 1 ≤ least_values a = subst (λ o. 1 ≤ (unwrap_or_range o).start_inclusive) (sym range) (omega arith) in
    let alone : (j : ℕ) (e : Arg) → j < length (args_of c) → bytes_eq (slice_index_or (args_of c) j e).id.now a.id.now ≡ true → j ≡ k =
    λ j e lt same. sole-alone name k command.top.rules sole j (rule_of e) (omega (arith, lt, many))
    (ap (λ (r : Rule). bytes_eq r.id name) (sym (rule_at j e lt)) ∙ ap (bytes_eq (slice_index_or (args_of c) j e).id.now) (sym named) ∙ same) in
    let free_parts = both _ _ free in
    let own_parts = both _ _ free_parts.1 in
    let found = required_has_value c m parsed plain fields.globals (ap (λ (b : App). b.top.subcommand_negates_reqs) is) k d within takes.0
    (is_set-Some a.action takes_set.0) (val_delim-loose a (loose k d within)) least alone
    (λ none. not-both _ (ap is_empty (sym named ∙ none)) free_parts.0)
    (λ auto. elim auto [
      | inl help ↦ not-both _ (bytes_eq-same _ _ (sym named ∙ help)) own_parts.0
      | inr version ↦ not-both _ (bytes_eq-same _ _ (sym named ∙ version)) own_parts.1
    ]) in
    subst (λ t. is_some (first_value (found_of m) t) ≡ true) named found

-- an argument of the program's command that has to be given has a value in each parse
pub first_value-required : (c : Command) (m : ArgMatches) (name : Text) (k : ℕ)
    → app_of c ≡ command → IsParsedFrom c m → is_required_at name k ≡ true → is_some (first_value (found_of m) name) ≡ true
first_value-required c m name k is parsed test = go (args_of c) (ap (λ (a : App). a.top.rules) is)
  where
    go : (xs : List Arg) → map rule_of xs ≡ command.top.rules → is_some (first_value (found_of m) name) ≡ true
    go [] none = absurd (let bad : 0 ≡ length command.top.rules = ap length none in omega (arith, bad))
    go (x ∷ xs) some = value-at c m name k x is parsed (both _ _ test).0 (both _ _ test).1
