-- What stands in front of tokens, from what `json` says of its grammar.
use Rattle.std.proofs.Common.{◌≡◌, ℕ, ◌-◌, ◌<◌, ◌≤◌, Bool, List, [], ◌∷◌, length, Option, Some, None, option_map, option_and_then, refl, ap, ◌∙◌, arith}
use Rattle.json.specs.Token.{Token}
use Rattle.json.specs.Lex.{tokens}
use Rattle.json.specs.Json as json
use Rattle.json.specs.Json.{Parse, parse_map, after_end_array, read_key, items, members, if_last, value}
use Rattle.json.proofs.Grammar.{items_end, items_more, members_end, members_more, read_key-shorter, value_is, value-begin_array, value-begin_object}
use Rattle.serde_json.specs.Data.{Num, Data, null, boolean, number, string, array, object, Items, no_items, item, Members, no_members, put}
use Rattle.serde_json.specs.Read.{number_of, of_json, of_items, of_members, read}
use Rattle.lines_json.specs.Meant.{Means, IsValue, AreItems, AreMembers}

-- ---- a tree round a tree

-- where `around` is put round each tree, what it means has `about` round it
abbrev pub Lifts : {A B C D : Type 0} → (A → Option B) → (A → C) → (C → Option D) → (B → D) → Type 0
Lifts inner around outer about = (a : _) (b : _) → inner a ≡ Some b → outer (around a) ≡ Some (about b)

module _ {A B C D : Type 0} (inner : A → Option B) (around : A → C) (outer : C → Option D) (about : B → D) (lifts : Lifts inner around outer about) where
  wrapped : (old : Option (A × List Token)) (new : Option (C × List Token)) (b : B) (rest : List Token) → new ≡ parse_map around old → Means inner old b rest → Means outer new (about b) rest
  wrapped old new b rest e m = record {
    tree = around m.tree;
    parsed = e ∙ ap (parse_map around) m.parsed;
    is = lifts m.tree b m.is;
  }

-- ---- a value

pub first-null : (depth : ℕ) (r : List Token) → IsValue depth (Token.null ∷ r) null r
first-null depth r = record { tree = json.null; parsed = value_is depth (Token.null ∷ r); is = refl }

pub first-boolean : (depth : ℕ) (b : Bool) (r : List Token) → IsValue depth (Token.boolean b ∷ r) (boolean b) r
first-boolean depth b r = record { tree = json.boolean b; parsed = value_is depth (Token.boolean b ∷ r); is = refl }

pub first-string : (depth : ℕ) (s : List ℕ) (r : List Token) → IsValue depth (Token.string s ∷ r) (string s) r
first-string depth s r = record { tree = json.string s; parsed = value_is depth (Token.string s ∷ r); is = refl }

pub first-number : (depth : ℕ) (s : List ℕ) (n : Num) (r : List Token) → number_of s ≡ Some n → IsValue depth (Token.number s ∷ r) (number n) r
first-number depth s n r e = record { tree = json.number s; parsed = value_is depth (Token.number s ∷ r); is = ap (option_map number) e }

pub first-array : (depth : ℕ) (r new : List Token) (ds : Items) → 0 < depth → AreItems (depth - 1) r ds new → IsValue depth (Token.begin_array ∷ r) (array ds) new
first-array depth r new ds deep =
    wrapped of_items json.array of_json array (λ js found e. ap (option_map array) e) (items (value (depth - 1)) (length r) r) (value depth (Token.begin_array ∷ r)) ds new (value-begin_array depth r deep)

pub first-object : (depth : ℕ) (r new : List Token) (ms : Members) → 0 < depth → AreMembers (depth - 1) r ms new → IsValue depth (Token.begin_object ∷ r) (object ms) new
first-object depth r new ms deep =
    wrapped (λ js. of_members js no_members) json.object of_json object (λ js found e. ap (option_map object) e) (members (value (depth - 1)) (length r) r) (value depth (Token.begin_object ∷ r)) ms new (value-begin_object depth r deep)

-- a text that is one value
pub read-one : (text : List ℕ) (d : Data) → IsValue 127 (tokens text) d [] → read text ≡ Some d
read-one text d m = ap (λ o. option_and_then of_json (option_and_then (λ p. if_last p.0 p.1) o)) m.parsed ∙ m.is

-- ---- items and members, one after another

-- a loop of the grammar that began at `first` is at `now`, with turns enough: if what it answers
-- here means b under `rest`, what it answers from its beginning means `back b`
pub record IsAt {A B : Type 0} (loop : ℕ → Parse A) (first : List Token) (whole : A → Option B) (now : List Token) (rest : A → Option B) (back : B → B) : Type 0 where
  pub turns : ℕ
  pub enough : length now ≤ turns
  pub joins : (b : B) (new : List Token) → Means rest (loop turns now) b new → Means whole (loop (length first) first) (back b) new

pub begins : {A B : Type 0} (loop : ℕ → Parse A) (first : List Token) (whole : A → Option B) → IsAt loop first whole first whole (λ b. b)
begins loop first whole = record { turns = length first; enough = omega arith; joins = λ b new m. m }

module _ {A B : Type 0} (loop : ℕ → Parse A) (first : List Token) (whole : A → Option B) (now : List Token) (rest : A → Option B) (back : B → B) (at : IsAt loop first whole now rest back) where
  -- a turn passes what stands first at `now`
  goes_on : (next : List Token) (more : A → Option B) (around : A → A) (about : B → B) → length next < length now → Lifts more around rest about
      → ((n : ℕ) → 0 < n → loop n now ≡ parse_map around (loop (n - 1) next)) → IsAt loop first whole next more (λ b. back (about b))
  goes_on next more around about less lifts turn = record {
    turns = at.turns - 1;
    enough = omega (arith, at.enough, less);
    joins = λ b new m. at.joins (about b) new
        (wrapped more around rest about lifts (loop (at.turns - 1) next) (loop at.turns now) b new (turn at.turns (omega (arith, at.enough, less))) m);
  }

module _ (p : Parse json.Json) (first now : List Token) where
  -- an item stands first
  pub item-next : (back : Items → Items) (next : List Token) (d : Data) → IsAt (items p) first of_items now of_items back → after_end_array now ≡ None
      → Means of_json (p now) d next → length next < length now → IsAt (items p) first of_items next of_items (λ ds. back (item d ds))
  item-next back next d at more_left m less = goes_on (items p) first of_items now of_items back at next of_items (json.item m.tree) (item d) less
      (λ js ds e. ap (option_and_then (λ x. option_map (item x) (of_items js))) m.is ∙ ap (option_map (item d)) e)
      (λ n some. items_more p n now next m.tree some more_left m.parsed)

  -- the array is closed
  pub items-closed : (back : Items → Items) (next : List Token) → IsAt (items p) first of_items now of_items back → after_end_array now ≡ Some next
      → Means of_items (items p (length first) first) (back no_items) next
  items-closed back next at closed = at.joins no_items next (record { tree = json.no_items; parsed = items_end p at.turns now next at.enough closed; is = refl })

  -- a member stands first, its name before its value
  pub member-next : (found : Members) (name : List ℕ) (behind next : List Token) (d : Data)
      → IsAt (members p) first (λ ms. of_members ms no_members) now (λ ms. of_members ms found) (λ ms. ms) → read_key now ≡ Some (Some name, behind)
      → Means of_json (p behind) d next → length next < length behind
      → IsAt (members p) first (λ ms. of_members ms no_members) next (λ ms. of_members ms (put name d found)) (λ ms. ms)
  member-next found name behind next d at named m less =
      goes_on (members p) first (λ ms. of_members ms no_members) now (λ ms. of_members ms found) (λ ms. ms) at next (λ ms. of_members ms (put name d found)) (json.member name m.tree) (λ ms. ms)
      (omega (arith, less, read_key-shorter now (Some name) behind named))
      (λ js ms e. ap (option_and_then (λ x. of_members js (put name x found))) m.is ∙ e)
      (λ n some. members_more p n name now behind next m.tree some named m.parsed)

  -- the object is closed
  pub members-closed : (found : Members) (next : List Token) → IsAt (members p) first (λ ms. of_members ms no_members) now (λ ms. of_members ms found) (λ ms. ms)
      → read_key now ≡ Some (None, next) → Means (λ ms. of_members ms no_members) (members p (length first) first) found next
  members-closed found next at closed = at.joins found next (record { tree = json.no_members; parsed = members_end p at.turns now next at.enough closed; is = refl })
