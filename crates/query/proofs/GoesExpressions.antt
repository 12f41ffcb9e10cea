-- Names, literals, set functions and aliases spell their tokens.
use Rattle.std.proofs.Common.{arith, ◌≡◌, ℕ, Bool, true, false, cond, List, [], ◌∷◌, ◌++◌, map, Option, Some, None, refl}
use Rattle.std.specs.Prelude.{codes, is_none}
use Rattle.std.specs.Option.{option_map_or}
use Rattle.semantics.specs.declared.token.Token.TheVariants as tokens
use Rattle.semantics.specs.declared.token.Word.{Word}
use Rattle.semantics.specs.declared.token.Word.TheVariants as w
use Rattle.semantics.specs.declared.token.Sign.TheVariants as s
use Rattle.semantics.specs.Words.{is_word, reserved_word, quoted_text, is_plain_name, name_text}
use Rattle.semantics.specs.Tokens.{IsToken}
use Rattle.query_lexer.proofs.Inversions.{and_both}
use Rattle.semantics.specs.declared.literal.Literal.{Literal}
use Rattle.semantics.specs.declared.literal.Literal.TheVariants as literals
use Rattle.semantics.specs.declared.aggregate.Aggregate.{Aggregate}
use Rattle.semantics.specs.declared.aggregate.Aggregate.TheVariants as aggregates
use Rattle.semantics.specs.Syntax.{grouping}
use Rattle.semantics.specs.Canonical.{comma_list, aggregate_text, literal_text, expression_text}
use Rattle.query.proofs.Good.{Filled, Within, GoodName, GoodAggregate, GoodLiteral}
use Rattle.query.proofs.Onto.{Onto, commas_onto, name_onto, argument_onto, aggregate_onto, filter_onto, expression_onto, literal_onto, alias_onto}
use Rattle.query.proofs.Spelled.{no_word, no_name_quote, no_text_quote, spelled_token, spelled_integer, spelled_star}
use Rattle.query.proofs.Goes.{Free, Goes, Begins, free_free, free_goes, goes_free, goes_of, begins_of, nothing_goes, nothing_begins, word_onto, word_goes, word_free, spaced_free, space_breaks, open_free, open_breaks, close_free, close_breaks, commas_go, each_goes}

-- ---- names and literals

not_reserved : (o : Option Word) → is_none o ≡ true → o ≡ None
not_reserved None e = refl
not_reserved (Some x) e = absurd cc

plain_goes : (n : List ℕ) → is_plain_name n ≡ true → Goes n (name_onto n)
plain_goes n e =
    let both = and_both (is_word n) (is_none (reserved_word n)) e in
    record { goes = λ rest ks q h. spelled_token (IsToken.name both.0 (not_reserved (reserved_word n) both.1) (no_word rest q)) h }

quoted_goes : (n : List ℕ) → GoodName n → Goes (quoted_text 34 n) (name_onto n)
quoted_goes [] g = absurd (omega arith)
quoted_goes (b ∷ n) g = record { goes = λ rest ks q h. spelled_token (IsToken.quoted_name {first = b} {others = n} (no_name_quote rest q)) h }

name_at : (plain : Bool) (n : List ℕ) → is_plain_name n ≡ plain → GoodName n → Goes (cond plain n (quoted_text 34 n)) (name_onto n)
name_at true n e g = plain_goes n e
name_at false n e g = quoted_goes n g

pub name_goes : (n : List ℕ) → GoodName n → Goes (name_text n) (name_onto n)
name_goes n g = name_at (is_plain_name n) n refl g

pub literal_goes : (a : Literal) → GoodLiteral a → Goes (literal_text a) (literal_onto a)
literal_goes (literals.Integer i) g = record { goes = λ rest ks q h. spelled_integer i g q h }
literal_goes (literals.Text t) g = record { goes = λ rest ks q h. spelled_token (IsToken.text {content = t} (no_text_quote rest q)) h }
literal_goes (literals.Truth true) g = word_goes w.True
literal_goes (literals.Truth false) g = word_goes w.False

-- ---- expressions

-- A function's word and its argument in brackets.
argument_goes : (word : Word) {front a : List ℕ} {f : Onto} → Free front (λ ks. tokens.Word word ∷ tokens.Sign s.Open ∷ ks) → Goes a f
    → Goes (front ++ a ++ codes ")") (argument_onto word f)
argument_goes word x y = goes_of (goes_free (free_goes x y) close_breaks close_free)

opened : (word : Word) (text : List ℕ) → Goes text (word_onto word) → Free (text ++ codes "(") (λ ks. tokens.Word word ∷ tokens.Sign s.Open ∷ ks)
opened word text x = goes_free x open_breaks open_free

star_free : Free (codes "*") (λ ks. tokens.Sign s.Star ∷ ks)
star_free = record { goes = λ rest ks h. spelled_star h }

pub aggregate_goes : (f : Aggregate) → GoodAggregate f → Goes (aggregate_text f) (aggregate_onto f)
aggregate_goes aggregates.CountRows g =
    argument_goes w.Count {front = codes "COUNT("} {a = codes "*"} (opened w.Count _ (word_goes w.Count)) (goes_of star_free)
aggregate_goes (aggregates.Count n) g = argument_goes w.Count (opened w.Count _ (word_goes w.Count)) (name_goes n g)
aggregate_goes (aggregates.CountDistinct n) g =
    let front = free_free (opened w.Count _ (word_goes w.Count)) (word_free w.Distinct) in
    goes_of (goes_free (free_goes front (name_goes n g)) close_breaks close_free)
aggregate_goes (aggregates.Sum n) g = argument_goes w.Sum (opened w.Sum _ (word_goes w.Sum)) (name_goes n g)
aggregate_goes (aggregates.Min n) g = argument_goes w.Min (opened w.Min _ (word_goes w.Min)) (name_goes n g)
aggregate_goes (aggregates.Max n) g = argument_goes w.Max (opened w.Max _ (word_goes w.Max)) (name_goes n g)
aggregate_goes (aggregates.Avg n) g = argument_goes w.Avg (opened w.Avg _ (word_goes w.Avg)) (name_goes n g)

-- A list that is not empty, with commas.
pub filled_go : {A : Type 0} (most : ℕ) (P : A → Type 0) (text : A → List ℕ) (onto : A → Onto)
    → ((x : A) → P x → Goes (text x) (onto x)) → (xs : List A) → Filled most P xs → Goes (comma_list (map text xs)) (commas_onto (map onto xs))
filled_go most P text onto goes [] g = absurd g
filled_go most P text onto goes (x ∷ xs) g = commas_go (map text (x ∷ xs)) (map onto (x ∷ xs)) (goes x g.0, each_goes P text onto goes xs g.1)

pub grouping_goes : (ns : List (List ℕ)) → Filled 8 GoodName ns → Goes (expression_text (grouping ns)) (expression_onto (grouping ns))
grouping_goes ns g =
    argument_goes w.Grouping (opened w.Grouping _ (word_goes w.Grouping)) (filled_go 8 GoodName name_text name_onto name_goes ns g)

-- A set function and its FILTER, where the predicate spells its tokens.
filter_free : Free (codes " FILTER (WHERE ") (λ ks. tokens.Word w.Filter ∷ tokens.Sign s.Open ∷ tokens.Word w.Where ∷ ks)
filter_free = free_free (free_free (spaced_free (word_free w.Filter)) open_free) (word_free w.Where)

pub filtered_goes : (f : Aggregate) {a : List ℕ} {g : Onto} → GoodAggregate f → Goes a g
    → Goes (aggregate_text f ++ codes " FILTER (WHERE " ++ a ++ codes ")") (λ ks. aggregate_onto f (filter_onto g ks))
filtered_goes f good x = goes_of (goes_free (free_goes (goes_free (aggregate_goes f good) (space_breaks _) filter_free) x) close_breaks close_free)

-- ---- aliases

as_free : Free (codes " AS ") (word_onto w.As)
as_free = spaced_free (word_free w.As)

-- What an item writes behind its expression.
abbrev pub alias_text : Option (List ℕ) → List ℕ
alias_text n = option_map_or (λ a. codes " AS " ++ name_text a) n []

pub alias_goes : (n : Option (List ℕ)) → Within GoodName n → Goes (alias_text n) (alias_onto n)
alias_goes None g = nothing_goes
alias_goes (Some n) g = free_goes as_free (name_goes n g)

pub alias_begins : (n : Option (List ℕ)) → Begins (alias_text n)
alias_begins None = nothing_begins
alias_begins (Some n) = begins_of (space_breaks _)
