-- How the functions of the grammar read what stands in front of tokens, and where they stop, one
-- definition for each step, as it is computed. The grammar of queries is proved sound and complete
-- over these. What tokens derive is said in Leaves.
use Rattle.std.specs.Prelude.{◌≡◌, ℕ, zero, suc, Bool, cond, List, ◌∷◌, ◌++◌, length, Option, Some, None, is_some, Result, Ok, Err, []}
use Rattle.query_parser.specs.declared.fault.GrammarFault.{GrammarFault}
use Rattle.query_parser.specs.Inside.Stops.{Stop}
use Rattle.query_parser.specs.declared.fault.GrammarFault.TheVariants as faults
use Rattle.query_parser.specs.Inside.Stops as halts
use Rattle.semantics.specs.declared.token.Token.{Token}
use Rattle.semantics.specs.declared.token.Token.TheVariants as tokens
use Rattle.semantics.specs.declared.token.Sign.TheVariants as s
use Rattle.values.specs.Results.{◌>>=◌}
use Rattle.query_parser.specs.Inside.Fronts.{is_sign, after}
use Rattle.query_lexer.specs.Options.{choose}

-- A fault that is no want of memory is that of the place at which reading stops.
abbrev pub Fails : {Y : Type 0} → GrammarFault → Result Y Stop → Type 0
Fails faults.OutOfMemory read = Unit {0}
Fails faults.OverLimit read = (left : ℕ) × (read ≡ Err (halts.over_limit left))
Fails (faults.Unexpected left) read = read ≡ Err (halts.unexpected left)

-- What a function returned, seen by view, is what is read, unless memory ran out.
abbrev pub Gives : {X Y : Type 0} → (X → Y) → Result X GrammarFault → Result Y Stop → Type 0
Gives view (Ok x) read = read ≡ Ok (view x)
Gives view (Err e) read = Fails e read

-- What reads a value from the tokens in front.
abbrev pub Reader : Type 0 → Type 0
Reader A = List Token → Result (A × List Token) Stop

-- The first of these tokens, or the end, is not expected.
abbrev pub unexpected_at : {A : Type 0} → List Token → Result A Stop
unexpected_at ts = Err (halts.unexpected (length ts))

-- What stands before these tokens is too much.
abbrev pub over : {A : Type 0} → List Token → Result A Stop
over ts = Err (halts.over_limit (length ts))

-- What stands in front, or the fault that it does not.
abbrev pub found_or_unexpected : {A : Type 0} → (List Token → Option A) → List Token → Result A Stop
found_or_unexpected front ts = choose (front ts) (unexpected_at ts) (λ x. Ok x)

-- What was read before, and what is still read.
abbrev pub with_front : {A : Type 0} → List A → Result (List A × List Token) Stop → Result (List A × List Token) Stop
with_front front read = read >>= λ x. Ok (front ++ x.0, x.1)

-- Where a part too many stops: at the limit where one begins, else at the token.
abbrev pub excess : (List Token → Bool) → List Token → Stop
excess begins ts = cond (begins ts) (halts.over_limit (length ts)) (halts.unexpected (length ts))

-- Further parts, each behind its separator, at most n. One too many is told by whether it begins.
unfoldable pub more : {A : Type 0} → (Token → Bool) → (List Token → Bool) → Reader A → ℕ → Reader (List A)
more sep begins part zero ts = choose (after sep ts) (Ok ([], ts)) (λ rest. Err (excess begins rest))
more sep begins part (suc n) ts = choose (after sep ts) (Ok ([], ts)) (λ rest. part rest >>= λ first. with_front (first.0 ∷ []) (more sep begins part n first.1))

-- A part and those behind it, at most n, each behind its comma.
abbrev pub listed_at : {A : Type 0} → (List Token → Bool) → Reader A → ℕ → Reader (List A)
listed_at begins part n ts = part ts >>= λ first. with_front (first.0 ∷ []) (more (is_sign s.Comma) begins part n first.1)

-- The same in brackets.
abbrev pub bracketed_at : {A : Type 0} → (List Token → Bool) → Reader A → ℕ → Reader (List A)
bracketed_at begins part n ts = found_or_unexpected (after (is_sign s.Open)) ts >>= λ a. listed_at begins part n a >>= λ all. found_or_unexpected (after (is_sign s.Close)) all.1 >>= λ rest. Ok (all.0, rest)

-- A name, where one stands in front.
unfoldable pub name_at : List Token → Option (List ℕ × List Token)
name_at [] = None
name_at (tokens.Name n ∷ ts) = Some (n, ts)
name_at (x ∷ ts) = None

-- Whether a name stands in front.
abbrev pub begins_name : List Token → Bool
begins_name ts = is_some (name_at ts)
