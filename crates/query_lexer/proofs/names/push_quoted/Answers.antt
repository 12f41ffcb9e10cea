use Rattle.std.proofs.Common.{◌≡◌, rules, string_bytes, ◌++◌, ◌∷◌, [], ℕ, List, refl, sym, ap, ◌∙◌, append_assoc}
use Rattle.std.proofs.lemmas.Str.Pattern.{split_parts}
use Rattle.semantics.specs.Words.{with_quotes_doubled}
use Rattle.query_lexer.proofs.Doubling.{HasNone, doubled_piece, doubled_none}
use Rattle.query_lexer.proofs.names.push_quoted.Goals as goal

step : (q : ℕ) (out piece left rest total : List ℕ) → rest ≡ piece ++ q ∷ left → HasNone q piece → out ++ with_quotes_doubled q rest ≡ total → out ++ piece ++ (q ∷ []) ++ (q ∷ []) ++ with_quotes_doubled q left ≡ total
step q out piece left rest total e h told = simp append_assoc (ap (λ (ys : List ℕ). out ++ ys) (sym (doubled_piece q piece left h)) ∙ (ap (λ (ys : List ℕ). out ++ with_quotes_doubled q ys) (sym e) ∙ told))

end : (q : ℕ) (out old text rest : List ℕ) → HasNone q rest → out ++ with_quotes_doubled q rest ≡ old ++ q ∷ with_quotes_doubled q text → out ++ rest ++ (q ∷ []) ≡ old ++ q ∷ (with_quotes_doubled q text ++ q ∷ [])
end q out old text rest h told = ap (λ (ys : List ℕ). ys ++ (q ∷ [])) (ap (λ (ys : List ℕ). out ++ ys) (sym (doubled_none q rest h)) ∙ told) ∙ append_assoc old (q ∷ with_quotes_doubled q text) (q ∷ [])

pub loop-piece-preserved : goal.loop-piece-preserved
loop-piece-preserved c =
    let parts = rw c.in-Some.is at (split_parts c.args.quote c.loop-piece.rest.now c.split_once.result c.split_once.ensures.cases c.requires) in
    let new : string_bytes c.push-in-Some-2.new.self ≡ string_bytes c.loop-piece.out ++ c.in-Some.piece.now ++ (c.args.quote ∷ []) ++ (c.args.quote ∷ []) = rw (c.in_ok-push-3.ensures.bytes, c.in_ok-push-2.ensures.bytes, c.in_ok-push_str.ensures.bytes, c.in_ok-push-3.ensures.ascii c.requires) refl in
    (search rules, rw new (step c.args.quote (string_bytes c.loop-piece.out) c.in-Some.piece.now c.in-Some.left.now c.loop-piece.rest.now _ parts.0 parts.1 c.loop-piece.invariant.1))

pub returns : goal.returns
returns c =
    let none = rw c.in_default.is at (split_parts c.args.quote c.loop-piece.rest.now c.split_once.result c.split_once.ensures.cases c.requires) in
    let new : string_bytes c.push-2.new.self ≡ string_bytes c.loop-piece.out ++ c.loop-piece.rest.now ++ (c.args.quote ∷ []) = rw (c.in_ok-push-4.ensures.bytes, c.in_ok-push_str-2.ensures.bytes, c.in_ok-push-4.ensures.ascii c.requires) refl in
    rw new (end c.args.quote (string_bytes c.loop-piece.out) (string_bytes c.args.out.now) c.args.text.now c.loop-piece.rest.now none c.loop-piece.invariant.1)
