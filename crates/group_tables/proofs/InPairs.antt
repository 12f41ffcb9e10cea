-- Pairs of shards that are put together.
use Rattle.std.proofs.Common.{Result, Ok, Err, IfOk, ◌≡◌, ◌<◌, ℕ, zero, suc, true, All, List, [], ◌∷◌, length, map, get_or, take, drop, ◌++◌, refl, sym, ap, subst, ◌∙◌, arith}
use Rattle.std.proofs.lemmas.List.{length-map}
use Rattle.group_tables.specs.Inside.Pairs.{CanJoinPair, HasJoined}
use Rattle.group_tables.specs.Inside.Shards.{AreJoined, CanJoinEach}
use Rattle.group_tables.specs.Shards.{contents_in}
use Rattle.group_tables.specs.Table.{CanJoin, IsJoined}
use Rattle.group_tables.specs.declared.pairs.Pair.{Pair}
use Rattle.group_tables.specs.declared.shard.Shard.{Shard}
use Rattle.group_tables.proofs.Shards.{defaults}

get_or-of : (f : Pair → Shard) (ps : List Pair) (i : ℕ) (e : Pair) → get_or (map f ps) i (f e) ≡ f (get_or ps i e)
get_or-of f [] i e = refl
get_or-of f (p ∷ ps) zero e = refl
get_or-of f (p ∷ ps) (suc i) e = get_or-of f ps i e

-- the shards of one pair more, and then others
pub one-more : (f : Pair → Shard) (ps : List Pair) (p : Pair) (ss : List Shard) → map f (ps ++ p ∷ []) ++ ss ≡ map f ps ++ f p ∷ ss
one-more f [] p ss = refl
one-more f (q ∷ ps) p ss = ap (λ ts. f q ∷ ts) (one-more f ps p ss)

-- where each shard can take the other one, each pair can be joined
pub can-join-pairs : (ps : List Pair) (ss ts : List Shard) → map (λ p. p.shard) ps ≡ ss → map (λ p. p.other) ps ≡ ts → CanJoinEach ss ts → All CanJoinPair ps
can-join-pairs ps ss ts a b each = λ i e l.
    let m = length-map ps (λ (p : Pair). p.shard) in
    let n = length-map ps (λ (p : Pair). p.other) in
    let o = ap length a in
    let q = ap length b in
    let x : get_or ss i e.shard ≡ (get_or ps i e).shard = ap (λ (xs : List Shard). get_or xs i e.shard) (sym a) ∙ get_or-of (λ p. p.shard) ps i e in
    let y : get_or ts i e.shard ≡ (get_or ps i e).other = defaults ts i e.shard e.other (omega (arith, l, n, q)) ∙ ap (λ (xs : List Shard). get_or xs i e.other) (sym b) ∙ get_or-of (λ p. p.other) ps i e in
    subst (λ (s : Shard). CanJoin (contents_in s) (contents_in (get_or ps i e).other)) x
    (subst (λ (t : Shard). CanJoin (contents_in (get_or ss i e.shard)) (contents_in t)) y (each i e.shard (omega (arith, l, m, o))))

-- where each pair was joined, each shard was
pub joined-pairs : (ps qs : List Pair) (ss ts us : List Shard) → map (λ p. p.shard) ps ≡ ss → map (λ p. p.other) ps ≡ ts → us ≡ map (λ p. p.shard) qs → length qs ≡ length ps
    → ((i : ℕ) (e : Pair) → i < length ps → HasJoined (get_or ps i e) (get_or qs i e)) → All (λ p. p.is_joined ≡ true) qs → AreJoined ss ts us
joined-pairs ps qs ss ts us a b w same each all = λ i d l key.
    let e : Pair = record { shard = d; other = d; is_joined = true } in
    let m = length-map ps (λ (p : Pair). p.shard) in
    let o = ap length a in
    let h : i < length ps = omega (arith, l, m, o) in
    let x : (get_or ps i e).shard ≡ get_or ss i d = sym (ap (λ (xs : List Shard). get_or xs i d) (sym a) ∙ get_or-of (λ p. p.shard) ps i e) in
    let y : (get_or ps i e).other ≡ get_or ts i d = sym (ap (λ (xs : List Shard). get_or xs i d) (sym b) ∙ get_or-of (λ p. p.other) ps i e) in
    let z : (get_or qs i e).shard ≡ get_or us i d = sym (ap (λ (xs : List Shard). get_or xs i d) w ∙ get_or-of (λ p. p.shard) qs i e) in
    subst (λ (s : Shard). IsJoined (contents_in s) (contents_in (get_or ts i d)) (contents_in (get_or us i d)) key) x
    (subst (λ (t : Shard). IsJoined (contents_in (get_or ps i e).shard) (contents_in t) (contents_in (get_or us i d)) key) y
    (subst (λ (u : Shard). IsJoined (contents_in (get_or ps i e).shard) (contents_in (get_or ps i e).other) (contents_in u) key) z
    (each i e h (all i e (omega (arith, h, same))) key)))

pub IfOk-both : {A E : Type 0} (P Q R : A → Type 0) → ((x : A) → P x → Q x → R x) → (r : Result A E) → IfOk r P → IfOk r Q → IfOk r R
IfOk-both P Q R f (Ok x) p q = f x p q
IfOk-both P Q R f (Err e) p q = tt

take-all : (n : ℕ) (ps qs : List Pair) → length ps ≡ n → take n (ps ++ qs) ≡ ps
take-all zero [] qs e = refl
take-all zero (p ∷ ps) qs e = absurd (omega (arith, e))
take-all (suc n) [] qs e = absurd (omega (arith, e))
take-all (suc n) (p ∷ ps) qs e = ap (λ rs. p ∷ rs) (take-all n ps qs (omega (arith, e)))

-- pairs that are written over all that were there
pub written-over : (n : ℕ) (ps qs : List Pair) → length ps ≡ n → take n (ps ++ drop (length ps) qs) ≡ ps
written-over n ps qs e = take-all n ps (drop (length ps) qs) e
