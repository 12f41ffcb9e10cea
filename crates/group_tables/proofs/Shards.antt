-- Shards of a table: what is found in all of them is what is found in the one of the key's place.
use Rattle.group_tables.specs.declared.packed_key.PackedKey.{PackedKey}
use Rattle.group_tables.specs.Keys.{key_in}
use Rattle.std.proofs.Common.{vec_len, inl, inr, ◌≡◌, ◌≢◌, ◌+◌, ◌*◌, ◌<◌, ℕ, zero, suc, true, false, cond, IfSome, Option, Some, None, List, [], ◌∷◌, ◌++◌, set, length, get_or, drop, Vec, Global, refl, sym, ap, subst, ◌∙◌, arith, mul-lt-mul_of_pos_right}
use Rattle.std.proofs.lemmas.List.{get_or-set_same, get_or-set_other, length-set}
use Rattle.std.proofs.lemmas.Bool.{cases_eq}
use Rattle.std.proofs.lemmas.Nat.{div_below}
use Rattle.std.specs.FinMap.{find, get, get-from_entries}
use Rattle.std.specs.List.{IsDistinct, AllByRecursion}
use Rattle.std.specs.Map.{keys_of}
use Rattle.semantics.specs.Groups.{Key, key_order, same_key}
use Rattle.group_tables.specs.Group.{GroupState}
use Rattle.group_tables.specs.Table.{CanJoin, Contents, IsFitting, IsJoined, joint_option, entries_by_key}
use Rattle.group_tables.specs.Shards.{AreApart, all_entries, contents_in, contents_of_shards, digest, entries_in, shard_index}
use Rattle.group_tables.specs.Inside.Shards.{AreJoined, CanJoinEach}
use Rattle.group_tables.specs.declared.shard.Shard.{Shard}
use Rattle.sort_keys.specs.Codes.{values_code}
use Rattle.group_tables.proofs.Hashes.{hash-below}
use Rattle.group_tables.proofs.Order.{key_total, same_key-Decides, key_eq-ties}
use Rattle.group_tables.proofs.Entries.{Entries, key_eq, find-first, none_after, options-none}

-- ---- what is found in entries one after the other

abbrev pub or_else : Option GroupState → Option GroupState → Option GroupState
or_else None b = b
or_else (Some a) b = Some a

or_else-none : (a : Option GroupState) → or_else a None ≡ a
or_else-none None = refl
or_else-none (Some a) = refl

find-append : (k : Key) (es fs : Entries) → find key_order k (entries_by_key (es ++ fs)) ≡ or_else (find key_order k (entries_by_key es)) (find key_order k (entries_by_key fs))
find-append k [] fs = refl
find-append k (e ∷ es) fs =
    elim (same_key k (key_in e.0)) as (λ b. cond b (Some e.1) (find key_order k (entries_by_key (es ++ fs))) ≡ or_else (cond b (Some e.1) (find key_order k (entries_by_key es))) (find key_order k (entries_by_key fs))) [
      | true ↦ refl
      | false ↦ find-append k es fs
    ]

-- ---- shards from some place on

-- each shard has keys of its own place among m alone, counted from n on
abbrev pub AreApartFrom : ℕ → ℕ → List Shard → Type 0
AreApartFrom m n [] = Unit {0}
AreApartFrom m n (s ∷ ss) = ((k : Key) → IfSome (get (contents_in s) k) (λ _. shard_index m k ≡ n)) × AreApartFrom m (suc n) ss

pub apart-from : (m n : ℕ) (ss : List Shard) → ((i : ℕ) (d : Shard) (k : Key) → i < length ss → IfSome (get (contents_in (get_or ss i d)) k) (λ _. shard_index m k ≡ n + i)) → AreApartFrom m n ss
apart-from m n [] h = tt
apart-from m n (s ∷ ss) h = (
  (λ k. subst (λ j. IfSome (get (contents_in s) k) (λ _. shard_index m k ≡ j)) (omega arith) (h 0 s k (omega arith))),
  apart-from m (suc n) ss (λ i d k l. subst (λ j. IfSome (get (contents_in (get_or ss i d)) k) (λ _. shard_index m k ≡ j)) (omega arith) (h (suc i) d k (omega (arith, l)))),
)

-- they are apart from the first one on
pub apart-start : (ss : List Shard) → AreApart ss → AreApartFrom (length ss) 0 ss
apart-start ss a = apart-from (length ss) 0 ss (λ i d k l. let e : i ≡ 0 + i = omega arith in subst (λ j. IfSome (get (contents_in (get_or ss i d)) k) (λ _. shard_index (length ss) k ≡ j)) e (a i d k l))

elsewhere : (o : Option GroupState) (p n : ℕ) → IfSome o (λ _. p ≡ n) → p ≢ n → o ≡ None
elsewhere None p n h e = refl
elsewhere (Some g) p n h e = absurd (e h)

-- no shard has a key of an earlier place
find-before : (m n : ℕ) (ss : List Shard) (k : Key) → AreApartFrom m n ss → shard_index m k < n → find key_order k (entries_by_key (all_entries ss)) ≡ None
find-before m n [] k a l = refl
find-before m n (s ∷ ss) k a l =
    find-append k (entries_in s) (all_entries ss)
    ∙ (λ i. or_else (sym (get-from_entries key_total (entries_by_key (entries_in s)) k) i) (find-before m (suc n) ss k a.1 (omega (arith, l)) i))
    ∙ or_else-none (get (contents_in s) k)
    ∙ elsewhere (get (contents_in s) k) (shard_index m k) n (a.0 k) (λ e. omega (arith, e, l))

-- what is found by a key is what the shard of its place has
find-place : (m n i : ℕ) (ss : List Shard) (d : Shard) (k : Key) → AreApartFrom m n ss → shard_index m k ≡ n + i → i < length ss
    → find key_order k (entries_by_key (all_entries ss)) ≡ get (contents_in (get_or ss i d)) k
find-place m n i [] d k a p l = absurd (omega (arith, l))
find-place m n zero (s ∷ ss) d k a p l =
    find-append k (entries_in s) (all_entries ss)
    ∙ (λ i. or_else (sym (get-from_entries key_total (entries_by_key (entries_in s)) k) i) (find-before m (suc n) ss k a.1 (omega (arith, p)) i))
    ∙ or_else-none (get (contents_in s) k)
find-place m n (suc i) (s ∷ ss) d k a p l =
    find-append k (entries_in s) (all_entries ss)
    ∙ ap (λ o. or_else o (find key_order k (entries_by_key (all_entries ss))))
    (sym (get-from_entries key_total (entries_by_key (entries_in s)) k) ∙ elsewhere (get (contents_in s) k) (shard_index m k) n (a.0 k) (λ e. omega (arith, e, p)))
    ∙ find-place m (suc n) i ss d k a.1 (omega (arith, p)) (omega (arith, l))

-- ---- all shards

-- the number of a place is below the number of shards
pub place-below : (n : ℕ) (k : Key) → 0 < n → shard_index n k < n
place-below n k some =
    let d : digest k < 4294967296 = hash-below (values_code k) in
    let e : digest k * n < 4294967296 * n = mul-lt-mul_of_pos_right d some in
    div_below (digest k * n) 4294967296 n (omega arith) (omega (arith, e))

-- so each key has one in the shards
pub within-all : (ss : Vec Shard Global) → 0 < vec_len ss → (k : Key) → shard_index (length ss.items) k < length ss.items
within-all ss n k = let l = ss.ok in place-below (length ss.items) k (omega (arith, n, l))

-- each shard has keys of its own place among m alone
abbrev pub AreApartAmong : ℕ → List Shard → Type 0
AreApartAmong m ss = (i : ℕ) (d : Shard) (k : Key) → i < length ss → IfSome (get (contents_in (get_or ss i d)) k) (λ _. shard_index m k ≡ i)

pub get-place : (ss : List Shard) (d : Shard) (k : Key) → AreApart ss → shard_index (length ss) k < length ss → get (contents_of_shards ss) k ≡ get (contents_in (get_or ss (shard_index (length ss) k) d)) k
get-place ss d k a l =
    get-from_entries key_total (entries_by_key (all_entries ss)) k
    ∙ find-place (length ss) 0 (shard_index (length ss) k) ss d k (apart-start ss a) (omega arith) l

get-place-among : (m : ℕ) (ss : List Shard) (d : Shard) (k : Key) → length ss ≡ m → AreApart ss → shard_index m k < m → get (contents_of_shards ss) k ≡ get (contents_in (get_or ss (shard_index m k) d)) k
get-place-among m ss d k e a = subst (λ n. shard_index n k < n → get (contents_of_shards ss) k ≡ get (contents_in (get_or ss (shard_index n k) d)) k) e (get-place ss d k a)

none-both : (es fs : Entries) → es ++ fs ≡ [] → (es ≡ []) × (fs ≡ [])
none-both [] fs e = (refl, e)
none-both (x ∷ es) fs e = cc

none-at : (ss : List Shard) → all_entries ss ≡ [] → (i : ℕ) (d : Shard) (k : Key) → i < length ss → (P : Type 0) → IfSome (get (contents_in (get_or ss i d)) k) (λ _. P)
none-at [] e i d k l P = absurd (omega (arith, l))
none-at (s ∷ ss) e zero d k l P =
    subst (λ (o : Option GroupState). IfSome o (λ _. P))
    (sym (get-from_entries key_total (entries_by_key (entries_in s)) k ∙ ap (λ es. find key_order k (entries_by_key es)) (none-both (entries_in s) (all_entries ss) e).0)) tt
none-at (s ∷ ss) e (suc i) d k l P = none-at ss (none-both (entries_in s) (all_entries ss) e).1 i d k (omega (arith, l)) P

-- shards without an entry are apart
pub apart-none : (ss : List Shard) → all_entries ss ≡ [] → AreApart ss
apart-none ss e = λ i d k l. none-at ss e i d k l (shard_index (length ss) k ≡ i)

some-any : (o : Option GroupState) (P : Type 0) → P → IfSome o (λ _. P)
some-any None P h = tt
some-any (Some g) P h = h

-- what was changed at one key, in the shard of its place, leaves each shard its own places
changed-among : (n : ℕ) (ss : List Shard) (s new : Shard) (key : Key) → AreApartAmong n ss → shard_index n key < length ss → s ≡ get_or ss (shard_index n key) s
    → ((k : Key) → same_key k key ≡ false → get (contents_in new) k ≡ get (contents_in s) k)
    → AreApartAmong n (set ss (shard_index n key) new)
changed-among n ss s new key a l is others = λ i d k j.
    let m = length-set ss (shard_index n key) new in
    elim (cases_eq i (shard_index n key)) [
      | inl e ↦
          let t : get_or (set ss (shard_index n key) new) i d ≡ new = ap (λ j. get_or (set ss (shard_index n key) new) j d) e ∙ get_or-set_same ss (shard_index n key) new d l in
          subst (λ (x : Shard). IfSome (get (contents_in x) k) (λ _. shard_index n k ≡ i)) (sym t)
          (elim (same_key k key) as (λ b. same_key k key ≡ b → IfSome (get (contents_in new) k) (λ _. shard_index n k ≡ i)) [
            | true ↦ λ f. some-any (get (contents_in new) k) (shard_index n k ≡ i) (ap (shard_index n) ((same_key-Decides k key).0 f) ∙ sym e)
            | false ↦ λ f. subst (λ (o : Option GroupState). IfSome o (λ _. shard_index n k ≡ i)) (sym (others k f))
                (subst (λ j. IfSome (get (contents_in s) k) (λ _. shard_index n k ≡ j)) (sym e)
                (subst (λ (x : Shard). IfSome (get (contents_in x) k) (λ _. shard_index n k ≡ shard_index n key)) (sym is) (a (shard_index n key) s k l)))
          ] refl)
      | inr e ↦ subst (λ (x : Shard). IfSome (get (contents_in x) k) (λ _. shard_index n k ≡ i)) (sym (get_or-set_other ss (shard_index n key) i new d e)) (a i d k (omega (arith, m, j)))
    ]

pub apart-changed : (ss : List Shard) (s new : Shard) (key : Key) → AreApart ss → shard_index (length ss) key < length ss → s ≡ get_or ss (shard_index (length ss) key) s
    → ((k : Key) → same_key k key ≡ false → get (contents_in new) k ≡ get (contents_in s) k)
    → AreApart (set ss (shard_index (length ss) key) new)
apart-changed ss s new key a l is others =
    subst (λ n. AreApartAmong n (set ss (shard_index (length ss) key) new)) (sym (length-set ss (shard_index (length ss) key) new)) (changed-among (length ss) ss s new key a l is others)

-- and in all shards that key alone has changed, as it has in its shard
changed-all : (n : ℕ) (to : Option GroupState → Option GroupState) (ss : List Shard) (s new : Shard) (key : Key) → n ≡ length ss → AreApart ss → ((k : Key) → shard_index n k < length ss) → s ≡ get_or ss (shard_index n key) s
    → AreApart (set ss (shard_index n key) new)
    → ((k : Key) → same_key k key ≡ false → get (contents_in new) k ≡ get (contents_in s) k)
    → ((k : Key) → get (contents_in new) k ≡ cond (same_key k key) (to (get (contents_in s) k)) (get (contents_in s) k))
    → (k : Key) → get (contents_of_shards (set ss (shard_index n key) new)) k ≡ cond (same_key k key) (to (get (contents_of_shards ss) k)) (get (contents_of_shards ss) k)
changed-all n to ss s new key many a within is after others at k =
    let m : length (set ss (shard_index n key) new) ≡ n = length-set ss (shard_index n key) new ∙ sym many in
    let w : shard_index n k < n = let w = within k in omega (arith, many, w) in
    let before : get (contents_of_shards ss) k ≡ get (contents_in (get_or ss (shard_index n k) s)) k = get-place-among n ss s k (sym many) a w in
    get-place-among n (set ss (shard_index n key) new) s k m after w
    ∙ elim (cases_eq (shard_index n k) (shard_index n key)) as (λ _. get (contents_in (get_or (set ss (shard_index n key) new) (shard_index n k) s)) k ≡ cond (same_key k key) (to (get (contents_in (get_or ss (shard_index n k) s)) k)) (get (contents_in (get_or ss (shard_index n k) s)) k)) [
      | inl e ↦
          let t : get_or (set ss (shard_index n key) new) (shard_index n k) s ≡ new = ap (λ j. get_or (set ss (shard_index n key) new) j s) e ∙ get_or-set_same ss (shard_index n key) new s (within key) in
          let u : get_or ss (shard_index n k) s ≡ s = ap (λ j. get_or ss j s) e ∙ sym is in
          ap (λ (x : Shard). get (contents_in x) k) t ∙ at k ∙ ap (λ (x : Shard). cond (same_key k key) (to (get (contents_in x) k)) (get (contents_in x) k)) (sym u)
      | inr e ↦
          ap (λ (x : Shard). get (contents_in x) k) (get_or-set_other ss (shard_index n key) (shard_index n k) new s e)
          ∙ elim (same_key k key) as (λ b. same_key k key ≡ b → get (contents_in (get_or ss (shard_index n k) s)) k ≡ cond b (to (get (contents_in (get_or ss (shard_index n k) s)) k)) (get (contents_in (get_or ss (shard_index n k) s)) k)) [
            | true ↦ λ f. absurd (e (ap (shard_index n) ((same_key-Decides k key).0 f)))
            | false ↦ λ f. refl
          ] refl
    ]
    ∙ ap (λ o. cond (same_key k key) (to o) o) (sym before)

pub all-changed : (to : Option GroupState → Option GroupState) (ss : List Shard) (s new : Shard) (key : Key) → AreApart ss → ((k : Key) → shard_index (length ss) k < length ss) → s ≡ get_or ss (shard_index (length ss) key) s
    → ((k : Key) → same_key k key ≡ false → get (contents_in new) k ≡ get (contents_in s) k)
    → ((k : Key) → get (contents_in new) k ≡ cond (same_key k key) (to (get (contents_in s) k)) (get (contents_in s) k))
    → (k : Key) → get (contents_of_shards (set ss (shard_index (length ss) key) new)) k ≡ cond (same_key k key) (to (get (contents_of_shards ss) k)) (get (contents_of_shards ss) k)
all-changed to ss s new key a within is others = changed-all (length ss) to ss s new key refl a within is (apart-changed ss s new key a (within key) is others) others

-- ---- shards put together one by one

joined-some : (a b c : Option GroupState) (P : Type 0) → c ≡ joint_option a b → IfSome a (λ _. P) → IfSome b (λ _. P) → IfSome c (λ _. P)
joined-some None b c P e h g = subst (λ (o : Option GroupState). IfSome o (λ _. P)) (sym e) g
joined-some (Some a) None c P e h g = subst (λ (o : Option GroupState). IfSome o (λ _. P)) (sym e) h
joined-some (Some a) (Some b) c P e h g = subst (λ (o : Option GroupState). IfSome o (λ _. P)) (sym e) h

pub apart-joined : (ss ts us : List Shard) → AreApart ss → AreApart ts → length ts ≡ length ss → length us ≡ length ss → AreJoined ss ts us → AreApart us
apart-joined ss ts us a b m n j =
    let there : AreApartAmong (length ss) ts = subst (λ x. AreApartAmong x ts) m b in
    let all : AreApartAmong (length ss) us =
    λ i d k l.
    let h : i < length ss = omega (arith, n, l) in
    joined-some _ _ _ (shard_index (length ss) k ≡ i) (j i d h k) (a i d k h) (there i d k (omega (arith, m, h))) in
    subst (λ x. AreApartAmong x us) (sym n) all

joined-by : (ss ts us : List Shard) (d : Shard) → AreApart ss → AreApart ts → length ts ≡ length ss → length us ≡ length ss → ((k : Key) → shard_index (length ss) k < length ss) → AreJoined ss ts us
    → (k : Key) → IsJoined (contents_of_shards ss) (contents_of_shards ts) (contents_of_shards us) k
joined-by ss ts us d a b m n within j k =
    let w = within k in
    get-place-among (length ss) us d k n (apart-joined ss ts us a b m n j) w
    ∙ j (shard_index (length ss) k) d w k
    ∙ (λ i. joint_option (sym (get-place ss d k a w) i) (sym (get-place-among (length ss) ts d k m b w) i))

pub all-joined : (ss ts us : List Shard) → AreApart ss → AreApart ts → length ts ≡ length ss → length us ≡ length ss → ((k : Key) → shard_index (length ss) k < length ss) → AreJoined ss ts us
    → (k : Key) → IsJoined (contents_of_shards ss) (contents_of_shards ts) (contents_of_shards us) k
all-joined [] ts us a b m n within j k = let w = within k in absurd (omega (arith, w))
all-joined (s ∷ ss) ts us a b m n within j k = joined-by (s ∷ ss) ts us s a b m n within j k

-- ---- a walk over shards

pub defaults : (ss : List Shard) (i : ℕ) (d e : Shard) → i < length ss → get_or ss i d ≡ get_or ss i e
defaults [] i d e l = absurd (omega (arith, l))
defaults (s ∷ ss) zero d e l = refl
defaults (s ∷ ss) (suc i) d e l = defaults ss i d e (omega (arith, l))

pub at-drop : (n : ℕ) (ss : List Shard) (d : Shard) → get_or (drop n ss) 0 d ≡ get_or ss n d
at-drop zero ss d = refl
at-drop (suc n) [] d = refl
at-drop (suc n) (s ∷ ss) d = at-drop n ss d

pub after-drop : (n : ℕ) (ss : List Shard) (s : Shard) (rest : List Shard) → drop n ss ≡ s ∷ rest → rest ≡ drop (suc n) ss
after-drop zero [] s rest e = cc
after-drop zero (x ∷ ss) s rest e = sym (ap (drop 1) e)
after-drop (suc n) [] s rest e = cc
after-drop (suc n) (x ∷ ss) s rest e = after-drop n ss s rest e

-- where all can be joined, each can
pub each-can_join : (ss ts : List Shard) → AreApart ss → AreApart ts → length ts ≡ length ss → ((k : Key) → shard_index (length ss) k < length ss) → CanJoin (contents_of_shards ss) (contents_of_shards ts) → CanJoinEach ss ts
each-can_join ss ts a b m within h = λ i d l k.
    elim (get (contents_in (get_or ts i d)) k) as (λ o. get (contents_in (get_or ts i d)) k ≡ o → IfSome o (λ _. shard_index (length ss) k ≡ i) → IfSome o (λ part. IsFitting part (get (contents_in (get_or ss i d)) k))) [
      | None ↦ λ e p. tt
      | Some g ↦ λ e p.
          let w : shard_index (length ss) k < length ss = within k in
          let here : get (contents_of_shards ss) k ≡ get (contents_in (get_or ss i d)) k = get-place ss d k a w ∙ ap (λ n. get (contents_in (get_or ss n d)) k) p in
          let there : get (contents_of_shards ts) k ≡ Some g = get-place-among (length ss) ts d k m b w ∙ ap (λ n. get (contents_in (get_or ts n d)) k) p ∙ e in
          subst (λ (o : Option GroupState). IsFitting g o) here (subst (λ (o : Option GroupState). IfSome o (λ part. IsFitting part (get (contents_of_shards ss) k))) there (h k))
    ] refl (subst (λ x. AreApartAmong x ts) m b i d k (omega (arith, m, l)))

-- ---- all entries are of different keys

found-places : (m n : ℕ) (es : Entries) → ((k : Key) → IfSome (find key_order k (entries_by_key es)) (λ _. shard_index m k ≡ n)) → AllByRecursion (λ e. shard_index m (key_in e.0) ≡ n) es
found-places m n [] h = tt
found-places m n (e ∷ es) h = (
  subst (λ (o : Option GroupState). IfSome o (λ _. shard_index m (key_in e.0) ≡ n)) (find-first e es) (h (key_in e.0)),
  found-places m n es (λ k. elim (same_key k (key_in e.0)) as (λ b. IfSome (cond b (Some e.1) (find key_order k (entries_by_key es))) (λ _. shard_index m k ≡ n) → IfSome (find key_order k (entries_by_key es)) (λ _. shard_index m k ≡ n)) [
    | true ↦ λ p. some-any (find key_order k (entries_by_key es)) (shard_index m k ≡ n) p
    | false ↦ λ p. p
  ] (h k)),
)

-- a key that is not found is that of no entry
not-found : (q : PackedKey) (es : Entries) → find key_order (key_in q) (entries_by_key es) ≡ None → AllByRecursion (λ y. key_eq q y ≡ false) (keys_of es)
not-found q [] h = tt
not-found q (e ∷ es) h =
    elim (same_key (key_in q) (key_in e.0)) as (λ b. same_key (key_in q) (key_in e.0) ≡ b → cond b (Some e.1) (find key_order (key_in q) (entries_by_key es)) ≡ None → AllByRecursion (λ y. key_eq q y ≡ false) (keys_of (e ∷ es))) [
      | true ↦ λ i f. cc
      | false ↦ λ i f. (key_eq-ties q e.0 ∙ i, not-found q es f)
    ] refl h

all-append : {X : Type 0} (P : X → Type 0) (xs ys : List X) → AllByRecursion P xs → AllByRecursion P ys → AllByRecursion P (xs ++ ys)
all-append P [] ys h g = g
all-append P (x ∷ xs) ys h g = (h.0, all-append P xs ys h.1 g)

keys-append : (es fs : Entries) → keys_of (es ++ fs) ≡ keys_of es ++ keys_of fs
keys-append [] fs = refl
keys-append (e ∷ es) fs = ap (λ ks. e.0 ∷ ks) (keys-append es fs)

distinct-append : (es fs : Entries) → IsDistinct key_eq (keys_of es) → IsDistinct key_eq (keys_of fs) → AllByRecursion (λ e. find key_order (key_in e.0) (entries_by_key fs) ≡ None) es → IsDistinct key_eq (keys_of (es ++ fs))
unfolding IsDistinct
distinct-append [] fs d f h = f
distinct-append (e ∷ es) fs d f h = (
  subst (AllByRecursion (λ y. key_eq e.0 y ≡ false)) (sym (keys-append es fs)) (all-append (λ y. key_eq e.0 y ≡ false) (keys_of es) (keys_of fs) d.0 (not-found e.0 fs h.0)),
  distinct-append es fs d.1 f h.1,
)

all-weaker : {X : Type 0} (P Q : X → Type 0) → ((x : X) → P x → Q x) → (xs : List X) → AllByRecursion P xs → AllByRecursion Q xs
all-weaker P Q w [] h = tt
all-weaker P Q w (x ∷ xs) h = (w x h.0, all-weaker P Q w xs h.1)

distinct-from : (m n : ℕ) (ss : List Shard) → AreApartFrom m n ss → IsDistinct key_eq (keys_of (all_entries ss))
unfolding IsDistinct
distinct-from m n [] a = tt
distinct-from m n (s ∷ ss) a =
    distinct-append (entries_in s) (all_entries ss) s.distinct (distinct-from m (suc n) ss a.1)
    (all-weaker (λ e. shard_index m (key_in e.0) ≡ n) (λ e. find key_order (key_in e.0) (entries_by_key (all_entries ss)) ≡ None)
    (λ e p. find-before m (suc n) ss (key_in e.0) a.1 (omega (arith, p))) (entries_in s)
    (found-places m n (entries_in s) (λ k. subst (λ (o : Option GroupState). IfSome o (λ _. shard_index m k ≡ n)) (get-from_entries key_total (entries_by_key (entries_in s)) k) (a.0 k))))

pub distinct-all : (ss : List Shard) → AreApart ss → IsDistinct key_eq (keys_of (all_entries ss))
distinct-all ss a = distinct-from (length ss) 0 ss (apart-start ss a)

-- ---- shards put one after the other to a table of as many shards as there may be

-- the entries behind others are of different keys too
distinct-behind : (es fs : Entries) → IsDistinct key_eq (keys_of (es ++ fs)) → IsDistinct key_eq (keys_of fs)
unfolding IsDistinct
distinct-behind [] fs d = d
distinct-behind (e ∷ es) fs d = distinct-behind es fs d.1

pub distinct-rest : (s : Shard) (ss : List Shard) → IsDistinct key_eq (keys_of (all_entries (s ∷ ss))) → IsDistinct key_eq (keys_of (all_entries ss))
distinct-rest s ss d = distinct-behind (entries_in s) (all_entries ss) d

or_else-nothing : (a b : Option GroupState) → or_else a b ≡ None → b ≡ None
or_else-nothing None b h = h
or_else-nothing (Some g) b h = cc

-- and of other keys than those
none-behind : (k : Key) (es fs : Entries) → IsDistinct key_eq (keys_of (es ++ fs)) → (g : GroupState) → find key_order k (entries_by_key es) ≡ Some g → find key_order k (entries_by_key fs) ≡ None
unfolding IsDistinct
none-behind k [] fs d g h = cc
none-behind k (e ∷ es) fs d g h =
    elim (same_key k (key_in e.0)) as (λ b. same_key k (key_in e.0) ≡ b → cond b (Some e.1) (find key_order k (entries_by_key es)) ≡ Some g → find key_order k (entries_by_key fs) ≡ None) [
      | true ↦ λ i _. or_else-nothing (find key_order k (entries_by_key es)) (find key_order k (entries_by_key fs)) (sym (find-append k es fs) ∙ none_after k e (es ++ fs) d i)
      | false ↦ λ i f. none-behind k es fs d.1 g f
    ] refl h

joined-options : (o a b : Option GroupState) → ((g : GroupState) → a ≡ Some g → b ≡ None) → joint_option (joint_option o a) b ≡ joint_option o (or_else a b)
joined-options o None b h = ap (λ x. joint_option x b) (options-none o)
joined-options o (Some g) b h = ap (joint_option (joint_option o (Some g))) (h g refl) ∙ options-none (joint_option o (Some g))

fitting-options : (o a b : Option GroupState) → ((g : GroupState) → a ≡ Some g → b ≡ None) → IfSome (or_else a b) (λ p. IsFitting p o) → IfSome b (λ p. IsFitting p (joint_option o a))
fitting-options o None b h f = subst (λ (x : Option GroupState). IfSome b (λ p. IsFitting p x)) (sym (options-none o)) f
fitting-options o (Some g) b h f = subst (λ (x : Option GroupState). IfSome x (λ p. IsFitting p (joint_option o (Some g)))) (sym (h g refl)) tt

first-options : (o a b : Option GroupState) → IfSome (or_else a b) (λ p. IsFitting p o) → IfSome a (λ p. IsFitting p o)
first-options o None b f = tt
first-options o (Some g) b f = f

-- where what is left can be joined, the first shard of it can
pub can_join-first : (table : Contents) (s : Shard) (ss : List Shard) → ((k : Key) → IfSome (find key_order k (entries_by_key (all_entries (s ∷ ss)))) (λ p. IsFitting p (get table k))) → CanJoin table (contents_in s)
can_join-first table s ss f = λ k.
    subst (λ (o : Option GroupState). IfSome o (λ p. IsFitting p (get table k))) (sym (get-from_entries key_total (entries_by_key (entries_in s)) k))
    (first-options (get table k) (find key_order k (entries_by_key (entries_in s))) (find key_order k (entries_by_key (all_entries ss)))
    (subst (λ (o : Option GroupState). IfSome o (λ p. IsFitting p (get table k))) (find-append k (entries_in s) (all_entries ss)) (f k)))

-- once it is joined, the table and the rest have what they had with it
pub joined-first : (old new : Contents) (k : Key) (s : Shard) (ss : List Shard) → IsDistinct key_eq (keys_of (all_entries (s ∷ ss))) → IsJoined old (contents_in s) new k
    → joint_option (get new k) (find key_order k (entries_by_key (all_entries ss))) ≡ joint_option (get old k) (find key_order k (entries_by_key (all_entries (s ∷ ss))))
joined-first old new k s ss d j =
    let es = entries_in s in
    let fs = all_entries ss in
    ap (λ o. joint_option o (find key_order k (entries_by_key fs))) (j ∙ ap (joint_option (get old k)) (get-from_entries key_total (entries_by_key es) k))
    ∙ joined-options (get old k) (find key_order k (entries_by_key es)) (find key_order k (entries_by_key fs)) (none-behind k es fs d)
    ∙ ap (joint_option (get old k)) (sym (find-append k es fs))

-- and the rest can be joined still
pub fits-first : (old new : Contents) (k : Key) (s : Shard) (ss : List Shard) → IsDistinct key_eq (keys_of (all_entries (s ∷ ss))) → IsJoined old (contents_in s) new k
    → IfSome (find key_order k (entries_by_key (all_entries (s ∷ ss)))) (λ p. IsFitting p (get old k)) → IfSome (find key_order k (entries_by_key (all_entries ss))) (λ p. IsFitting p (get new k))
fits-first old new k s ss d j f =
    let es = entries_in s in
    let fs = all_entries ss in
    subst (λ (o : Option GroupState). IfSome (find key_order k (entries_by_key fs)) (λ p. IsFitting p o)) (sym (j ∙ ap (joint_option (get old k)) (get-from_entries key_total (entries_by_key es) k)))
    (fitting-options (get old k) (find key_order k (entries_by_key es)) (find key_order k (entries_by_key fs)) (none-behind k es fs d)
    (subst (λ (o : Option GroupState). IfSome o (λ p. IsFitting p (get old k))) (find-append k es fs) f))
