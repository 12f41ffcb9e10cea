-- The keys of a grouping set and their members, by those of a finer one.
use Rattle.std.proofs.Common.{◌≡◌, ◌==◌, ℕ, zero, suc, true, false, ◌||◌, cond, List, [], ◌∷◌, ◌++◌, filter, refl, sym, ap, subst, ◌∙◌, arith}
use Rattle.std.specs.List.{list_any}
use Rattle.std.proofs.lemmas.List.Elements.{filter-append}
use Rattle.semantics.specs.Groups.{Record, value_at, Key, project, same_key, keys, members}
use Rattle.group_tables.specs.Bags.{SameBag}
use Rattle.group_tables.specs.Rolled.{index_in, rolled_key, AreAmong, finer_members}
use Rattle.group_tables.proofs.Bags.{bag-filter}
use Rattle.group_tables.proofs.Order.{same_key-Decides}
use Rattle.group_tables.proofs.Covering.{spread, members-bag}

same-place : (m n : ℕ) → (m == n) ≡ true → m ≡ n
same-place m n h = grind (arith, h)

value-rolled : (finer : List ℕ) (p : ℕ) (row : Record) → list_any (λ q. q == p) finer ≡ true → value_at (index_in finer p) (project finer row) ≡ value_at p row
value-rolled [] p row h = cc
value-rolled (q ∷ qs) p row h =
    elim (q == p) as (λ b. (q == p) ≡ b → (b || list_any (λ r. r == p) qs) ≡ true → value_at (cond b zero (suc (index_in qs p))) (value_at q row ∷ project qs row) ≡ value_at p row) [
      | true ↦ λ e i. ap (λ n. value_at n row) (same-place q p e)
      | false ↦ λ e i. value-rolled qs p row i
    ] refl h

-- the key of a record under the set is that under the finer one, rolled
pub rolled_key-project : (finer set : List ℕ) (row : Record) → AreAmong set finer → rolled_key finer set (project finer row) ≡ project set row
rolled_key-project finer [] row h = refl
rolled_key-project finer (p ∷ ps) row h = λ i. value-rolled finer p row h.0 i ∷ rolled_key-project finer ps row h.1 i

-- the members of a key of the finer set have all its rolled key
pub members-rolled : (finer set : List ℕ) (k q : Key) (rows : List Record) → AreAmong set finer
    → members set k (members finer q rows) ≡ cond (same_key k (rolled_key finer set q)) (members finer q rows) []
members-rolled finer set k q [] a = elim (same_key k (rolled_key finer set q)) as (λ b. ◌≡◌ {A = List Record} [] (cond b [] [])) [ true ↦ refl | false ↦ refl ]
members-rolled finer set k q (row ∷ rows) a =
    elim (same_key q (project finer row)) as (λ b. same_key q (project finer row) ≡ b
    → members set k (cond b (row ∷ members finer q rows) (members finer q rows)) ≡ cond (same_key k (rolled_key finer set q)) (cond b (row ∷ members finer q rows) (members finer q rows)) []) [
      | true ↦ λ e.
          let is : project set row ≡ rolled_key finer set q = sym (rolled_key-project finer set row a) ∙ ap (rolled_key finer set) (sym ((same_key-Decides q (project finer row)).0 e)) in
          ap (λ p. cond (same_key k p) (row ∷ members set k (members finer q rows)) (members set k (members finer q rows))) is
          ∙ ap (λ xs. cond (same_key k (rolled_key finer set q)) (row ∷ xs) xs) (members-rolled finer set k q rows a)
          ∙ elim (same_key k (rolled_key finer set q)) as (λ b. cond b (row ∷ cond b (members finer q rows) []) (cond b (members finer q rows) []) ≡ cond b (row ∷ members finer q rows) []) [ true ↦ refl | false ↦ refl ]
      | false ↦ λ e. members-rolled finer set k q rows a
    ] refl

members-spread : (finer set : List ℕ) (k : Key) (rows : List Record) (qs : List Key) → AreAmong set finer
    → members set k (spread finer rows qs) ≡ spread finer rows (filter (λ q. same_key k (rolled_key finer set q)) qs)
members-spread finer set k rows [] a = refl
members-spread finer set k rows (q ∷ qs) a =
    filter-append (λ row. same_key k (project set row)) (members finer q rows) (spread finer rows qs)
    ∙ (λ i. members-rolled finer set k q rows a i ++ members-spread finer set k rows qs a i)
    ∙ elim (same_key k (rolled_key finer set q)) as (λ b. cond b (members finer q rows) [] ++ spread finer rows (filter (λ p. same_key k (rolled_key finer set p)) qs)
    ≡ spread finer rows (cond b (q ∷ filter (λ p. same_key k (rolled_key finer set p)) qs) (filter (λ p. same_key k (rolled_key finer set p)) qs))) [ true ↦ refl | false ↦ refl ]

-- the members of a key are those of the keys of the finer set that are rolled to it, joined, each
-- as often
pub members-partition : (finer set : List ℕ) (k : Key) (rows : List Record) → AreAmong set finer → SameBag (finer_members finer set k rows) (members set k rows)
members-partition finer set k rows a =
    subst (λ (xs : List Record). SameBag xs (members set k rows)) (members-spread finer set k rows (keys finer rows) a)
    (bag-filter (λ row. same_key k (project set row)) (spread finer rows (keys finer rows)) rows (members-bag finer rows))
