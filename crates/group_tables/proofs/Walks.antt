-- Walks over the groups of shards: what groups and walks have together, whichever walk gives the
-- next group.
use Rattle.group_tables.specs.Keys.{key_in}
use Rattle.std.proofs.Common.{◌≡◌, ◌<◌, ℕ, zero, suc, List, [], ◌∷◌, ◌++◌, set, length, get_or, refl, sym, ap, subst, ◌∙◌, append-nil, append_assoc, arith}
use Rattle.std.proofs.lemmas.List.Sorted.{IsPermutation-append_comm, IsPermutation-append_left, IsPermutation-append_right, IsPermutation-refl, IsPermutation-trans}
use Rattle.std.specs.List.Sorted.{IsPermutation}
use Rattle.semantics.specs.ResultRows.{GroupSummary}
use Rattle.group_tables.specs.declared.walk.Walk.{Walk}
use Rattle.group_tables.specs.Inside.Group.{state_summary}
use Rattle.group_tables.specs.Inside.Summaries.{entry_summaries}
use Rattle.group_tables.specs.Inside.Walks.{entries_left}
use Rattle.group_tables.proofs.Entries.{Entries}

pub entry_summaries-append : (es fs : Entries) → entry_summaries (es ++ fs) ≡ entry_summaries es ++ entry_summaries fs
entry_summaries-append [] fs = refl
entry_summaries-append (e ∷ es) fs = ap (λ rs. state_summary (key_in e.0, e.1) ∷ rs) (entry_summaries-append es fs)

swapped-fronts : {X : Type 0} (xs ys zs : List X) → IsPermutation (xs ++ (ys ++ zs)) (ys ++ (xs ++ zs))
swapped-fronts xs ys zs =
    subst (IsPermutation (xs ++ (ys ++ zs))) (append_assoc ys xs zs)
    (subst (λ front. IsPermutation front ((ys ++ xs) ++ zs)) (append_assoc xs ys zs)
    (IsPermutation-append_left zs (xs ++ ys) (ys ++ xs) (IsPermutation-append_comm xs ys)))

-- Groups, with those that the walks have not come to, are those of before in some order, where one
-- walk alone has come further: with what that one has not come to they are the same.
pub put_next-permutes : (gs hs : List GroupSummary) (i : ℕ) (ws : List Walk) (old new : Walk) → old ≡ get_or ws i old
    → i < length ws
    → hs ++ entry_summaries new.entries ≡ gs ++ entry_summaries old.entries
    → IsPermutation (gs ++ entry_summaries (entries_left ws)) (hs ++ entry_summaries (entries_left (set ws i new)))
put_next-permutes gs hs i [] old new is l h = absurd (omega (arith, l))
put_next-permutes gs hs zero (w ∷ ws) old new is l h =
    let left = entry_summaries (entries_left ws) in
    let same : gs ++ entry_summaries (w.entries ++ entries_left ws) ≡ hs ++ entry_summaries (new.entries ++ entries_left ws) =
    ap (λ rs. gs ++ rs) (entry_summaries-append w.entries (entries_left ws))
    ∙ sym (append_assoc gs (entry_summaries w.entries) left)
    ∙ ap (λ (x : Walk). (gs ++ entry_summaries x.entries) ++ left) (sym is)
    ∙ ap (λ rs. rs ++ left) (sym h)
    ∙ append_assoc hs (entry_summaries new.entries) left
    ∙ ap (λ rs. hs ++ rs) (sym (entry_summaries-append new.entries (entries_left ws))) in
    subst (IsPermutation (gs ++ entry_summaries (w.entries ++ entries_left ws))) same (IsPermutation-refl _)
put_next-permutes gs hs (suc i) (w ∷ ws) old new is l h =
    let front = entry_summaries w.entries in
    let left = entry_summaries (entries_left ws) in
    let more = entry_summaries (entries_left (set ws i new)) in
    let rest = put_next-permutes gs hs i ws old new is (omega (arith, l)) h in
    let moved : IsPermutation (gs ++ (front ++ left)) (hs ++ (front ++ more)) =
    IsPermutation-trans _ (front ++ (gs ++ left)) _ (swapped-fronts gs front left)
    (IsPermutation-trans _ (front ++ (hs ++ more)) _ (IsPermutation-append_right front (gs ++ left) (hs ++ more) rest)
    (swapped-fronts front hs more)) in
    subst (λ (rs : List GroupSummary). IsPermutation (gs ++ rs) (hs ++ entry_summaries (w.entries ++ entries_left (set ws i new))))
    (sym (entry_summaries-append w.entries (entries_left ws)))
    (subst (λ (rs : List GroupSummary). IsPermutation (gs ++ (front ++ left)) (hs ++ rs))
    (sym (entry_summaries-append w.entries (entries_left (set ws i new)))) moved)

pub none_left : {X : Type 0} (xs : List X) → length xs ≡ 0 → xs ≡ []
none_left [] e = refl
none_left (x ∷ xs) e = absurd (omega (arith, e))

pub left-append : (ws : List Walk) (w : Walk) → entries_left (ws ++ w ∷ []) ≡ entries_left ws ++ w.entries
left-append [] w = append-nil w.entries
left-append (x ∷ ws) w = ap (λ es. x.entries ++ es) (left-append ws w) ∙ sym (append_assoc x.entries (entries_left ws) w.entries)
