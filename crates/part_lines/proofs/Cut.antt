-- The first bytes of a line behind a text.
use Rattle.std.proofs.Common.{◌≡◌, ℕ, ◌+◌, List, [], ◌∷◌, ◌++◌, length, take, Result, Ok, Err, OnErr, append_assoc, sym, ap, ◌∙◌}
use Rattle.std.proofs.Math.Seq.{take-append-add, take-append_seam}

-- what holds anyhow holds after an error
pub on_err : {T E P : Type 0} (r : Result T E) → P → OnErr r P
on_err (Ok x) p = tt
on_err (Err e) p = p

-- all of them but what stands behind
pub but_behind : (old line behind text new : List ℕ) → text ≡ old ++ line → new ≡ text → (count : ℕ) × (new ≡ old ++ take count (line ++ behind))
but_behind old line behind text new e h = (length line, h ∙ e ∙ ap (λ s. old ++ s) (sym (take-append_seam line behind)))

-- the first quote, a string that is its own content, and the first bytes of what stands behind it
pub quoted_front : (old s content quote text new : List ℕ) → content ≡ s → quote ≡ old ++ 34 ∷ [] → text ≡ quote ++ s → (count : ℕ) × (new ≡ text ++ take count (34 ∷ 10 ∷ []))
    → (count : ℕ) × (new ≡ old ++ take count (34 ∷ (content ++ 34 ∷ [] ++ 10 ∷ [])))
quoted_front old s content quote text new e q t (count, h) =
    let rest : List ℕ = 34 ∷ 10 ∷ [] in
    let whole : (34 ∷ s) ++ rest ≡ 34 ∷ (content ++ 34 ∷ [] ++ 10 ∷ []) = rw e (sym (ap (λ r. 34 ∷ r) (append_assoc s (34 ∷ []) (10 ∷ [])))) in
    let front : text ≡ old ++ (34 ∷ s) = t ∙ ap (λ u. u ++ s) q ∙ append_assoc old (34 ∷ []) s in (
      length (34 ∷ s) + count,
      h ∙ ap (λ u. u ++ take count rest) front ∙ append_assoc old (34 ∷ s) (take count rest) ∙ ap (λ u. old ++ u) (sym (take-append-add (34 ∷ s) rest count) ∙ ap (take (length (34 ∷ s) + count)) whole),
    )
