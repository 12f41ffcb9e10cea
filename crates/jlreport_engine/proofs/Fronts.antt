-- Beginnings that grow.
use Rattle.std.proofs.Common.{◌≡◌, ◌++◌, ◌-◌, ◌∙◌, true, false, ℕ, List, Option, Result, Ok, Err, length, take, drop, sym, ap, append_assoc, arith, length-drop}
use Rattle.std.proofs.lemmas.List.{take_all, take-append-drop}
use Rattle.std.specs.Prelude.{IfErr, OnErr, OnOk, is_err}
use Rattle.std.specs.Io.KnownBytes.{Appends}
use Rattle.semantics.specs.Run.{AppendsBeginning}

-- the first n of the rest may be counted to the front
pub append-moved : (front rest : List ℕ) (n : ℕ)
    → front ++ rest ≡ (front ++ take n rest) ++ take (length rest - n) (drop n rest)
append-moved front rest n =
    let left : drop n rest ≡ take (length rest - n) (drop n rest) =
    sym (take_all (length rest - n) (drop n rest) (omega (arith, length-drop n rest))) in
    ap (λ xs. front ++ xs) (sym (take-append-drop n rest) ∙ ap (λ xs. take n rest ++ xs) left)
    ∙ sym (append_assoc front (take n rest) (take (length rest - n) (drop n rest)))

-- the first n of a text are a beginning of it
pub begun : {X : Type 0} (r : Result X ℕ) (old new : Option (List ℕ)) (text : List ℕ) → is_err r ≡ true
    → IfErr r (λ n. Appends old new (take n text)) → AppendsBeginning old new text
begun (Ok done) old new text is h = let wrong = is in absurd cc
begun (Err n) old new text is h = (take n text, drop n text, sym (take-append-drop n text), h)

-- what is said of a call that went well holds where it did
pub went-well : {X Y P : Type 0} (r : Result X Y) → is_err r ≡ false → OnOk r P → P
went-well (Ok x) is h = h
went-well (Err e) is h = let wrong = is in absurd cc

-- what holds anyway holds where a call failed
pub on-err : {X Y P : Type 0} (r : Result X Y) → P → OnErr r P
on-err (Ok x) h = tt
on-err (Err e) h = h
