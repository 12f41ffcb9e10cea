-- Lists of what was read, one thing longer.
use Rattle.std.proofs.Common.{◌≢◌, List, [], ◌∷◌, ◌++◌, Option, Some, None}
use Rattle.std.specs.List.{AllByRecursion, AllZip}
use Rattle.std.specs.Prelude.{⊤}
use Rattle.semantics.specs.Records.{Holds}
use Rattle.semantics.specs.Values.{Datum, null, value_order}
use Rattle.semantics.specs.declared.kind.Kind.{Kind}
use Rattle.part_lines.specs.Known.{AreDifferentOf, IsAscending}
use Rattle.part_lines.specs.Inside.Known.{IsDifferentOf}

-- ---- different values

-- each of these values is one of the different values behind the one before, and the first one
-- behind the last of all before
abbrev pub AscendFrom : Kind → Option Datum → List Datum → Type 0
AscendFrom k last [] = ⊤
AscendFrom k last (d ∷ ds) = IsDifferentOf k last d × AscendFrom k (Some d) ds

-- the last one of these, or of all before
abbrev pub last_from : Option Datum → List Datum → Option Datum
last_from last [] = last
last_from last (d ∷ ds) = last_from (Some d) ds

-- one more
pub ascend-push : (k : Kind) (last : Option Datum) (ds : List Datum) (d : Datum) → AscendFrom k last ds → IsDifferentOf k (last_from last ds) d → AscendFrom k last (ds ++ d ∷ [])
ascend-push k last [] d h next = (next, tt)
ascend-push k last (e ∷ ds) d h next = (h.0, ascend-push k (Some e) ds d h.1 next)

all-held : (k : Kind) (last : Option Datum) (ds : List Datum) → AscendFrom k last ds → AllByRecursion (Holds k) ds
all-held k last [] h = tt
all-held k last (d ∷ ds) h = (h.0.held, all-held k (Some d) ds h.1)

all-known : (k : Kind) (last : Option Datum) (ds : List Datum) → AscendFrom k last ds → AllByRecursion (λ d. d ≢ null) ds
all-known k last [] h = tt
all-known k last (d ∷ ds) h = (h.0.known, all-known k (Some d) ds h.1)

all-ascend : (k : Kind) (last : Option Datum) (ds : List Datum) → AscendFrom k last ds → IsAscending value_order ds
all-ascend k last [] h = tt
all-ascend k last (d ∷ []) h = tt
all-ascend k last (d ∷ e ∷ ds) h = (h.1.0.above, all-ascend k (Some d) (e ∷ ds) h.1)

pub are_different : (k : Kind) (ds : List Datum) → AscendFrom k None ds → AreDifferentOf k ds
are_different k ds h = record { held = all-held k None ds h; known = all-known k None ds h; ascending = all-ascend k None ds h }

-- ---- one for each

pub AllZip-both : {A B : Type 0} (R : A → B → Type 0) (as_read : List A) (bs : List B) (a : A) (b : B) → AllZip R as_read bs → R a b → AllZip R (as_read ++ a ∷ []) (bs ++ b ∷ [])
AllZip-both R [] [] a b h new = (new, tt)
AllZip-both R [] (y ∷ bs) a b h new = absurd h
AllZip-both R (x ∷ xs) [] a b h new = absurd h
AllZip-both R (x ∷ xs) (y ∷ bs) a b h new = (h.0, AllZip-both R xs bs a b h.1 new)
