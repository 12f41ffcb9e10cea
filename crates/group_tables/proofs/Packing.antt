-- The code of a record's key, value by value.
use Rattle.std.proofs.Common.{◌≡◌, ◌+◌, ◌<◌, ◌≤◌, ℕ, zero, suc, List, [], ◌∷◌, ◌++◌, length, map, take, take_all, get_or, refl, sym, ap, subst, ◌∙◌, append-nil, append_assoc, add-one, arith}
use Rattle.std.specs.List.{AllByRecursion}
use Rattle.semantics.specs.Groups.{Key, Record, project, value_at}
use Rattle.sort_keys.specs.Codes.{value_code, values_code}
use Rattle.semantics.specs.Values.{null}
use Rattle.sort_keys.specs.Decoding.{IsCodeOf, IsCodeSplit, IsStorable, KeyOf}
use Rattle.sort_keys.proofs.Decoding.{code-some, keys-one}

next-code : (i : ℕ) (set : List ℕ) (row : Record) → i < length set
    → values_code (project (take (suc i) set) row) ≡ values_code (project (take i set) row) ++ value_code (value_at (get_or set i 0) row)
next-code i [] row h = absurd (omega (arith, h))
next-code zero (p ∷ ps) row h = append-nil (value_code (value_at p row))
next-code (suc i) (p ∷ ps) row h =
    ap (λ s. value_code (value_at p row) ++ s) (next-code i ps row (omega (arith, h)))
    ∙ sym (append_assoc (value_code (value_at p row)) (values_code (project (take i ps) row)) (value_code (value_at (get_or ps i 0) row)))

-- with one more value the bytes are the code of one value more
pub code-more : (i : ℕ) (set : List ℕ) (row : Record) (old new : List ℕ) → i < length set → old ≡ values_code (project (take i set) row)
    → new ≡ old ++ value_code (value_at (get_or set i 0) row) → new ≡ values_code (project (take (i + 1) set) row)
code-more i set row old new h is more =
    more ∙ ap (λ s. s ++ value_code (value_at (get_or set i 0) row)) is ∙ sym (next-code i set row h) ∙ ap (λ n. values_code (project (take n set) row)) (sym (add-one i))

next-storable : (i : ℕ) (set : List ℕ) (row : Record) → i < length set → AllByRecursion IsStorable (project (take i set) row) → IsStorable (value_at (get_or set i 0) row)
    → AllByRecursion IsStorable (project (take (suc i) set) row)
next-storable i [] row h all one = absurd (omega (arith, h))
next-storable zero (p ∷ ps) row h all one = (one, tt)
next-storable (suc i) (p ∷ ps) row h all one = (all.0, next-storable i ps row (omega (arith, h)) all.1 one)

-- and all these values are storable
pub storable-more : (i : ℕ) (set : List ℕ) (row : Record) → i < length set → AllByRecursion IsStorable (project (take i set) row) → IsStorable (value_at (get_or set i 0) row)
    → AllByRecursion IsStorable (project (take (i + 1) set) row)
storable-more i set row h all one = subst (λ n. AllByRecursion IsStorable (project (take n set) row)) (sym (add-one i)) (next-storable i set row h all one)

-- ---- the key that bytes are the code of

-- it is the one that has this code
pub key-told : {code : List ℕ} (of : KeyOf code) (key : Key) → AllByRecursion IsStorable key → code ≡ values_code key → of.0 ≡ key
key-told of key all is = keys-one of.0 key of.1.0 all (sym of.1.1 ∙ is)

-- ---- the codes of a key's values, each by itself

-- that of the value at a place, and NULL's where there is none
pub piece-at : (key : Key) (place : ℕ) → get_or (map value_code key) place (value_code null) ≡ value_code (value_at place key)
piece-at [] place = refl
piece-at (d ∷ key) zero = refl
piece-at (d ∷ key) (suc place) = piece-at key place

storable-at : (key : Key) (place : ℕ) → AllByRecursion IsStorable key → IsStorable (value_at place key)
storable-at [] place all = tt
storable-at (d ∷ key) zero all = all.0
storable-at (d ∷ key) (suc place) all = storable-at key place all.1

-- the values of a key at some places are storable
pub storable-all : (places : List ℕ) (key : Key) → AllByRecursion IsStorable key → AllByRecursion IsStorable (project places key)
storable-all [] key all = tt
storable-all (place ∷ places) key all = (storable-at key place all, storable-all places key all)

-- so the bytes that are the code of the values at all of them are the code of a key
pub places-code : (i : ℕ) (places code : List ℕ) (key : Key) → length places ≤ i → AllByRecursion IsStorable key → code ≡ values_code (project (take i places) key) → IsCodeOf code (project places key)
places-code i places code key end all is = (storable-all places key all, is ∙ ap (λ ps. values_code (project ps key)) (take_all i places end))

-- the code in front is one more piece
pub next-piece : (pieces : List (List ℕ)) (piece rest behind : List ℕ) (left key : Key) → 0 < length rest → AllByRecursion IsStorable left → rest ≡ values_code left → pieces ++ map value_code left ≡ map value_code key
    → IsCodeSplit rest piece behind → (more : Key) × AllByRecursion IsStorable more × (behind ≡ values_code more) × ((pieces ++ piece ∷ []) ++ map value_code more ≡ map value_code key)
next-piece pieces piece rest behind [] key some all is total split = absurd (omega (arith, some, ap length is))
next-piece pieces piece rest behind (d ∷ left) key some all is total split =
    let s = split d (values_code left) all.0 is in
    (left, all.1, s.1, append_assoc pieces (piece ∷ []) (map value_code left) ∙ ap (λ p. pieces ++ p ∷ map value_code left) s.0 ∙ total)

none-left : (rest : List ℕ) → length rest ≡ 0 → rest ≡ []
none-left [] none = refl
none-left (b ∷ rest) none = absurd (omega (arith, none))

-- where no byte is left, the pieces are those of all values
pub all-pieces : (pieces : List (List ℕ)) (rest : List ℕ) (left key : Key) → length rest ≡ 0 → rest ≡ values_code left → pieces ++ map value_code left ≡ map value_code key → pieces ≡ map value_code key
all-pieces pieces rest [] key none is total = sym (append-nil pieces) ∙ total
all-pieces pieces rest (d ∷ left) key none is total = absurd (code-some d (values_code left) (sym is ∙ none-left rest none))
