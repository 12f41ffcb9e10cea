-- Headers that repeat earlier ones.
use Rattle.std.proofs.Common.{◌≡◌, ◌∙◌, ℕ, ◌+◌, ◌<◌, ◌≤◌, Bool, true, false, not, ◌||◌, List, [], ◌∷◌, ◌++◌, length, take, drop, map, get_or, Option, Some, None, refl, sym, ap, arith, string_bytes}
use Rattle.std.specs.Prelude.{String}
use Rattle.std.specs.Global.{Global}
use Rattle.std.specs.List.{enumerate_from, list_any}
use Rattle.std.specs.Option.{option_or}
use Rattle.std.specs.Str.{bytes_eq}
use Rattle.std.proofs.lemmas.List.{at_drop_more, at_drop_all, get_or-map, length-map, take_more}
use Rattle.query_ast.specs.declared.tree.Item.{Item}
use Rattle.query_ast.specs.Syntax.{item_form}
use Rattle.semantics.specs.Canonical.{header_text}
use Rattle.semantics.specs.declared.query_fault.QueryFault.{QueryFault}
use Rattle.semantics.specs.declared.query_fault.QueryFault.TheVariants.{RepeatedHeader}
use Rattle.query_typecheck.specs.FirstFaults.{fault_unless, first_fault, header_fault, headers_fault}

-- The headers of items.
abbrev pub headers_of : List Item → List (List ℕ)
headers_of items = map header_text (map item_form items)

-- The header of the item at a place.
pub header_at : (items : List Item) (i : ℕ) (item : Item) → i < length items → item ≡ get_or items i item → get_or (headers_of items) i (header_text (item_form item)) ≡ header_text (item_form item)
header_at items i item below e =
    let n = length-map items item_form in
    let more : i < length (map item_form items) = omega (arith, n) in
    get_or-map header_text (map item_form items) i (item_form item) (header_text (item_form item)) more
    ∙ ap header_text (get_or-map item_form items i item (item_form item) below)
    ∙ ap (λ (x : Item). header_text (item_form x)) (sym e)

-- A test of strings is the test of their bytes.
pub any_bytes : (test : List ℕ → Bool) (strings : List (String Global)) → list_any (λ s. test (string_bytes s)) strings ≡ list_any test (map string_bytes strings)
any_bytes test [] = refl
any_bytes test (s ∷ more) = ap (λ b. test (string_bytes s) || b) (any_bytes test more)

-- The first fault of the headers from a place on.
abbrev pub later_fault : List (List ℕ) → ℕ → Option QueryFault
later_fault headers i = first_fault (λ p. header_fault (take p.0 headers) p.1) (enumerate_from i (drop i headers))

-- It is that of the header there, or a later one.
pub header_turn : (headers : List (List ℕ)) (i : ℕ) (h : List ℕ) → i < length headers → get_or headers i h ≡ h → later_fault headers i ≡ option_or (header_fault (take i headers) h) (later_fault headers (i + 1))
header_turn headers i h below e =
    at_drop_more (λ (rest : List (List ℕ)). first_fault (λ p. header_fault (take p.0 headers) p.1) (enumerate_from i rest)) headers i h below
    ∙ ap (λ (g : List ℕ). option_or (header_fault (take i headers) g) (later_fault headers (i + 1))) e

-- Behind the last header there is no fault.
pub headers_end : (headers : List (List ℕ)) (i : ℕ) → length headers ≤ i → later_fault headers i ≡ None
headers_end headers i past = at_drop_all (λ (rest : List (List ℕ)). first_fault (λ p. header_fault (take p.0 headers) p.1) (enumerate_from i rest)) headers i past

-- A place among the items is a place among their headers.
pub within_headers : (items : List Item) (i : ℕ) → i < length items → i < length (headers_of items)
within_headers items i below =
    let n = length-map items item_form in
    let m = length-map (map item_form items) header_text in
    omega (arith, n, m)

-- A turn that meets a header again.
pub header_met : (headers : List (List ℕ)) (i : ℕ) (h : List ℕ) → i < length headers → get_or headers i h ≡ h → later_fault headers i ≡ headers_fault headers → list_any (bytes_eq h) (take i headers) ≡ true → headers_fault headers ≡ Some (RepeatedHeader h)
header_met headers i h below e told met = sym told ∙ header_turn headers i h below e ∙ ap (λ (t : Bool). option_or (fault_unless (not t) (RepeatedHeader h)) (later_fault headers (i + 1))) met

-- A turn that meets a new header.
pub header_new : (headers : List (List ℕ)) (i : ℕ) (h : List ℕ) → i < length headers → get_or headers i h ≡ h → later_fault headers i ≡ headers_fault headers → list_any (bytes_eq h) (take i headers) ≡ false → later_fault headers (i + 1) ≡ headers_fault headers
header_new headers i h below e told new = sym (ap (λ (t : Bool). option_or (fault_unless (not t) (RepeatedHeader h)) (later_fault headers (i + 1))) new) ∙ sym (header_turn headers i h below e) ∙ told

-- The headers up to this one.
pub headers_more : (headers done : List (List ℕ)) (i : ℕ) (h : List ℕ) → i < length headers → get_or headers i h ≡ h → done ≡ take i headers → done ++ h ∷ [] ≡ take (i + 1) headers
headers_more headers done i h below e so_far = ap (λ (xs : List (List ℕ)). xs ++ h ∷ []) so_far ∙ ap (λ (g : List ℕ). take i headers ++ g ∷ []) (sym e) ∙ sym (take_more headers i h below)
