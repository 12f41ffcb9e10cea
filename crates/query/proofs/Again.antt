-- The canonical text of a query is read as that query again.
use Rattle.std.proofs.Common.{◌≤◌, ℕ, List, [], length, refl, subst}
use Rattle.std.proofs.Math.Logic.{∥∥₁_elim}
use Rattle.std.proofs.lemmas.List.{append-nil}
use Rattle.semantics.specs.Syntax.{Query}
use Rattle.semantics.specs.Canonical.{canonical_text}
use Rattle.semantics.specs.Reading.{Derives}
use Rattle.query.specs.Texts.{IsTextOf}
use Rattle.query.proofs.Good.{GoodTree}
use Rattle.query.proofs.Onto.{query_onto}
use Rattle.query.proofs.Spelled.{Spelled, spelled_end}
use Rattle.query.proofs.GoesQuery.{query_goes}
use Rattle.query.proofs.DeriveQuery.{query_d}
use Rattle.query.proofs.Sane.{spelled_sane}
use Rattle.query.proofs.GoodQuery.{query_leaves}
use Rattle.query.proofs.Props.{tree_one}

text_good : (text : List ℕ) (q : Query) → IsTextOf text q → GoodTree q
text_good text q h = (query_leaves h.tokens [] q h.derived (spelled_sane h.spelled)).0

good_spelled : (q : Query) → GoodTree q → Spelled (canonical_text q) (query_onto q [])
good_spelled q g = subst (λ text. Spelled text (query_onto q [])) (append-nil (canonical_text q)) ((query_goes q g).goes [] [] refl spelled_end)

good_text : (q : Query) → GoodTree q → IsTextOf (canonical_text q) q
good_text q g =
    let spelled = (good_spelled q g).from 0 in
    record { tokens = query_onto q []; starts = spelled.0; spelled = spelled.1; derived = query_d q [] g }

-- So it is where some text has a property that makes it a text of the query.
pub again_where : (q : Query) (P : List ℕ → Type 0) → ((text : List ℕ) → P text → IsTextOf text q) → ∥ ((text : List ℕ) × P text) ∥₁ → IsTextOf (canonical_text q) q
again_where q P is h = good_text q (∥∥₁_elim h (tree_one q) (λ x. text_good x.0 q (is x.0 x.1)))

pub again : (q : Query) → ∥ ((text : List ℕ) × IsTextOf text q) ∥₁ → IsTextOf (canonical_text q) q
again q h = again_where q (λ text. IsTextOf text q) (λ text is. is) h

-- So `print` has a text that is read again, where it is not too long.
text_of : (q : Query) (text : List ℕ) → Derives text q → IsTextOf text q
text_of q text d = record { tokens = d.tokens; starts = d.starts; spelled = d.spelled; derived = d.derived }

pub derives-again : (q : Query) → ∥ ((text : List ℕ) × Derives text q) ∥₁ → length (canonical_text q) ≤ 65536 → Derives (canonical_text q) q
derives-again q h short =
    let t = again_where q (λ text. Derives text q) (text_of q) h in
    record { short = short; tokens = t.tokens; starts = t.starts; spelled = t.spelled; derived = t.derived }
