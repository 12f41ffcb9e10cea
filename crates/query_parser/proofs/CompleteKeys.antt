-- Keys that derive from tokens are read.
use Rattle.std.proofs.Common.{arith, length, ◌≤◌, ◌≡◌, Bool, List, [], ◌∷◌, None, Ok, refl}
use Rattle.semantics.specs.declared.token.Token.{Token}
use Rattle.semantics.specs.declared.token.Token.TheVariants as tokens
use Rattle.semantics.specs.declared.token.Word.TheVariants as w
use Rattle.semantics.specs.declared.token.Sign.TheVariants as s
use Rattle.semantics.specs.Syntax.{SortKey}
use Rattle.semantics.specs.Leaves.{Limits}
use Rattle.query_parser.specs.Inside.Fronts.{is_word, is_sign, after}
use Rattle.query_parser.proofs.Agree.{Wider}
use Rattle.query_parser.proofs.CompleteLists.{Shrinks, repeated_follow, unlimited_c}
use Rattle.query_parser.proofs.CompleteExpressions.{EndsFunction, expression_c, expression_short}
use Rattle.query_parser.proofs.CompletePredicates.{predicate_short, bracketed_c}
use Rattle.query_parser.specs.Inside.PredicateSteps.{inside_of}
use Rattle.query_parser.specs.Inside.ExpressionSteps.{begins_expression}
use Rattle.semantics.specs.Productions.{IsPredicate}
use Rattle.query_parser.specs.Inside.KeySteps.{direction_at, null_ordering_at, key_at, keys_at}
use Rattle.semantics.specs.Grammar.{IsDirection, IsNullOrdering, IsKey, IsOrderBy}

-- Neither ASC nor DESC goes on a direction that ends here.
pub record EndsDirection (r : List Token) : Type 0 where
  pub no_asc : after (is_word w.Asc) r ≡ None
  pub no_desc : after (is_word w.Desc) r ≡ None

-- Nothing goes on a key that ends here, and no FILTER on its set function.
pub record EndsKey (r : List Token) : Type 0 where
  pub no_filter : EndsFunction r
  pub direction : EndsDirection r
  pub no_nulls : after (is_word w.Nulls) r ≡ None

-- Neither a comma goes on the keys that end here, nor anything of a key, nor do they begin.
pub record EndsKeys (r : List Token) : Type 0 where
  pub key : EndsKey r
  pub no_order : after (is_word w.Order) r ≡ None
  pub no_comma : after (is_sign s.Comma) r ≡ None

direction_c : {ts r : List Token} {d : Bool} → IsDirection ts d r → EndsDirection r → direction_at ts ≡ (d, r)
unfolding direction_at
direction_c IsDirection.none q = rw (q.no_desc, q.no_asc) refl
direction_c IsDirection.ascending q = refl
direction_c IsDirection.descending q = refl

null_ordering_c : {ts r : List Token} {d n : Bool} → IsNullOrdering d ts n r → EndsKey r → null_ordering_at d ts ≡ Ok (n, r)
unfolding null_ordering_at
null_ordering_c IsNullOrdering.none q = rw q.no_nulls refl
null_ordering_c IsNullOrdering.first q = refl
null_ordering_c IsNullOrdering.last q = refl

-- A direction ends where the place of NULL is said, written or not.
null_ordering_begins : {ts r : List Token} {d n : Bool} → IsNullOrdering d ts n r → EndsKey r → EndsDirection ts
null_ordering_begins IsNullOrdering.none q = q.direction
null_ordering_begins IsNullOrdering.first q = record { no_asc = refl; no_desc = refl }
null_ordering_begins IsNullOrdering.last q = record { no_asc = refl; no_desc = refl }

-- No FILTER begins where the place of NULL is said, written or not, nor where the direction is.
null_ordering_filter : {ts r : List Token} {d n : Bool} → IsNullOrdering d ts n r → EndsKey r → EndsFunction ts
null_ordering_filter IsNullOrdering.none q = q.no_filter
null_ordering_filter IsNullOrdering.first q = refl
null_ordering_filter IsNullOrdering.last q = refl

direction_filter : {ts r : List Token} {d : Bool} → IsDirection ts d r → EndsFunction r → EndsFunction ts
direction_filter IsDirection.none q = q
direction_filter IsDirection.ascending q = refl
direction_filter IsDirection.descending q = refl

key_c : {narrow wide : Limits} → Wider narrow wide → (ts r : List Token) (k : SortKey) → IsKey narrow ts k r → EndsKey r → key_at wide ts ≡ Ok (k, r)
unfolding key_at
key_c {narrow} {wide} wider _ _ _ (IsKey.key e d n) q =
    rw (
      expression_c narrow (IsPredicate narrow narrow.levels) (inside_of wide wide.levels) wider (bracketed_c narrow wide wider narrow.levels wide.levels wider.levels) e (direction_filter d (null_ordering_filter n q)),
      direction_c d (null_ordering_begins n q),
      null_ordering_c n q,
    ) refl

direction_short : {ts r : List Token} {d : Bool} → IsDirection ts d r → length r ≤ length ts
direction_short IsDirection.none = omega arith
direction_short IsDirection.ascending = omega arith
direction_short IsDirection.descending = omega arith

null_ordering_short : {ts r : List Token} {d n : Bool} → IsNullOrdering d ts n r → length r ≤ length ts
null_ordering_short IsNullOrdering.none = omega arith
null_ordering_short IsNullOrdering.first = omega arith
null_ordering_short IsNullOrdering.last = omega arith

key_short : (limits : Limits) → Shrinks (IsKey limits)
key_short limits _ _ _ (IsKey.key {ts} {u} {v} {r} {e} p d n) =
    omega (arith, expression_short limits (IsPredicate limits limits.levels) (predicate_short limits limits.levels) ts u e p, direction_short d, null_ordering_short n)

comma_ends : (ts : List Token) → EndsKey (tokens.Sign s.Comma ∷ ts)
comma_ends ts = record { no_filter = refl; direction = record { no_asc = refl; no_desc = refl }; no_nulls = refl }

pub keys_c : {narrow wide : Limits} → Wider narrow wide → {ts r : List Token} {ks : List SortKey} → IsOrderBy narrow ts ks r → EndsKeys r → keys_at wide ts ≡ Ok (ks, r)
unfolding keys_at
keys_c wider IsOrderBy.none q = rw q.no_order refl
keys_c {narrow} {wide} wider (IsOrderBy.keys {ts} {mid} {r} {k} {ks} p b) q =
    rw (
      key_c wider ts mid k p (repeated_follow (tokens.Sign s.Comma) (IsKey narrow) EndsKey comma_ends b q.key),
      unlimited_c (tokens.Sign s.Comma) (is_sign s.Comma) begins_expression (IsKey narrow) (key_at wide) EndsKey refl comma_ends (key_c wider) (key_short narrow) b q.key q.no_comma,
    ) refl

pub nil_ends_keys : EndsKeys []
nil_ends_keys = record { key = record { no_filter = refl; direction = record { no_asc = refl; no_desc = refl }; no_nulls = refl }; no_order = refl; no_comma = refl }
