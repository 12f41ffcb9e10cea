-- The entries of a hashed map from keys to groups, and what is found in them by a key.
use Rattle.group_tables.specs.declared.packed_key.PackedKey.{PackedKey}
use Rattle.group_tables.specs.Keys.{key_in}
use Rattle.std.proofs.Common.{Result, Ok, Err, OnOk, OnErr, ◌≡◌, ◌+◌, IfSome, Bool, length, add-one, arith, true, false, cond, List, [], ◌∷◌, Option, Some, None, refl, sym, ap, subst, ◌∙◌}
use Rattle.std.proofs.lemmas.List.{length-map}
use Rattle.std.specs.Cmp.{eq_by_cmp_equiv}
use Rattle.std.specs.FinMap.{find, get, len, get-from_entries, len-empty, len-insert}
use Rattle.std.specs.Option.{is_some}
use Rattle.std.specs.Map.{lookup, keys_of, KeepsOthers}
use Rattle.std.specs.List.{IsDistinct}
use Rattle.query_resolve.specs.declared.function.FilteredFunction.{FilteredFunction}
use Rattle.semantics.specs.Groups.{Key, key_order, same_key}
use Rattle.group_tables.specs.Inside.Accumulator.{no_state}
use Rattle.group_tables.specs.Group.{GroupState}
use Rattle.group_tables.specs.Inside.Group.{no_group}
pub use Rattle.group_tables.specs.Inside.Keys.{key_eq}
use Rattle.group_tables.specs.declared.part.Part.{Part}
use Rattle.group_tables.specs.declared.part.Part.TheVariants as taken
use Rattle.group_tables.specs.Table.{Contents, IsFitting, joint_option, entries_by_key, contents_of}
use Rattle.group_tables.specs.Inside.Table.{IsPut, IsTaken, IsWithPart, group_with_part}
use Rattle.group_tables.proofs.Order.{key_total, same_key-Decides, key_eq-ties}

abbrev pub Entries : Type 0
Entries = List (PackedKey × GroupState)

-- what a search by a key finds
pub lookup-shown : (key : PackedKey) (es : Entries) → lookup (λ k. key_eq key k) es ≡ find key_order (key_in key) (entries_by_key es)
lookup-shown key [] = refl
lookup-shown key (e ∷ es) =
    ap (λ b. cond b (Some e.1) (lookup (λ k. key_eq key k) es)) (key_eq-ties key e.0)
    ∙ ap (cond (same_key (key_in key) (key_in e.0)) (Some e.1)) (lookup-shown key es)

abbrev other_than : Key → PackedKey → Bool
other_than q k = same_key q (key_in k)

lookup-other : (q : Key) (es : Entries) → lookup (other_than q) es ≡ find key_order q (entries_by_key es)
lookup-other q [] = refl
lookup-other q (e ∷ es) = ap (cond (other_than q e.0) (Some e.1)) (lookup-other q es)

-- after a change at one key
find-updated : (es fs : Entries) (key : PackedKey) (w : Option GroupState) → lookup (λ k. key_eq key k) fs ≡ w
    → KeepsOthers (λ x y. key_eq x y) (λ k. key_eq key k) es fs
    → (q : Key) → find key_order q (entries_by_key fs) ≡ cond (same_key q (key_in key)) w (find key_order q (entries_by_key es))
unfolding KeepsOthers
find-updated es fs key w at others q =
    let laws = eq_by_cmp_equiv key_total in
    let k = key_in key in
    elim (same_key q k) as (λ b. same_key q k ≡ b → find key_order q (entries_by_key fs) ≡ cond b w (find key_order q (entries_by_key es))) [
      | true ↦ λ e. ap (λ p. find key_order p (entries_by_key fs)) ((same_key-Decides q k).0 e) ∙ sym (lookup-shown key fs) ∙ at
      | false ↦ λ e. sym (lookup-other q fs)
          ∙ others (other_than q)
          (λ x y h. laws.congr q (key_in x) (key_in y) h ∙ sym (key_eq-ties x y))
          (λ x h. laws.symm q (key_in x) ∙ sym (laws.congr k (key_in x) q (sym (key_eq-ties key x) ∙ h)) ∙ laws.symm k q ∙ e)
          ∙ lookup-other q es
    ] refl

-- the same of the contents
pub get-updated : (es fs : Entries) (key : PackedKey) (w : Option GroupState) → lookup (λ k. key_eq key k) fs ≡ w
    → KeepsOthers (λ x y. key_eq x y) (λ k. key_eq key k) es fs
    → (q : Key) → get (contents_of fs) q ≡ cond (same_key q (key_in key)) w (get (contents_of es) q)
get-updated es fs key w at others q = get-from_entries key_total (entries_by_key fs) q ∙ find-updated es fs key w at others q
    ∙ ap (cond (same_key q (key_in key)) w) (sym (get-from_entries key_total (entries_by_key es) q))

-- and nothing elsewhere
pub updated-elsewhere : (es fs : Entries) (key : PackedKey) (w : Option GroupState) → lookup (λ k. key_eq key k) fs ≡ w
    → KeepsOthers (λ x y. key_eq x y) (λ k. key_eq key k) es fs
    → (q : Key) → same_key q (key_in key) ≡ false → get (contents_of fs) q ≡ get (contents_of es) q
updated-elsewhere es fs key w at others q e = get-updated es fs key w at others q ∙ ap (λ b. cond b w (get (contents_of es) q)) e

-- also where the change may have failed, and nothing has changed then
pub elsewhere-after : {A E : Type 0} (r : Result A E) (es ms fs : Entries) (key : PackedKey) (w : Option GroupState) → ms ≡ es
    → OnOk r ((lookup (λ k. key_eq key k) fs ≡ w) × KeepsOthers (λ x y. key_eq x y) (λ k. key_eq key k) ms fs)
    → OnErr r (fs ≡ ms)
    → (q : Key) → same_key q (key_in key) ≡ false → get (contents_of fs) q ≡ get (contents_of es) q
elsewhere-after (Ok x) es ms fs key w is ok err q e = updated-elsewhere ms fs key w ok.0 ok.1 q e ∙ ap (λ m. get (contents_of m) q) is
elsewhere-after (Err x) es ms fs key w is ok err q e = ap (λ m. get (contents_of m) q) (err ∙ is)

pub get-shown : (key : PackedKey) (es : Entries) → get (contents_of es) (key_in key) ≡ lookup (λ k. key_eq key k) es
get-shown key es = get-from_entries key_total (entries_by_key es) (key_in key) ∙ sym (lookup-shown key es)

pub put_is : (old new : Contents) (key : Key) (part : GroupState) (w : Option GroupState)
    → ((q : Key) → get new q ≡ cond (same_key q key) w (get old q))
    → w ≡ joint_option (get old key) (Some part) → (k : Key) → IsPut old new key part k
put_is old new key part w h e k =
    h k ∙ elim (same_key k key) as (λ b. same_key k key ≡ b → cond b w (get old k) ≡ cond b (joint_option (get old k) (Some part)) (get old k)) [
      | true ↦ λ i. e ∙ ap (λ l. joint_option (get old l) (Some part)) (sym ((same_key-Decides k key).0 i))
      | false ↦ λ i. refl
    ] refl

pub with_part_is : (functions : List FilteredFunction) (old new : Contents) (key : Key) (part : Part) (w : Option GroupState)
    → ((q : Key) → get new q ≡ cond (same_key q key) w (get old q))
    → w ≡ Some (group_with_part functions (get old key) part) → (k : Key) → IsWithPart functions old new key part k
with_part_is functions old new key part w h e k =
    h k ∙ elim (same_key k key) as (λ b. same_key k key ≡ b → cond b w (get old k) ≡ cond b (Some (group_with_part functions (get old k) part)) (get old k)) [
      | true ↦ λ i. e ∙ ap (λ l. Some (group_with_part functions (get old l) part)) (sym ((same_key-Decides k key).0 i))
      | false ↦ λ i. refl
    ] refl

-- what a search by a key of the code finds
pub got-by : (es : Entries) (table : Contents) (key : Key) (code : PackedKey) → contents_of es ≡ table → key_in code ≡ key → get table key ≡ lookup (λ k. key_eq code k) es
got-by es table key code view is = ap (λ m. get m key) (sym view) ∙ ap (get (contents_of es)) (sym is) ∙ get-shown code es

-- after one more part was put to what a search by a key of the code finds
pub group_with_part-by : (functions : List FilteredFunction) (part : Part) (es fs : Entries) (old : Contents) (key : Key) (code : PackedKey) (group : GroupState)
    → contents_of es ≡ old → key_in code ≡ key → lookup (λ k. key_eq code k) fs ≡ Some group
    → KeepsOthers (λ x y. key_eq x y) (λ k. key_eq code k) es fs
    → group ≡ group_with_part functions (get old key) part → (k : Key) → IsWithPart functions old (contents_of fs) key part k
group_with_part-by functions part es fs old key code group view is at others h =
    with_part_is functions old (contents_of fs) key part (Some group)
    (λ q. get-updated es fs code (Some group) at others q
    ∙ ap (λ l. cond (same_key q l) (Some group) (get (contents_of es) q)) is
    ∙ ap (λ m. cond (same_key q key) (Some group) (get m q)) view)
    (ap Some h)

-- a new group takes a part as one without members does
pub taken-first : (functions : List FilteredFunction) (part : Part) → IsTaken functions None part → IsTaken functions (Some (no_group functions)) part
taken-first functions (taken.Record row marks) h = (h.0, (omega arith, length-map functions (λ f. no_state f.filter f.function)))
taken-first functions (taken.Copies members) h = ((omega (arith, h.1), h.2 ∙ sym (length-map functions (λ f. no_state f.filter f.function))), h.1, h.2)

-- ---- merging the entries of another table, one after another

pub options-none : (a : Option GroupState) → joint_option a None ≡ a
options-none None = refl
options-none (Some a) = refl

-- a key that the first entry has is in no other
pub none_after : (k : Key) (e : PackedKey × GroupState) (es : Entries) → IsDistinct key_eq (keys_of (e ∷ es)) → same_key k (key_in e.0) ≡ true → find key_order k (entries_by_key es) ≡ None
unfolding IsDistinct
none_after k e [] d h = refl
none_after k e (f ∷ es) d h =
    let laws = eq_by_cmp_equiv key_total in
    ap (λ b. cond b (Some f.1) (find key_order k (entries_by_key es)))
    (laws.congr k (key_in e.0) (key_in f.0) h ∙ sym (key_eq-ties e.0 f.0) ∙ d.0.0)
    ∙ none_after k e es (d.0.1, d.1.1) h

-- taking the first entry of the rest
pub merged_step : (old new : Contents) (k : Key) (e : PackedKey × GroupState) (es : Entries)
    → IsDistinct key_eq (keys_of (e ∷ es)) → IsPut old new (key_in e.0) e.1 k
    → joint_option (get new k) (find key_order k (entries_by_key es)) ≡ joint_option (get old k) (find key_order k (entries_by_key (e ∷ es)))
merged_step old new k e es d a = ap (λ o. joint_option o (find key_order k (entries_by_key es))) a
    ∙ elim (same_key k (key_in e.0)) as (λ b. same_key k (key_in e.0) ≡ b →
    joint_option (cond b (joint_option (get old k) (Some e.1)) (get old k)) (find key_order k (entries_by_key es)) ≡ joint_option (get old k) (cond b (Some e.1) (find key_order k (entries_by_key es)))) [
      | true ↦ λ i. ap (joint_option (joint_option (get old k) (Some e.1))) (none_after k e es d i) ∙ options-none (joint_option (get old k) (Some e.1))
      | false ↦ λ i. refl
    ] refl

-- what is left fits still, since its keys are others than the first entry's
pub fits_step : (old new : Contents) (k : Key) (e : PackedKey × GroupState) (es : Entries)
    → IsDistinct key_eq (keys_of (e ∷ es)) → IsPut old new (key_in e.0) e.1 k
    → IfSome (find key_order k (entries_by_key (e ∷ es))) (λ p. IsFitting p (get old k)) → IfSome (find key_order k (entries_by_key es)) (λ p. IsFitting p (get new k))
fits_step old new k e es d a h =
    elim (same_key k (key_in e.0)) as (λ b. same_key k (key_in e.0) ≡ b → get new k ≡ cond b (joint_option (get old k) (Some e.1)) (get old k)
    → IfSome (cond b (Some e.1) (find key_order k (entries_by_key es))) (λ p. IsFitting p (get old k)) → IfSome (find key_order k (entries_by_key es)) (λ p. IsFitting p (get new k))) [
      | true ↦ λ i a h. subst (λ (o : Option GroupState). IfSome o (λ p. IsFitting p (get new k))) (sym (none_after k e es d i)) tt
      | false ↦ λ i a h. subst (λ (g : Option GroupState). IfSome (find key_order k (entries_by_key es)) (λ p. IsFitting p g)) (sym a) h
    ] refl a h

pub find-first : (e : PackedKey × GroupState) (es : Entries) → find key_order (key_in e.0) (entries_by_key (e ∷ es)) ≡ Some e.1
find-first e es = ap (λ b. cond b (Some e.1) (find key_order (key_in e.0) (entries_by_key es))) ((eq_by_cmp_equiv key_total).refl (key_in e.0))

-- the contents have as many keys as there are entries
pub len-entries : (es : Entries) → IsDistinct key_eq (keys_of es) → len (contents_of es) ≡ length es
unfolding IsDistinct
len-entries [] d = len-empty key_order GroupState
len-entries (e ∷ es) d =
    let k = key_in e.0 in
    let m = contents_of es in
    let absent : get m k ≡ None = get-from_entries key_total (entries_by_key es) k ∙ none_after k e es d ((eq_by_cmp_equiv key_total).refl k) in
    len-insert key_total m k e.1
    ∙ ap (λ (o : Option GroupState). cond (is_some o) (len m) (len m + 1)) absent
    ∙ ap (λ n. n + 1) (len-entries es d.1)
    ∙ add-one (length es)
