-- The pieces of a hand, each at most once.
use Rattle.std.proofs.Common.{◌≡◌, ◌≢◌, ℕ, zero, suc, ◌+◌, ◌-◌, ◌*◌, ◌/◌, ◌%◌, ◌^◌, ◌<◌, ◌≤◌, List, [], ◌∷◌, ◌++◌, length, set, sym, refl, ap, ◌∙◌, subst, ⊎_elim, append_assoc, sum_by, arith, mul-le-mul_left, add-zero}
use Rattle.std.proofs.lemmas.List.Sums.{sum_by-cons}
use Rattle.std.proofs.Math.Nat.{div-add-mod, mod-eq_of_lt}
use Rattle.std.proofs.lemmas.Bool.{cases_eq, cases_lt}
use mathlib.Core.Option.{some, some-injective, some-ne-none}
use lib.ListN.{get_elem?}
use Rattle.pool.specs.Reduction.{Reduction}
use Rattle.pool.specs.Dealing.{residue_class, times}
use Rattle.pool.specs.Combination.{reduction_from}
use Rattle.pool.specs.Totals.{sum_below, once_below}
use Rattle.pool.specs.Lawful.{Lawful}
use Rattle.pool.specs.Seen.{Seen, list}
use Rattle.pool.specs.Holding.{Holding, IsHolding, IsRound, Gained, lists_of, numbers_of}
use Rattle.pool.specs.Done.{Did, MayGoOn}
use Rattle.pool.specs.Fanned.{Follows}
use Rattle.pool.specs.Answered.{Answers}
use Rattle.pool.specs.declared.deal.Next.{Next}
use Rattle.pool.specs.declared.deal.Next.TheVariants.{Piece, Spent}
use Rattle.pool.proofs.Nexts.{belongs_next}
use Rattle.pool.proofs.Machine.{times-append, taken_within}
use Rattle.pool.proofs.Deals.{dealt_times}
use Rattle.pool.proofs.Gather.{sum_by-middle, sum_by-within, onto-middle, onto_fits, onto_load}

-- no two of k numbers in a row are congruent modulo k
mod_apart : (a d k : ℕ) → 0 < d → d < k → (a + d) % k ≢ a % k
mod_apart a d k pos few e =
    let p : k * ((a + d) / k) + (a + d) % k ≡ a + d = div-add-mod (a + d) k in
    let q : k * (a / k) + a % k ≡ a = div-add-mod a k in
    ⊎_elim (λ (l : (a + d) / k < a / k + 1). let m = mul-le-mul_left k (let b : (a + d) / k ≤ a / k = omega arith in b) in omega (arith, m))
    (λ (g : a / k + 1 ≤ (a + d) / k). let m = mul-le-mul_left k g in omega (arith, m))
    (cases_lt ((a + d) / k) (a / k + 1))

round_within : (number hands pieces z r : ℕ) (ss : List Seen) → IsRound number hands pieces r ss → r + length ss ≤ hands
    → (times z (lists_of ss) ≤ once_below z pieces) × (((j : ℕ) → r ≤ j → j < r + length ss → (number + j) % hands ≢ z % hands) → times z (lists_of ss) ≡ 0)
round_within number hands pieces z r [] round fits = (omega arith, λ _. refl)
round_within number hands pieces z r (s ∷ ss) round fits =
    let rest = round_within number hands pieces z (r + 1) ss round.2 (omega arith) in
    let both = times-append z (list s) (lists_of ss) in
    let most : times z (list s) ≤ times z (residue_class hands ((number + r) % hands) pieces) = subst (λ l. times z (list s) ≤ times z l) round.1 (taken_within z s.numbers s.history s.place) in
    let its = dealt_times hands ((number + r) % hands) pieces z in (
      ⊎_elim (λ (e : z % hands ≡ (number + r) % hands).
          let none = rest.1 (λ j low high same. mod_apart (number + r) (let d : ℕ = j - r in d) hands (omega arith) (omega arith) (ap (λ n. n % hands) (let s : number + r + (j - r) ≡ number + j = omega arith in s) ∙ same ∙ e)) in
          let a = its.0 e in omega arith)
          (λ (n : z % hands ≢ (number + r) % hands). let a = its.1 n in let b = rest.0 in omega arith) (cases_eq (z % hands) ((number + r) % hands)),
      (λ away. let a = its.1 (λ (e : z % hands ≡ (number + r) % hands). away r (omega arith) (omega arith) (sym e)) in
          let b = rest.1 (λ j low high. away j (omega arith) (omega arith)) in
          omega arith),
    )

mod_small : (a k : ℕ) → a < k → (a + 0) % k ≡ a
mod_small a k h = rw add-zero (mod-eq_of_lt h)

pub holding_within : (h : Holding) (z : ℕ) → IsHolding h → times z (numbers_of h) ≤ once_below z h.pieces
holding_within h z is =
    let s : h.own.seen.numbers ≡ residue_class h.hands ((h.number + 0) % h.hands) h.pieces = is.2 ∙ ap (λ n. residue_class h.hands n h.pieces) (sym (mod_small h.number h.hands is.0)) in
    (round_within h.number h.hands h.pieces z 0 (h.own.seen ∷ h.others) (is.1, s, is.4) (omega (arith, is.3))).0

-- x joined the list
abbrev pub Grown : List ℕ → ℕ → List ℕ → Type 0
Grown old x new = (ys : List ℕ) × (zs : List ℕ) × (old ≡ ys ++ zs) × (new ≡ ys ++ x ∷ zs)

lists_grown : (ss : List Seen) (r x : ℕ) (old s : Seen) → get_elem? ss r ≡ some old → list s ≡ list old ++ x ∷ [] → Grown (lists_of ss) x (lists_of (set ss r s))
lists_grown [] r x old s at e = absurd (some-ne-none old (sym at))
lists_grown (t ∷ ts) zero x old s at e =
    let same = ap (λ (u : Seen). list u) (some-injective t old at) in
    ((list t), lists_of ts, refl, ap (λ l. l ++ lists_of ts) (e ∙ ap (λ l. l ++ x ∷ []) (sym same)) ∙ append_assoc (list t) (x ∷ []) (lists_of ts))
lists_grown (t ∷ ts) (suc r) x old s at e =
    let g = lists_grown ts r x old s at e in
    ((list t) ++ g.0, g.1, ap (λ l. (list t) ++ l) g.2 ∙ sym (append_assoc (list t) g.0 g.1), ap (λ l. (list t) ++ l) g.3 ∙ sym (append_assoc (list t) g.0 (x ∷ g.1)))

pub holding_grown : (h k : Holding) (x : ℕ) → Gained h x k → Grown (numbers_of h) x (numbers_of k)
holding_grown h k x = λ g. ⊎_elim
    (λ (o : _). let e = o.1.3 in
    (list h.own.seen, lists_of h.others, refl, ap numbers_of o.2 ∙ ap (λ l. l ++ lists_of h.others) e ∙ append_assoc (list h.own.seen) (x ∷ []) (lists_of h.others)))
    (λ (f : _). let o = f.2 in let e = o.4.3 in let g = lists_grown h.others o.0 x o.1 o.2 o.3 e in
    let had = f.1.3 in
    (list h.own.seen ++ g.0, g.1, ap (λ l. list h.own.seen ++ l) g.2 ∙ sym (append_assoc (list h.own.seen) g.0 g.1), ap numbers_of o.5 ∙ ap (λ l. l ++ lists_of (set h.others o.0 o.2)) had ∙ ap (λ l. list h.own.seen ++ l) g.3 ∙ sym (append_assoc (list h.own.seen) g.0 (x ∷ g.1))))
    g

pub grown_sum : (f : ℕ → ℕ) (old new : List ℕ) (x : ℕ) → Grown old x new → sum_by f new ≡ sum_by f old + f x
grown_sum f old new x g = let b = ap (sum_by f) g.3 ∙ sum_by-middle f x g.0 g.1 in let d = ap (sum_by f) g.2 in omega arith

grown_at_most : (f : ℕ → ℕ) (old new : List ℕ) (x n : ℕ) → Grown old x new → ((z : ℕ) → times z new ≤ once_below z n) → sum_by f old + f x ≤ sum_below f n
grown_at_most f old new x n g within = let a = sum_by-within f n new within in let b = grown_sum f old new x g in omega arith

pub follows_next : (h k : Holding) (answer : Next) → Answers h k answer → IsHolding k → Follows h k
follows_next h k answer a i names pieces hands number b = belongs_next names pieces hands number h k answer a i b

pub gained_pieces : (h k : Holding) (x : ℕ) → Gained h x k → k.pieces ≡ h.pieces
gained_pieces h k x = λ g. ⊎_elim (λ (o : _). ap (λ (u : Holding). u.pieces) o.2) (λ (o : _). ap (λ (u : Holding). u.pieces) o.2.5) g

module _ {M : Type 0} {reduction : Reduction M} (laws : Lawful reduction) where
  pub weights_at_most_loads : (xs : List ℕ) → sum_by (λ i. reduction.weight (reduction.piece i)) xs ≤ sum_by (λ i. reduction.load (reduction.piece i)) xs
  weights_at_most_loads [] = omega arith
  weights_at_most_loads (x ∷ xs) =
      let one = laws.weight_at_most_load (reduction.piece x) (laws.piece_fits x) in
      omega (arith, one, weights_at_most_loads xs, sum_by-cons (λ i. reduction.weight (reduction.piece i)) x xs, sum_by-cons (λ i. reduction.load (reduction.piece i)) x xs)

  turn_room : (old new : List ℕ) (x n s : ℕ) → Grown old x new → ((z : ℕ) → times z new ≤ once_below z n) → s + sum_below (λ i. reduction.load (reduction.piece i)) n < 2 ^ 63 + sum_by (λ i. reduction.weight (reduction.piece i)) old → s + reduction.load (reduction.piece x) < 2 ^ 63
  turn_room old new x n s g within room =
      let a = grown_at_most (λ i. reduction.load (reduction.piece i)) old new x n g within in
      let c = weights_at_most_loads old in
      omega arith

module _ {M : Type 0} {reduction : Reduction M} (laws : Lawful reduction) (begin : M) (its : reduction.fits begin) where
  grown_gathered : (old new : List ℕ) (x : ℕ) → Grown old x new → reduction_from reduction begin new ≡ reduction.combine (reduction_from reduction begin old) (reduction.piece x)
  grown_gathered old new x g = ap (reduction_from reduction begin) g.3 ∙ onto-middle laws begin its x g.0 g.1 ∙ ap (λ l. reduction.combine (reduction_from reduction begin l) (reduction.piece x)) (sym g.2)

  -- a new hand, with what it begins with
  pub may_begin : (h : Holding) (s : ℕ) (m : M) → numbers_of h ≡ [] → m ≡ begin → reduction.load begin + sum_below (λ i. reduction.load (reduction.piece i)) h.pieces < 2 ^ 63 → sum_below (λ i. reduction.load (reduction.piece i)) h.pieces + s < 2 ^ 63 → MayGoOn begin reduction h s m
  may_begin h s m new first loads room =
      let none = ap (sum_by (λ i. reduction.weight (reduction.piece i))) new in
      record { part = first ∙ ap (reduction_from reduction begin) (sym new); loads = loads; room = omega (arith, none, room) }

  -- the part of a worker that may go on has no great load
  pub light_part : (h : Holding) (s : ℕ) (m : M) → MayGoOn begin reduction h s m → IsHolding h → reduction.load m < 2 ^ 63
  light_part h s m may holding =
      let a = sum_by-within (λ i. reduction.load (reduction.piece i)) h.pieces (numbers_of h) (λ z. holding_within h z holding) in
      let b = may.loads in
      let e = ap reduction.load may.part ∙ onto_load laws begin its (numbers_of h) in
      omega (arith, a, b, e)

  -- a worker that may go on, and went on, may go on again
  pub may_again : (h : Holding) (s : ℕ) (m : M) (k : Holding) (t : ℕ) (n : M) → k.pieces ≡ h.pieces → MayGoOn begin reduction h s m → Did begin reduction h s k t n → MayGoOn begin reduction k t n
  may_again h s m k t n same may did =
      let e = ap (sum_below (λ i. reduction.load (reduction.piece i))) same in
      let a = may.loads in
      let b = may.room in
      let c = did.sum in
      record { part = did.part; loads = omega (arith, e, a); room = omega (arith, e, b, c) }

  -- the piece that the hand has gained goes onto the part, and its weight to the share
  module _ (h : Holding) (s : ℕ) (m : M) (k : Holding) (x : ℕ) (may : MayGoOn begin reduction h s m) (gained : Gained h x k) (holding : IsHolding k) where
    within : (z : ℕ) → times z (numbers_of k) ≤ once_below z h.pieces
    within z = subst (λ (n : ℕ). times z (numbers_of k) ≤ once_below z n) (gained_pieces h k x gained) (holding_within k z holding)

    pub piece_fits_on : reduction.fits m
    piece_fits_on = subst reduction.fits (sym may.part) (onto_fits laws begin its (numbers_of h))

    pub piece_load : reduction.load m + reduction.load (reduction.piece x) < 2 ^ 63
    piece_load =
        let a = grown_at_most (λ i. reduction.load (reduction.piece i)) (numbers_of h) (numbers_of k) x h.pieces (holding_grown h k x gained) within in
        let b = may.loads in
        let e = ap reduction.load may.part ∙ onto_load laws begin its (numbers_of h) in
        omega (arith, a, b, e)

    pub piece_room : s + reduction.load (reduction.piece x) < 2 ^ 63
    piece_room = turn_room laws (numbers_of h) (numbers_of k) x h.pieces s (holding_grown h k x gained) within may.room

    pub did_piece : (n : M) (t : ℕ) → n ≡ reduction.combine m (reduction.piece x) → t ≡ s + reduction.weight (reduction.piece x) → Did begin reduction h s k t n
    did_piece n t more sum =
        let g = holding_grown h k x gained in
        let c = grown_sum (λ i. reduction.weight (reduction.piece i)) (numbers_of h) (numbers_of k) x g in
        record {
          follows = follows_next h k (Piece x) gained holding;
          part = more ∙ ap (λ l. reduction.combine l (reduction.piece x)) may.part ∙ sym (grown_gathered (numbers_of h) (numbers_of k) x g);
          sum = omega (arith, c, sum);
        }

  -- a hand that is spent has what it had
  pub did_nothing : (h k : Holding) (s : ℕ) (m : M) → MayGoOn begin reduction h s m → Answers h k Spent → IsHolding k → Did begin reduction h s k s m
  did_nothing h k s m may answer holding =
      let same : numbers_of k ≡ numbers_of h = ap numbers_of answer.2 ∙ ap (λ l. l ++ lists_of h.others) answer.1.3 in
      let c = ap (sum_by (λ i. reduction.weight (reduction.piece i))) same in
      record { follows = follows_next h k Spent answer holding; part = may.part ∙ ap (reduction_from reduction begin) (sym same); sum = omega (arith, c) }

module _ {M : Type 0} (begin : M) (reduction : Reduction M) where
  -- who goes on twice does as by going on once
  pub did_twice : (h : Holding) (s : ℕ) (k : Holding) (t : ℕ) (m : M) (l : Holding) (u : ℕ) (n : M) → Did begin reduction h s k t m → Did begin reduction k t l u n → Did begin reduction h s l u n
  did_twice h s k t m l u n a b =
      let c = a.sum in
      let d = b.sum in
      record { follows = λ names pieces hands number is. b.follows names pieces hands number (a.follows names pieces hands number is); part = b.part; sum = omega (arith, c, d) }
