-- The owner takes in a seat, looks on, and gives the seat back.
use Rattle.std.proofs.Common.{◌≡◌, ℕ, suc, Bool, false, ◌+◌, ◌-◌, ◌<◌, List, [], ◌∷◌, ◌++◌, sym, ap, ◌∙◌, subst, arith}
use Rattle.std.specs.declared.alloc.Global.{Global}
use Rattle.pool.specs.declared.view.View.{View}
use Rattle.pool.specs.Dealing.{left_after}
use Rattle.pool.specs.Rule.{view_of, AllBelow}
use Rattle.pool.specs.Steps.{AreKnown, front, rest, lent_view}
use Rattle.pool.specs.Inside.Steps.{Up, Apart}
use Rattle.pool.specs.Views.{owned_of, place_of, history_of, IsThief, IsOwner}
use Rattle.pool.specs.Inside.Views.{Looked}
use Rattle.pool.specs.Inside.Looks.{KnowsAbove, OneRun}
use Rattle.pool.proofs.Rules.{up_apart}

module _ {closed : Bool} (place : ℕ) (v0 v1 v2 w : View) (positive : 0 < place) (ka : KnowsAbove place v0) (b1 : v1 ≡ view_of false v0.owner v0.ends v0.made v0.numbers v0.known)
    (th : IsThief w closed) (at : place_of w.known ≡ place) (b2 : v2 ≡ lent_view v1 w) where
  theirs : w.known ≡ (place, history_of w.known) ∷ []
  theirs = th.2 ∙ ap (λ p. (p, history_of w.known) ∷ []) at

  pub known_two : v2.known ≡ (0, ka.2.0) ∷ (place, history_of w.known) ∷ ka.2.1
  known_two =
      ap (λ (u : View). u.known) b2
      ∙ ap (λ k. front k ++ (w.known ++ rest k)) (ap (λ (u : View). u.known) b1 ∙ ka.2.2)
      ∙ ap (λ k. (0, ka.2.0) ∷ (k ++ ka.2.1)) theirs

  pub knows_two : KnowsAbove (place - 1) v2
  knows_two =
      let e : place - 1 + 1 ≡ place = omega (arith, positive) in
      let m = ap (λ (u : View). u.made) b2 ∙ ap (λ (u : View). u.made) b1 in (
        ap (λ (u : View). u.filling) b2 ∙ ap (λ (u : View). u.filling) b1,
        ap (λ (u : View). u.owner) b2 ∙ ap (λ (u : View). u.owner) b1 ∙ ka.1,
        (
          ka.2.0,
          (place, history_of w.known) ∷ ka.2.1,
          known_two,
          (sym e, subst (λ k. Up k ka.2.1) (let f : place + 1 ≡ suc (place - 1 + 1) = omega (arith, positive) in f) ka.2.3),
          (let c = ka.2.4 in omega (arith, m, c, e)),
        ),
      )

  module _ (v3 : View) (b3 : Looked v2 v3) where
    pub known_three : v3.known ≡ (0, ka.2.0) ∷ (place, history_of w.known) ∷ ka.2.1
    known_three = ap (λ (u : View). u.known) b3.0 ∙ known_two

    pub second : (p : ℕ × List ℕ) × (q : ℕ × List ℕ) × (more : List (ℕ × List ℕ)) × (v3.known ≡ p ∷ q ∷ more) × (p.0 ≡ q.0 → ⊥) × Apart q.0 more
    second = ((0, ka.2.0), (place, history_of w.known), ka.2.1, known_three, (λ e. omega (arith, e, positive)), up_apart place (place + 1) ka.2.1 (omega arith) ka.2.3)

  -- what goes on from what both know goes on from what the owner knew, and from what the other hand
  -- knows
  pub run_two : (these those : List (ℕ × List ℕ)) → OneRun v2 these those → OneRun v0 ((place, history_of w.known) ∷ these) those
  run_two these those run =
      let numbers = ap (λ (u : View). u.numbers) b2 ∙ ap (λ (u : View). u.numbers) b1 in
      let made = ap (λ (u : View). u.made) b2 ∙ ap (λ (u : View). u.made) b1 in
      let both : AreKnown v0.numbers run.0 ((0, ka.2.0) ∷ (place, history_of w.known) ∷ ka.2.1) = subst (λ k. AreKnown v0.numbers run.0 k) known_two (subst (λ n. AreKnown n run.0 v2.known) numbers run.2) in (
        run.0,
        subst (λ n. AllBelow n run.0) made run.1,
        subst (λ k. AreKnown v0.numbers run.0 k) (sym ka.2.2) (both.0, both.1.1),
        (both.1.0, subst (λ n. AreKnown n run.0 these) numbers run.3),
        subst (λ n. AreKnown n run.0 those) numbers run.4,
      )

-- an owner that knows its own list alone, and how many hands there are
pub knows_own : {b : Bool} (place : ℕ) (v : View) → IsOwner v b → v.made ≡ place + 1 → KnowsAbove place v
knows_own place v is made = (is.0, is.1, (history_of v.known, [], is.2, tt, omega (arith, made)))

pub looked_same : (deque new : (ℕ × ℕ) × Global) (v w : View) → new ≡ deque → Looked v w → owned_of new w ≡ owned_of deque v
looked_same deque new v w same looked = ap (λ u. owned_of new u) looked.0 ∙ ap (λ d. owned_of d v) same

pub owner_looked : {b : Bool} (v w : View) → IsOwner v b → Looked v w → IsOwner w b
owner_looked v w is looked =
    let e = looked.0 in (
      ap (λ (u : View). u.filling) e ∙ is.0,
      ap (λ (u : View). u.owner) e ∙ is.1,
      ap (λ (u : View). u.known) e ∙ is.2 ∙ ap (λ (u : View). (0, history_of u.known) ∷ []) (sym e),
      (λ o. let a = is.3 o in let l = looked.1 in omega (arith, a, l)),
      λ c. ap (λ (u : View). left_after u.numbers (history_of u.known)) e ∙ is.4 c,
    )
