-- Which ways are open, and who has just passed a free square.
use Rattle.pg_tolls.proofs.Common.{◌≡◌, ◌↔◌, ℕ, ◌<◌, inl, inr, IsTrue, Option, Some, None, Bool, true, false, not, ◌&&◌, refl, sym, ap, subst, ◌∙◌, arith, has, IsSetOf, HasNoneFrom, Wing, State, holds, king_home, rook_home, IsLess, IsOpenWay, Half, home_low, rook_low}
use Rattle.pg_journeys.specs.inner.Costing.{IsOnSpan}

-- ---- ways
-- where nothing is left of a without b, b has what a has
in_other : (a b z : Bool) → z ≡ (a && not b) → z ≡ false → a ≡ true → b ≡ true
in_other a true z e none on = refl
in_other a false z e none on = absurd (let h : z ≡ true = e ∙ ap (λ (t : Bool). t && true) on in cc)

nothing_left : (a b z : Bool) → z ≡ (a && not b) → (a ≡ true → b ≡ true) → z ≡ false
nothing_left false b z e h = e
nothing_left true b z e h = e ∙ ap not (h refl)

module _ (x : Half) (p : State) (w : Wing) (span left : ℕ) (is : IsSetOf span (IsOnSpan x.color w)) (less : IsLess left span x.free) where
  all_free : HasNoneFrom left 0 → (q : ℕ) → q < 64 → IsOnSpan x.color w q → has x.free q ≡ true
  all_free none q low on = in_other (has span q) (has x.free q) (has left q) (less q low) (none q (omega arith) low) ((is q low).1 on)

  on_free : IsOpenWay x p (Some w) → (q : ℕ) → q < 64 → IsOnSpan x.color w q → has x.free q ≡ true
  on_free u q low on =
      elim on [
        | inl k ↦ ap (has x.free) k ∙ u.1
        | inr r ↦ elim r [
          | inl k ↦ ap (has x.free) k ∙ u.2
          | inr b ↦ u.3 q low b
        ]
      ]

  open_some : (held m : Bool) → held ≡ holds p.rights x.color w → held ≡ true → (IsTrue m ↔ HasNoneFrom left 0) → IsTrue m ↔ IsOpenWay x p (Some w)
  open_some held m h t empty = (
    λ z. (
      sym h ∙ t,
      all_free (empty.0 z) (king_home x.color) (home_low x.color) (inl refl),
      all_free (empty.0 z) (rook_home x.color w) (rook_low x.color w) (inr (inl refl)),
      λ q low b. all_free (empty.0 z) q low (inr (inr b)),
    ),
    λ u. empty.1 (λ q zero low. nothing_left (has span q) (has x.free q) (has left q) (less q low) (λ on. on_free u q low ((is q low).0 on))),
  )

  pub open_by : (way : Option Wing) (held m : Bool) → way ≡ Some w → held ≡ holds p.rights x.color w → held ≡ true → (IsTrue m ↔ HasNoneFrom left 0) → IsTrue m ↔ IsOpenWay x p way
  open_by way held m e h t empty = subst (λ (o : Option Wing). IsTrue m ↔ IsOpenWay x p o) (sym e) (open_some held m h t empty)

pub closed_by : (x : Half) (p : State) (w : Wing) (way : Option Wing) (held : Bool) → way ≡ Some w → held ≡ holds p.rights x.color w → held ≡ false → IsTrue held ↔ IsOpenWay x p way
closed_by x p w way held e h f = subst (λ (o : Option Wing). IsTrue held ↔ IsOpenWay x p o) (sym e) (λ z. absurd (let t : held ≡ true = z in cc), λ u. h ∙ u.0)

pub open_none : (x : Half) (p : State) (way : Option Wing) → way ≡ None → IsTrue true ↔ IsOpenWay x p way
open_none x p way e = subst (λ (o : Option Wing). IsTrue true ↔ IsOpenWay x p o) (sym e) (λ z. tt, λ u. refl)

-- ---- the passed square
