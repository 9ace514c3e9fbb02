use Rattle.pg_position.proofs.Common.{◌≡◌, ◌<◌, ◌↔◌, ◌&&◌, not, ℕ, Bool, IsTrue, true, false, inl, inr, refl, ap, ◌∙◌, arith, Decides, Decides-at, eqb_tells, Color, King, Man, man, is_man, is_man_decides, Placement, get, has, IsSetOf, HasNoneFrom, set_of_rest, Stands}
use Rattle.pg_position.proofs.clauses.has_no_king_but.Goals as goal

module _ (b : Placement) (c : Color) (m : Man) (k kings one rest : ℕ) (same : m ≡ man c King) (are : (q : ℕ) → q < 64 → has kings q ≡ is_man m (get b q)) (alone : IsSetOf one (λ q. q ≡ k)) (left : (q : ℕ) → q < 64 → has rest q ≡ has kings q && not (has one q)) where
  others : IsSetOf rest (λ q. Stands b c King q × ¬ (q ≡ k))
  others = set_of_rest rest kings one left (λ q l. Decides-at _ _ (are q l ∙ ap (λ x. is_man x (get b q)) same) (is_man_decides (man c King) (get b q))) alone

  no_other : (r : Bool) → Decides r (HasNoneFrom rest 0) → IsTrue r ↔ ((t : ℕ) → t < 64 → Stands b c King t → t ≡ k)
  no_other r d = (
    λ e t l here. elim (eqb_tells t k) [
      | inl w ↦ w.1
      | inr w ↦ absurd (let off : has rest t ≡ false = d.0 e t (omega arith) l in let on : has rest t ≡ true = (others t l).1 (here, w.1) in cc)
    ],
    λ h. d.1 (λ q _ l. elim (has rest q) as (λ v. has rest q ≡ v → has rest q ≡ false) [
      | true ↦ λ e. absurd (let z = (others q l).0 e in z.1 (h q l z.0))
      | false ↦ λ e. e
    ] refl),
  )

pub returns : goal.returns
returns c = no_other c.args.board.now c.args.color c.new.result c.args.king c.squares_of-kings.result c.single.result c.sub.result c.new.ensures c.squares_of-kings.ensures c.single.ensures c.sub.ensures.members c.is_empty.result c.is_empty.ensures.none
