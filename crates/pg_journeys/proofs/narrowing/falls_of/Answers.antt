use Rattle.pg_journeys.proofs.Common.{◌≡◌, ◌≢◌, ◌⊎◌, ℕ, ◌<◌, inl, inr, true, sym, subst, arith, has, IsSetOf, Color, State, HasPassed, Some, StandsBy, PassedBy, FallsBy, Side, Walker}
use Rattle.pg_journeys.proofs.SiftedSets.{one_more}
use Rattle.pg_journeys.proofs.narrowing.falls_of.Goals as goal

one_passed : (p : State) (c : Color) (s u q : ℕ) → HasPassed p c s u → HasPassed p c s q → q ≡ u
one_passed p c s u q a b = let x : p.passed ≡ Some u = a.1 in let y : p.passed ≡ Some q = b.1 in cc

with_passed : (x : Side) (m : Walker) (room falls all one more u : ℕ) → room < 255 → IsSetOf all (λ q. (has falls q ≡ true) ⊎ StandsBy x m.runner room q) → PassedBy x m.square u → IsSetOf more (λ q. (has all q ≡ true) ⊎ (q ≡ u)) → IsSetOf more (λ q. (has falls q ≡ true) ⊎ FallsBy x m room q)
with_passed x m room falls all one more u low is_all passed is_more q l = (
  λ t. elim ((is_more q l).0 t) [
    | inl a ↦ elim ((is_all q l).0 a) [ inl b ↦ inl b | inr b ↦ inr (low, inl b) ]
    | inr a ↦ inr (low, inr (subst (PassedBy x m.square) (sym a) passed))
  ],
  λ t. (is_more q l).1 (elim t [
    | inl b ↦ inl ((is_all q l).1 (inl b))
    | inr w ↦ elim w.1 [
      | inl b ↦ inl ((is_all q l).1 (inr b))
      | inr b ↦ inr (one_passed x.position x.terrain.color m.square u q passed.0 b.0)
    ]
  ]),
)

pub returns-in-Some : goal.returns-in-Some
returns-in-Some c =
    let ne : c.args.room ≢ 255 = c.if-room-eq255.false in
    with_passed c.args.side.now c.args.man.now c.args.room c.args.falls c.add_falls-all.result c.single.result c.bitor.result c.in-Some.passed (omega arith) c.add_falls-all.ensures c.in-Some.ensures.some (one_more c.in-Some.passed c.add_falls-all.result c.single.result c.bitor.result c.single.ensures c.bitor.ensures.members)
