-- What is known of each side by its type, which says in truth alone that it is one of some diagram: what can be decided is known.
-- Leads to the contracts of all that take a side.
use Rattle.pg_journeys.proofs.Common.{ℕ, ◌<◌, ◌≤◌, arith, ∥∥₁_elim, ∥∥₁_map, dec_and, dec_equal, dec_less, dec_or, dec_true, dec_false, dec_leg, leg, known, IsGround, HaveSquares, square_at, IsEnd, Ground, Side}

-- what can be decided is known where it is known in truth alone
pub decided : {A : Type 0} → Dec A → ∥ A ∥₁ → A
decided (yes a) h = a
decided (no f) h = absurd (∥∥₁_elim h (λ x y. absurd x) f)

-- ---- a ground
pub ground_known : (g : Ground) → ∥ IsGround g ∥₁ → IsGround g
ground_known g h = record {
  free = λ s l. (
    λ t. decided (dec_false _) (∥∥₁_map h (λ w. (w.free s l).0 t)),
    λ t. decided (dec_true _) (∥∥₁_map h (λ w. (w.free s l).1 t)),
  );
  steps = λ k r piece low s l. (
    λ t. decided (dec_leg (known g.facts) g.color (leg k r k s)) (∥∥₁_map h (λ w. (w.steps k r piece low s l).0 t)),
    λ t. decided (dec_true _) (∥∥₁_map h (λ w. (w.steps k r piece low s l).1 t)),
  );
}

-- ---- a side
pub side_ground : (x : Side) → IsGround x.terrain
side_ground x = ground_known x.terrain (∥∥₁_map x.made (λ w. w.1.terrain))

pub men_few : (x : Side) → x.men.count ≤ 16
men_few x = x.few

pub goals_few : (x : Side) → x.goals.count ≤ 16
goals_few x = omega (arith, x.few, x.room)

pub men_low : (x : Side) (i : ℕ) → i < x.men.count → square_at x.men i < 64
men_low x i l = decided (dec_less (square_at x.men i) 64) (∥∥₁_map x.made (λ w. w.1.men.listing.low i l))

pub goals_on : (x : Side) → HaveSquares x.goals
goals_on x = record {
  few = goals_few x;
  low = λ i l. decided (dec_less (square_at x.goals i) 64) (∥∥₁_map x.made (λ w. w.1.goals.listing.low i l));
}

-- what ends there are can be decided
pub dec_end : (x : Side) (e : ℕ) → Dec (IsEnd x e)
dec_end x e = dec_or (dec_less e x.goals.count) (dec_and (dec_equal e 16) (dec_less x.goals.count x.men.count))
