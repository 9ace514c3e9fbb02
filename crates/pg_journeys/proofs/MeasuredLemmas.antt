-- What is known of what is measured, by its type. Leads to the contracts of all that take it.
use Rattle.pg_journeys.proofs.Common.{ℕ, ◌<◌, inl, inr, Bool, true, false, None, List, subst, ∥∥₁_elim, ∥∥₁_map, dec_all_below, dec_along, dec_and, dec_and3, dec_at_most, dec_equal, dec_not, dec_or, dec_some_below, dec_true, HasPassed, runner_of, walker_of, AreCostRows, AreTheirs, IsCount, IsCountTo, IsFall, ArePaired, AreAims, EndWithin, Measured, Walker, Runner, Side}
use Rattle.pg_journeys.specs.lemmas.DecidingFates.{dec_passed}
use Rattle.pg_journeys.proofs.DecidingEnds.{aims_known, dec_end_within}
use Rattle.pg_journeys.proofs.SideLemmas.{decided, men_low}

-- ---- what fates cost can be decided
dec_count : (W : ℕ → Type 0) → ((n : ℕ) → Dec (W n)) → (most n : ℕ) → Dec (IsCount W most n)
dec_count W dec most n =
    dec_or (dec_and3 (dec_at_most n most) (dec n) (dec_all_below (λ m. ¬ W m) (λ m. dec_not (dec m)) n)) (dec_and (dec_equal n 255) (dec_not (dec most)))

dec_count_to : (x : Side) (most e : ℕ) (m : Runner) (n : ℕ) → m.square < 64 → Dec (IsCountTo x most e m n)
dec_count_to x most e m n low = dec_count (λ a. EndWithin x m.is_quiet e a m.kind m.square) (λ a. dec_end_within x m.is_quiet a m.kind m.square low e) most n

-- the man has just passed a square where captures of the other colour may land
abbrev HasPassedThere : Side → Walker → Type 0
HasPassedThere x m = (u : ℕ) × HasPassed x.position x.terrain.color m.square u × (u < 64) × AreTheirs x u

dec_there : (x : Side) (m : Walker) → Dec (HasPassedThere x m)
dec_there x m =
    dec_along (λ h. (h.0, h.2.0, h.1, h.2.1)) (λ h. (h.0, h.2, (h.1, h.3)))
    (dec_some_below (λ u. HasPassed x.position x.terrain.color m.square u × AreTheirs x u) (λ u. dec_and (dec_passed x.position x.terrain.color m.square u) (dec_true _)) 64)

fall_known : (x : Side) (most : ℕ) (m : Walker) (n : ℕ) → m.runner.square < 64 → ∥ IsFall x most m n ∥₁ → IsFall x most m n
fall_known x most m n low h = record {
  king = λ k. decided (dec_equal n 255) (∥∥₁_map h (λ w. w.king k));
  other = λ ne. elim (dec_and (dec_there x m) (dec_equal n 0)) [
    | yes a ↦ inl a
    | no f ↦ inr (
      λ u passed theirs. ∥∥₁_elim h (λ a b. absurd a) (λ w. elim (w.other ne) [ inl a ↦ f a | inr b ↦ b.0 u passed theirs ]),
      decided (dec_count_to x most 16 m.runner n low) (∥∥₁_map h (λ w. elim (w.other ne) [ inl a ↦ absurd (f a) | inr b ↦ b.1 ])),
    )
  ];
}

rows_known : (x : Side) (quiet : Bool) (most : ℕ) (rows : List (List ℕ)) → ∥ AreCostRows x quiet None most rows x.men.count ∥₁ → AreCostRows x quiet None most rows x.men.count
rows_known x quiet most rows h i l j lj = record {
  comes = λ g. decided (dec_count_to x most j (runner_of x quiet None i) _ (men_low x i l)) (∥∥₁_map h (λ w. (w i l j lj).comes g));
  falls = λ g. fall_known x most (walker_of x quiet None i) _ (men_low x i l) (∥∥₁_map h (λ w. (w i l j lj).falls g));
}

-- ---- what is measured
pub measured_aims : (m : Measured) → AreAims m.side.now m.is_quiet m.aims.now
measured_aims m = aims_known m.side.now m.is_quiet m.aims.now (∥∥₁_map m.made (λ w. w.aims))

pub measured_rows : (m : Measured) → AreCostRows m.side.now m.is_quiet None m.most m.costs.rows m.side.now.men.count
measured_rows m = rows_known m.side.now m.is_quiet m.most m.costs.rows (∥∥₁_map m.made (λ w. w.rows))

-- ---- a pair of measures
module _ (moves quiet : Measured) (pair : ArePaired moves quiet) (P : Side → Bool → Type 0) where
  pub by_moves : P moves.side.now moves.is_quiet → P moves.side.now false
  by_moves h = subst (λ (b : Bool). P moves.side.now b) pair.moves h

  pub by_quiet : P quiet.side.now quiet.is_quiet → P moves.side.now true
  by_quiet h = subst (λ (x : Side). P x true) pair.side (subst (λ (b : Bool). P quiet.side.now b) pair.quiet h)
