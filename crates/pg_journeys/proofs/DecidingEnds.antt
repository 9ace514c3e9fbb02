-- Whether paths lead to an end is decided, so rings that show it in truth alone show it. Leads to the contracts of all that read
-- rings from a value's type.
use Rattle.pg_journeys.proofs.Common.{◌≡◌, ℕ, ◌+◌, ◌<◌, ◌≤◌, Bool, true, false, refl, List, [], ◌∷◌, arith, ∥∥₁_elim, ∥∥₁_map, Color, Kind, other, dec_along, dec_and, dec_and3, dec_equal, dec_kinds, dec_less, dec_or, dec_some_below, dec_true, Facts, Leg, IsPath, some_leg, dec_leg, weigh, dec_path, leg, counts, HasSteps, facts_of, kind_at, square_at, AreAims, EndWithin, FallWithin, Rings, Side}
use Rattle.std.specs.Coded.{le_prop}
use Rattle.pg_journeys.specs.lemmas.DecidingFacts.{dec_then}
use Rattle.pg_journeys.proofs.SideLemmas.{decided, goals_on}

-- ---- a path that weighs at most n
-- no step of a path passes the test that none passes
no_leg : (ls : List Leg) → some_leg (λ l. false) ls ≡ false
no_leg [] = refl
no_leg (l ∷ ls) = no_leg ls

pub dec_light : (f : Facts) (c : Color) (w : Leg → ℕ) (k : Kind) (r : ℕ) (j : Kind) (s n : ℕ) → r < 64 → s < 64 → Dec ((ls : List Leg) × IsPath f c k r ls j s × (weigh w ls ≤ n))
dec_light f c w k r j s n lr ls =
    dec_along
    (λ h. (h.0, h.1, (let low : weigh w h.0 < n + 1 = h.2 in omega arith)))
    (λ h. (h.0, h.1, (let low : weigh w h.0 ≤ n = h.2 in omega arith), no_leg h.0))
    (dec_path f c w (λ l. false) k r j s (n + 1) false lr ls)

-- ---- an end
module _ (x : Side) (quiet : Bool) (n : ℕ) (k : Kind) (s : ℕ) (low : s < 64) where
  abbrev Light : Kind → ℕ → Type 0
  Light j t = (ls : List Leg) × IsPath (facts_of x) x.terrain.color k s ls j t × (weigh (counts (facts_of x) x.terrain.color quiet) ls ≤ n)

  dec_to : (j : Kind) (t : ℕ) → t < 64 → Dec (Light j t)
  dec_to j t lt = dec_light (facts_of x) x.terrain.color (counts (facts_of x) x.terrain.color quiet) k s j t n low lt

  dec_fall_on : (j : Kind) (t : ℕ) → Dec ((t < 64) × (((facts_of x).lands (other x.terrain.color) t ≡ true) × Light j t))
  dec_fall_on j t = dec_then (dec_less t 64) (λ lt. dec_and (dec_true ((facts_of x).lands (other x.terrain.color) t)) (dec_to j t lt))

  dec_fall : Dec (FallWithin x quiet n k s)
  dec_fall =
      dec_along
      (λ h. (h.0, h.1.0, h.1.2.1.1.0, h.1.2.0, h.1.2.1.0, h.1.2.1.1.1, h.1.2.1.1.2))
      (λ h. (h.0, (h.1, h.3, (h.3, (h.4, (h.2, h.5, h.6))))))
      (dec_kinds (λ j. (t : ℕ) × (t < 64) × ((t < 64) × (((facts_of x).lands (other x.terrain.color) t ≡ true) × Light j t))) (λ j. dec_some_below (λ t. (t < 64) × (((facts_of x).lands (other x.terrain.color) t ≡ true) × Light j t)) (dec_fall_on j) 64))

  pub dec_end_within : (e : ℕ) → Dec (EndWithin x quiet e n k s)
  dec_end_within e =
      dec_or (dec_then (dec_less e x.goals.count) (λ l. dec_to (kind_at x.goals e) (square_at x.goals e) ((goals_on x).low e l)))
      (dec_and3 (dec_equal e 16) (dec_less x.goals.count x.men.count) dec_fall)

-- ---- rings and steps
pub aims_known : (x : Side) (quiet : Bool) (aims : List Rings) → ∥ AreAims x quiet aims ∥₁ → AreAims x quiet aims
aims_known x quiet aims h = record {
  ends = λ e end. record {
    some = ∥∥₁_elim h le_prop (λ w. (w.ends e end).some);
    few = ∥∥₁_elim h le_prop (λ w. (w.ends e end).few);
    kept = λ n k s l low. (
      λ t. decided (dec_end_within x quiet n k s low e) (∥∥₁_map h (λ w. ((w.ends e end).kept n k s l low).0 t)),
      λ v. decided (dec_true _) (∥∥₁_map h (λ w. ((w.ends e end).kept n k s l low).1 v)),
    );
    whole = λ on n k s low v. decided (dec_end_within x quiet _ k s low e) (∥∥₁_map h (λ w. (w.ends e end).whole on n k s low v));
  };
}

pub steps_known : (still : ℕ) (table : List ℕ) → ∥ HasSteps still table ∥₁ → HasSteps still table
steps_known still table h f c same k r piece low s l = (
  λ t. decided (dec_leg f c (leg k r k s)) (∥∥₁_map h (λ w. (w f c same k r piece low s l).0 t)),
  λ t. decided (dec_true _) (∥∥₁_map h (λ w. (w f c same k r piece low s l).1 t)),
)
