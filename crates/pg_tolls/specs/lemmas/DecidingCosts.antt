-- Deciding whether the men of a colour cost together at most so much.
use Rattle.std.proofs.Common.{◌≡◌, ℕ, suc, ◌+◌, ◌*◌, ◌<◌, ◌≤◌, min, Option, Some, None, true, refl, sym, ap, subst, arith, ◌∙◌}
use Rattle.pg_board.specs.Bits.{has}
use Rattle.pg_board.specs.declared.man.Color.{Color}
use Rattle.pg_board.specs.declared.man.Kind.{Kind}
use Rattle.pg_board.specs.Men.{man}
use Rattle.pg_board.specs.Placement.{Placement}
use Rattle.pg_board.specs.lemmas.Decisions.{dec_along, dec_and, dec_and3, dec_and4, dec_implies, dec_equal, dec_at_most, dec_less, dec_true, dec_all_kinds, dec_get}
use Rattle.pg_position.specs.declared.rights.Wing.{Wing}
use Rattle.pg_position.specs.declared.state.State.{State}
use Rattle.pg_position.specs.Geometry.{IsBetween}
use Rattle.pg_position.specs.Position.{Stands, holds}
use Rattle.pg_position.specs.Squares.{king_home, rook_home}
use Rattle.pg_captures.specs.Counting.{men, any_man, sum_over}
use Rattle.pg_travel.specs.Origins.{charge}
use Rattle.pg_travel.specs.lemmas.SumLemmas.{over_below}
use Rattle.pg_journeys.specs.lemmas.Deciding.{dec_function, dec_between}
use Rattle.pg_journeys.specs.lemmas.DecidingPlans.{dec_squares}
use Rattle.pg_journeys.specs.lemmas.DecidingWays.{dec_some_way}
use Rattle.pg_tolls.specs.inner.Values.{cost_at, clipped, marks_for, AreColumns, IsOpenWay, IsCost}
use Rattle.pg_tolls.specs.declared.half.Half.{Half}

-- ---- sums over men
at_most : (a b : ℕ) → a ≡ b → a ≤ b
at_most a b e = omega arith

same_bounds : (a b : ℕ) → a ≤ b → b ≤ a → a ≡ b
same_bounds a b l m = omega arith

-- what is the same on each man has the same sum
pub over_same : (c : Color) (b : Placement) (f g : ℕ → ℕ) → ((k : Kind) (s : ℕ) → s < 64 → Stands b c k s → f s ≡ g s) → sum_over c any_man b f ≡ sum_over c any_man b g
over_same c b f g same =
    same_bounds (sum_over c any_man b f) (sum_over c any_man b g)
    (over_below c b f g (λ k s low st. at_most (f s) (g s) (same k s low st)))
    (over_below c b g f (λ k s low st. at_most (g s) (f s) (sym (same k s low st))))

-- ---- columns
below_cap : (a n : ℕ) → min a n < suc n
below_cap a n = omega arith

cap_same : (a n : ℕ) → a < n → a ≡ min a n
cap_same a n low = omega arith

module _ (x : Half) (d : Placement) (p : State) (way : Option Wing) where
  -- how many columns there are
  abbrev columns : ℕ
  columns = men x.color any_man p.board

  -- what the men cost together
  abbrev together : (ℕ → ℕ) → ℕ
  together to = x.weight * charge way + sum_over x.color any_man p.board (λ s. clipped x p way (marks_for x d p.board) columns s (to s))

  -- maps that are the same on each man
  abbrev Alike : (ℕ → ℕ) → (ℕ → ℕ) → Type 0
  Alike g h = (k : Kind) (s : ℕ) → s < 64 → Stands p.board x.color k s → g s ≡ h s

  columns_along : (g h : ℕ → ℕ) → Alike g h → AreColumns x d p way g → AreColumns x d p way h
  columns_along g h same is = record {
    inside = λ k s low st. subst (λ (e : ℕ). e < columns) (same k s low st) (is.inside k s low st);
    some = λ k s low st. subst (λ (e : ℕ). cost_at x p way (marks_for x d p.board) s e < 65535) (same k s low st) (is.some k s low st);
    different = λ k i r s lr ls sr ss e. is.different k i r s lr ls sr ss (same k r lr sr ∙ e ∙ sym (same i s ls ss));
  }

  together_along : (g h : ℕ → ℕ) → Alike g h → together g ≡ together h
  together_along g h same =
      ap (λ (n : ℕ). x.weight * charge way + n)
      (over_same x.color p.board (λ s. clipped x p way (marks_for x d p.board) columns s (g s)) (λ s. clipped x p way (marks_for x d p.board) columns s (h s))
      (λ k s low st. ap (λ (e : ℕ). clipped x p way (marks_for x d p.board) columns s e) (same k s low st)))

  dec_columns : (to : ℕ → ℕ) → Dec (AreColumns x d p way to)
  dec_columns to =
      dec_along
      (λ h. record {
        inside = λ k s low st. h.0 s low k st;
        some = λ k s low st. h.1 s low k st;
        different = λ k i r s lr ls sr ss e. h.2 r lr s ls e k sr i ss;
      })
      (λ is. ((λ s low k st. is.inside k s low st), (λ s low k st. is.some k s low st), (λ r lr s ls e k sr i ss. is.different k i r s lr ls sr ss e)))
      (dec_and3
      (dec_squares (λ s. (k : Kind) → Stands p.board x.color k s → to s < columns)
      (λ s low. dec_all_kinds (λ k. Stands p.board x.color k s → to s < columns)
      (λ k. dec_implies (dec_get p.board s (Some (man x.color k))) (dec_less (to s) columns))))
      (dec_squares (λ s. (k : Kind) → Stands p.board x.color k s → cost_at x p way (marks_for x d p.board) s (to s) < 65535)
      (λ s low. dec_all_kinds (λ k. Stands p.board x.color k s → cost_at x p way (marks_for x d p.board) s (to s) < 65535)
      (λ k. dec_implies (dec_get p.board s (Some (man x.color k))) (dec_less (cost_at x p way (marks_for x d p.board) s (to s)) 65535))))
      (dec_squares (λ r. (s : ℕ) → s < 64 → to r ≡ to s → (k : Kind) → Stands p.board x.color k r → (i : Kind) → Stands p.board x.color i s → r ≡ s)
      (λ r lr. dec_squares (λ s. to r ≡ to s → (k : Kind) → Stands p.board x.color k r → (i : Kind) → Stands p.board x.color i s → r ≡ s)
      (λ s ls. dec_implies (dec_equal (to r) (to s))
      (dec_all_kinds (λ k. Stands p.board x.color k r → (i : Kind) → Stands p.board x.color i s → r ≡ s)
      (λ k. dec_implies (dec_get p.board r (Some (man x.color k)))
      (dec_all_kinds (λ i. Stands p.board x.color i s → r ≡ s) (λ i. dec_implies (dec_get p.board s (Some (man x.color i))) (dec_equal r s)))))))))

  -- they cost at most n together at these columns
  abbrev Within : ℕ → (ℕ → ℕ) → Type 0
  Within n to = AreColumns x d p way to × (together to ≤ n)

  within_along : (n : ℕ) (g h : ℕ → ℕ) → Alike g h → Within n g → Within n h
  within_along n g h same is = (columns_along g h same is.0, subst (λ (v : ℕ). v ≤ n) (together_along g h same) is.1)

  -- columns off the men count for nothing
  abbrev capped : (ℕ → ℕ) → ℕ → ℕ
  capped to s = min (to s) columns

  dec_within : (n : ℕ) → Dec ((to : ℕ → ℕ) × Within n to)
  dec_within n =
      dec_along (λ h. (h.0, h.2))
      (λ h. (capped h.0, (λ s low. below_cap (h.0 s) columns), within_along n h.0 (capped h.0) (λ k s low st. cap_same (h.0 s) columns (h.1.0.inside k s low st)) h.1))
      (dec_function 64 (suc columns) (Within n) (λ g h same is. within_along n g h (λ k s low st. same s low) is) (λ to. dec_and (dec_columns to) (dec_at_most (together to) n)))

-- ---- ways
dec_open : (x : Half) (p : State) (way : Option Wing) → Dec (IsOpenWay x p way)
dec_open x p None = yes tt
dec_open x p (Some w) =
    dec_and4 (dec_true (holds p.rights x.color w)) (dec_true (has x.free (king_home x.color))) (dec_true (has x.free (rook_home x.color w)))
    (dec_squares (λ t. IsBetween (king_home x.color) t (rook_home x.color w) → has x.free t ≡ true)
    (λ t low. dec_implies (dec_between (king_home x.color) t (rook_home x.color w)) (dec_true (has x.free t))))

-- whether they cost at most n together in some way
pub dec_cost_within : (x : Half) (d : Placement) (p : State) (n : ℕ) → Dec ((v : ℕ) × IsCost x d p v × (v ≤ n))
dec_cost_within x d p n =
    dec_along forth back
    (dec_some_way (λ way. IsOpenWay x p way × ((to : ℕ → ℕ) × Within x d p way n to)) (λ way. dec_and (dec_open x p way) (dec_within x d p way n)))
  where
    forth : (way : Option Wing) × (IsOpenWay x p way × ((to : ℕ → ℕ) × Within x d p way n to)) → (v : ℕ) × IsCost x d p v × (v ≤ n)
    forth h = (together x d p h.0 h.1.1.0, (h.0, h.1.0, (h.1.1.0, h.1.1.1.0, refl)), h.1.1.1.1)

    back : (v : ℕ) × IsCost x d p v × (v ≤ n) → (way : Option Wing) × (IsOpenWay x p way × ((to : ℕ → ℕ) × Within x d p way n to))
    back h = (h.1.0, (h.1.1, (h.1.2.0, (h.1.2.1, subst (λ (u : ℕ). u ≤ n) h.1.2.2 h.2))))
