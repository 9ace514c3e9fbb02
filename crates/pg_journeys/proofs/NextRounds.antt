-- The first facts, and those of the next round, as sets of squares. Leads to the contracts of rounds.rt.
use Rattle.pg_journeys.proofs.Common.{◌≡◌, ℕ, ◌<◌, ◌⊎◌, ◌↔◌, ◌&&◌, not, inl, inr, Option, Some, Bool, true, false, refl, sym, ap, subst, ◌∙◌, IsTrue, has, Color, White, Black, Kind, man, other, is_of, color_eq, Placement, get, IsSetOf, Meet, Wing, State, victims, IsWall, IsWallOf, AreFirst, HasWalls, known, landing, Measure, Moves, QuietMoves, IsAlive, IsNewStill, PlansToTake, PlansToFall, Shows, lands_by, falls_by, IsKept, MayLand, Shown, not-true, not_from_false, of_man}
use Rattle.pg_journeys.specs.inner.Walking.{IsNext}
use Rattle.pg_journeys.specs.declared.facts.Facts.{Facts as FactSets}

-- ---- tests
both_of : (r a b : Bool) → r ≡ (a && b) → r ≡ true → (a ≡ true) × (b ≡ true)
both_of r true true e h = (refl, refl)
both_of r true false e h = cc
both_of r false b e h = cc

of_both : (r a b : Bool) → r ≡ (a && b) → a ≡ true → b ≡ true → r ≡ true
of_both r a b e h g = cc

true_false : {A : Type 0} (b : Bool) → b ≡ true → b ≡ false → A
true_false b h g = cc

-- ---- the first facts
pub first_of : (d g : Placement) (p : State) (b : Placement) (w x y : ℕ) → g ≡ d → b ≡ p.board → IsSetOf w (IsWallOf g) → IsSetOf x (λ s. (victims White g < victims White b) × ¬ IsWallOf g s) → IsSetOf y (λ s. (victims Black g < victims Black b) × ¬ IsWallOf g s) → AreFirst (known (record { still = w; white = x; black = y })) d p
first_of d g p b w x y eg eb walls white black =
    subst (λ (z : Placement). AreFirst (known (record { still = w; white = x; black = y })) z p) eg (record { walls = λ s low. walls s low; landing = λ c s low. subst (λ (z : Placement). (has (landing (record { still = w; white = x; black = y }) c) s ≡ true) ↔ ((victims c g < victims c z) × ¬ IsWallOf g s)) eb (lands c s low) })
  where
    lands : (c : Color) (s : ℕ) → s < 64 → (has (landing (record { still = w; white = x; black = y }) c) s ≡ true) ↔ ((victims c g < victims c b) × ¬ IsWallOf g s)
    lands White s low = white s low
    lands Black s low = black s low

pub walls_kept : (d g : Placement) (p : State) (b : Placement) (w diff : ℕ) (m : Bool) → g ≡ d → b ≡ p.board → IsSetOf w (IsWallOf g) → ((q : ℕ) → q < 64 → (has diff q ≡ false) ↔ (get b q ≡ get g q)) → IsTrue m ↔ Meet w diff → IsTrue (not m) ↔ HasWalls d p
walls_kept d g p b w diff m eg eb walls same meets = (
  λ e c s low wall. here c s low (subst (λ (z : Placement). IsWall z c s) (sym eg) wall) (has diff s) refl (not-true m e),
  λ h. not_from_false m (none h m refl),
)
  where
    here : (c : Color) (s : ℕ) → s < 64 → IsWall g c s → (t : Bool) → has diff s ≡ t → m ≡ false → IsWall p.board c s
    here c s low wall true e off = true_false m (meets.1 (s, low, (walls s low).1 (c, wall), e)) off
    here c s low wall false e off = (wall.0, ap (λ (z : Placement). get z s) (sym eb) ∙ (same s low).0 e ∙ wall.1)

    none : HasWalls d p → (t : Bool) → m ≡ t → m ≡ false
    none h false e = e
    none h true e =
        (let at : Meet w diff = meets.0 e in
        let wall : IsWallOf g at.0 = (walls at.0 at.1).0 at.2 in
        let stands : IsWall p.board wall.0 at.0 = h wall.0 at.0 at.1 (subst (λ (z : Placement). IsWall z wall.0 at.0) eg wall.1) in
        let alike : get b at.0 ≡ get g at.0 = ap (λ (z : Placement). get z at.0) eb ∙ stands.1 ∙ sym wall.1.1 in
        true_false (has diff at.0) at.3 ((same at.0 at.1).1 alike))

-- ---- who is kept
own_color : (c : Color) → color_eq c c ≡ true
own_color White = refl
own_color Black = refl

pub kept_set : (d g b0 b : Placement) (c : Color) (own diff first changed r : ℕ) → g ≡ d → b0 ≡ b → ((q : ℕ) → q < 64 → has own q ≡ is_of c (get b0 q)) → ((q : ℕ) → q < 64 → (has diff q ≡ false) ↔ (get b0 q ≡ get g q)) → ((q : ℕ) → q < 64 → has first q ≡ (has own q && not (has diff q))) → ((q : ℕ) → q < 64 → has r q ≡ (has first q && not (has changed q))) → IsSetOf r (IsKept d b c changed)
kept_set d g b0 b c own diff first changed r eg eb mine same one two =
    subst (λ (z : Placement). IsSetOf r (IsKept z b c changed)) eg (subst (λ (z : Placement). IsSetOf r (IsKept g z c changed)) eb here)
  where
    forth : (q : ℕ) → q < 64 → has r q ≡ true → IsKept g b0 c changed q
    forth q l e =
        let last : (has first q ≡ true) × (not (has changed q) ≡ true) = both_of (has r q) (has first q) (not (has changed q)) (two q l) e in
        let start : (has own q ≡ true) × (not (has diff q) ≡ true) = both_of (has first q) (has own q) (not (has diff q)) (one q l) last.0 in
        let at : (j : Kind) × (get b0 q ≡ Some (man c j)) = of_man c (get b0 q) (sym (mine q l) ∙ start.0) in
        (at.0, at.1, sym ((same q l).0 (not-true (has diff q) start.1)) ∙ at.1, not-true (has changed q) last.1)

    back : (q : ℕ) → q < 64 → IsKept g b0 c changed q → has r q ≡ true
    back q l (j, st, sd, off) =
        of_both (has r q) (has first q) (not (has changed q)) (two q l)
        (of_both (has first q) (has own q) (not (has diff q)) (one q l) (mine q l ∙ ap (is_of c) st ∙ own_color c) (not_from_false (has diff q) ((same q l).1 (st ∙ sym sd))))
        (not_from_false (has changed q) off)

    here : IsSetOf r (IsKept g b0 c changed)
    here q l = (forth q l, back q l)

-- ---- where captures land after a round
pub land_set : (before still : ℕ) (own theirs : Shown) (a b c e r : ℕ) → ((q : ℕ) → has a q ≡ (has own.lands q && has own.quiet_lands q)) → ((q : ℕ) → has b q ≡ (has a q && has theirs.falls q)) → ((q : ℕ) → has c q ≡ (has b q && has theirs.quiet_falls q)) → ((q : ℕ) → has e q ≡ (has before q && has c q)) → ((q : ℕ) → q < 64 → has r q ≡ (has e q && not (has still q))) → IsSetOf r (MayLand before still own theirs)
land_set before still own theirs a b c e r ha hb hc he hr q l = (forth, back)
  where
    forth : has r q ≡ true → MayLand before still own theirs q
    forth h =
        let x : (has e q ≡ true) × (not (has still q) ≡ true) = both_of (has r q) (has e q) (not (has still q)) (hr q l) h in
        let y : (has before q ≡ true) × (has c q ≡ true) = both_of (has e q) (has before q) (has c q) (he q) x.0 in
        let z : (has b q ≡ true) × (has theirs.quiet_falls q ≡ true) = both_of (has c q) (has b q) (has theirs.quiet_falls q) (hc q) y.1 in
        let v : (has a q ≡ true) × (has theirs.falls q ≡ true) = both_of (has b q) (has a q) (has theirs.falls q) (hb q) z.0 in
        let w : (has own.lands q ≡ true) × (has own.quiet_lands q ≡ true) = both_of (has a q) (has own.lands q) (has own.quiet_lands q) (ha q) v.0 in
        (y.0, not-true (has still q) x.1, by_measure w.0 v.1 w.1 z.1)
      where
        by_measure : has own.lands q ≡ true → has theirs.falls q ≡ true → has own.quiet_lands q ≡ true → has theirs.quiet_falls q ≡ true → (u : Measure) → (has (lands_by own u) q ≡ true) × (has (falls_by theirs u) q ≡ true)
        by_measure s t m n Moves = (s, t)
        by_measure s t m n QuietMoves = (m, n)

    back : MayLand before still own theirs q → has r q ≡ true
    back (was, off, by) =
        of_both (has r q) (has e q) (not (has still q)) (hr q l)
        (of_both (has e q) (has before q) (has c q) (he q) was
        (of_both (has c q) (has b q) (has theirs.quiet_falls q) (hc q)
        (of_both (has b q) (has a q) (has theirs.falls q) (hb q) (of_both (has a q) (has own.lands q) (has own.quiet_lands q) (ha q) (by Moves).0 (by QuietMoves).0) (by Moves).1)
        (by QuietMoves).1))
        (not_from_false (has still q) off)

-- ---- the next round
module _ (f : FactSets) (d : Placement) (p : State) (k : ℕ) (w b : Shown) (still white black : ℕ) (stills : IsSetOf still (λ s. (has f.still s ≡ true) ⊎ ((IsKept d p.board White w.changed s) ⊎ (IsKept d p.board Black b.changed s)))) (whites : IsSetOf white (MayLand f.white still w b)) (blacks : IsSetOf black (MayLand f.black still b w)) (sw : Shows (known f) d p k White w) (sb : Shows (known f) d p k Black b) where
  abbrev after : FactSets
  after = record { still = still; white = white; black = black }

  stilled : (s : ℕ) → s < 64 → (has f.still s ≡ true) ⊎ ((IsKept d p.board White w.changed s) ⊎ (IsKept d p.board Black b.changed s)) → (has f.still s ≡ true) ⊎ IsNewStill (known f) d p k s
  stilled s l (inl h) = inl h
  stilled s l (inr (inl (j, st, sd, off))) = inr (White, j, st, sd, (sw.stays j s l st).0 off)
  stilled s l (inr (inr (j, st, sd, off))) = inr (Black, j, st, sd, (sb.stays j s l st).0 off)

  kept : (s : ℕ) → s < 64 → (has f.still s ≡ true) ⊎ IsNewStill (known f) d p k s → (has f.still s ≡ true) ⊎ ((IsKept d p.board White w.changed s) ⊎ (IsKept d p.board Black b.changed s))
  kept s l (inl h) = inl h
  kept s l (inr (White, j, st, sd, all)) = inr (inl (j, st, sd, (sw.stays j s l st).1 all))
  kept s l (inr (Black, j, st, sd, all)) = inr (inr (j, st, sd, (sb.stays j s l st).1 all))

  lands : (c : Color) (q : ℕ) → q < 64 → (has (landing after c) q ≡ true) ↔ ((has (landing f c) q ≡ true) × (has still q ≡ false) × ((u : Measure) → PlansToTake (known f) d p k c u q × PlansToFall (known f) d p k (other c) u q))
  lands White q l = (
    λ h. (let m : MayLand f.white still w b q = (whites q l).0 h in (m.0, m.1, λ u. ((sw.lands u q l).0 (m.2 u).0, (sb.falls u q l).0 (m.2 u).1))),
    λ h. (whites q l).1 (h.0, h.1, λ u. ((sw.lands u q l).1 (h.2 u).0, (sb.falls u q l).1 (h.2 u).1)),
  )
  lands Black q l = (
    λ h. (let m : MayLand f.black still b w q = (blacks q l).0 h in (m.0, m.1, λ u. ((sb.lands u q l).0 (m.2 u).0, (sw.falls u q l).0 (m.2 u).1))),
    λ h. (blacks q l).1 (h.0, h.1, λ u. ((sb.lands u q l).1 (h.2 u).0, (sw.falls u q l).1 (h.2 u).1)),
  )

  alive : (c : Color) → (way : Option Wing) × IsAlive (known f) d p k c way
  alive White = sw.alive
  alive Black = sb.alive

  pub next_of : IsNext (known f) (known after) d p k
  next_of = record {
    narrows = record { still = λ s l. (λ h. stilled s l ((stills s l).0 h), λ h. (stills s l).1 (kept s l h)); lands = lands };
    alive = alive;
  }
