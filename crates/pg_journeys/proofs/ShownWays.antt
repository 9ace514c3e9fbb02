-- What the plans of ways show, taken together way by way. Leads to the contract of `ways_shown`.
use Rattle.pg_journeys.proofs.Common.{◌≡◌, ℕ, ◌⊎◌, ◌||◌, inl, inr, Option, Some, None, Bool, true, false, refl, sym, subst, ◌∙◌, List, [], ◌∷◌, MatchOption, IfNone, IfSome, has, Color, Placement, IsSetOf, Wing, KingSide, QueenSide, State, Facts, Measure, Moves, QuietMoves, IsAlive, StaysIn, TakesIn, FallsIn, ShowsNone, IsWithFound, ShowsWay, IsOneOf, ShowsWays, NoneAlive, ShowsAmong, IsDead, Shows, lands_by, falls_by, Shown}
use Rattle.pg_journeys.specs.inner.Showing.{IsJoined}

-- ---- two sets that become one
pub either : (a b r : Bool) → r ≡ (a || b) → r ≡ true → (a ≡ true) ⊎ (b ≡ true)
either true b r e h = inl refl
either false b r e h = inr (sym e ∙ h)

pub of_one : (a b r : Bool) → r ≡ (a || b) → a ≡ true → r ≡ true
of_one true b r e h = e
of_one false b r e h = cc

pub of_other : (a b r : Bool) → r ≡ (a || b) → b ≡ true → r ≡ true
of_other true b r e h = e
of_other false b r e h = e ∙ h

pub neither : (a b r : Bool) → r ≡ (a || b) → r ≡ false → (a ≡ false) × (b ≡ false)
neither true b r e h = cc
neither false b r e h = (refl, sym e ∙ h)

pub both_off : (a b r : Bool) → r ≡ (a || b) → a ≡ false → b ≡ false → r ≡ false
both_off true b r e h g = cc
both_off false b r e h g = e ∙ g

module _ (f : Facts) (d : Placement) (p : State) (k : ℕ) (c : Color) (ways : List (Option Wing)) (way : Option Wing) where
  abbrev Alive : Option Wing → Type 0
  Alive v = IsAlive f d p k c v

  -- what some way alive has
  abbrev Some_way : (Option Wing → ℕ → Type 0) → List (Option Wing) → ℕ → Type 0
  Some_way P vs q = (v : Option Wing) × IsOneOf v vs × IsAlive f d p k c v × P v q

  first_set : (P : Option Wing → ℕ → Type 0) (found a : ℕ) → ((q : ℕ) → has found q ≡ false) → NoneAlive f d p k c ways → Alive way → IsWithFound (P way) found a → IsSetOf a (Some_way P (way ∷ ways))
  first_set P found a nothing none alive set q l = (λ h. forth ((set q l).1 h), back)
    where
      forth : (has found q ≡ true) ⊎ P way q → Some_way P (way ∷ ways) q
      forth (inl h) = absurd (let off : has found q ≡ false = nothing q in cc)
      forth (inr h) = (way, inl refl, alive, h)

      back : Some_way P (way ∷ ways) q → has a q ≡ true
      back (v, inl e, live, h) = (set q l).0 (subst (λ (w : Option Wing). P w q) e h)
      back (v, inr here, live, h) = absurd (none v here live)

  next_set : (P : Option Wing → ℕ → Type 0) (a b r : ℕ) → ((q : ℕ) → has r q ≡ (has a q || has b q)) → Alive way → IsSetOf a (Some_way P ways) → IsWithFound (P way) a b → IsSetOf r (Some_way P (way ∷ ways))
  next_set P a b r join alive old new q l = (λ h. forth (either (has a q) (has b q) (has r q) (join q) h), back)
    where
      before : has a q ≡ true → Some_way P (way ∷ ways) q
      before h = let y : Some_way P ways q = (old q l).0 h in (y.0, inr y.1, y.2, y.3)

      forth : (has a q ≡ true) ⊎ (has b q ≡ true) → Some_way P (way ∷ ways) q
      forth (inl h) = before h
      forth (inr h) = elim ((new q l).1 h) [ inl y ↦ before y | inr y ↦ (way, inl refl, alive, y) ]

      back : Some_way P (way ∷ ways) q → has r q ≡ true
      back (v, inl e, live, h) = of_other (has a q) (has b q) (has r q) (join q) ((new q l).0 (subst (λ (w : Option Wing). P w q) e h))
      back (v, inr here, live, h) = of_one (has a q) (has b q) (has r q) (join q) ((old q l).1 (v, here, live, h))

  dead_set : (P : Option Wing → ℕ → Type 0) (a : ℕ) → ¬ Alive way → IsSetOf a (Some_way P ways) → IsSetOf a (Some_way P (way ∷ ways))
  dead_set P a dead old q l = (λ h. (let y : Some_way P ways q = (old q l).0 h in (y.0, inr y.1, y.2, y.3)), back)
    where
      back : Some_way P (way ∷ ways) q → has a q ≡ true
      back (v, inl e, live, h) = absurd (dead (subst (λ (w : Option Wing). Alive w) e live))
      back (v, inr here, live, h) = (old q l).1 (v, here, live, h)

  -- the man on s stays in each way alive
  abbrev StaysAmong : List (Option Wing) → ℕ → Type 0
  StaysAmong vs s = (v : Option Wing) → IsOneOf v vs → IsAlive f d p k c v → StaysIn f d p k c v s

  more_stays : (s : ℕ) → (Alive way → StaysIn f d p k c way s) → StaysAmong ways s → StaysAmong (way ∷ ways) s
  more_stays s new old v (inl e) live = subst (λ (w : Option Wing). StaysIn f d p k c w s) (sym e) (new (subst (λ (w : Option Wing). Alive w) e live))
  more_stays s new old v (inr here) live = old v here live

  -- the first way alive
  pub first_way : (found a : Shown) → ShowsNone found → NoneAlive f d p k c ways → Alive way → ShowsWay f d p k c way found a → ShowsWays f d p k c (way ∷ ways) a
  first_way found a nothing none alive shows = record {
    alive = (way, inl refl, alive);
    lands = λ u. first_set (λ v. TakesIn f d p k c v u) (lands_by found u) (lands_by a u) (nothing.lands u) none alive (shows.lands u);
    falls = λ u. first_set (λ v. FallsIn f d p k c v u) (falls_by found u) (falls_by a u) (nothing.falls u) none alive (shows.falls u);
    stays = λ j s l st. (
      λ h. more_stays s (λ _. (shows.stays j s l st).0 h) (λ v here live. absurd (none v here live)),
      λ h. (shows.stays j s l st).1 (h way (inl refl) alive),
    );
  }

  -- a further way alive
  pub next_way : (a b r : Shown) → IsJoined a b r → ShowsWays f d p k c ways a → Alive way → ShowsWay f d p k c way a b → ShowsWays f d p k c (way ∷ ways) r
  next_way a b r join old alive shows = record {
    alive = (way, inl refl, alive);
    lands = lands;
    falls = falls;
    stays = λ j s l st. (
      λ h.
          (let y : (has a.changed s ≡ false) × (has b.changed s ≡ false) = neither (has a.changed s) (has b.changed s) (has r.changed s) (join.changed s) h in
          more_stays s (λ _. (shows.stays j s l st).0 y.1) ((old.stays j s l st).0 y.0)),
      λ h. both_off (has a.changed s) (has b.changed s) (has r.changed s) (join.changed s) ((old.stays j s l st).1 (λ v here live. h v (inr here) live)) ((shows.stays j s l st).1 (h way (inl refl) alive)),
    );
  }
    where
      lands : (u : Measure) → IsSetOf (lands_by r u) (Some_way (λ v. TakesIn f d p k c v u) (way ∷ ways))
      lands Moves = next_set (λ v. TakesIn f d p k c v Moves) a.lands b.lands r.lands join.lands alive (old.lands Moves) (shows.lands Moves)
      lands QuietMoves = next_set (λ v. TakesIn f d p k c v QuietMoves) a.quiet_lands b.quiet_lands r.quiet_lands join.quiet_lands alive (old.lands QuietMoves) (shows.lands QuietMoves)

      falls : (u : Measure) → IsSetOf (falls_by r u) (Some_way (λ v. FallsIn f d p k c v u) (way ∷ ways))
      falls Moves = next_set (λ v. FallsIn f d p k c v Moves) a.falls b.falls r.falls join.falls alive (old.falls Moves) (shows.falls Moves)
      falls QuietMoves = next_set (λ v. FallsIn f d p k c v QuietMoves) a.quiet_falls b.quiet_falls r.quiet_falls join.quiet_falls alive (old.falls QuietMoves) (shows.falls QuietMoves)

  dead_shows : (a : Shown) → ¬ Alive way → ShowsWays f d p k c ways a → ShowsWays f d p k c (way ∷ ways) a
  dead_shows a dead old = record {
    alive = (old.alive.0, inr old.alive.1, old.alive.2);
    lands = λ u. dead_set (λ v. TakesIn f d p k c v u) (lands_by a u) dead (old.lands u);
    falls = λ u. dead_set (λ v. FallsIn f d p k c v u) (falls_by a u) dead (old.falls u);
    stays = λ j s l st. (
      λ h. more_stays s (λ live. absurd (dead live)) ((old.stays j s l st).0 h),
      λ h. (old.stays j s l st).1 (λ v here live. h v (inr here) live),
    );
  }

  none_more : ¬ Alive way → NoneAlive f d p k c ways → NoneAlive f d p k c (way ∷ ways)
  none_more dead none v (inl e) live = dead (subst (λ (w : Option Wing). Alive w) e live)
  none_more dead none v (inr here) live = none v here live

  -- a way that is not alive
  pub dead_way : (o : Option Shown) → ¬ Alive way → ShowsAmong f d p k c ways o → ShowsAmong f d p k c (way ∷ ways) o
  dead_way None dead old = none_more dead old
  dead_way (Some a) dead old = dead_shows a dead old

  pub add_first : (o r : Option Shown) (found : Shown) → o ≡ None → ShowsNone found → ShowsAmong f d p k c ways o →
      IfNone r (¬ IsAlive f d p k c way) → IfSome r (λ a. IsAlive f d p k c way × ShowsWay f d p k c way found a) → ShowsAmong f d p k c (way ∷ ways) r
  add_first o None found e nothing old dead shows = dead_way None dead (subst (λ (x : Option Shown). ShowsAmong f d p k c ways x) e old)
  add_first o (Some a) found e nothing old dead shows = first_way found a nothing (subst (λ (x : Option Shown). ShowsAmong f d p k c ways x) e old) shows.0 shows.1

  pub add_next : (o : Option Shown) (b a r : Shown) → o ≡ Some b → IsJoined b a r → ShowsAmong f d p k c ways o → IsAlive f d p k c way → ShowsWay f d p k c way b a → ShowsAmong f d p k c (way ∷ ways) (Some r)
  add_next o b a r e join old alive shows = next_way b a r join (subst (λ (x : Option Shown). ShowsAmong f d p k c ways x) e old) alive shows

-- ---- all ways
module _ (f : Facts) (d : Placement) (p : State) (k : ℕ) (c : Color) where
  abbrev every : List (Option Wing)
  every = Some QueenSide ∷ (Some KingSide ∷ (None ∷ []))

  is_one : (v : Option Wing) → IsOneOf v every
  is_one None = inr (inr (inl refl))
  is_one (Some KingSide) = inr (inl refl)
  is_one (Some QueenSide) = inl refl

  shows_all : (a : Shown) → ShowsWays f d p k c every a → Shows f d p k c a
  shows_all a shows = record {
    alive = (shows.alive.0, shows.alive.2);
    lands = λ u q l. (λ h. (let y : (v : Option Wing) × IsOneOf v every × IsAlive f d p k c v × TakesIn f d p k c v u q = (shows.lands u q l).0 h in (y.0, y.2, y.3)), λ (v, live, h). (shows.lands u q l).1 (v, is_one v, live, h));
    falls = λ u q l. (λ h. (let y : (v : Option Wing) × IsOneOf v every × IsAlive f d p k c v × FallsIn f d p k c v u q = (shows.falls u q l).0 h in (y.0, y.2, y.3)), λ (v, live, h). (shows.falls u q l).1 (v, is_one v, live, h));
    stays = λ j s l st. (λ h v live. (shows.stays j s l st).0 h v (is_one v) live, λ h. (shows.stays j s l st).1 (λ v here live. h v live));
  }

  -- what is shown of all ways
  pub all_ways : (o : Option Shown) → ShowsAmong f d p k c every o → MatchOption o (IsDead f d p k c) (λ a. Shows f d p k c a)
  all_ways None none = λ v. none v (is_one v)
  all_ways (Some a) shows = shows_all a shows

-- what each of the three ways has, all have
pub each_way : (P : Option Wing → Type 0) → P None → P (Some KingSide) → P (Some QueenSide) → (way : Option Wing) → P way
each_way P n s l None = n
each_way P n s l (Some KingSide) = s
each_way P n s l (Some QueenSide) = l

-- what holds of an answer under a premise, where the premise holds
pub if_none : {P Q : Type 0} (r : Option Shown) → (P → Q) → IfNone r P → IfNone r Q
if_none None f h = f h
if_none (Some a) f h = h

pub if_some : {P Q : Shown → Type 0} (r : Option Shown) → ((a : Shown) → P a → Q a) → IfSome r P → IfSome r Q
if_some None f h = h
if_some (Some a) f h = f a h
