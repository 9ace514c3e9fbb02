-- Positions that are the same for a colour show it the same. Leads to the contracts of `recall` and `shown_in`.
use Rattle.pg_journeys.proofs.Common.{◌≡◌, ℕ, ◌+◌, ◌<◌, ◌≤◌, inl, inr, Option, Some, None, sym, subst, arith, ◌∙◌, List, length, Color, Kind, total, Placement, Wing, State, Stands, plies_left, victims, charge, counted, Facts, known, Leg, quiet, Fate, Arrives, Falls, Meets, IsWayUnder, Journeys, Measure, Moves, QuietMoves, IsPaid, IsAlive, StaysIn, PlansToTake, PlansToFall, IsDead, Shows, AreSameFor, AreAlike, IsAnswer, Case, Shown}
use Rattle.pg_journeys.specs.declared.facts.Facts.{Facts as FactSets}

-- what is the same one way is the same the other way
pub turned : (f : Facts) (c : Color) (p q : State) (k n : ℕ) → AreSameFor f c p q k n → AreSameFor f c q p n k
turned f c p q k n l = record {
  men = λ j s low. ((l.men j s low).1, (l.men j s low).0);
  rights = λ w. sym (l.rights w);
  passed = λ s u lands. ((l.passed s u lands).1, (l.passed s u lands).0);
  plies = sym l.plies;
  victims = sym l.victims;
}

module _ (f : Facts) (d : Placement) (c : Color) (p q : State) (k n : ℕ) (l : AreSameFor f c p q k n) where
  meets_there : (j : Kind) (s r : ℕ) (ls : List Leg) (o : Fate) → Meets f d p c j s r ls o → Meets f d q c j s r ls o
  meets_there j s r ls (Arrives t) h = h
  meets_there j s r ls (Falls u) (ne, low, lands, inl path) = (ne, low, lands, inl path)
  meets_there j s r ls (Falls u) (ne, low, lands, inr (has, none)) = (ne, low, lands, inr ((l.passed s u lands).0 has, none))

  way_there : (way : Option Wing) → IsWayUnder f p c way → IsWayUnder f q c way
  way_there None h = h
  way_there (Some w) (held, king, rook, between) = (sym (l.rights w) ∙ held, king, rook, between)

  module _ (way : Option Wing) where
    journeys_there : Journeys f d p c way → Journeys f d q c way
    journeys_there g = record {
      fate = g.fate;
      path = g.path;
      meets = λ j s low st. meets_there j s (counted c way s) (g.path s) (g.fate s) (g.meets j s low ((l.men j s low).1 st));
      different = λ j i r s t lr ls sr ss er es. g.different j i r s t lr ls ((l.men j r lr).1 sr) ((l.men i s ls).1 ss) er es;
      reached = λ j t low st.
          (let h : (i : Kind) × (s : ℕ) × (s < 64) × Stands p.board c i s × (g.fate s ≡ Arrives t) = g.reached j t low st in
          (h.0, h.1, h.2, (l.men h.0 h.1 h.2).0 h.3, h.4));
    }

    paid_there : (u : Measure) (g : Journeys f d p c way) → IsPaid f d p k c way u g → IsPaid f d q n c way u (journeys_there g)
    unfolding journeys_there
    paid_there Moves g paid =
        let a : charge way + total (λ s. length (g.path s)) 64 ≤ plies_left p.side c k = paid in
        omega (arith, a, l.plies)
    paid_there QuietMoves g paid =
        let a : charge way + total (λ s. quiet f c (g.path s)) 64 + victims c p.board ≤ plies_left p.side c k + victims c d = paid in
        omega (arith, a, l.plies, l.victims)

    pub alive_there : IsAlive f d p k c way → IsAlive f d q n c way
    alive_there (held, plans) = (
      way_there way held,
      λ u. (let h : (g : Journeys f d p c way) × IsPaid f d p k c way u g = plans u in (journeys_there h.0, paid_there u h.0 h.1)),
    )

    -- who stays there stays here
    pub stays_here : (s : ℕ) → StaysIn f d q n c way s → StaysIn f d p k c way s
    unfolding journeys_there
    stays_here s stays = record {
      starts = stays.starts;
      rests = λ t. ((stays.rests t).0, λ g paid fate. (stays.rests t).1 (journeys_there g) (paid_there (stays.rests t).0 g paid) fate);
      lives = (stays.lives.0, λ g paid o fate. stays.lives.1 (journeys_there g) (paid_there stays.lives.0 g paid) o fate);
    }

  pub takes_there : (u : Measure) (o : ℕ) → PlansToTake f d p k c u o → PlansToTake f d q n c u o
  unfolding journeys_there
  takes_there u o (way, alive, (g, paid, (i, s, low, st, take))) =
      (way, alive_there way alive, (journeys_there way g, paid_there way u g paid, (i, s, low, (l.men i s low).0 st, take)))

  pub falls_there : (u : Measure) (o : ℕ) → PlansToFall f d p k c u o → PlansToFall f d q n c u o
  unfolding journeys_there
  falls_there u o (way, alive, (g, paid, (i, s, low, st, fall))) =
      (way, alive_there way alive, (journeys_there way g, paid_there way u g paid, (i, s, low, (l.men i s low).0 st, fall)))

module _ (f : Facts) (d : Placement) (c : Color) (p q : State) (k n : ℕ) (l : AreSameFor f c p q k n) where
  back : AreSameFor f c q p n k
  back = turned f c p q k n l

  shown_there : (a : Shown) → Shows f d p k c a → Shows f d q n c a
  shown_there a h = record {
    alive = (h.alive.0, alive_there f d c p q k n l h.alive.0 h.alive.1);
    lands = λ u o low. (
      λ t. takes_there f d c p q k n l u o ((h.lands u o low).0 t),
      λ t. (h.lands u o low).1 (takes_there f d c q p n k back u o t),
    );
    falls = λ u o low. (
      λ t. falls_there f d c p q k n l u o ((h.falls u o low).0 t),
      λ t. (h.falls u o low).1 (falls_there f d c q p n k back u o t),
    );
    stays = λ j s low st. (
      λ t way alive. stays_here f d c q p n k back way s (((h.stays j s low ((l.men j s low).1 st)).0 t) way (alive_there f d c q p n k back way alive)),
      λ t. (h.stays j s low ((l.men j s low).1 st)).1 (λ way alive. stays_here f d c p q k n l way s (t way (alive_there f d c p q k n l way alive))),
    );
  }

  dead_there : IsDead f d p k c → IsDead f d q n c
  dead_there h = λ way alive. h way (alive_there f d c q p n k back way alive)

-- alike cases have the same answer
moved : (d : Placement) (a b : Case) (o : Option Shown) → AreAlike a b → IsAnswer d a o → IsAnswer d (record { position = b.position; left = b.left; facts = a.facts; color = a.color }) o
moved d a b None l h = dead_there (known a.facts) d a.color a.position b.position a.left b.left l.same h
moved d a b (Some x) l h = shown_there (known a.facts) d a.color a.position b.position a.left b.left l.same x h

pub same_answer : (d : Placement) (a b : Case) (o : Option Shown) → AreAlike a b → IsAnswer d a o → IsAnswer d b o
same_answer d a b o l h =
    subst (λ (e : FactSets). IsAnswer d (record { position = b.position; left = b.left; facts = e; color = b.color }) o) l.facts
    (subst (λ (x : Color). IsAnswer d (record { position = b.position; left = b.left; facts = a.facts; color = x }) o) l.color (moved d a b o l h))
