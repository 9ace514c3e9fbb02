-- What the loop over the men keeps: what the plans have of the men so far.
use Rattle.pg_journeys.proofs.Common.{◌≡◌, ◌≢◌, ℕ, ◌+◌, ◌<◌, ◌≤◌, ◌⊎◌, inl, inr, ◌↔◌, Option, Bool, true, false, get_or, sym, subst, arith, List, [], length, refl, set, cases_lt, get_or-set_same, get_or-set_other, has, has-none, other, Placement, IsSetOf, Wing, Side, Walker, landing, IsSide, AreRooms, Lands, FallsOn, Changes, AreEnds, TakesToSome, FallsBy, ChangesBy, IsFull, walker_of, HasRooms, ∥∥₁_map, dec_and, dec_less}
use Rattle.pg_journeys.proofs.SideLemmas.{decided, dec_end}
use Rattle.pg_journeys.proofs.SiftedSets.{IsJoined, join_next, join_none, join_full}
use Rattle.pg_journeys.proofs.NarrowedPlans.{LandsOf, FallsOf, IsAsked, ends_are, lands_known, falls_known, lands_found, lands_back, falls_found, falls_back, changes_found, changes_back, lands_change, falls_change}

-- the widest room is low, as each room is
wide_low : (d : Placement) (x : Side) (quiet : Bool) (way : Option Wing) (most : ℕ) (rooms : List (List ℕ)) (i wide : ℕ) → AreRooms d x quiet way most rooms → i < x.men.count → most < 200 → ((n : ℕ) → ((e : ℕ) → e < 17 → get_or (get_or rooms i []) e 0 < 255 → get_or (get_or rooms i []) e 0 ≤ n) → wide ≤ n) → wide < 200
wide_low d x quiet way most rooms i wide roomed low small widest = let h : wide ≤ most = widest most (λ e le some. roomed.small i e low le some) in omega arith

-- what is asked of a man, by the functions' contracts
pub asked_of : (d : Placement) (x : Side) (quiet : Bool) (way : Option Wing) (most : ℕ) (rooms : List (List ℕ)) (i : ℕ) → IsSide d x → AreRooms d x quiet way most rooms → most < 200 → i < x.men.count → IsAsked d x quiet way most rooms i
asked_of d x quiet way most rooms i side roomed small low = record { side = side; roomed = roomed; small = small; low = low }

ends_here : (d : Placement) (x : Side) (quiet : Bool) (way : Option Wing) (most : ℕ) (rooms : List (List ℕ)) (i : ℕ) → IsSide d x → AreRooms d x quiet way most rooms → most < 200 → i < x.men.count → AreEnds x (get_or rooms i [])
ends_here d x quiet way most rooms i side roomed small low = ends_are d x quiet way most rooms i (asked_of d x quiet way most rooms i side roomed small low)

-- the rooms are those on the way to each diagram whose side it is
abbrev AreRoomsFor : Side → Bool → Option Wing → ℕ → List (List ℕ) → Type 0
AreRoomsFor x quiet way most rooms = (d : Placement) → IsSide d x → AreRooms d x quiet way most rooms

pub ends_known : (x : Side) (quiet : Bool) (way : Option Wing) (most : ℕ) (rooms : List (List ℕ)) (i : ℕ) → AreRoomsFor x quiet way most rooms → most < 200 → i < x.men.count → AreEnds x (get_or rooms i [])
ends_known x quiet way most rooms i roomed small low e le some =
    decided (dec_and (dec_less _ 200) (dec_end x e)) (∥∥₁_map x.made (λ w. ends_here w.0 x quiet way most rooms i w.1 (roomed w.0 w.1) small low e le some))

pub fall_low : (x : Side) (quiet : Bool) (way : Option Wing) (most : ℕ) (rooms : List (List ℕ)) (i : ℕ) → HasRooms x quiet way most rooms → most < 200 → i < x.men.count →
    get_or (get_or rooms i []) 16 0 < 255 → get_or (get_or rooms i []) 16 0 < 200
fall_low x quiet way most rooms i roomed small low some = (ends_known x quiet way most rooms i (λ d side. (roomed d quiet side (inl refl)).0) small low 16 (omega arith) some).0

pub wide_known : (x : Side) (quiet : Bool) (way : Option Wing) (most : ℕ) (rooms : List (List ℕ)) (i wide : ℕ) → AreRoomsFor x quiet way most rooms → i < x.men.count → most < 200 →
    ((n : ℕ) → ((e : ℕ) → e < 17 → get_or (get_or rooms i []) e 0 < 255 → get_or (get_or rooms i []) e 0 ≤ n) → wide ≤ n) → wide < 200
wide_known x quiet way most rooms i wide roomed low small widest =
    decided (dec_less wide 200) (∥∥₁_map x.made (λ w. wide_low w.0 x quiet way most rooms i wide (roomed w.0 w.1) low small widest))

module _ (d : Placement) (x : Side) (quiet : Bool) (way : Option Wing) (most : ℕ) (rooms : List (List ℕ)) (i : ℕ) (asked : IsAsked d x quiet way most rooms i) (man : Walker) (is : man ≡ walker_of x quiet way i) where
  pub lands_next : (old all more : ℕ) → IsSetOf more (λ q. (has all q ≡ true) ⊎ TakesToSome x man.runner (get_or rooms i []) q) → IsJoined (LandsOf d x quiet way most) old i all → IsJoined (LandsOf d x quiet way most) old (i + 1) more
  lands_next old all more made h =
      join_next (LandsOf d x quiet way most) (TakesToSome x man.runner (get_or rooms i [])) old i all more made
      (λ q l t. lands_back d x quiet way most rooms i asked q l (subst (λ (m : Walker). TakesToSome x m.runner (get_or rooms i []) q) is t))
      (λ q l t. subst (λ (m : Walker). TakesToSome x m.runner (get_or rooms i []) q) (sym is) (lands_found d x quiet way most rooms i asked q l t)) h

  pub falls_next : (old all more : ℕ) → IsSetOf more (λ q. (has all q ≡ true) ⊎ FallsBy x man (get_or (get_or rooms i []) 16 0) q) → IsJoined (FallsOf d x quiet way most) old i all → IsJoined (FallsOf d x quiet way most) old (i + 1) more
  falls_next old all more made h =
      join_next (FallsOf d x quiet way most) (λ q. FallsBy x man (get_or (get_or rooms i []) 16 0) q) old i all more made
      (λ q l t. falls_back d x quiet way most rooms i asked q l (subst (λ (m : Walker). FallsBy x m (get_or (get_or rooms i []) 16 0) q) is t))
      (λ q l t. subst (λ (m : Walker). FallsBy x m (get_or (get_or rooms i []) 16 0) q) (sym is) (falls_found d x quiet way most rooms i asked q l t)) h

  changes_is : (v : ℕ) → ((e : ℕ) → e < 17 → (has v e ≡ true) ↔ ((get_or (get_or rooms i []) e 0 < 255) × ChangesBy x man e (get_or (get_or rooms i []) e 0))) → (e : ℕ) → e < 17 → (has v e ≡ true) ↔ Changes d x quiet way most i e
  changes_is v made e le = (
    λ t. changes_back d x quiet way most rooms i asked e le (subst (λ (m : Walker). (get_or (get_or rooms i []) e 0 < 255) × ChangesBy x m e (get_or (get_or rooms i []) e 0)) is ((made e le).0 t)),
    λ t. (made e le).1 (subst (λ (m : Walker). (get_or (get_or rooms i []) e 0 < 255) × ChangesBy x m e (get_or (get_or rooms i []) e 0)) (sym is) (changes_found d x quiet way most rooms i asked e le t)),
  )

  -- who changes by no end
  abbrev AreChanges : ℕ → Type 0
  AreChanges v = (e : ℕ) → e < 17 → (has v e ≡ true) ↔ ((get_or (get_or rooms i []) e 0 < 255) × ChangesBy x man e (get_or (get_or rooms i []) e 0))

  no_change : (v : ℕ) → AreChanges v → v ≡ 0 → (w : (e : ℕ) × (e < 17) × Changes d x quiet way most i e) → ⊥
  no_change v made none w =
      let on : has v w.0 ≡ true = (changes_is v made w.0 w.1).1 w.2 in
      let off : has v w.0 ≡ false = subst (λ (n : ℕ). has n w.0 ≡ false) (sym none) (has-none w.0) in
      cc

  -- where nothing new may be found, what was found stays
  pub lands_stay : (v : ℕ) → AreChanges v → (old all : ℕ) → (v ≡ 0) ⊎ IsFull (landing x.terrain.facts x.terrain.color) all → IsJoined (LandsOf d x quiet way most) old i all → IsJoined (LandsOf d x quiet way most) old (i + 1) all
  lands_stay v made old all (inl none) h = join_none (LandsOf d x quiet way most) old i all (λ q t. no_change v made none (lands_change d x quiet way most rooms i asked q t)) h
  lands_stay v made old all (inr full) h = join_full (LandsOf d x quiet way most) old i all (λ q l t. full q l (lands_known d x quiet way most rooms i asked q l t)) h

  pub falls_stay : (v : ℕ) → AreChanges v → (old all : ℕ) → (get_or (get_or rooms i []) 16 0 < 255 → (v ≡ 0) ⊎ IsFull (landing x.terrain.facts (other x.terrain.color)) all) → IsJoined (FallsOf d x quiet way most) old i all → IsJoined (FallsOf d x quiet way most) old (i + 1) all
  falls_stay v made old all full h = join_full (FallsOf d x quiet way most) old i all
      (λ q l t.
      let w : (get_or (get_or rooms i []) 16 0 < 255) × (has (landing x.terrain.facts (other x.terrain.color)) q ≡ true) = falls_known d x quiet way most rooms i asked q l t in
      elim (full w.0) [
        | inl none ↦ absurd (no_change v made none (falls_change d x quiet way most rooms i asked q t))
        | inr there ↦ there q l w.1
      ]) h

  pub ends_next : (ends : List ℕ) (v : ℕ) → i < length ends → ((e : ℕ) → e < 17 → (has v e ≡ true) ↔ ((get_or (get_or rooms i []) e 0 < 255) × ChangesBy x man e (get_or (get_or rooms i []) e 0))) → ((j e : ℕ) → j < i → e < 17 → (has (get_or ends j 0) e ≡ true) ↔ Changes d x quiet way most j e) → (j e : ℕ) → j < i + 1 → e < 17 → (has (get_or (set ends i v) j 0) e ≡ true) ↔ Changes d x quiet way most j e
  ends_next ends v low made before j e lj le = elim (cases_lt j i) [
    | inl less ↦
        (let ne : j ≢ i = omega arith in
        subst (λ (n : ℕ). (has n e ≡ true) ↔ Changes d x quiet way most j e) (sym (get_or-set_other ends i j v 0 ne)) (before j e less le))
    | inr over ↦
        (let same : i ≡ j = omega arith in
        subst (λ (k : ℕ). (has (get_or (set ends i v) k 0) e ≡ true) ↔ Changes d x quiet way most k e) same
        (subst (λ (n : ℕ). (has n e ≡ true) ↔ Changes d x quiet way most i e) (sym (get_or-set_same ends i v 0 low)) (changes_is v made e le)))
  ]

-- ---- when all men were looked at
pub all_lands : (d : Placement) (x : Side) (quiet : Bool) (way : Option Wing) (most old n all : ℕ) → n ≤ x.men.count → x.men.count ≤ n → IsJoined (LandsOf d x quiet way most) old n all → IsSetOf all (λ q. (has old q ≡ true) ⊎ Lands d x quiet way most q)
all_lands d x quiet way most old n all lo hi h q l = (
  λ t. elim ((h q l).0 t) [
    | inl a ↦ inl a
    | inr w ↦ (let g : LandsOf d x quiet way most w.0 q = w.2 in let low : w.0 < n = w.1 in inr (g.0, g.1, (w.0, omega arith, g.2)))
  ],
  λ s. elim s [
    | inl a ↦ (h q l).1 (inl a)
    | inr t ↦ (h q l).1 (inr (t.2.0, (let low : t.2.0 < x.men.count = t.2.1 in omega arith), (t.0, t.1, t.2.2)))
  ],
)

pub all_falls : (d : Placement) (x : Side) (quiet : Bool) (way : Option Wing) (most old n all : ℕ) → n ≤ x.men.count → x.men.count ≤ n → IsJoined (FallsOf d x quiet way most) old n all → IsSetOf all (λ q. (has old q ≡ true) ⊎ FallsOn d x quiet way most q)
all_falls d x quiet way most old n all lo hi h q l = (
  λ t. elim ((h q l).0 t) [
    | inl a ↦ inl a
    | inr w ↦ (let g : FallsOf d x quiet way most w.0 q = w.2 in let low : w.0 < n = w.1 in inr (g.0, g.1, (w.0, omega arith, g.2)))
  ],
  λ s. elim s [
    | inl a ↦ (h q l).1 (inl a)
    | inr t ↦ (h q l).1 (inr (t.2.0, (let low : t.2.0 < x.men.count = t.2.1 in omega arith), (t.0, t.1, t.2.2)))
  ],
)
