-- The least distances by rows, and the need of a way from them. Leads to the contracts of least_rows.
use Rattle.pg_travel.proofs.Common.{◌≡◌, ◌≢◌, ℕ, zero, suc, ◌+◌, cond, ◌<◌, ◌≤◌, ◌⊎◌, not, nat_eq, ◌&&◌, inl, inr, Bool, true, false, leb, Option, Some, None, List, length, get_or, set, refl, sym, ap, subst, arith, ◌∙◌, eqb_tells, leb_tells, ne_eqb, get_or-set_same, get_or-set_other, length-set, Color, White, Black, Kind, Pawn, Knight, Bishop, Rook, Queen, King, Man, has, man, color_eq, is_of, is_man, IsSetOf, IsFirstFrom, HasNoneFrom, color_decides, is_man_decides, Placement, get, total, total-none, total-more, tally_below-none, tally_below-all, set_of_rest, Wing, KingSide, QueenSide, State, Stands, king_home, rook_home, king_target, king_crossed, of_color, men, any_man, plies_left, number_among, counted, charge, sum_of, some_by_steps, walk_bounds, least_at_most, least_reached, counted_low, sum_is_value, cost_man, distance_of, least_of, reach_of, nearest, cost, SumIs, PaysIs, stored, IsRow, at_target, steps_of, IsUnreached, AreLesser, IsLowered, IsHomeOf, IsOff, StandsOff, IsLeastFrom, IsFree, IsAway, IsLeastRow, row_cost}
use Rattle.pg_travel.proofs.Skips.{sum_skip, cost_none}
use Rattle.pg_travel.proofs.TakenSets.{AreAll, IsWithout, other_than, taken_itself}
use Rattle.pg_travel.proofs.SourceLemmas.{row_has, below_all, of_there, of_man, number_next}
use Rattle.pg_travel.proofs.Within.{pays_by}

-- ---- a row without distances
-- what is known of the first i numbers
abbrev pub FirstUnreached : ℕ → ℕ → List ℕ → Type 0
FirstUnreached n i row = (length row ≡ 16) × ((j : ℕ) → j < i → (j < n → get_or row j 0 ≡ 255) × (n ≤ j → get_or row j 0 ≡ 0))

pub unreached_next : (n i x : ℕ) (row : List ℕ) → i < 16 → (i < n → x ≡ 255) → (n ≤ i → x ≡ 0) → FirstUnreached n i row → FirstUnreached n (i + 1) (set row i x)
unreached_next n i x row low among past h = (
  length-set row i x ∙ h.0,
  λ j l. elim (eqb_tells j i) [
    | inl w ↦ subst (λ (y : ℕ). (y < n → get_or (set row i x) y 0 ≡ 255) × (n ≤ y → get_or (set row i x) y 0 ≡ 0)) (sym w.1) (
      (λ y. get_or-set_same row i x 0 (omega (arith, h.0, low)) ∙ among y),
      (λ y. get_or-set_same row i x 0 (omega (arith, h.0, low)) ∙ past y),
    )
    | inr w ↦ (let ne : j ≢ i = w.1 in let before : j < i = omega arith in (
      (λ y. get_or-set_other row i j x 0 ne ∙ (h.1 j before).0 y),
      (λ y. get_or-set_other row i j x 0 ne ∙ (h.1 j before).1 y),
    ))
  ],
)

pub unreached_all : (n i : ℕ) (row : List ℕ) → i ≡ 16 → FirstUnreached n i row → IsUnreached n row
unreached_all n i row e h = record { long = h.0; none = λ j y l. (h.1 j (omega arith)).0 y; rest = λ j y l. (h.1 j (omega arith)).1 y }

-- ---- lowering
pub lowered_then : (d b : Placement) (c : Color) (way : Option Wing) (P Q : ℕ → Type 0) (x y z : List ℕ) → IsLowered d b c way P x y → IsLowered d b c way Q y z → IsLowered d b c way (λ q. P q ⊎ Q q) x z
lowered_then d b c way P Q x y z f g = record {
  kept = λ i l. omega (arith, f.kept i l, g.kept i l);
  below = λ j k t o lt there small lo either stands. elim either [
    | inl p ↦ omega (arith, g.kept (number_among c any_man d t) small, f.below j k t o lt there small lo p stands)
    | inr p ↦ g.below j k t o lt there small lo p stands
  ];
  from = λ j t lt there small. elim (g.from j t lt there small) [
    | inl e ↦ elim (f.from j t lt there small) [ inl h ↦ inl (e ∙ h) | inr h ↦ inr (h.0, h.1, h.2, inl h.3, h.4, e ∙ h.5) ]
    | inr h ↦ inr (h.0, h.1, h.2, inr h.3, h.4, h.5)
  ];
}

-- the same squares of men, said otherwise
pub lowered_as : (d b : Placement) (c : Color) (way : Option Wing) (P Q : ℕ → Type 0) (x y : List ℕ) → ((q : ℕ) (k : Kind) → q < 64 → Stands b c k q → Q q → P q) → ((q : ℕ) → q < 64 → P q → Q q) → IsLowered d b c way P x y → IsLowered d b c way Q x y
lowered_as d b c way P Q x y to back f = record {
  kept = f.kept;
  below = λ j k t o lt there small lo p stands. f.below j k t o lt there small lo (to o k lo stands p) stands;
  from = λ j t lt there small. elim (f.from j t lt there small) [ inl e ↦ inl e | inr h ↦ inr (h.0, h.1, h.2, back h.1 h.2 h.3, h.4, h.5) ];
}

-- squares that the way counts where they are
lowered_way : (d b : Placement) (c : Color) (way : Option Wing) (P : ℕ → Type 0) (x y : List ℕ) → ((q : ℕ) → q < 64 → P q → counted c way q ≡ q) → IsLowered d b c None P x y → IsLowered d b c way P x y
lowered_way d b c way P x y same f = record {
  kept = f.kept;
  below = λ j k t o lt there small lo p stands. subst (λ (r : ℕ). at_target d c y t ≤ stored (distance_of c j k r t)) (sym (same o lo p)) (f.below j k t o lt there small lo p stands);
  from = λ j t lt there small. elim (f.from j t lt there small) [ inl e ↦ inl e | inr h ↦ inr (h.0, h.1, h.2, h.3, h.4, h.5 ∙ ap (λ (r : ℕ). stored (distance_of c j h.0 r t)) (sym (same h.1 h.2 h.3))) ];
}

-- no man
pub lowered_none : (d b : Placement) (c : Color) (way : Option Wing) (P : ℕ → Type 0) (x : List ℕ) → ((q : ℕ) (k : Kind) → q < 64 → Stands b c k q → ¬ P q) → IsLowered d b c way P x x
lowered_none d b c way P x no_man = record {
  kept = λ i l. omega arith;
  below = λ j k t o lt there small lo p stands. absurd (no_man o k lo stands p);
  from = λ j t lt there small. inl refl;
}

pub same_kind : (k i : Kind) (c : Color) (o : Option Man) → o ≡ Some (man c k) → o ≡ Some (man c i) → k ≡ i
same_kind k i c o e f = let g : Some (man c k) ≡ Some (man c i) = sym e ∙ f in let q : man c k ≡ man c i = cc in ap (λ (z : Man). z.kind) q

-- a man
pub lowered_one : (d b : Placement) (c : Color) (way : Option Wing) (k : Kind) (o origin : ℕ) (x row y : List ℕ) → o < 64 → Stands b c k o → origin ≡ counted c way o → IsRow d c k origin row → AreLesser x row y → IsLowered d b c way (λ q. q ≡ o) x y
unfolding AreLesser
lowered_one d b c way k o origin x row y lo stands at isrow less = record {
  kept = λ i l. omega (arith, less.1 i l);
  below = λ j i t q lt there small lq e other.
      (let low : at_target d c y t ≤ steps_of c way k o j t = omega (arith, less.1 (number_among c any_man d t) small, has_it j t lt there small) in
      subst (λ (r : ℕ). at_target d c y t ≤ steps_of c way i r j t) (sym e) (subst (λ (z : Kind). at_target d c y t ≤ steps_of c way z o j t) (same_kind k i c (get b o) stands (subst (λ (r : ℕ). Stands b c i r) e other)) low));
  from = λ j t lt there small. elim (leb_tells (at_target d c x t) (at_target d c row t)) [
    | inl w ↦ inl (omega (arith, w.1, less.1 (number_among c any_man d t) small))
    | inr w ↦ inr (k, o, lo, refl, stands, omega (arith, w.1, less.1 (number_among c any_man d t) small, has_it j t lt there small))
  ];
}
  where
    has_it : (j : Kind) (t : ℕ) → t < 64 → Stands d c j t → number_among c any_man d t < 16 → at_target d c row t ≡ steps_of c way k o j t
    has_it j t lt there small = row_has d c k j origin t row isrow lt small there ∙ ap (λ (r : ℕ). stored (distance_of c j k r t)) at

-- ---- the men of a kind off a set
-- those on squares with Q that are in the set no longer
abbrev pub Taken : (ℕ → Type 0) → ℕ → ℕ → Type 0
Taken Q own q = Q q × (has own q ≡ false)

pub stands_off : (b : Placement) (m : Man) (all off own : ℕ) → ((q : ℕ) → q < 64 → has all q ≡ is_man m (get b q)) → ((q : ℕ) → q < 64 → has own q ≡ (has all q && not (has off q))) → IsSetOf own (StandsOff b m off)
stands_off b m all off own men rest = set_of_rest own all off rest (λ q l. ((λ h. (is_man_decides m (get b q)).0 (sym (men q l) ∙ h)), (λ h. men q l ∙ (is_man_decides m (get b q)).1 h))) (λ q l. ((λ h. h), (λ h. h)))

pub by_first : (d b : Placement) (c : Color) (Q : ℕ → Type 0) (own : ℕ) (x : List ℕ) → IsSetOf own Q → IsLowered d b c None (Taken Q own) x x
by_first d b c Q own x is = lowered_none d b c None (Taken Q own) x (λ q k l stands h. (let on : has own q ≡ true = (is q l).1 h.0 in let off : has own q ≡ false = h.1 in cc))

pub by_next : (d b : Placement) (m : Man) (Q : ℕ → Type 0) (old new o : ℕ) (x y row z : List ℕ) → ((q : ℕ) → Q q → get b q ≡ Some m) → AreAll Q old → IsFirstFrom old 0 o → IsWithout old new o → IsRow d m.color m.kind o row → AreLesser y row z → IsLowered d b m.color None (Taken Q old) x y → IsLowered d b m.color None (Taken Q new) x z
by_next d b m Q old new o x y row z stood all is rest isrow less h =
    lowered_as d b m.color None (λ q. Taken Q old q ⊎ (q ≡ o)) (Taken Q new) x z to back
    (lowered_then d b m.color None (Taken Q old) (λ q. q ≡ o) x y z h (lowered_one d b m.color None m.kind o o y row z is.on_board (stood o here) refl isrow less))
  where
    here : Q o
    here = all o is.on_board is.member

    to : (q : ℕ) (k : Kind) → q < 64 → Stands b m.color k q → Taken Q new q → Taken Q old q ⊎ (q ≡ o)
    to q k l stands p = elim (eqb_tells q o) [ inl w ↦ inr w.1 | inr w ↦ inl (p.0, sym (other_than old new o q rest l w.1) ∙ p.1) ]

    back : (q : ℕ) → q < 64 → Taken Q old q ⊎ (q ≡ o) → Taken Q new q
    back q l p = elim p [
      | inl h ↦ (h.0, elim (eqb_tells q o) [ inl w ↦ taken_itself old new o q rest l w.1 | inr w ↦ other_than old new o q rest l w.1 ∙ h.1 ])
      | inr h ↦ (subst Q (sym h) here, taken_itself old new o q rest l h)
    ]

pub by_all : (d b : Placement) (c : Color) (Q : ℕ → Type 0) (own : ℕ) (x y : List ℕ) → HasNoneFrom own 0 → IsLowered d b c None (Taken Q own) x y → IsLowered d b c None Q x y
by_all d b c Q own x y none h = lowered_as d b c None (Taken Q own) Q x y (λ q k l stands p. (p, none q (omega arith) l)) (λ q l p. p.0) h

-- ---- all kinds
abbrev OfKind : Placement → Color → ℕ → Kind → ℕ → Type 0
OfKind b c off k q = StandsOff b (man c k) off q

pub of_kind : (d b : Placement) (c : Color) (off : ℕ) (k : Kind) (m : Man) (x y : List ℕ) → m ≡ man c k → IsLowered d b m.color None (StandsOff b m off) x y → IsLowered d b c None (OfKind b c off k) x y
of_kind d b c off k m x y e h = subst (λ (z : Man). IsLowered d b z.color None (StandsOff b z off) x y) e h

pub off_lowered : (d b : Placement) (c : Color) (off : ℕ) (none pawns knights bishops rooks queens kings : List ℕ) → IsLowered d b c None (OfKind b c off Pawn) none pawns → IsLowered d b c None (OfKind b c off Knight) pawns knights → IsLowered d b c None (OfKind b c off Bishop) knights bishops → IsLowered d b c None (OfKind b c off Rook) bishops rooks → IsLowered d b c None (OfKind b c off Queen) rooks queens → IsLowered d b c None (OfKind b c off King) queens kings → IsLowered d b c None (IsOff off) none kings
off_lowered d b c off none pawns knights bishops rooks queens kings p n s r q k =
    lowered_as d b c None Six (IsOff off) none kings to back
    (lowered_then d b c None Five (OfKind b c off King) none queens kings
    (lowered_then d b c None Four (OfKind b c off Queen) none rooks queens
    (lowered_then d b c None Three (OfKind b c off Rook) none bishops rooks
    (lowered_then d b c None Two (OfKind b c off Bishop) none knights bishops
    (lowered_then d b c None (OfKind b c off Pawn) (OfKind b c off Knight) none pawns knights p n) s) r) q) k)
  where
    Two : ℕ → Type 0
    Two = λ q. OfKind b c off Pawn q ⊎ OfKind b c off Knight q

    Three : ℕ → Type 0
    Three = λ q. Two q ⊎ OfKind b c off Bishop q

    Four : ℕ → Type 0
    Four = λ q. Three q ⊎ OfKind b c off Rook q

    Five : ℕ → Type 0
    Five = λ q. Four q ⊎ OfKind b c off Queen q

    Six : ℕ → Type 0
    Six = λ q. Five q ⊎ OfKind b c off King q

    to : (q : ℕ) (k : Kind) → q < 64 → Stands b c k q → IsOff off q → Six q
    to q Pawn l stands p = inl (inl (inl (inl (inl (stands, p)))))
    to q Knight l stands p = inl (inl (inl (inl (inr (stands, p)))))
    to q Bishop l stands p = inl (inl (inl (inr (stands, p))))
    to q Rook l stands p = inl (inl (inr (stands, p)))
    to q Queen l stands p = inl (inr (stands, p))
    to q King l stands p = inr (stands, p)

    back : (q : ℕ) → q < 64 → Six q → IsOff off q
    back q l (inl (inl (inl (inl (inl h))))) = h.1
    back q l (inl (inl (inl (inl (inr h))))) = h.1
    back q l (inl (inl (inl (inr h)))) = h.1
    back q l (inl (inl (inr h))) = h.1
    back q l (inl (inr h)) = h.1
    back q l (inr h) = h.1

-- off no square are all men, and off the homes those that no way moves
pub free_is : (d b : Placement) (c : Color) (off : ℕ) (row : List ℕ) → HasNoneFrom off 0 → IsLeastFrom d b c (IsOff off) row → IsFree d b c row
free_is d b c off row none h = record { none = h.none; unreached = h.unreached; lowered = lowered_as d b c None (IsOff off) (λ q. q < 64) h.none row (λ q k l stands p on. (let f : has off q ≡ false = none q (omega arith) l in let g : has off q ≡ true = on in cc)) (λ q l p. l) h.lowered }

pub away_is : (d b : Placement) (c : Color) (off : ℕ) (row : List ℕ) → IsSetOf off (IsHomeOf c) → IsLeastFrom d b c (IsOff off) row → IsAway d b c row
away_is d b c off row homes h = record { none = h.none; unreached = h.unreached; lowered = lowered_as d b c None (IsOff off) (λ q. ¬ IsHomeOf c q) h.none row (λ q k l stands p on. p ((homes q l).0 on)) (λ q l p home. p ((homes q l).1 home)) h.lowered }

-- ---- the least of all
pub distance_low : (c : Color) (j k : Kind) (r t : ℕ) → r < 64 → t < 64 → distance_of c j k r t ≤ 64
distance_low c j k r t lr lt = elim (eqb_tells (distance_of c j k r t) 64) [
  | inl w ↦ omega (arith, w.1)
  | inr w ↦ (let b : (distance_of c j k r t ≤ distance_of c j k r t) × (distance_of c j k r t < 64) = walk_bounds c k r j t (distance_of c j k r t) lr lt (some_by_steps c k r j t (distance_of c j k r t) lr lt refl w.1).0 in omega (arith, b.1))
]

pub stored_is : (n : ℕ) → ((n ≡ 64) × (stored n ≡ 255)) ⊎ ((n ≢ 64) × (stored n ≡ n))
stored_is n = elim (eqb_tells n 64) [ inl w ↦ inl (w.1, ap (λ (b : Bool). cond b 255 n) w.0) | inr w ↦ inr (w.1, ap (λ (b : Bool). cond b 255 n) w.0) ]

pub reach_own : (b : Placement) (c : Color) (way : Option Wing) (j k : Kind) (t o : ℕ) → Stands b c k o → reach_of c way j t o (get b o) ≡ distance_of c j k (counted c way o) t
reach_own b c way j k t o h = ap (reach_of c way j t o) h ∙ ap (λ (x : Bool). cond x (distance_of c j k (counted c way o) t) 64) ((color_decides c c).1 refl)

pub reach_cases : (c : Color) (way : Option Wing) (j : Kind) (t o : ℕ) (m : Option Man) → (reach_of c way j t o m ≡ 64) ⊎ ((k : Kind) × (m ≡ Some (man c k)))
reach_cases c way j t o None = inl refl
reach_cases c way j t o (Some m) = go (color_eq c m.color) refl
  where
    go : (x : Bool) → color_eq c m.color ≡ x → (reach_of c way j t o (Some m) ≡ 64) ⊎ ((k : Kind) × (Some m ≡ Some (man c k)))
    go false e = inl (ap (λ (x : Bool). cond x (distance_of m.color j m.kind (counted c way o) t) 64) e)
    go true e = inr (m.kind, ap (λ (x : Color). Some (man x m.kind)) (sym ((color_decides c m.color).0 e)))

-- a number that no distance is below, and that is one or none, is the least
least_is : (b : Placement) (c : Color) (way : Option Wing) (j : Kind) (t x : ℕ) → t < 64 → ((k : Kind) (o : ℕ) → o < 64 → Stands b c k o → x ≤ steps_of c way k o j t) → (x ≡ 255) ⊎ ((k : Kind) × (o : ℕ) × (o < 64) × Stands b c k o × (x ≡ steps_of c way k o j t)) → x ≡ stored (nearest b c way j t)
unfolding nearest
least_is b c way j t x lt below from = elim (stored_is N) [ inl z ↦ far from z.0 z.1 | inr z ↦ near z.0 z.1 (least_reached F 64) ]
  where
    F : ℕ → ℕ
    F = λ o. reach_of c way j t o (get b o)

    N : ℕ
    N = least_of F 64

    no_nearer : (k : Kind) (o : ℕ) → o < 64 → Stands b c k o → (N ≤ distance_of c j k (counted c way o) t) × (distance_of c j k (counted c way o) t ≤ 64)
    no_nearer k o lo h = (omega (arith, least_at_most F 64 o lo, reach_own b c way j k t o h), distance_low c j k (counted c way o) t (counted_low c way o lo) lt)

    far : (x ≡ 255) ⊎ ((k : Kind) × (o : ℕ) × (o < 64) × Stands b c k o × (x ≡ steps_of c way k o j t)) → N ≡ 64 → stored N ≡ 255 → x ≡ stored N
    far (inl e) z s = e ∙ sym s
    far (inr (k, o, lo, h, e)) z s = elim (stored_is (distance_of c j k (counted c way o) t)) [
      | inl v ↦ e ∙ v.1 ∙ sym s
      | inr v ↦ absurd (v.0 (omega (arith, z, no_nearer k o lo h)))
    ]

    at_least : (x ≡ 255) ⊎ ((k : Kind) × (o : ℕ) × (o < 64) × Stands b c k o × (x ≡ steps_of c way k o j t)) → N ≤ 64 → N ≤ x
    at_least (inl e) l = omega (arith, e, l)
    at_least (inr (k, o, lo, h, e)) l = elim (stored_is (distance_of c j k (counted c way o) t)) [
      | inl v ↦ omega (arith, e, v.1, l)
      | inr v ↦ omega (arith, e, v.1, no_nearer k o lo h)
    ]

    near : N ≢ 64 → stored N ≡ N → (N ≡ 64) ⊎ ((o : ℕ) × (o < 64) × (N ≡ F o)) → x ≡ stored N
    near ne s (inl e) = absurd (ne e)
    near ne s (inr (o, lo, e)) = elim (reach_cases c way j t o (get b o)) [
      | inl z ↦ absurd (ne (e ∙ z))
      | inr h ↦
          (let r : F o ≡ distance_of c j h.0 (counted c way o) t = reach_own b c way j h.0 t o h.1 in
          let q : stored N ≡ steps_of c way h.0 o j t = ap stored (e ∙ r) in
          let low : N ≤ 64 = omega (arith, e, r, no_nearer h.0 o lo h.1) in
          omega (arith, s, q, below h.0 o lo h.1, at_least from low))
    ]

pub free_least : (d b : Placement) (c : Color) (row : List ℕ) → IsFree d b c row → IsLeastRow d b c None row
free_least d b c row a = record {
  at = λ j t lt there small. least_is b c None j t (at_target d c row t) lt (λ k o lo stands. a.lowered.below j k t o lt there small lo lo stands) (elim (a.lowered.from j t lt there small) [
    | inl e ↦ inl (e ∙ a.unreached.none (number_among c any_man d t) (below_all d c t lt (of_there d c j t there)) small)
    | inr h ↦ inr (h.0, h.1, h.2, h.4, h.5)
  ]);
  rest = λ i m l. omega (arith, a.lowered.kept i l, a.unreached.rest i m l);
}

-- a way counts what is off the homes where it stands
counted_off : (c : Color) (way : Option Wing) (q : ℕ) → ¬ IsHomeOf c q → counted c way q ≡ q
counted_off c None q off = refl
counted_off c (Some KingSide) q off = let king : nat_eq q (king_home c) ≡ false = ne_eqb q (king_home c) (λ e. off (inl e)) in let rook : nat_eq q (rook_home c KingSide) ≡ false = ne_eqb q (rook_home c KingSide) (λ e. off (inr (inl e))) in (λ i. cond (king i) (king_target c KingSide) (cond (rook i) (king_crossed c KingSide) q))
counted_off c (Some QueenSide) q off = let king : nat_eq q (king_home c) ≡ false = ne_eqb q (king_home c) (λ e. off (inl e)) in let rook : nat_eq q (rook_home c QueenSide) ≡ false = ne_eqb q (rook_home c QueenSide) (λ e. off (inr (inr e))) in (λ i. cond (king i) (king_target c QueenSide) (cond (rook i) (king_crossed c QueenSide) q))

-- off the homes, or on one of the three
home_or_not : (c : Color) (q : ℕ) → (((¬ IsHomeOf c q) ⊎ (q ≡ king_home c)) ⊎ (q ≡ rook_home c KingSide)) ⊎ (q ≡ rook_home c QueenSide)
home_or_not c q = elim (eqb_tells q (rook_home c QueenSide)) [
  | inl u ↦ inr u.1
  | inr u ↦ elim (eqb_tells q (rook_home c KingSide)) [
    | inl v ↦ inl (inr v.1)
    | inr v ↦ elim (eqb_tells q (king_home c)) [ inl w ↦ inl (inl (inr w.1)) | inr w ↦ inl (inl (inl (λ h. elim h [ inl e ↦ w.1 e | inr f ↦ elim f [ inl e ↦ v.1 e | inr e ↦ u.1 e ] ]))) ]
  ]
]

pub least_all : (d b : Placement) (c : Color) (way : Option Wing) (s1 s2 s3 : ℕ) (away king short row : List ℕ) → IsAway d b c away → s1 ≡ king_home c → s2 ≡ rook_home c KingSide → s3 ≡ rook_home c QueenSide → IsLowered d b c way (λ q. q ≡ s1) away king → IsLowered d b c way (λ q. q ≡ s2) king short → IsLowered d b c way (λ q. q ≡ s3) short row → IsLeastRow d b c way row
least_all d b c way s1 s2 s3 away king short row a e1 e2 e3 k s r = record {
  at = λ j t lt there small. least_is b c way j t (at_target d c row t) lt (λ k o lo stands. all.below j k t o lt there small lo (every o) stands) (elim (all.from j t lt there small) [
    | inl e ↦ inl (e ∙ a.unreached.none (number_among c any_man d t) (below_all d c t lt (of_there d c j t there)) small)
    | inr h ↦ inr (h.0, h.1, h.2, h.4, h.5)
  ]);
  rest = λ i m l. omega (arith, all.kept i l, a.unreached.rest i m l);
}
  where
    Every : ℕ → Type 0
    Every = λ q. (((¬ IsHomeOf c q) ⊎ (q ≡ s1)) ⊎ (q ≡ s2)) ⊎ (q ≡ s3)

    every : (q : ℕ) → Every q
    every q = subst (λ (x : ℕ). (((¬ IsHomeOf c q) ⊎ (q ≡ s1)) ⊎ (q ≡ s2)) ⊎ (q ≡ x)) (sym e3) (subst (λ (x : ℕ). (((¬ IsHomeOf c q) ⊎ (q ≡ s1)) ⊎ (q ≡ x)) ⊎ (q ≡ rook_home c QueenSide)) (sym e2) (subst (λ (x : ℕ). (((¬ IsHomeOf c q) ⊎ (q ≡ x)) ⊎ (q ≡ rook_home c KingSide)) ⊎ (q ≡ rook_home c QueenSide)) (sym e1) (home_or_not c q)))

    all : IsLowered d b c way Every a.none row
    all = lowered_then d b c way (λ q. ((¬ IsHomeOf c q) ⊎ (q ≡ s1)) ⊎ (q ≡ s2)) (λ q. q ≡ s3) a.none short row
        (lowered_then d b c way (λ q. (¬ IsHomeOf c q) ⊎ (q ≡ s1)) (λ q. q ≡ s2) a.none king short
        (lowered_then d b c way (λ q. ¬ IsHomeOf c q) (λ q. q ≡ s1) a.none away king (lowered_way d b c way (λ q. ¬ IsHomeOf c q) a.none away (λ q l off. counted_off c way q off) a.lowered) k) s) r

-- ---- the sum
abbrev pub Number : List ℕ → ℕ → ℕ
Number row = λ i. get_or row i 0

pub cost_off_man : (b d : Placement) (c : Color) (way : Option Wing) (t : ℕ) → is_of c (get d t) ≡ false → cost b d c way t ≡ 0
unfolding cost
cost_off_man b d c way t e = cost_none b c way t (get d t) e

-- the men before a square cost what the row has for them
sums : (d b : Placement) (c : Color) (way : Option Wing) (row : List ℕ) → IsLeastRow d b c way row → men c any_man d ≤ 16 → ((t : ℕ) → t < 64 → cost b d c way t < 64) → (n : ℕ) → n ≤ 64 → total (cost b d c way) n ≡ total (Number row) (number_among c any_man d n)
sums d b c way row is few low zero l = total-none (cost b d c way) ∙ sym (ap (total (Number row)) (tally_below-none (of_color c any_man) d) ∙ total-none (Number row))
sums d b c way row is few low (suc n) l = go (is_of c (get d n)) refl (sums d b c way row is few low n (omega arith))
  where
    F : ℕ → ℕ
    F = cost b d c way

    more : total F (suc n) ≡ total F n + F n
    more = ap (total F) (let e : suc n ≡ n + 1 = omega arith in e) ∙ total-more F n

    go : (x : Bool) → is_of c (get d n) ≡ x → total F n ≡ total (Number row) (number_among c any_man d n) → total F (suc n) ≡ total (Number row) (number_among c any_man d (suc n))
    go false e before =
        let none : F n ≡ 0 = cost_off_man b d c way n e in
        let same : number_among c any_man d (suc n) ≡ number_among c any_man d n = number_next d c n false e ∙ (let z : number_among c any_man d n + 0 ≡ number_among c any_man d n = omega arith in z) in
        (let z : total F (suc n) ≡ total (Number row) (number_among c any_man d n) = omega (arith, more, none, before) in z) ∙ ap (total (Number row)) (sym same)
    go true e before =
        let k : (j : Kind) × (get d n ≡ Some (man c j)) = of_man c (get d n) e in
        let small : number_among c any_man d n < 16 = omega (arith, few, below_all d c n (omega arith) e) in
        let near : F n ≡ nearest b c way k.0 n = cost_man b d c way k.0 n k.1 in
        let some : F n < 64 = low n (omega arith) in
        let here : get_or row (number_among c any_man d n) 0 ≡ F n = is.at k.0 n (omega arith) k.1 small ∙ elim (stored_is (nearest b c way k.0 n)) [ inl v ↦ absurd (omega (arith, v.0, near, some)) | inr v ↦ v.1 ∙ sym near ] in
        let one_more : total (Number row) (number_among c any_man d n + 1) ≡ total (Number row) (number_among c any_man d n) + get_or row (number_among c any_man d n) 0 = total-more (Number row) (number_among c any_man d n) in
        (let z : total F (suc n) ≡ total (Number row) (number_among c any_man d n + 1) = omega (arith, more, here, before, one_more) in z) ∙ ap (total (Number row)) (sym (number_next d c n true e))

part_le : (f : ℕ → ℕ) (n i : ℕ) → i < n → f i ≤ total f n
unfolding total
part_le f zero i l = absurd (omega arith)
part_le f (suc n) i l = elim (eqb_tells i n) [ inl w ↦ (let e : f i ≡ f n = ap f w.1 in omega arith) | inr w ↦ (let ne : i ≢ n = w.1 in omega (arith, part_le f n i (omega arith))) ]

cost_own : (b d : Placement) (c : Color) (way : Option Wing) (t : ℕ) → cost b d c way t ≡ 64 → is_of c (get d t) ≡ true
unfolding cost
cost_own b d c way t e = go (is_of c (get d t)) refl
  where
    go : (x : Bool) → is_of c (get d t) ≡ x → is_of c (get d t) ≡ true
    go true h = h
    go false h = absurd (omega (arith, e, cost_none b c way t (get d t) h))

pub row_pays : (p : State) (b d : Placement) (c : Color) (way : Option Wing) (row : List ℕ) (limit x s : ℕ) → p.board ≡ b → IsLeastRow d b c way row → men c any_man d ≤ 16 → limit < 255 → s ≡ total (Number row) 16 → x ≡ charge way + s → PaysIs p d c way limit (leb x limit)
row_pays p b d c way row limit x s same isrow few low sum e = go (sum_of p.board d c way).0 (sum_of p.board d c way).1
  where
    is : IsLeastRow d p.board c way row
    is = subst (λ (z : Placement). IsLeastRow d z c way row) (sym same) isrow

    over : (t : ℕ) → t < 64 → cost p.board d c way t ≡ 64 → 255 ≤ x
    over t lt full =
        let own : is_of c (get d t) ≡ true = cost_own p.board d c way t full in
        let k : (j : Kind) × (get d t ≡ Some (man c j)) = of_man c (get d t) own in
        let small : number_among c any_man d t < 16 = omega (arith, few, below_all d c t lt own) in
        let far : nearest p.board c way k.0 t ≡ 64 = sym (cost_man p.board d c way k.0 t k.1) ∙ full in
        let here : get_or row (number_among c any_man d t) 0 ≡ 255 = is.at k.0 t lt k.1 small ∙ ap stored far in
        omega (arith, e, sum, here, part_le (Number row) 16 (number_among c any_man d t) small)

    go : (o : Option ℕ) → SumIs p.board d c way o → PaysIs p d c way limit (leb x limit)
    go None h = elim (leb_tells x limit) [
      | inl w ↦ absurd (omega (arith, w.1, low, over h.0 h.1 h.2))
      | inr w ↦ subst (λ (z : Bool). PaysIs p d c way limit z) (sym w.0) (None, sum_is_value p d c way None h, tt)
    ]
    go (Some v) h =
        let all : total (Number row) (number_among c any_man d 64) ≡ total (Number row) 16 = ap (total (Number row)) (tally_below-all (of_color c any_man) d 64 refl) ∙ sym (sum_skip (Number row) (men c any_man d) 16 few (λ i m l. is.rest i m l)) in
        let value : x ≡ v = omega (arith, e, sum, all, sums d p.board c way row is few h.0 64 (omega arith), h.1) in
        subst (λ (z : ℕ). PaysIs p d c way limit (leb z limit)) (sym value) (pays_by p d c way limit v h)

-- ---- what stands on a square
pub lowered_off : (d b : Placement) (c : Color) (way : Option Wing) (o : ℕ) (x : List ℕ) → is_of c (get b o) ≡ false → IsLowered d b c way (λ q. q ≡ o) x x
lowered_off d b c way o x off = lowered_none d b c way (λ q. q ≡ o) x (λ q k l stands e. (let f : is_of c (get b q) ≡ true = of_there b c k q stands in let g : is_of c (get b q) ≡ is_of c (get b o) = ap (λ (r : ℕ). is_of c (get b r)) e in cc))

pub lowered_here : (d b : Placement) (c : Color) (way : Option Wing) (m : Man) (o origin : ℕ) (x row y : List ℕ) → o < 64 → get b o ≡ Some m → color_eq m.color c ≡ true → origin ≡ counted c way o → IsRow d c m.kind origin row → AreLesser x row y → IsLowered d b c way (λ q. q ≡ o) x y
lowered_here d b c way m o origin x row y lo is own at isrow less = lowered_one d b c way m.kind o origin x row y lo (is ∙ ap (λ (z : Color). Some (man z m.kind)) ((color_decides m.color c).0 own)) at isrow less

free_pays : (p : State) (b d : Placement) (c : Color) (row : List ℕ) (limit x : ℕ) → p.board ≡ b → IsFree d b c row → men c any_man d ≤ 16 → limit < 255 → x ≡ row_cost None row → PaysIs p d c None limit (leb x limit)
free_pays p b d c row limit x same is few low e = row_pays p b d c None row limit x (total (Number row) 16) same (free_least d b c row is) few low refl e

pub free_within : (p : State) (b d : Placement) (c : Color) (row : List ℕ) (limit x : ℕ) → p.board ≡ b → IsFree d b c row → men c any_man d ≤ 16 → limit < 255 → x ≡ row_cost None row → x ≤ limit → PaysIs p d c None limit true
free_within p b d c row limit x same is few low e within = elim (leb_tells x limit) [
  | inl w ↦ subst (λ (z : Bool). PaysIs p d c None limit z) w.0 (free_pays p b d c row limit x same is few low e)
  | inr w ↦ absurd (omega (arith, w.1, within))
]

pub free_above : (p : State) (b d : Placement) (c : Color) (row : List ℕ) (limit x : ℕ) → p.board ≡ b → IsFree d b c row → men c any_man d ≤ 16 → limit < 255 → x ≡ row_cost None row → limit < x → PaysIs p d c None limit false
free_above p b d c row limit x same is few low e above = elim (leb_tells x limit) [
  | inl w ↦ absurd (omega (arith, w.1, above))
  | inr w ↦ subst (λ (z : Bool). PaysIs p d c None limit z) w.0 (free_pays p b d c row limit x same is few low e)
]

pub few_plies : (s c : Color) (k n : ℕ) → n ≡ plies_left s c k → k < 256 → n < 255
few_plies White White k n e l = omega arith
few_plies White Black k n e l = omega arith
few_plies Black White k n e l = omega arith
few_plies Black Black k n e l = omega arith
