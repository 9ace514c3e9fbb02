-- Attack by sets of squares, man by man and ray by ray. Leads to the contract of `attacked`.
use Rattle.pg_position.proofs.Common.{◌≡◌, ◌≢◌, ℕ, ◌<◌, ◌⊎◌, ◌↔◌, inl, inr, IsTrue, MatchOption, ◌||◌, Bool, true, false, ◌&&◌, Option, Some, None, refl, sym, ap, ◌∙◌, subst, arith, not, Decides, Decides-at, Decides-or, Color, White, Black, Kind, Pawn, Knight, Bishop, Rook, Queen, King, Man, has, man, other, is_man, is_held, is_man_decides, Placement, get, get_on, Direction, North, NorthEast, East, SouthEast, South, SouthWest, West, NorthWest, InPattern, IsBetween, OnRay, OnFileOrRank, OnDiagonal, IsIn, ascends, is_straight, slides, IsSetOf, Meet, HasNoneFrom, IsFirstFrom, IsLastIn, IsClear, Attacks, AttacksFrom, AttackedBy, AttackedAlong, IsBlocked, IsFree, ByStep, Straight, Diagonal, and_true, second}
use Rattle.pg_position.proofs.LineLemmas.{between_forth, between_back, slide_pattern, bishop_ray, rook_ray, queen_ray, pawn_near, knight_near, king_near}

-- a man that attacks by one step, by the set of the squares that it attacks from
leap : (b : Placement) (m : Man) (s mask men : ℕ) (r : Bool) (P : ℕ → Type 0)
    → IsSetOf mask P
    → ((q : ℕ) → q < 64 → has men q ≡ is_man m (get b q))
    → ((q : ℕ) → P q → InPattern m.color m.kind q s)
    → ((q : ℕ) → InPattern m.color m.kind q s → P q)
    → ((q t : ℕ) → InPattern m.color m.kind q s → ¬ IsBetween q t s)
    → Decides r (Meet mask men)
    → IsTrue r ↔ AttackedBy b m s
unfolding AttackedBy IsClear
leap b m s mask men r P masks mens to from near d = (
  λ e. let (q, l, x, y) = d.0 e in
      let p : InPattern m.color m.kind q s = to q ((masks q l).0 x) in
      (q, l, (is_man_decides m (get b q)).0 (sym (mens q l) ∙ y), p, λ t k bet. absurd (near q t p bet)),
  λ (q, l, g, p, c). d.1 (q, l, (masks q l).1 (from q p), mens q l ∙ (is_man_decides m (get b q)).1 g),
)

knight_turn : (c d : Color) (r s : ℕ) → InPattern c Knight r s → InPattern d Knight s r
unfolding InPattern
knight_turn c d r s p = elim p [ inl (x, y) ↦ inl (omega arith, omega arith) | inr (x, y) ↦ inr (omega arith, omega arith) ]

king_turn : (c d : Color) (r s : ℕ) → InPattern c King r s → InPattern d King s r
unfolding InPattern
king_turn c d r s (n, x, y) = (omega arith, omega arith, omega arith)

pawn_turn : (c : Color) (r s : ℕ) → InPattern c Pawn r s → InPattern (other c) Pawn s r
unfolding InPattern
pawn_turn White r s (x, y) = (omega arith, omega arith)
pawn_turn Black r s (x, y) = (omega arith, omega arith)

pawn_back : (c : Color) (r s : ℕ) → InPattern (other c) Pawn s r → InPattern c Pawn r s
unfolding InPattern
pawn_back White r s (x, y) = (omega arith, omega arith)
pawn_back Black r s (x, y) = (omega arith, omega arith)

module _ (b : Placement) (c : Color) (s mask men : ℕ) (r : Bool) where
  pub knight_attacked : (m : Man) → m ≡ man c Knight → ((d : Color) → IsSetOf mask (InPattern d Knight s)) → ((q : ℕ) → q < 64 → has men q ≡ is_man m (get b q)) → Decides r (Meet mask men) → IsTrue r ↔ AttackedBy b (man c Knight) s
  knight_attacked m e masks mens d = leap b (man c Knight) s mask men r (InPattern c Knight s) (masks c) (λ q l. mens q l ∙ ap (λ x. is_man x (get b q)) e) (λ q p. knight_turn c c s q p) (λ q p. knight_turn c c q s p) (λ q t p. knight_near c q t s p) d

  pub king_attacked : (m : Man) → m ≡ man c King → ((d : Color) → IsSetOf mask (InPattern d King s)) → ((q : ℕ) → q < 64 → has men q ≡ is_man m (get b q)) → Decides r (Meet mask men) → IsTrue r ↔ AttackedBy b (man c King) s
  king_attacked m e masks mens d = leap b (man c King) s mask men r (InPattern c King s) (masks c) (λ q l. mens q l ∙ ap (λ x. is_man x (get b q)) e) (λ q p. king_turn c c s q p) (λ q p. king_turn c c q s p) (λ q t p. king_near c q t s p) d

  pub pawn_attacked : (m : Man) (o : Color) → m ≡ man c Pawn → o ≡ other c → IsSetOf mask (InPattern o Pawn s) → ((q : ℕ) → q < 64 → has men q ≡ is_man m (get b q)) → Decides r (Meet mask men) → IsTrue r ↔ AttackedBy b (man c Pawn) s
  pawn_attacked m o e f masks mens d = leap b (man c Pawn) s mask men r (InPattern (other c) Pawn s) (subst (λ (x : Color). IsSetOf mask (InPattern x Pawn s)) f masks) (λ q l. mens q l ∙ ap (λ x. is_man x (get b q)) e) (λ q p. pawn_back c q s p) (λ q p. pawn_turn c q s p) (λ q t p. pawn_near c q t s p) d

-- ---- the first man on a ray
pub held_none : (o : Option Man) → is_held o ≡ false → o ≡ None
held_none None e = refl
held_none (Some m) e = absurd (cc)

pub not_held : (o : Option Man) → is_held o ≡ true → o ≢ None
not_held None e _ = absurd (cc)
not_held (Some m) e f = absurd (cc)

pub held_on : (b : Placement) (x : ℕ) → is_held (get b x) ≡ true → x < 64
held_on b x e = elim (get b x) as (λ o. get b x ≡ o → is_held o ≡ true → x < 64) [
  | None ↦ λ _ f. absurd (cc)
  | Some m ↦ λ g _. get_on b x m g
] refl e

-- n has the squares of the line with a man
module _ (b : Placement) (d : Direction) (s line occ n : ℕ) (rays : IsSetOf line (OnRay d s)) (held : (q : ℕ) → q < 64 → has occ q ≡ is_held (get b q)) (both : (q : ℕ) → has n q ≡ has line q && has occ q) where
  off_ray : (t : ℕ) → t < 64 → OnRay d s t → has n t ≡ false → get b t ≡ None
  off_ray t l o e =
      let on : has line t ≡ true = (rays t l).1 o in
      let h : has occ t ≡ is_held (get b t) = held t l in
      held_none (get b t) (sym h ∙ second (has line t) (has occ t) on (sym (both t) ∙ e))

  ray_none : HasNoneFrom n 0 → (t : ℕ) → t < 64 → OnRay d s t → get b t ≡ None
  ray_none none t l o = off_ray t l o (none t (omega arith) l)

  at_bit : (x : ℕ) → x < 64 → has n x ≡ true → OnRay d s x × (is_held (get b x) ≡ true)
  at_bit x l e = let (p, q) = and_true (has line x) (has occ x) (sym (both x) ∙ e) in ((rays x l).0 p, sym (held x l) ∙ q)

  ray_first : (x : ℕ) → ascends d ≡ true → IsFirstFrom n 0 x → IsBlocked b d s x
  unfolding IsFree
  ray_first x up f =
      let h = at_bit x f.on_board f.member in
      record {
        on = h.0;
        held = h.1;
        free = λ t k o bef.
            let lt : t < x = subst (λ (v : Bool). IsIn v t x) up bef in
            off_ray t k o (f.before t (omega arith) lt);
      }

  ray_last : (x : ℕ) → ascends d ≡ false → IsLastIn n x → IsBlocked b d s x
  unfolding IsFree
  ray_last x up f =
      let h = at_bit x f.on_board f.member in
      record {
        on = h.0;
        held = h.1;
        free = λ t k o bef.
            let lt : x < t = subst (λ (v : Bool). IsIn v t x) up bef in
            off_ray t k o (f.after t lt);
      }

  pub blocked_up : ascends d ≡ true → (o : Option ℕ) → MatchOption o (HasNoneFrom n 0) (λ x. IsFirstFrom n 0 x) → MatchOption o ((t : ℕ) → t < 64 → OnRay d s t → get b t ≡ None) (λ x. IsBlocked b d s x)
  blocked_up up None h = ray_none h
  blocked_up up (Some x) h = ray_first x up h

  pub blocked_down : ascends d ≡ false → (o : Option ℕ) → MatchOption o (HasNoneFrom n 0) (λ x. IsLastIn n x) → MatchOption o ((t : ℕ) → t < 64 → OnRay d s t → get b t ≡ None) (λ x. IsBlocked b d s x)
  blocked_down up None h = ray_none h
  blocked_down up (Some x) h = ray_last x up h

-- of two squares, one comes first
order : (u : Bool) (r x : ℕ) → ¬ IsIn u r x → ¬ IsIn u x r → r ≡ x
order true r x f g = let f : ¬ (r < x) = f in let g : ¬ (x < r) = g in omega arith
order false r x f g = let f : ¬ (x < r) = f in let g : ¬ (r < x) = g in omega arith

module _ (b : Placement) (c : Color) (d : Direction) (s : ℕ) where
  pub along_none : ((t : ℕ) → t < 64 → OnRay d s t → get b t ≡ None) → ¬ AttackedAlong b c d s
  unfolding AttackedAlong
  along_none h (r, m, l, g, e, t, o, cl) = let n : get b r ≡ None = h r l o in absurd (cc)

  module _ (x : ℕ) (h : IsBlocked b d s x) where
    l : x < 64
    l = held_on b x h.held

    clear_to : IsClear b x s
    unfolding IsClear IsFree
    clear_to t k bet = let (o, bef) = between_forth d s x t h.on bet in h.free t k o bef

    pub along_from : (m : Man) → get b x ≡ Some m → m.color ≡ c → slides d m.kind ≡ true → AttackedAlong b c d s
    unfolding AttackedAlong
    along_from m g e t = (x, m, l, g, e, t, h.on, clear_to)

    only : (r : ℕ) (m : Man) → r < 64 → get b r ≡ Some m → OnRay d s r → IsClear b r s → r ≡ x
    unfolding IsClear IsFree
    only r m k g o cl = order (ascends d) r x
        (λ bef. let n : get b r ≡ None = h.free r k o bef in absurd (cc))
        (λ bef. not_held (get b x) h.held (cl x l (between_back d s r x o h.on bef)))

    pub along_at : AttackedAlong b c d s → (m : Man) × (get b x ≡ Some m) × (m.color ≡ c) × (slides d m.kind ≡ true)
    unfolding AttackedAlong
    along_at (r, m, k, g, e, t, o, cl) = let same : r ≡ x = only r m k g o cl in (m, ap (get b) (sym same) ∙ g, e, t)

    module _ (men i : ℕ) (k : Kind) (m : Man) (r : Bool) (same : m ≡ man c k) (mens : (q : ℕ) → q < 64 → has men q ≡ is_man m (get b q)) (at : i ≡ x) (is : r ≡ has men i) where
      test_is : r ≡ is_man (man c k) (get b x)
      test_is = is ∙ ap (has men) at ∙ mens x l ∙ ap (λ y. is_man y (get b x)) same

      pub along_true : slides d k ≡ true → r ≡ true → AttackedAlong b c d s
      along_true t e = along_from (man c k) ((is_man_decides (man c k) (get b x)).0 (sym test_is ∙ e)) refl t

      pub along_is : (y : Man) → get b x ≡ Some y → y.color ≡ c → y.kind ≡ k → r ≡ true
      along_is y g e f = let whole : y ≡ man c k = λ j. record { color = e j; kind = f j } in
          test_is ∙ (is_man_decides (man c k) (get b x)).1 (g ∙ ap Some whole)

    -- the first test failed: the second decides
    pub along_else : (k : Kind) (a r : Bool) → ((j : Kind) → (slides d j ≡ true) ↔ ((j ≡ k) ⊎ (j ≡ Queen)))
        → ((y : Man) → get b x ≡ Some y → y.color ≡ c → y.kind ≡ k → a ≡ true) → a ≡ false
        → ((y : Man) → get b x ≡ Some y → y.color ≡ c → y.kind ≡ Queen → r ≡ true)
        → AttackedAlong b c d s → r ≡ true
    along_else k a r kinds one off two h =
        let (m, g, e, t) = along_at h in
        elim ((kinds m.kind).0 t) [
          | inl f ↦ let yes : a ≡ true = one m g e f in absurd (cc)
          | inr f ↦ two m g e f
        ]

-- ---- lines without a slider
pub kind_or_queen : (b : Placement) (c : Color) (k : Kind) (m n : Man) (x y z : ℕ) → m ≡ man c k → n ≡ man c Queen → ((q : ℕ) → q < 64 → has x q ≡ is_man m (get b q)) → ((q : ℕ) → q < 64 → has y q ≡ is_man n (get b q)) → ((q : ℕ) → has z q ≡ has x q || has y q) → IsSetOf z (λ q. (get b q ≡ Some (man c k)) ⊎ (get b q ≡ Some (man c Queen)))
kind_or_queen b c k m n x y z e f h g either q l = Decides-at _ _ (either q) (Decides-or _ _ (Decides-at _ _ (h q l ∙ ap (λ z. is_man z (get b q)) e) (is_man_decides (man c k) (get b q))) (Decides-at _ _ (g q l ∙ ap (λ z. is_man z (get b q)) f) (is_man_decides (man c Queen) (get b q))))

straight_kind : (d : Direction) (j : Kind) → is_straight d ≡ true → slides d j ≡ true → (j ≡ Rook) ⊎ (j ≡ Queen)
straight_kind d Pawn e s = absurd (cc)
straight_kind d Knight e s = absurd (cc)
straight_kind d Bishop e s = absurd (let f : not true ≡ true = ap not (sym e) ∙ s in cc)
straight_kind d Rook e s = inl refl
straight_kind d Queen e s = inr refl
straight_kind d King e s = absurd (cc)

diagonal_kind : (d : Direction) (j : Kind) → is_straight d ≡ false → slides d j ≡ true → (j ≡ Bishop) ⊎ (j ≡ Queen)
diagonal_kind d Pawn e s = absurd (cc)
diagonal_kind d Knight e s = absurd (cc)
diagonal_kind d Bishop e s = inl refl
diagonal_kind d Rook e s = absurd (cc)
diagonal_kind d Queen e s = inr refl
diagonal_kind d King e s = absurd (cc)

module _ (b : Placement) (c : Color) (s men lines : ℕ) (u : Bool) (met : Decides u (Meet lines men)) (off : u ≡ false) where
  none_along : (k : Kind) (d : Direction) → IsSetOf men (λ q. (get b q ≡ Some (man c k)) ⊎ (get b q ≡ Some (man c Queen))) → ((j : Kind) → slides d j ≡ true → (j ≡ k) ⊎ (j ≡ Queen)) → ((q : ℕ) → q < 64 → OnRay d s q → has lines q ≡ true) → ¬ AttackedAlong b c d s
  unfolding AttackedAlong
  none_along k d are kinds on (r, m, l, g, e, t, o, cl) =
      let whole : (j : Kind) → m.kind ≡ j → get b r ≡ Some (man c j) = (λ j f. g ∙ ap Some (λ i. record { color = e i; kind = f i })) in
      let there : (get b r ≡ Some (man c k)) ⊎ (get b r ≡ Some (man c Queen)) = elim (kinds m.kind t) [ inl f ↦ inl (whole k f) | inr f ↦ inr (whole Queen f) ] in
      let yes : u ≡ true = met.1 (r, l, on r l o, (are r l).1 there) in
      absurd (cc)

  -- nor along any of four rays that one kind of man moves along
  none_of_four : (v : Bool) (k : Kind) → ((d : Direction) (j : Kind) → is_straight d ≡ v → slides d j ≡ true → (j ≡ k) ⊎ (j ≡ Queen)) → (d e f g : Direction)
      → is_straight d ≡ v → is_straight e ≡ v → is_straight f ≡ v → is_straight g ≡ v
      → IsSetOf men (λ q. (get b q ≡ Some (man c k)) ⊎ (get b q ≡ Some (man c Queen))) → IsSetOf lines (λ q. ((OnRay d s q ⊎ OnRay e s q) ⊎ OnRay f s q) ⊎ OnRay g s q)
      → IsTrue false ↔ (AttackedAlong b c d s ⊎ AttackedAlong b c e s ⊎ AttackedAlong b c f s ⊎ AttackedAlong b c g s)
  none_of_four v k kinds d e f g sd se sf sg are on = (
    λ h. absurd (let z : false ≡ true = h in cc),
    λ h. absurd (elim h [
      | inl x ↦ none_along k d are (λ j. kinds d j sd) (λ q l o. (on q l).1 (inl (inl (inl o)))) x
      | inr y ↦ elim y [
        | inl x ↦ none_along k e are (λ j. kinds e j se) (λ q l o. (on q l).1 (inl (inl (inr o)))) x
        | inr z ↦ elim z [
          | inl x ↦ none_along k f are (λ j. kinds f j sf) (λ q l o. (on q l).1 (inl (inr o))) x
          | inr x ↦ none_along k g are (λ j. kinds g j sg) (λ q l o. (on q l).1 (inr o)) x
        ]
      ]
    ]),
  )

  pub none_straight : IsSetOf men (λ q. (get b q ≡ Some (man c Rook)) ⊎ (get b q ≡ Some (man c Queen))) → IsSetOf lines (OnFileOrRank s) → IsTrue false ↔ Straight b c s
  none_straight are on = none_of_four true Rook straight_kind North East South West refl refl refl refl are on

  pub none_diagonal : IsSetOf men (λ q. (get b q ≡ Some (man c Bishop)) ⊎ (get b q ≡ Some (man c Queen))) → IsSetOf lines (OnDiagonal s) → IsTrue false ↔ Diagonal b c s
  none_diagonal are on = none_of_four false Bishop diagonal_kind NorthEast SouthEast SouthWest NorthWest refl refl refl refl are on

-- ---- every attack
pub by_man : (b : Placement) (c : Color) (k : Kind) (s : ℕ) → AttackedBy b (man c k) s → Attacks b c s
unfolding AttackedBy Attacks AttacksFrom
by_man b c k s (r, l, g, p, cl) = (r, l, (k, g, (p, cl)))

pub by_along : (b : Placement) (c : Color) (d : Direction) (s : ℕ) → AttackedAlong b c d s → Attacks b c s
unfolding AttackedAlong Attacks AttacksFrom
by_along b c d s (r, m, l, g, e, t, o, cl) =
    let there : get b r ≡ Some (man c m.kind) = g ∙ ap (λ (x : Color). Some (man x m.kind)) e in
    (r, l, (m.kind, there, (slide_pattern d c m.kind s r t o, cl)))

-- an attack is by a man of one step or along a ray
abbrev pub Split : Placement → Color → ℕ → Type 0
Split b c s = (AttackedBy b (man c Pawn) s ⊎ AttackedBy b (man c Knight) s ⊎ AttackedBy b (man c King) s) ⊎ ((d : Direction) × AttackedAlong b c d s)

pub split : (b : Placement) (c : Color) (s : ℕ) → Attacks b c s → Split b c s
unfolding AttackedAlong AttackedBy Attacks AttacksFrom
split b c s (r, l, (j, g, (p, cl))) =
    let step : (k : Kind) → j ≡ k → AttackedBy b (man c k) s = λ k f.
    (r, l, g ∙ ap (λ (x : Kind). Some (man c x)) f, subst (λ (x : Kind). InPattern c x r s) f p, cl) in
    let pattern : (k : Kind) → j ≡ k → InPattern c k r s = λ k f. subst (λ (x : Kind). InPattern c x r s) f p in
    elim j as (λ k. j ≡ k → Split b c s) [
      | Pawn ↦ λ f. inl (inl (step Pawn f))
      | Knight ↦ λ f. inl (inr (inl (step Knight f)))
      | King ↦ λ f. inl (inr (inr (step King f)))
      | Bishop ↦ λ f. let (d, t, o) = bishop_ray c s r (pattern Bishop f) in inr (d, (r, man c j, l, g, refl, ap (slides d) f ∙ t, o, cl))
      | Rook ↦ λ f. let (d, t, o) = rook_ray c s r (pattern Rook f) in inr (d, (r, man c j, l, g, refl, ap (slides d) f ∙ t, o, cl))
      | Queen ↦ λ f. let (d, t, o) = queen_ray c s r (pattern Queen f) in inr (d, (r, man c j, l, g, refl, ap (slides d) f ∙ t, o, cl))
    ] refl

by_direction : (b : Placement) (c : Color) (d : Direction) (s : ℕ) → AttackedAlong b c d s → Straight b c s ⊎ Diagonal b c s
by_direction b c North s h = inl (inl (h))
by_direction b c East s h = inl (inr (inl (h)))
by_direction b c South s h = inl (inr (inr (inl (h))))
by_direction b c West s h = inl (inr (inr (inr (h))))
by_direction b c NorthEast s h = inr (inl (h))
by_direction b c SouthEast s h = inr (inr (inl (h)))
by_direction b c SouthWest s h = inr (inr (inr (inl (h))))
by_direction b c NorthWest s h = inr (inr (inr (inr (h))))

pub attacks_forth : (b : Placement) (c : Color) (s : ℕ) → Attacks b c s → ByStep b c s ⊎ Straight b c s ⊎ Diagonal b c s
attacks_forth b c s h = elim (split b c s h) [ inl x ↦ inl x | inr (d, y) ↦ inr (by_direction b c d s y) ]

pub attacks_back : (b : Placement) (c : Color) (s : ℕ) → ByStep b c s ⊎ Straight b c s ⊎ Diagonal b c s → Attacks b c s
attacks_back b c s h = elim h [
  | inl x ↦ elim x [
    | inl y ↦ by_man b c Pawn s y
    | inr z ↦ elim z [ inl y ↦ by_man b c Knight s y | inr y ↦ by_man b c King s y ]
  ]
  | inr x ↦ elim x [
    | inl y ↦ elim y [ inl u ↦ by_along b c North s u | inr v ↦ elim v [ inl u ↦ by_along b c East s u | inr w ↦ elim w [ inl u ↦ by_along b c South s u | inr u ↦ by_along b c West s u ] ] ]
    | inr y ↦ elim y [ inl u ↦ by_along b c NorthEast s u | inr v ↦ elim v [ inl u ↦ by_along b c SouthEast s u | inr w ↦ elim w [ inl u ↦ by_along b c SouthWest s u | inr u ↦ by_along b c NorthWest s u ] ] ]
  ]
]
