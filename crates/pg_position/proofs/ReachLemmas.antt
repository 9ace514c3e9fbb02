-- Where a man may capture, by sets of squares. Leads to the contracts of `attacks_from` and `is_clear`.
use Rattle.pg_position.proofs.Common.{◌≡◌, ℕ, ◌<◌, ◌⊎◌, ◌↔◌, IsTrue, inl, inr, Bool, true, false, not, ◌&&◌, None, refl, sym, ap, ◌∙◌, subst, arith, Color, Kind, Pawn, Knight, Bishop, Rook, Queen, King, has, Placement, get, empty, get-empty, Direction, North, NorthEast, East, SouthEast, South, SouthWest, West, NorthWest, OnOneLine, InPattern, IsBetween, OnRay, IsIn, ascends, slides, is_straight, IsSetOf, is_held, set_like, set_of_both, second, IsClear, Reaches, IsFree, ReachesAlong, ReachesStraight, ReachesDiagonal}
use Rattle.pg_position.proofs.LineLemmas.{between_forth, between_back, slide_pattern, bishop_ray, rook_ray, queen_ray, pawn_near, knight_near, king_near}
use Rattle.pg_position.proofs.AttackLemmas.{held_none}

-- ---- turned round
unnot : (b : Bool) → not b ≡ true → b ≡ false
unnot true e = absurd (cc)
unnot false e = refl

line_turn : (r s : ℕ) → OnOneLine r s → OnOneLine s r
line_turn r s e = elim e [ inl x ↦ inl (sym x) | inr x ↦ inr (sym x) ]

pub between_turn : (r t s : ℕ) → IsBetween r t s → IsBetween s t r
unfolding IsBetween
between_turn r t s (n, m, wf, wr, z) = (
  m,
  n,
  omega arith,
  omega arith,
  elim z [
    | inl w ↦ inl (line_turn r s w)
    | inr (x, y) ↦ inr (omega arith, omega arith)
  ],
)

bishop_turn : (c : Color) (r s : ℕ) → InPattern c Bishop r s → InPattern c Bishop s r
unfolding InPattern
bishop_turn c r s (n, e) = (omega arith, omega arith)

rook_turn : (c : Color) (r s : ℕ) → InPattern c Rook r s → InPattern c Rook s r
unfolding InPattern
rook_turn c r s (n, e) = (omega arith, line_turn r s e)

queen_turn : (c : Color) (r s : ℕ) → InPattern c Queen r s → InPattern c Queen s r
unfolding InPattern
queen_turn c r s (n, e) = (omega arith, elim e [ inl x ↦ inl (line_turn r s x) | inr x ↦ inr (omega arith) ])

and_no : (v : Bool) → v && false ≡ false
and_no true = refl
and_no false = refl

-- the squares of a ray up to its first man: those of n, of which men tells what stands on the ray
module _ (b : Placement) (d : Direction) (s line occ men part n : ℕ) (rays : IsSetOf line (OnRay d s)) (held : (q : ℕ) → q < 64 → has occ q ≡ is_held (get b q)) (both : (q : ℕ) → has men q ≡ has line q && has occ q) (cut : (q : ℕ) → has n q ≡ has line q && has part q) where
  man_off : (t : ℕ) → t < 64 → OnRay d s t → (has men t ≡ false → get b t ≡ None) × (get b t ≡ None → has men t ≡ false)
  man_off t l o =
      let on : has line t ≡ true = (rays t l).1 o in
      let here : has occ t ≡ is_held (get b t) = held t l in (
        λ e. held_none (get b t) (sym here ∙ second (has line t) (has occ t) on (sym (both t) ∙ e)),
        λ e. both t ∙ ap (λ v. has line t && v) (here ∙ ap is_held e) ∙ and_no (has line t),
      )

  off_line : (t : ℕ) → t < 64 → ¬ OnRay d s t → has men t ≡ false
  off_line t l away = both t ∙ elim (has line t) as (λ v. has line t ≡ v → v && has occ t ≡ false) [
    | true ↦ λ e. absurd (away ((rays t l).0 e))
    | false ↦ λ _. refl
  ] refl

  on_or_off : (t : ℕ) → t < 64 → (OnRay d s t → get b t ≡ None) → has men t ≡ false
  on_or_off t l free = elim (has line t) as (λ v. has line t ≡ v → has men t ≡ false) [
    | true ↦ λ e. (let o : OnRay d s t = (rays t l).0 e in (man_off t l o).1 (free o))
    | false ↦ λ e. off_line t l (λ o. let on : has line t ≡ true = (rays t l).1 o in cc)
  ] refl

  cut_to : (P : ℕ → Type 0) → IsSetOf part P → ((q : ℕ) → q < 64 → OnRay d s q → P q → IsFree b d s q) → ((q : ℕ) → q < 64 → OnRay d s q → IsFree b d s q → P q) → IsSetOf n (ReachesAlong b d s)
  cut_to P parts forth back = set_like n (λ q l (o, z). (o, forth q l o z)) (λ q l (o, z). (o, back q l o z)) (set_of_both n line part cut rays parts)

  pub reach_up : ascends d ≡ true → IsSetOf part (λ q. (t : ℕ) → t < q → has men t ≡ false) → IsSetOf n (ReachesAlong b d s)
  unfolding IsFree
  reach_up up parts = cut_to _ parts
      (λ q l o none t k p bef. let lt : t < q = subst (λ (v : Bool). IsIn v t q) up bef in (man_off t k p).0 (none t lt))
      (λ q l o free t lt. let k : t < 64 = omega arith in on_or_off t k (λ p. free t k p (subst (λ (v : Bool). IsIn v t q) (sym up) lt)))

  pub reach_down : ascends d ≡ false → IsSetOf part (λ q. (t : ℕ) → q < t → t < 64 → has men t ≡ false) → IsSetOf n (ReachesAlong b d s)
  unfolding IsFree
  reach_down up parts = cut_to _ parts
      (λ q l o none t k p bef. let lt : q < t = subst (λ (v : Bool). IsIn v t q) up bef in (man_off t k p).0 (none t lt k))
      (λ q l o free t lt k. on_or_off t k (λ p. free t k p (subst (λ (v : Bool). IsIn v t q) (sym up) lt)))

-- ---- all rays of a man
along_pattern : (b : Placement) (c : Color) (k : Kind) (d : Direction) (s t : ℕ) → (InPattern c k t s → InPattern c k s t) → slides d k ≡ true → ReachesAlong b d s t → Reaches b c k s t
unfolding IsFree IsClear
along_pattern b c k d s t turn e (o, free) = (turn (slide_pattern d c k s t e o), λ u l bet. let (p, bef) = between_forth d s t u o (between_turn s u t bet) in free u l p bef)

along_free : (b : Placement) (d : Direction) (s t : ℕ) → OnRay d s t → IsClear b s t → ReachesAlong b d s t
unfolding IsFree IsClear
along_free b d s t o cl = (o, λ u l p bef. cl u l (between_turn t u s (between_back d s t u o p bef)))

-- along a ray it is reached straight or diagonally, as the ray goes
abbrev ReachesAs : Bool → Placement → ℕ → ℕ → Type 0
ReachesAs true b s t = ReachesStraight b s t
ReachesAs false b s t = ReachesDiagonal b s t

reaches_as : (b : Placement) (d : Direction) (s t : ℕ) → ReachesAlong b d s t → ReachesAs (is_straight d) b s t
reaches_as b North s t h = inl (inl (inl h))
reaches_as b East s t h = inl (inl (inr h))
reaches_as b South s t h = inl (inr h)
reaches_as b West s t h = inr h
reaches_as b NorthEast s t h = inl (inl (inl h))
reaches_as b SouthEast s t h = inl (inl (inr h))
reaches_as b SouthWest s t h = inl (inr h)
reaches_as b NorthWest s t h = inr h

straight_of : (b : Placement) (d : Direction) (s t : ℕ) → is_straight d ≡ true → ReachesAlong b d s t → ReachesStraight b s t
straight_of b d s t e h = subst (λ (v : Bool). ReachesAs v b s t) e (reaches_as b d s t h)

diagonal_of : (b : Placement) (d : Direction) (s t : ℕ) → is_straight d ≡ false → ReachesAlong b d s t → ReachesDiagonal b s t
diagonal_of b d s t e h = subst (λ (v : Bool). ReachesAs v b s t) e (reaches_as b d s t h)

along_one : (b : Placement) (s t : ℕ) (v : Bool) (d e f g : Direction) → is_straight d ≡ v → is_straight e ≡ v → is_straight f ≡ v → is_straight g ≡ v
    → ((ReachesAlong b d s t ⊎ ReachesAlong b e s t) ⊎ ReachesAlong b f s t) ⊎ ReachesAlong b g s t → (x : Direction) × (is_straight x ≡ v) × ReachesAlong b x s t
along_one b s t v d e f g sd se sf sg (inl (inl (inl h))) = (d, sd, h)
along_one b s t v d e f g sd se sf sg (inl (inl (inr h))) = (e, se, h)
along_one b s t v d e f g sd se sf sg (inl (inr h)) = (f, sf, h)
along_one b s t v d e f g sd se sf sg (inr h) = (g, sg, h)

straight_dir : (b : Placement) (s t : ℕ) → ReachesStraight b s t → (d : Direction) × (is_straight d ≡ true) × ReachesAlong b d s t
straight_dir b s t h = along_one b s t true North East South West refl refl refl refl h

diagonal_dir : (b : Placement) (s t : ℕ) → ReachesDiagonal b s t → (d : Direction) × (is_straight d ≡ false) × ReachesAlong b d s t
diagonal_dir b s t h = along_one b s t false NorthEast SouthEast SouthWest NorthWest refl refl refl refl h

module _ (b : Placement) (c : Color) (s n : ℕ) where
  pub reach_rook : IsSetOf n (ReachesStraight b s) → IsSetOf n (Reaches b c Rook s)
  reach_rook h = set_like n
      (λ q l r. let (d, e, a) = straight_dir b s q r in along_pattern b c Rook d s q (rook_turn c q s) e a)
      (λ q l (p, cl). let (d, e, o) = rook_ray c s q (rook_turn c s q p) in straight_of b d s q e (along_free b d s q o cl))
      h

  pub reach_bishop : IsSetOf n (ReachesDiagonal b s) → IsSetOf n (Reaches b c Bishop s)
  reach_bishop h = set_like n
      (λ q l r. let (d, e, a) = diagonal_dir b s q r in along_pattern b c Bishop d s q (bishop_turn c q s) (ap not e) a)
      (λ q l (p, cl). let (d, e, o) = bishop_ray c s q (bishop_turn c s q p) in diagonal_of b d s q (unnot (is_straight d) e) (along_free b d s q o cl))
      h

  pub reach_queen : IsSetOf n (λ t. ReachesStraight b s t ⊎ ReachesDiagonal b s t) → IsSetOf n (Reaches b c Queen s)
  reach_queen h = set_like n
      (λ q l r. elim r [
        | inl x ↦ let (d, e, a) = straight_dir b s q x in along_pattern b c Queen d s q (queen_turn c q s) refl a
        | inr x ↦ let (d, e, a) = diagonal_dir b s q x in along_pattern b c Queen d s q (queen_turn c q s) refl a
      ])
      (λ q l (p, cl). let (d, e, o) = queen_ray c s q (queen_turn c s q p) in
      elim (is_straight d) as (λ v. is_straight d ≡ v → ReachesStraight b s q ⊎ ReachesDiagonal b s q) [
        | true ↦ λ w. inl (straight_of b d s q w (along_free b d s q o cl))
        | false ↦ λ w. inr (diagonal_of b d s q w (along_free b d s q o cl))
      ] refl)
      h

  -- of a step
  reach_step : (k : Kind) → ((t u : ℕ) → InPattern c k s t → ¬ IsBetween s u t) → IsSetOf n (InPattern c k s) → IsSetOf n (Reaches b c k s)
  unfolding IsClear
  reach_step k near h = set_like n (λ q l p. (p, λ u j bet. absurd (near q u p bet))) (λ q l r. r.0) h

  pub reach_pawn : IsSetOf n (InPattern c Pawn s) → IsSetOf n (Reaches b c Pawn s)
  reach_pawn h = reach_step Pawn (λ t u p. pawn_near c s u t p) h

  pub reach_knight : IsSetOf n (InPattern c Knight s) → IsSetOf n (Reaches b c Knight s)
  reach_knight h = reach_step Knight (λ t u p. knight_near c s u t p) h

  pub reach_king : IsSetOf n (InPattern c King s) → IsSetOf n (Reaches b c King s)
  reach_king h = reach_step King (λ t u p. king_near c s u t p) h

pub reach_as : (b : Placement) (c : Color) (s n : ℕ) (k j : Kind) → k ≡ j → IsSetOf n (Reaches b c j s) → IsSetOf n (Reaches b c k s)
reach_as b c s n k j e h = subst (λ (x : Kind). IsSetOf n (Reaches b c x s)) (sym e) h

-- ---- a clear line
queen_between : (c : Color) (r t s : ℕ) → IsBetween r t s → InPattern c Queen r s
unfolding InPattern IsBetween
queen_between c r t s (n, m, wf, wr, z) = (
  omega arith,
  elim z [ inl w ↦ inl w | inr (x, y) ↦ inr y ],
)

-- where a queen does not get there, the line is clear only if she would not on the empty board e
pub clear_else : (b e : Placement) (c : Color) (r s : ℕ) (x y : Bool) → e ≡ empty → x ≡ false
    → IsTrue x ↔ Reaches b c Queen r s → IsTrue y ↔ Reaches e c Queen r s → IsTrue (not y) ↔ IsClear b r s
unfolding IsClear
clear_else b e c r s x y is off here there = (
  λ f t l bet.
      let nothing : (u : ℕ) → get e u ≡ None = λ u. ap (λ p. get p u) is ∙ get-empty u in
      let no : y ≡ false = unnot y f in
      let yes : y ≡ true = there.1 (queen_between c r t s bet, λ u k _. nothing u) in
      absurd (cc),
  λ cl. elim y as (λ v. y ≡ v → not v ≡ true) [
    | true ↦ λ f. let (p, _) = there.0 f in let on : x ≡ true = here.1 (p, cl) in absurd (cc)
    | false ↦ λ _. refl
  ] refl,
)
