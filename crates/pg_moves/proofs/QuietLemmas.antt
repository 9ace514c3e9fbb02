-- Pawns that are counted all at once: which may be, and that the count is right.
use Rattle.pg_moves.proofs.Common.{arith, ◌≡◌, ◌≢◌, ℕ, ◌+◌, ◌<◌, ◌≤◌, ◌⊎◌, inl, inr, Bool, true, false, ◌&&◌, ◌||◌, eqb, not, Option, None, Some, refl, sym, ap, ap₂, ◌∙◌, subst, Decides, eqb_tells, Decides-at, Decides-or, Decides-and, Decides-eqb, Decides-like, Color, White, Black, Pawn, Man, file, rank, is_man, man, other, is_man_decides, Placement, get, has, bits_below, has-bits_below, has-none, one, total, count_below, count_below_same, one-le, total-zero, total_same, total_changed, State, IsForward, InPattern, IsClear, Reaches, IsSetOf, IsPosition, PawnsClause, Stands, IsVacant, IsEnemy, Goes, ahead, home_rank, pawn_near, and_true, set_of_rest, set_none, most_of_a_man, place_of, Adds, GuardsOff, AreOff, CountsOn, Advances, Strides, Leaps, CapturesEnPassant, PawnMoves, forward, IsInside, AreWays, IsQuiet, to_west, to_east, moves_from}
use Rattle.pg_moves.proofs.ShiftLemmas.{itself, total_add}
use Rattle.pg_moves.proofs.LeafLemmas.{exact_adds, pawn_ordinary}
use Rattle.pg_moves.proofs.ExactLemmas.{guarded_exact}

-- ---- en passant, seen from the passed square
turn : (c : Color) (r s : ℕ) → InPattern c Pawn r s → InPattern (other c) Pawn s r
unfolding InPattern
turn White r s (x, y) = (omega arith, omega arith)
turn Black r s (x, y) = (omega arith, omega arith)

pub en_passant_back : (p : State) (b : Placement) (c o : Color) (e set : ℕ) (r : Option ℕ) → c ≡ p.side → o ≡ other c → r ≡ Some e → r ≡ p.passed → IsSetOf set (Reaches b o Pawn e) → (q s : ℕ) → q < 64 → s < 64 → CapturesEnPassant p q s → has set q ≡ true
unfolding CapturesEnPassant IsClear
en_passant_back p b c o e set r ec eo some is sees q s l k h =
    let same : s ≡ e = (let f : Some s ≡ Some e = sym h.0 ∙ sym is ∙ some in cc) in
    let there : InPattern (other p.side) Pawn s q = turn p.side q s h.1 in
    let way : InPattern o Pawn e q = subst (λ (d : Color). InPattern d Pawn e q) (sym (eo ∙ ap other ec)) (subst (λ (x : ℕ). InPattern (other p.side) Pawn x q) same there) in
    (sees q l).1 (way, λ t _ bet. absurd (pawn_near o e t q way bet))

pub none_passed : (p : State) (r : Option ℕ) → r ≡ None → r ≡ p.passed → (q s : ℕ) → q < 64 → s < 64 → CapturesEnPassant p q s → has 0 q ≡ true
unfolding CapturesEnPassant
none_passed p r none is q s _ _ h = absurd (let e : None ≡ Some s = sym none ∙ is ∙ h.0 in cc)

-- ---- quiet pawns
pub start : (c : Color) (q : ℕ) → q < 64 → rank q ≢ 1 → rank q ≢ 8 → rank q ≢ home_rank (other c) → IsInside c 16 q
start White q l a b h = omega arith
start Black q l a b h = omega arith

-- what is left of a set once another is taken out
pub out_of : (n a b q : ℕ) → ((q : ℕ) → q < 64 → has n q ≡ has a q && not (has b q)) → q < 64 → has n q ≡ true → (has a q ≡ true) × (has b q ≡ false)
out_of n a b q rest l e =
    let h = (set_of_rest n a b rest (itself a) (itself b) q l).0 e in
    (h.0, elim (has b q) as (λ v. has b q ≡ v → has b q ≡ false) [ true ↦ λ t. absurd (h.1 t) | false ↦ λ t. t ] refl)

pub quiet : (p : State) (b : Placement) (c o : Color) (pawn : Man) (left men pawns pinned goals passing home plain quiet_ones : ℕ) → b ≡ p.board → c ≡ p.side → pawn ≡ man c Pawn → o ≡ other c
    → IsPosition p → GuardsOff p pinned goals → AreOff pinned left
    → ((q : ℕ) → has pawns q ≡ has left q && has men q)
    → ((q : ℕ) → q < 64 → has plain q ≡ has pawns q && not (has passing q))
    → ((q : ℕ) → q < 64 → has quiet_ones q ≡ has plain q && not (has home q))
    → ((q : ℕ) → q < 64 → has men q ≡ is_man pawn (get b q))
    → ((q s : ℕ) → q < 64 → s < 64 → CapturesEnPassant p q s → has passing q ≡ true)
    → IsSetOf home (λ q. rank q ≡ home_rank o)
    → (q : ℕ) → q < 64 → has quiet_ones q ≡ true → IsQuiet p goals q × (has left q ≡ true)
unfolding PawnsClause GuardsOff
quiet p b c o pawn left men pawns pinned goals passing home plain quiet_ones eb ec em eo pos guards apart both fits few are passed at q l e =
    let far = out_of quiet_ones plain home q few l e in
    let calm = out_of plain pawns passing q fits l far.0 in
    let mine = and_true (has left q) (has men q) (sym (both q) ∙ calm.0) in
    let there : get b q ≡ Some (man c Pawn) = (is_man_decides (man c Pawn) (get b q)).0 (ap (λ (x : Man). is_man x (get b q)) (sym em) ∙ sym (are q l) ∙ mine.1) in
    let here : Stands p.board p.side Pawn q = subst (λ (d : Placement). Stands d p.side Pawn q) eb (subst (λ (d : Color). Stands b d Pawn q) ec there) in
    let not_home : rank q ≢ home_rank (other p.side) = (λ f. (
    let up : rank q ≡ home_rank o = f ∙ ap home_rank (sym (eo ∙ ap other ec)) in
    let yes : has home q ≡ true = (at q l).1 up in
    let no : has home q ≡ false = far.1 in
    cc)) in
    let edge : (rank q ≢ 1) × (rank q ≢ 8) = pos.pawns q p.side l here in
    let none : IsSetOf 0 (CapturesEnPassant p q) = set_none (λ s k h. (
    let yes : has passing q ≡ true = passed q s l k h in
    let no : has passing q ≡ false = calm.1 in
    cc)) in (
      record {
        guarded = guards Pawn q l here (apart q l mine.0);
        ordinary = pawn_ordinary p Pawn q 0 none (λ s _ _. has-none s) not_home;
        inside = start p.side q l edge.0 edge.1 not_home;
      },
      mine.0,
    )

-- ---- four squares at most
pick : ℕ → Bool → ℕ → Bool
pick t b s = eqb s t && b

pick_is : (t : ℕ) (b : Bool) (s : ℕ) → Decides (pick t b s) ((s ≡ t) × (b ≡ true))
unfolding pick
pick_is t b s = Decides-and _ _ (Decides-eqb s t) (λ e. e, λ e. e)

or_one : (a b : Bool) → (a ≡ true → b ≡ false) → one (a || b) ≡ one a + one b
or_one true b h = let e : one b ≡ 0 = ap one (h refl) in omega arith
or_one false b h = omega arith

pick_else : (t u : ℕ) (a b : Bool) (s : ℕ) → t ≢ u → pick t a s ≡ true → pick u b s ≡ false
pick_else t u a b s ne e = elim (pick u b s) as (λ v. pick u b s ≡ v → pick u b s ≡ false) [
  | true ↦ λ f. absurd (ne (sym ((pick_is t a s).0 e).0 ∙ ((pick_is u b s).0 f).0))
  | false ↦ λ f. f
] refl

or_false : (a b : Bool) → a ≡ false → b ≡ false → a || b ≡ false
or_false a b e f = cc

picked : (t : ℕ) (b : Bool) → t < 64 → count_below (pick t b) 64 ≡ one b
unfolding pick
picked t b l =
    let h : ℕ → ℕ = λ q. one (pick t b q) in
    let g : ℕ → ℕ = λ _. 0 in
    let changed : total h 64 + 0 ≡ total g 64 + h t = total_changed g h 64 t l (λ q _ ne. ap one (off q ne)) in
    let none : total g 64 ≡ 0 = total-zero g 64 (λ _ _. refl) in
    let at : h t ≡ one b = ap (λ x. one (x && b)) ((Decides-eqb t t).1 refl) in
    omega arith
  where
    off : (q : ℕ) → q ≢ t → pick t b q ≡ false
    off q ne = elim (pick t b q) as (λ v. pick t b q ≡ v → pick t b q ≡ false) [ true ↦ λ e. absurd (ne ((pick_is t b q).0 e).0) | false ↦ λ e. e ] refl

module _ (t u v w : ℕ) (a b c d : Bool) where
  pub four : ℕ → Bool
  four s = (pick t a s || pick u b s) || (pick v c s || pick w d s)

  pub four_is : (s : ℕ) → Decides (four s) ((((s ≡ t) × (a ≡ true)) ⊎ ((s ≡ u) × (b ≡ true))) ⊎ (((s ≡ v) × (c ≡ true)) ⊎ ((s ≡ w) × (d ≡ true))))
  unfolding four
  four_is s = Decides-or _ _ (Decides-or _ _ (pick_is t a s) (pick_is u b s)) (Decides-or _ _ (pick_is v c s) (pick_is w d s))

  pub four_counted : t < 64 → u < 64 → v < 64 → w < 64 → t ≢ u → t ≢ v → t ≢ w → u ≢ v → u ≢ w → v ≢ w → count_below four 64 ≡ (one a + one b) + (one c + one d)
  unfolding four
  four_counted lt lu lv lw tu tv tw uv uw vw =
      let f : (s : ℕ) → one (four s) ≡ (one (pick t a s) + one (pick u b s)) + (one (pick v c s) + one (pick w d s)) = (λ s.
      or_one (pick t a s || pick u b s) (pick v c s || pick w d s) (λ e. elim ((Decides-or _ _ (pick_is t a s) (pick_is u b s)).0 e) [
        | inl g ↦ (let m : pick t a s ≡ true = (pick_is t a s).1 g in or_false _ _ (pick_else t v a c s tv m) (pick_else t w a d s tw m))
        | inr g ↦ (let m : pick u b s ≡ true = (pick_is u b s).1 g in or_false _ _ (pick_else u v b c s uv m) (pick_else u w b d s uw m))
      ])
      ∙ ap₂ (λ (x y : ℕ). x + y) (or_one (pick t a s) (pick u b s) (pick_else t u a b s tu)) (or_one (pick v c s) (pick w d s) (pick_else v w c d s vw))) in
      let same : count_below four 64 ≡ total (λ s. (one (pick t a s) + one (pick u b s)) + (one (pick v c s) + one (pick w d s))) 64 = total_same _ (λ s. one (four s)) 64 (λ s _. f s) in
      same
      ∙ sym (total_add (λ s. one (pick t a s) + one (pick u b s)) (λ s. one (pick v c s) + one (pick w d s)) 64)
      ∙ ap₂ (λ (x y : ℕ). x + y) (sym (total_add (λ s. one (pick t a s)) (λ s. one (pick u b s)) 64)) (sym (total_add (λ s. one (pick v c s)) (λ s. one (pick w d s)) 64))
      ∙ ap₂ (λ (x y : ℕ). x + y) (ap₂ (λ (x y : ℕ). x + y) (picked t a lt) (picked u b lu)) (ap₂ (λ (x y : ℕ). x + y) (picked v c lv) (picked w d lw))

-- ---- where a pawn with two ranks in front goes
one_ahead : (c : Color) (q : ℕ) → ahead c 1 q ≡ forward c 8 q
one_ahead White q = refl
one_ahead Black q = refl

two_ahead : (c : Color) (q : ℕ) → ahead c 2 q ≡ forward c 16 q
two_ahead White q = refl
two_ahead Black q = refl

in_front : (c : Color) (q s : ℕ) → s < 64 → (file q ≡ file s) × IsForward c 1 q s → s ≡ forward c 8 q
in_front White q s l (f, r) = omega arith
in_front Black q s l (f, r) = omega arith

front_is : (c : Color) (q : ℕ) → q < 64 → IsInside c 16 q → (file q ≡ file (forward c 8 q)) × IsForward c 1 q (forward c 8 q)
front_is White q l h = (omega arith, omega arith)
front_is Black q l h = (omega arith, omega arith)

beside : (c : Color) (q s : ℕ) → q < 64 → s < 64 → InPattern c Pawn q s → ((file q ≢ 1) × (s ≡ forward c (to_west c) q)) ⊎ ((file q ≢ 8) × (s ≡ forward c (to_east c) q))
unfolding InPattern
beside White q s k l (a, r) = elim (eqb_tells (s + 1) (q + 8)) [ inl e ↦ (let f : s + 1 ≡ q + 8 = e.1 in inl (omega arith, omega arith)) | inr e ↦ (let f : s + 1 ≢ q + 8 = e.1 in inr (omega arith, omega arith)) ]
beside Black q s k l (a, r) = elim (eqb_tells (s + 9) q) [ inl e ↦ (let f : s + 9 ≡ q = e.1 in inl (omega arith, omega arith)) | inr e ↦ (let f : s + 9 ≢ q = e.1 in inr (omega arith, omega arith)) ]

west_is : (c : Color) (q : ℕ) → q < 64 → IsInside c 16 q → file q ≢ 1 → InPattern c Pawn q (forward c (to_west c) q)
unfolding InPattern
west_is White q l h n = (omega arith, omega arith)
west_is Black q l h n = (omega arith, omega arith)

east_is : (c : Color) (q : ℕ) → q < 64 → IsInside c 16 q → file q ≢ 8 → InPattern c Pawn q (forward c (to_east c) q)
unfolding InPattern
east_is White q l h n = (omega arith, omega arith)
east_is Black q l h n = (omega arith, omega arith)

-- four squares of the board, no two of them the same
record AreApart (t u v w : ℕ) : Type 0 where
  on : (t < 64) × (u < 64) × (v < 64) × (w < 64)
  first : (t ≢ u) × (t ≢ v) × (t ≢ w)
  rest : (u ≢ v) × (u ≢ w) × (v ≢ w)

apart : (c : Color) (q : ℕ) → q < 64 → IsInside c 16 q → AreApart (forward c 8 q) (forward c 16 q) (forward c (to_west c) q) (forward c (to_east c) q)
apart White q l h = record { on = (omega arith, omega arith, omega arith, omega arith); first = (λ e. omega arith, λ e. omega arith, λ e. omega arith); rest = (λ e. omega arith, λ e. omega arith, λ e. omega arith) }
apart Black q l h = record { on = (omega arith, omega arith, omega arith, omega arith); first = (λ e. omega arith, λ e. omega arith, λ e. omega arith); rest = (λ e. omega arith, λ e. omega arith, λ e. omega arith) }

module _ (b : Placement) (c : Color) (pawns goals : ℕ) (w : PawnMoves) (is : AreWays b c pawns goals w) (q : ℕ) (low : q < 64) (mine : has pawns q ≡ true) (inside : IsInside c 16 q) where
  abbrev goal_of : ℕ → Type 0
  goal_of s = (((s ≡ forward c 8 q) × (has w.once q ≡ true)) ⊎ ((s ≡ forward c 16 q) × (has w.twice q ≡ true))) ⊎ (((s ≡ forward c (to_west c) q) × (has w.west q ≡ true)) ⊎ ((s ≡ forward c (to_east c) q) × (has w.east q ≡ true)))

  aim : (s t : ℕ) → s ≡ t → has goals s ≡ true → has goals t ≡ true
  aim s t e keep = subst (λ (x : ℕ). has goals x ≡ true) e keep

  advance_forth : (s : ℕ) → s < 64 → Advances b c Pawn q s → has goals s ≡ true → goal_of s
  unfolding Advances Strides Leaps Goes
  advance_forth s l (inl (inl h)) keep = let at : s ≡ forward c 8 q = in_front c q s l h.1 in inl (inl (at, (is.once q low).1 (mine, subst (IsVacant b) at h.0, aim s (forward c 8 q) at keep)))
  advance_forth s l (inl (inr h)) keep = elim (beside c q s low l h.1.0) [
    | inl g ↦ inr (inl (g.1, (is.west q low).1 (mine, g.0, subst (IsEnemy b c) g.1 h.0, aim s (forward c (to_west c) q) g.1 keep)))
    | inr g ↦ inr (inr (g.1, (is.east q low).1 (mine, g.0, subst (IsEnemy b c) g.1 h.0, aim s (forward c (to_east c) q) g.1 keep)))
  ]
  advance_forth s l (inr (_, h)) keep = let at : s ≡ forward c 16 q = h.1 ∙ two_ahead c q in inl (inr (at, (is.twice q low).1 (mine, subst (IsVacant b) (one_ahead c q) h.2, h.0, subst (IsVacant b) at h.3, aim s (forward c 16 q) at keep)))

  captures : (s k : ℕ) → s ≡ forward c k q → InPattern c Pawn q (forward c k q) → IsEnemy b c (forward c k q) → Advances b c Pawn q s
  unfolding Advances Strides IsClear
  captures s k at way enemy = let there : InPattern c Pawn q s = subst (λ (x : ℕ). InPattern c Pawn q x) (sym at) way in inl (inr (subst (IsEnemy b c) (sym at) enemy, (there, λ t _ bet. absurd (pawn_near c q t s there bet))))

  advance_back : (s : ℕ) → goal_of s → Advances b c Pawn q s × (has goals s ≡ true)
  unfolding Advances Strides Leaps Goes
  advance_back s (inl (inl (at, e))) = (
      let h = (is.once q low).0 e in
      (inl (inl (subst (IsVacant b) (sym at) h.1, subst (λ (x : ℕ). (file q ≡ file x) × IsForward c 1 q x) (sym at) (front_is c q low inside))), aim (forward c 8 q) s (sym at) h.2))
  advance_back s (inl (inr (at, e))) = (
      let h = (is.twice q low).0 e in
      (inr (refl, (h.2, at ∙ sym (two_ahead c q), subst (IsVacant b) (sym (one_ahead c q)) h.1, subst (IsVacant b) (sym at) h.3)), aim (forward c 16 q) s (sym at) h.4))
  advance_back s (inr (inl (at, e))) = let h = (is.west q low).0 e in (captures s (to_west c) at (west_is c q low inside h.1) h.2, aim (forward c (to_west c) q) s (sym at) h.3)
  advance_back s (inr (inr (at, e))) = let h = (is.east q low).0 e in (captures s (to_east c) at (east_is c q low inside h.1) h.2, aim (forward c (to_east c) q) s (sym at) h.3)

  abbrev goals_at : ℕ → Bool
  goals_at = four (forward c 8 q) (forward c 16 q) (forward c (to_west c) q) (forward c (to_east c) q) (has w.once q) (has w.twice q) (has w.west q) (has w.east q)

  goals_set : IsSetOf (bits_below goals_at 64) (λ s. Advances b c Pawn q s × (has goals s ≡ true))
  goals_set s l = Decides-at _ _ (has-bits_below goals_at 64 s l) (Decides-like (goals_at s) (advance_back s) (λ h. advance_forth s l h.0 h.1) (four_is _ _ _ _ _ _ _ _ s))

  goals_counted : moves_from w q ≡ count_below (has (bits_below goals_at 64)) 64
  unfolding moves_from
  goals_counted =
      let z : AreApart (forward c 8 q) (forward c 16 q) (forward c (to_west c) q) (forward c (to_east c) q) = apart c q low inside in
      sym (
      count_below_same (has (bits_below goals_at 64)) goals_at 64 (λ s l. has-bits_below goals_at 64 s l)
      ∙ four_counted _ _ _ _ (has w.once q) (has w.twice q) (has w.west q) (has w.east q) z.on.0 z.on.1 z.on.2 z.on.3 z.first.0 z.first.1 z.first.2 z.rest.0 z.rest.1 z.rest.2
      )

pub pawn_adds : (p : State) (b : Placement) (c : Color) (pawns goals : ℕ) (w : PawnMoves) → b ≡ p.board → c ≡ p.side → AreWays b c pawns goals w → ((q : ℕ) → q < 64 → has pawns q ≡ true → IsQuiet p goals q) → (q : ℕ) → q < 64 → has pawns q ≡ true → Adds p (place_of q 0 0) (place_of (q + 1) 0 0) (moves_from w q)
pawn_adds p b c pawns goals w eb ec is quiet q low mine =
    let here : IsQuiet p goals q = quiet q low mine in
    let ways : AreWays p.board p.side pawns goals w = subst (λ (x : Placement). AreWays x p.side pawns goals w) eb (subst (λ (d : Color). AreWays b d pawns goals w) ec is) in
    exact_adds p q _ (guarded_exact p Pawn q goals _ low here.guarded here.ordinary (goals_set p.board p.side pawns goals w ways q low mine here.inside)) (moves_from w q) (goals_counted p.board p.side pawns goals w ways q low mine here.inside)

false_of : (b : Bool) → ¬ (b ≡ true) → b ≡ false
false_of true h = absurd (h refl)
false_of false h = refl

no_ways : (b : Placement) (c : Color) (pawns goals : ℕ) (w : PawnMoves) → AreWays b c pawns goals w → (q : ℕ) → q < 64 → has pawns q ≡ false → moves_from w q ≡ 0
unfolding moves_from
no_ways b c pawns goals w is q l off =
    let none : has pawns q ≡ true → ⊥ = (λ e. cc) in
    let x : has w.once q ≡ false = false_of _ (λ e. none ((is.once q l).0 e).0) in
    let y : has w.twice q ≡ false = false_of _ (λ e. none ((is.twice q l).0 e).0) in
    let z : has w.west q ≡ false = false_of _ (λ e. none ((is.west q l).0 e).0) in
    let v : has w.east q ≡ false = false_of _ (λ e. none ((is.east q l).0 e).0) in
    omega (arith, ap one x, ap one y, ap one z, ap one v)

-- four from each at most
few_ways : (w : PawnMoves) (q : ℕ) → moves_from w q ≤ most_of_a_man
unfolding moves_from
few_ways w q = omega (arith, one-le (has w.once q), one-le (has w.twice q), one-le (has w.west q), one-le (has w.east q))

-- all of their moves
pub pawns_counted : (p : State) (b : Placement) (c : Color) (pawns goals : ℕ) (w : PawnMoves) (n : ℕ) → b ≡ p.board → c ≡ p.side → AreWays b c pawns goals w
    → ((q : ℕ) → q < 64 → has pawns q ≡ true → IsQuiet p goals q) → n ≡ total (moves_from w) 64 → CountsOn p (has pawns) n
pawns_counted p b c pawns goals w n eb ec is quiet e = record {
  each = moves_from w;
  adds = pawn_adds p b c pawns goals w eb ec is quiet;
  none = no_ways b c pawns goals w is;
  few = λ q l. few_ways w q;
  sum = e;
}

-- they have two ranks in front
pub quiet_inside : (p : State) (c : Color) (pawns goals : ℕ) → c ≡ p.side → ((q : ℕ) → q < 64 → has pawns q ≡ true → IsQuiet p goals q) → (q : ℕ) → q < 64 → has pawns q ≡ true → IsInside c 16 q
quiet_inside p c pawns goals ec quiet q l e = subst (λ (d : Color). IsInside d 16 q) (sym ec) (quiet q l e).inside
