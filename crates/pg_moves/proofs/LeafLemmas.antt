-- How many legal moves there are, square by square.
use Rattle.pg_moves.proofs.Common.{◌≡◌, ◌≢◌, ℕ, zero, suc, ◌+◌, ◌*◌, ◌<◌, ◌≤◌, ◌⊎◌, inl, inr, Bool, true, false, None, eqb, List, [], ◌∷◌, ◌++◌, length, length-append, ◌||◌, refl, sym, ap, subst, arith, ◌∙◌, Some, sum_by, eqb-false, Decides-eqb, eqb_tells, leb_tells, sum_by-cons, Color, White, Black, Kind, Pawn, Bishop, Rook, King, rank, one, count_below, total-none, total-suc, has, king_of, other, Placement, get, without, IsFirst, get_on, State, Move, IsForward, InPattern, Attacks, IsSetOf, HasNoneFrom, IsFirstFrom, Stands, IsOnlyKing, HasOneKing, InCheck, IsPosition, IsLegal, Goes, IsOnBoard, home_rank, last_rank, same_kind, promotion_number, place, place_of, NoneFrom, IsFirstMove, IsCountBelow, Adds, IsExact, IsOwn, plain_move, Strides, Leaps, Advances, CapturesEnPassant, IsFree, FreeOff, IsOrdinary, IsTried, IsGameCount, IsPinnedAlong}
use Rattle.pg_moves.proofs.PlaceLemmas.{promotion_low}
use Rattle.pg_moves.proofs.ListLemmas.{on_board, list_start, list_skip, list_push, list_whole, moves_of, move_list_is}
use Rattle.pg_moves.proofs.TargetLemmas.{Goals, legal_goals}
use Rattle.pg_moves.proofs.SearchLemmas.{leap_last, none_numbers, promotes}
use Rattle.pg_moves.proofs.PinLemmas.{on_no_line}
use Rattle.pg_moves.proofs.ShelterLemmas.{sure_legal, unpinned_lifted}
use Rattle.pg_moves.proofs.PlayLemmas.{play_of}
use Rattle.pg_moves.proofs.CountLemmas.{games_of, number_of, number_more, number_is}

-- ---- counts on their way
pub count_start : (p : State) → IsCountBelow p 0 0
unfolding IsCountBelow
count_start p = ([], list_start p, refl)

pub count_skip : (p : State) (low high n : ℕ) → IsCountBelow p low n → low ≤ high → NoneFrom p low high → IsCountBelow p high n
unfolding IsCountBelow
count_skip p low high n (ms, list, e) le none = (ms, list_skip p low high ms list le none, e)

pub count_push : (p : State) (n k : ℕ) (m : Move) → IsCountBelow p k n → IsLegal p m → place m ≡ k → IsCountBelow p (k + 1) (n + 1)
unfolding IsCountBelow
count_push p n k m (ms, list, e) legal at = (ms ++ m ∷ [], list_push p k ms m list legal at, (let f : length (ms ++ m ∷ []) ≡ length ms + 1 = length-append ms (m ∷ []) in omega arith))

pub ones : (ms : List Move) (f : Move → ℕ) → ((m : Move) → f m ≡ 1) → sum_by f ms ≡ length ms
ones [] f h = refl
ones (m ∷ ms) f h = let a : f m ≡ 1 = h m in let b : sum_by f ms ≡ length ms = ones ms f h in omega (arith, sum_by-cons f m ms)

-- all legal moves counted: that many games of one ply
pub count_all : (p : State) (n : ℕ) → IsPosition p → IsCountBelow p 28672 n → IsGameCount p 1 n
unfolding IsCountBelow number_of games_of
count_all p n pos (ms, list, e) =
    let whole : ms ≡ moves_of p = move_list_is p ms (list_whole p ms list) in
    let same : number_of 1 p ≡ n = number_more 0 p ∙ ones (moves_of p) (λ m. number_of 0 (play_of p m)) (λ m. refl) ∙ ap length (sym whole) ∙ e in
    subst (λ (k : ℕ). IsGameCount p 1 k) same (number_is 1 p pos)

-- ---- a man whose legal moves go to the squares of a set, without promotion
module _ (p : State) (r set : ℕ) (is : IsExact p r set) where
  goes : (s : ℕ) → s < 64 → has set s ≡ true → IsLegal p (plain_move r s)
  unfolding IsExact
  goes s low e = (is (plain_move r s) refl).1 (refl, low, e)

  inside : (m : Move) → IsLegal p m → m.from ≡ r → (m.to < 64) × (has set m.to ≡ true)
  unfolding IsExact
  inside m l f = let h : (m.promotion ≡ None) × (m.to < 64) × (has set m.to ≡ true) = (is m f).0 l in (h.1, h.2)

  plain : (m : Move) → IsLegal p m → m.from ≡ r → promotion_number m.promotion ≡ 0
  unfolding IsExact
  plain m l f = ap promotion_number ((is m f).0 l).0

  -- no move to the square s, from promotion n on
  exact_none : (s n : ℕ) → s < 64 → n ≤ 7 → (has set s ≡ false) ⊎ (n ≢ 0) → NoneFrom p (place_of r s n) (place_of r s 7)
  exact_none s n on few why = none_numbers p r s n 7 on (omega arith) (λ m l f t a b. elim why [
    | inl e ↦ (
        let yes_there : has set m.to ≡ true = (inside m l f).1 in
        let moved : has set m.to ≡ has set s = ap (has set) t in
        cc)
    | inr e ↦ (let none : promotion_number m.promotion ≡ 0 = plain m l f in omega arith)
  ])

  exact_step : (t n : ℕ) (b : Bool) → t < 64 → has set t ≡ b → IsCountBelow p (place_of r t 0) n → IsCountBelow p (place_of r (suc t) 0) (n + one b)
  exact_step t n true on e count =
      let pushed : IsCountBelow p (place_of r t 0 + 1) (n + 1) = count_push p n (place_of r t 0) (plain_move r t) count (goes t on e) refl in
      let none : NoneFrom p (place_of r t 1) (place_of r t 7) = exact_none t 1 on (omega arith) (inr (omega arith)) in
      let at : place_of r t 1 ≡ place_of r t 0 + 1 = omega arith in
      let to : place_of r t 7 ≡ place_of r (suc t) 0 = omega arith in
      count_skip p (place_of r t 0 + 1) (place_of r (suc t) 0) (n + 1) pushed (omega arith) (subst (λ x. NoneFrom p x (place_of r (suc t) 0)) at (subst (λ x. NoneFrom p (place_of r t 1) x) to none))
  exact_step t n false on e count =
      let none : NoneFrom p (place_of r t 0) (place_of r t 7) = exact_none t 0 on (omega arith) (inl e) in
      let to : place_of r t 7 ≡ place_of r (suc t) 0 = omega arith in
      let same : n ≡ n + 0 = omega arith in
      subst (λ x. IsCountBelow p (place_of r (suc t) 0) x) same (count_skip p (place_of r t 0) (place_of r (suc t) 0) n count (omega arith) (subst (λ x. NoneFrom p (place_of r t 0) x) to none))

  exact_to : (t n : ℕ) → t ≤ 64 → IsCountBelow p (place_of r 0 0) n → IsCountBelow p (place_of r t 0) (n + count_below (has set) t)
  exact_to zero n le count = let same : n ≡ n + count_below (has set) 0 = omega (arith, total-none (λ q. one (has set q))) in subst (λ x. IsCountBelow p (place_of r 0 0) x) same count
  exact_to (suc t) n le count =
      let before : IsCountBelow p (place_of r t 0) (n + count_below (has set) t) = exact_to t n (omega arith) count in
      let same : n + count_below (has set) t + one (has set t) ≡ n + count_below (has set) (suc t) = omega (arith, total-suc (λ q. one (has set q)) t) in
      subst (λ x. IsCountBelow p (place_of r (suc t) 0) x) same (exact_step t (n + count_below (has set) t) (has set t) (omega arith) refl before)

  pub exact_adds : (k : ℕ) → k ≡ count_below (has set) 64 → Adds p (place_of r 0 0) (place_of (r + 1) 0 0) k
  unfolding Adds
  exact_adds k is n count =
      let all : IsCountBelow p (place_of r 64 0) (n + count_below (has set) 64) = exact_to 64 n (omega arith) count in
      let at : place_of r 64 0 ≡ place_of (r + 1) 0 0 = omega arith in
      subst (λ x. IsCountBelow p x (n + k)) at (subst (λ x. IsCountBelow p (place_of r 64 0) (n + x)) (sym is) all)

-- ---- a man that is free and ordinary
module _ (p : State) (k : Kind) (r set : ℕ) (low : r < 64) (here : Stands p.board p.side k r) (free : IsFree p k r) (plain : IsOrdinary p k r) (is : IsSetOf set (Advances p.board p.side k r)) where
  -- its legal moves are its advances
  free_forth : (m : Move) → IsLegal p m → m.from ≡ r → (m.to < 64) × Advances p.board p.side k r m.to
  unfolding Goals IsFree IsOrdinary
  free_forth m l f = let g : (m.to < 64) × Goals p k r m.to = legal_goals p k r here m l f in (
    g.0,
    elim g.1 [
      | inl a ↦ a
      | inr (inl a) ↦ absurd ((plain m.to g.0).1 a.0 a.1)
      | inr (inr a) ↦ absurd (free.0 a)
    ],
  )

  unpromoted : (m : Move) → IsLegal p m → m.from ≡ r → m.promotion ≡ None
  unfolding IsOrdinary
  unpromoted m l f = elim (promotes p m l) [
    | inl e ↦ e
    | inr g ↦ absurd (
        let a : (m.to < 64) × Advances p.board p.side k r m.to = free_forth m l f in
        let there : Stands p.board p.side Pawn r = subst (λ (x : ℕ). Stands p.board p.side Pawn x) f g.0 in
        (plain m.to a.0).0 a.1 (same_kind here there, g.1))
  ]

  free_legal : (s : ℕ) → s < 64 → has set s ≡ true → IsLegal p (plain_move r s)
  unfolding IsFree IsOrdinary
  free_legal s on h = let a : Advances p.board p.side k r s = (is s on).0 h in free.1 s on a ((plain s on).0 a)

  pub free_exact : IsExact p r set
  unfolding IsExact
  free_exact m f = (
    λ l. (let g : (m.to < 64) × Advances p.board p.side k r m.to = free_forth m l f in (unpromoted m l f, g.0, (is m.to g.0).1 g.1)),
    λ (e, on, h). subst (λ (x : Move). IsLegal p x) (sym (λ i. record { from = f i; to = m.to; promotion = e i })) (free_legal m.to on h),
  )

  pub free_adds : (n : ℕ) → n ≡ count_below (has set) 64 → Adds p (place_of r 0 0) (place_of (r + 1) 0 0) n
  free_adds = exact_adds p r set free_exact

-- ---- which men are free and ordinary
pub free_none_off : (p : State) (n : ℕ) → ((q : ℕ) → q < 64 → has n q ≡ true) → FreeOff p n
unfolding FreeOff
free_none_off p n full k r low here off = let there : has n r ≡ true = full r low in absurd (cc)

only_king : (b : Placement) (c : Color) (h : ℕ) → HasOneKing b c → IsFirst b (king_of c) h → IsOnlyKing b c h
unfolding HasOneKing IsOnlyKing
only_king b c h (k, king) first =
    let same : h ≡ k = king.2 h (get_on b h (king_of c) first.found) first.found in
    subst (λ x. IsOnlyKing b c x) (sym same) king

pub one_king : (p : State) → IsPosition p → HasOneKing p.board p.side
one_king p pos = go p.side
  where
    go : (c : Color) → HasOneKing p.board c
    go White = pos.kings.0
    go Black = pos.kings.1

-- the side to move has a king
pub king_found : (p : State) (b : Placement) (c : Color) → IsPosition p → b ≡ p.board → c ≡ p.side → ((q : ℕ) → get b q ≡ Some (king_of c) → ⊥) → ⊥
unfolding HasOneKing IsOnlyKing
king_found p b c pos eb ec none =
    let (h, king) = one_king p pos in
    none h (subst (λ (d : Placement). get d h ≡ Some (king_of c)) (sym eb) (subst (λ (d : Color). get p.board h ≡ Some (king_of d)) (sym ec) king.1))

module _ (p : State) (b : Placement) (c : Color) (h : ℕ) (pos : IsPosition p) (eb : b ≡ p.board) (ec : c ≡ p.side) (first : IsFirst b (king_of c) h) where
  -- the king of the side to move
  pub the_king : IsOnlyKing p.board p.side h
  the_king = only_king p.board p.side h (one_king p pos) (subst (λ (d : Placement). IsFirst d (king_of p.side) h) eb (subst (λ (d : Color). IsFirst b (king_of d) h) ec first))

  pub free_lifted : (k : Kind) (r : ℕ) → r < 64 → Stands p.board p.side k r → k ≢ King → ¬ Attacks (without b r) (other c) h → IsFree p k r
  unfolding IsFree
  free_lifted k r low here no_king lifted =
      let there : ¬ Attacks (without p.board r) (other p.side) h = (λ a. lifted (subst (λ (d : Placement). Attacks (without d r) (other c) h) (sym eb) (subst (λ (d : Color). Attacks (without p.board r) (other d) h) (sym ec) a))) in
      (no_king, λ s on a stays. sure_legal p k r h low here the_king no_king there s on a stays)

  -- off the men between the king and a man that would attack him, all are free
  pub free_lines : (x y z u n : ℕ) → ((r : ℕ) → r < 64 → IsOwn b c r → has x r ≡ false → ¬ IsPinnedAlong b c Rook h r) → ((r : ℕ) → r < 64 → IsOwn b c r → has y r ≡ false → ¬ IsPinnedAlong b c Bishop h r) → IsSetOf z (λ q. q ≡ h) → ((q : ℕ) → has u q ≡ has x q || has y q) → ((q : ℕ) → has n q ≡ has u q || has z q) → ¬ InCheck p.board p.side → FreeOff p n
  unfolding FreeOff IsOnlyKing InCheck IsOwn
  free_lines x y z u n straight diagonal at lines either safe k r low here off =
      let king : IsOnlyKing p.board p.side h = the_king in
      let (off_u, off_z) = neither (has u r) (has z r) (sym (either r) ∙ off) in
      let (off_x, off_y) = neither (has x r) (has y r) (sym (lines r) ∙ off_u) in
      let not_h : r ≢ h = (λ e. let is : has z r ≡ true = (at r low).1 e in cc) in
      let no_king : k ≢ King = (λ e. not_h (king.2 r low (subst (λ (j : Kind). Stands p.board p.side j r) e here))) in
      let own : Stands b c k r = subst (λ (d : Placement). Stands d c k r) (sym eb) (subst (λ (d : Color). Stands p.board d k r) (sym ec) here) in
      let calm : ¬ Attacks b (other c) h = (λ a. safe (h, king.0, king.1, subst (λ (d : Placement). Attacks d (other p.side) h) eb (subst (λ (d : Color). Attacks b (other d) h) ec a))) in
      free_lifted k r low here no_king (unpinned_lifted b c r h low (on_no_line b c h r (straight r low (k, own) off_x) (diagonal r low (k, own) off_y)) calm)
    where
      neither : (v w : Bool) → v || w ≡ false → (v ≡ false) × (w ≡ false)
      neither true w e = absurd (cc)
      neither false w e = (refl, e)

pub piece_ordinary : (p : State) (k : Kind) (r : ℕ) → k ≢ Pawn → IsOrdinary p k r
unfolding IsOrdinary
piece_ordinary p k r ne s on = (λ a must. ne must.0, λ e. absurd (ne e))

early : (c : Color) (r s : ℕ) → IsForward c 1 r s → rank r ≢ home_rank (other c) → rank s ≢ last_rank c
early White r s f far e = omega arith
early Black r s f far e = omega arith

pub pawn_ordinary : (p : State) (k : Kind) (r set : ℕ) → IsSetOf set (CapturesEnPassant p r) → HasNoneFrom set 0 → rank r ≢ home_rank (other p.side) → IsOrdinary p k r
unfolding IsOrdinary Advances Strides Leaps Goes InPattern
pawn_ordinary p k r set is none far s on = (
  λ a must. (let pawn : Advances p.board p.side Pawn r s = subst (λ (j : Kind). Advances p.board p.side j r s) must.0 a in
      elim pawn [
        | inl (inl h) ↦ early p.side r s h.1.1 far must.1
        | inl (inr h) ↦ early p.side r s h.1.0.1 far must.1
        | inr h ↦ leap_last p.side r s h.1.1 h.1.0 must.1
      ]),
  λ e h. (let is_there : has set s ≡ true = (is s on).1 h in let off : has set s ≡ false = none s (omega arith) on in cc),
)

-- ---- the loops
pub walk_start : (p : State) (low : ℕ) → Adds p low low 0
unfolding Adds
walk_start p low c count = let same : c ≡ c + 0 = omega arith in subst (λ x. IsCountBelow p low x) same count

-- a step of the walk over the moves of the man on r
pub walk_step : (p : State) (r to n t : ℕ) (m : Move) (f g : ℕ) → Adds p (place_of r 0 0) (place_of r to n) t → IsFirstMove p (place_of r to n) (place_of (r + 1) 0 0) m → f ≡ m.to → g ≡ promotion_number m.promotion → Adds p (place_of r 0 0) (place_of r f (g + 1)) (t + 1)
unfolding Adds
walk_step p r to n t m f g adds first a b c count =
    let on : IsOnBoard m = on_board p m first.legal in
    let far : m.to < 64 = on.1 in
    let few : promotion_number m.promotion < 7 = promotion_low m.promotion in
    let above : place_of r to n ≤ place m = first.from_low in
    let below : place m < place_of (r + 1) 0 0 = first.to_high in
    let from : m.from ≡ r = omega arith in
    let here : IsCountBelow p (place m) (c + t) = count_skip p (place_of r to n) (place m) (c + t) (adds c count) above first.first in
    let pushed : IsCountBelow p (place m + 1) (c + t + 1) = count_push p (c + t) (place m) m here first.legal refl in
    let at : place m + 1 ≡ place_of r f (g + 1) = omega arith in
    let same : c + t + 1 ≡ c + (t + 1) = omega arith in
    subst (λ x. IsCountBelow p x (c + (t + 1))) at (subst (λ x. IsCountBelow p (place m + 1) x) same pushed)

pub walk_far : (p : State) (r to n : ℕ) (m : Move) → IsFirstMove p (place_of r to n) (place_of (r + 1) 0 0) m → (to * 7 + n ≤ m.to * 7 + promotion_number m.promotion)
walk_far p r to n m first =
    let on : IsOnBoard m = on_board p m first.legal in
    let far : m.to < 64 = on.1 in
    let few : promotion_number m.promotion < 7 = promotion_low m.promotion in
    let above : place_of r to n ≤ place m = first.from_low in
    let below : place m < place_of (r + 1) 0 0 = first.to_high in
    omega arith

pub walk_end : (p : State) (r to n t : ℕ) → to < 64 → n ≤ 7 → Adds p (place_of r 0 0) (place_of r to n) t → NoneFrom p (place_of r to n) (place_of (r + 1) 0 0) → Adds p (place_of r 0 0) (place_of (r + 1) 0 0) t
unfolding Adds
walk_end p r to n t far few adds none c count = count_skip p (place_of r to n) (place_of (r + 1) 0 0) (c + t) (adds c count) (omega arith) none

pub advances_at : (p : State) (k : Kind) (r set : ℕ) (b : Placement) (c : Color) → b ≡ p.board → c ≡ p.side → IsSetOf set (Advances b c k r) → IsSetOf set (Advances p.board p.side k r)
advances_at p k r set b c eb ec is = subst (λ (d : Placement). IsSetOf set (Advances d p.side k r)) eb (subst (λ (d : Color). IsSetOf set (Advances b d k r)) ec is)

pub exact_free : (p : State) (k : Kind) (r set : ℕ) (b : Placement) (c : Color) → b ≡ p.board → c ≡ p.side → r < 64 → Stands p.board p.side k r → IsFree p k r → IsOrdinary p k r → IsSetOf set (Advances b c k r) → IsExact p r set
exact_free p k r set b c eb ec low here free plain is = free_exact p k r set low here free plain (advances_at p k r set b c eb ec is)

-- a home rank of the other side that a test has ruled out
pub rank_ruled_out : (c d : Color) (r n k : ℕ) → n ≡ rank r → k ≡ home_rank d → d ≡ other c → eqb n k ≡ false → rank r ≢ home_rank (other c)
rank_ruled_out c d r n k e h same off f = eqb-false n k off (e ∙ f ∙ sym (h ∙ ap home_rank same))

-- a pawn one rank from its last, by a test
pub tried_home : (p : State) (k : Kind) (r : ℕ) → k ≡ Pawn → Stands p.board p.side k r → (d : Color) (n h : ℕ) → n ≡ rank r → h ≡ home_rank d → d ≡ other p.side → eqb n h ≡ true → IsTried p r
tried_home p k r e here d n h at home turn same = record {
  stands = subst (λ (j : Kind). Stands p.board p.side j r) e here;
  why = inl (sym at ∙ (Decides-eqb n h).0 same ∙ home ∙ ap home_rank turn);
}

-- a square of a set, or none below n
some_below : (set n : ℕ) → n ≤ 64 → ((q : ℕ) → q < n → has set q ≡ false) ⊎ ((q : ℕ) × (q < 64) × (has set q ≡ true))
some_below set zero le = inl (λ q l. absurd (omega arith))
some_below set (suc n) le = elim (some_below set n (omega arith)) [
  | inr found ↦ inr found
  | inl none ↦ elim (has set n) as (λ b. has set n ≡ b → ((q : ℕ) → q < suc n → has set q ≡ false) ⊎ ((q : ℕ) × (q < 64) × (has set q ≡ true))) [
    | true ↦ λ e. inr (n, omega arith, e)
    | false ↦ λ e. inl (λ q l. elim (eqb_tells q n) [
      | inl w ↦ subst (λ x. has set x ≡ false) (sym w.1) e
      | inr w ↦ none q (let ne : q ≢ n = w.1 in omega arith)
    ])
  ] refl
]

-- a pawn from whose square one captures en passant, by a set that is not empty
pub tried_passing : (p : State) (k : Kind) (r : ℕ) → k ≡ Pawn → Stands p.board p.side k r → (set : ℕ) → IsSetOf set (CapturesEnPassant p r) → ¬ HasNoneFrom set 0 → IsTried p r
tried_passing p k r e here set is some = record {
  stands = subst (λ (j : Kind). Stands p.board p.side j r) e here;
  why = elim (some_below set 64 (omega arith)) [
    | inl none ↦ absurd (some (λ q _ l. none q l))
    | inr found ↦ inr (found.0, found.1, (is found.0 found.1).0 found.2)
  ];
}

-- ---- the next move of such a man
from_there : (r to n f t j : ℕ) → n ≤ 7 → t < 64 → j < 7 → place_of r to n ≤ place_of f t j → place_of f t j < place_of (r + 1) 0 0 → f ≡ r
from_there r to n f t j a b c d e = omega arith

module _ (p : State) (r set : ℕ) (is : IsExact p r set) (to n at : ℕ) (few : n ≤ 7) (same : n ≡ 0 → at ≡ to) (later : n ≢ 0 → at ≡ to + 1) where
  -- a legal move from this place on goes to a square of the set from `at` on
  exact_past : (m : Move) → IsLegal p m → place_of r to n ≤ place m → place m < place_of (r + 1) 0 0 → (m.from ≡ r) × (promotion_number m.promotion ≡ 0) × (at ≤ m.to) × (m.to < 64) × (has set m.to ≡ true)
  exact_past m l above below =
      let on : IsOnBoard m = on_board p m l in
      let far : m.to < 64 = on.1 in
      let small : promotion_number m.promotion < 7 = promotion_low m.promotion in
      let from : m.from ≡ r = from_there r to n m.from m.to (promotion_number m.promotion) few far small above below in
      let none : promotion_number m.promotion ≡ 0 = plain p r set is m l from in
      let reached : at ≤ m.to = elim (eqb_tells n 0) [
        | inl w ↦ (let e : at ≡ to = same w.1 in let z : n ≡ 0 = w.1 in omega arith)
        | inr w ↦ (let e : at ≡ to + 1 = later w.1 in let z : n ≢ 0 = w.1 in omega arith)
      ] in
      (from, none, reached, far, (inside p r set is m l from).1)

  pub exact_found : (s : ℕ) → IsFirstFrom set at s → IsFirstMove p (place_of r to n) (place_of (r + 1) 0 0) (plain_move r s)
  exact_found s first =
      let on : s < 64 = first.on_board in
      let up : at ≤ s = first.reached in
      record {
        legal = goes p r set is s on first.member;
        from_low = elim (eqb_tells n 0) [
          | inl w ↦ (let e : at ≡ to = same w.1 in let z : n ≡ 0 = w.1 in omega arith)
          | inr w ↦ (let e : at ≡ to + 1 = later w.1 in omega arith)
        ];
        to_high = omega arith;
        first = λ m l above. elim (leb_tells (place_of r s 0) (place m)) [
          | inl w ↦ w.1
          | inr w ↦ absurd (
              let near : place m < place_of r s 0 = w.1 in
              let h : (m.from ≡ r) × (promotion_number m.promotion ≡ 0) × (at ≤ m.to) × (m.to < 64) × (has set m.to ≡ true) = exact_past m l above (omega arith) in
              let from : m.from ≡ r = h.0 in
              let none : promotion_number m.promotion ≡ 0 = h.1 in
              let off : has set m.to ≡ false = first.before m.to h.2 (omega arith) in
              let is_there : has set m.to ≡ true = h.4 in
              cc)
        ];
      }

  pub exact_last : HasNoneFrom set at → NoneFrom p (place_of r to n) (place_of (r + 1) 0 0)
  exact_last none m l above = elim (leb_tells (place_of (r + 1) 0 0) (place m)) [
    | inl w ↦ w.1
    | inr w ↦ absurd (
        let h : (m.from ≡ r) × (promotion_number m.promotion ≡ 0) × (at ≤ m.to) × (m.to < 64) × (has set m.to ≡ true) = exact_past m l above w.1 in
        let off : has set m.to ≡ false = none m.to h.2 h.3 in
        let is_there : has set m.to ≡ true = h.4 in
        cc)
  ]

pub free_there : (p : State) (k : Kind) (r maybe_pinned : ℕ) → r < 64 → Stands p.board p.side k r → FreeOff p maybe_pinned → has maybe_pinned r ≡ false → IsFree p k r
unfolding FreeOff
free_there p k r maybe_pinned low here free off = free k r low here off
