-- A step keeps the clauses of a position.
use Rattle.pg_position.proofs.Common.{◌≡◌, ◌≢◌, ℕ, ◌<◌, ◌⊎◌, inl, inr, Option, Some, None, Bool, true, refl, sym, subst, arith, ◌∙◌, nat_eq, not, ◌&&◌, ◌||◌, eqb_tells, nat_tests, Color, White, Black, Kind, Pawn, Rook, King, Wing, KingSide, QueenSide, Man, rank, other, man, get, write, get-write_same, get-write_other, Rights, State, Move, StepKind, Plain, Capture, DoubleAdvance, EnPassant, Promotion, Castling, IsForward, InPattern, IsBetween, IsClear, Reaches, AttacksFrom, Attacks, Stands, IsVacant, IsOnlyKing, HasOneKing, InCheck, holds, PawnsClause, IsHome, RightsClause, IsPassed, IsPosition, IsEnemy, Goes, IsPlain, IsCapture, IsDoubleAdvance, IsEnPassant, IsWay, relocated, board_after, passed_after, keeps, rights_after, after, Step, king_home, rook_home, ahead, passed_rank, home_rank, last_rank, king_crossed, king_target}
use Rattle.pg_board.specs.Placement.{Placement as Board}
use Rattle.pg_position.proofs.StepLemmas.{same_kind, same_side, not_other, some_none}

written : (b : Board) (s : ℕ) (o : Option Man) → s < 64 → get (write b s o) s ≡ o
written b s o l = get-write_same b s o l

unwritten : (b : Board) (s t : ℕ) (o : Option Man) → t ≢ s → get (write b s o) t ≡ get b t
unwritten b s t o ne = get-write_other b s o t ne

-- what stands on t after a write on s
after_write : (b : Board) (s t : ℕ) (o : Option Man) → s < 64 → ((t ≡ s) × (get (write b s o) t ≡ o)) ⊎ ((t ≢ s) × (get (write b s o) t ≡ get b t))
after_write b s t o low =
    elim (eqb_tells t s) [ inl w ↦ inl (w.1, rw w.1 (written b s o low)) | inr w ↦ inr (w.1, unwritten b s t o w.1) ]

unrelocated : (b : Board) (r s t : ℕ) → t ≢ r → t ≢ s → get (relocated b r s) t ≡ get b t
unrelocated b r s t a c = unwritten (write b r None) s t (get b r) c ∙ unwritten b r t None a

arrived : (b : Board) (r s : ℕ) → s < 64 → get (relocated b r s) s ≡ get b r
arrived b r s low = written (write b r None) s (get b r) low

left : (b : Board) (r s : ℕ) → r < 64 → r ≢ s → get (relocated b r s) r ≡ None
left b r s low ne = unwritten (write b r None) s r (get b r) ne ∙ written b r None low

-- 1 kings

king_kept_write : (b : Board) (s : ℕ) (o : Option Man) (c : Color) → s < 64 → HasOneKing b c → ¬ Stands b c King s → o ≢ Some (man c King) → HasOneKing (write b s o) c
unfolding HasOneKing IsOnlyKing
king_kept_write b s o c low (k, (l, here, only)) free other_man =
    let ne : k ≢ s = λ e. free (rw e at here) in (
      k,
      (
        l,
        unwritten b s k o ne ∙ here,
        λ t lt stands. elim (after_write b s t o low) [ inl w ↦ absurd (other_man (sym w.1 ∙ stands)) | inr w ↦ only t lt (sym w.1 ∙ stands) ],
      ),
    )

king_moved : (b : Board) (r s : ℕ) (c : Color) → r < 64 → s < 64 → IsOnlyKing b c r → IsOnlyKing (relocated b r s) c s
unfolding IsOnlyKing
king_moved b r s c lr ls (l, here, only) = (
  ls,
  arrived b r s ls ∙ here,
  λ t lt stands. elim (after_write (write b r None) s t (get b r) ls) [
    | inl w ↦ w.0
    | inr w ↦ elim (after_write b r t None lr) [
      | inl v ↦ absurd (some_none (sym stands ∙ w.1 ∙ v.1))
      | inr v ↦ absurd (v.0 (only t lt (sym v.1 ∙ sym w.1 ∙ stands)))
    ]
  ],
)

king_stays : (b : Board) (r s : ℕ) (c : Color) → r < 64 → s < 64 → r ≢ s → (k : ℕ) → IsOnlyKing b c k → ¬ Stands b c King s → k ≢ r → HasOneKing (relocated b r s) c
unfolding HasOneKing IsOnlyKing
king_stays b r s c lr ls ne k (l, here, only) free elsewhere =
    let not_r : ¬ Stands b c King r = λ h. elsewhere (sym (only r lr h)) in
    let one : HasOneKing b c = (k, (l, here, only)) in
    let gone : HasOneKing (write b r None) c = king_kept_write b r None c lr one not_r (λ e. some_none (sym e)) in
    let back : s ≢ r = λ e. ne (sym e) in
    king_kept_write (write b r None) s (get b r) c ls gone (λ h. free (sym (unwritten b r s None back) ∙ h)) not_r

king_kept_relocate : (b : Board) (r s : ℕ) (c : Color) → r < 64 → s < 64 → r ≢ s → HasOneKing b c → ¬ Stands b c King s → HasOneKing (relocated b r s) c
unfolding HasOneKing
king_kept_relocate b r s c lr ls ne (k, one) free =
    elim (eqb_tells k r) [ inl w ↦ (s, king_moved b r s c lr ls (rw w.1 at one)) | inr w ↦ king_stays b r s c lr ls ne k one free w.1 ]

-- 2 pawns

pawns_kept_write : (b : Board) (s : ℕ) (o : Option Man) → s < 64 → PawnsClause b → ((c : Color) → o ≡ Some (man c Pawn) → (rank s ≢ 1) × (rank s ≢ 8)) → PawnsClause (write b s o)
unfolding PawnsClause
pawns_kept_write b s o low pawns fine t c lt stands =
    elim (after_write b s t o low) [
      | inl w ↦ (let f : (rank s ≢ 1) × (rank s ≢ 8) = fine c (sym w.1 ∙ stands) in rw w.0 f)
      | inr w ↦ pawns t c lt (sym w.1 ∙ stands)
    ]

pawns_kept_relocate : (b : Board) (r s : ℕ) → r < 64 → s < 64 → PawnsClause b → ((c : Color) → Stands b c Pawn r → (rank s ≢ 1) × (rank s ≢ 8)) → PawnsClause (relocated b r s)
pawns_kept_relocate b r s lr ls pawns fine =
    pawns_kept_write (write b r None) s (get b r) ls (pawns_kept_write b r None lr pawns (λ c e. absurd (some_none (sym e)))) fine

forward_fine : (c : Color) (r s : ℕ) → r < 64 → IsForward c 1 r s → (rank r ≢ 1) × (rank r ≢ 8) → rank s ≢ last_rank c → (rank s ≢ 1) × (rank s ≢ 8)
forward_fine White r s low f h l = (omega arith, l)
forward_fine Black r s low f h l = (l, omega arith)

double_fine : (c : Color) (r s : ℕ) → s ≡ ahead c 2 r → rank r ≡ home_rank c → (rank s ≢ 1) × (rank s ≢ 8)
double_fine White r s e h = (omega arith, omega arith)
double_fine Black r s e h = (omega arith, omega arith)

passed_fine : (c : Color) (s : ℕ) → rank s ≡ passed_rank c → (rank s ≢ 1) × (rank s ≢ 8)
passed_fine White s h = (omega arith, omega arith)
passed_fine Black s h = (omega arith, omega arith)

-- squares of castling

pub castle_between : (c : Color) (w : Wing) → IsBetween (king_home c) (king_crossed c w) (rook_home c w) × IsBetween (king_home c) (king_target c w) (rook_home c w)
unfolding IsBetween
castle_between White KingSide = ((omega arith, omega arith, refl, refl, inl (inr refl)), (omega arith, omega arith, refl, refl, inl (inr refl)))
castle_between White QueenSide = ((omega arith, omega arith, refl, refl, inl (inr refl)), (omega arith, omega arith, refl, refl, inl (inr refl)))
castle_between Black KingSide = ((omega arith, omega arith, refl, refl, inl (inr refl)), (omega arith, omega arith, refl, refl, inl (inr refl)))
castle_between Black QueenSide = ((omega arith, omega arith, refl, refl, inl (inr refl)), (omega arith, omega arith, refl, refl, inl (inr refl)))

pub record CastleSquares (c : Color) (w : Wing) : Type 0 where
  pub home_low : king_home c < 64
  pub rook_low : rook_home c w < 64
  pub crossed_low : king_crossed c w < 64
  pub target_low : king_target c w < 64
  pub crossed_home : king_crossed c w ≢ king_home c
  pub crossed_target : king_crossed c w ≢ king_target c w
  pub target_home : king_target c w ≢ king_home c
  pub rook_home_apart : rook_home c w ≢ king_home c
  pub rook_target : rook_home c w ≢ king_target c w
  pub rook_crossed : rook_home c w ≢ king_crossed c w

pub castle_squares : (c : Color) (w : Wing) → CastleSquares c w
castle_squares White KingSide = record { home_low = omega arith; rook_low = omega arith; crossed_low = omega arith; target_low = omega arith; crossed_home = omega arith; crossed_target = omega arith; target_home = omega arith; rook_home_apart = omega arith; rook_target = omega arith; rook_crossed = omega arith }
castle_squares White QueenSide = record { home_low = omega arith; rook_low = omega arith; crossed_low = omega arith; target_low = omega arith; crossed_home = omega arith; crossed_target = omega arith; target_home = omega arith; rook_home_apart = omega arith; rook_target = omega arith; rook_crossed = omega arith }
castle_squares Black KingSide = record { home_low = omega arith; rook_low = omega arith; crossed_low = omega arith; target_low = omega arith; crossed_home = omega arith; crossed_target = omega arith; target_home = omega arith; rook_home_apart = omega arith; rook_target = omega arith; rook_crossed = omega arith }
castle_squares Black QueenSide = record { home_low = omega arith; rook_low = omega arith; crossed_low = omega arith; target_low = omega arith; crossed_home = omega arith; crossed_target = omega arith; target_home = omega arith; rook_home_apart = omega arith; rook_target = omega arith; rook_crossed = omega arith }

pub record CastleVacant (b : Board) (c : Color) (w : Wing) : Type 0 where
  pub crossed : IsVacant b (king_crossed c w)
  pub target : IsVacant b (king_target c w)

pub castle_vacant : (b : Board) (c : Color) (w : Wing) → IsClear b (king_home c) (rook_home c w) → CastleVacant b c w
unfolding IsClear
castle_vacant b c w clear = let q : CastleSquares c w = castle_squares c w in record { crossed = clear (king_crossed c w) q.crossed_low (castle_between c w).0; target = clear (king_target c w) q.target_low (castle_between c w).1 }

-- the move's two squares

pawn_not_king : Pawn ≡ King → ⊥
pawn_not_king e = cc

record Moving (p : State) (k : Kind) (m : Move) : Type 0 where
  from_low : m.from < 64
  to_low : m.to < 64
  pos : IsPosition p
  stands : Stands p.board p.side k m.from

vacant_differs : (b : Board) (c : Color) (k : Kind) (r s : ℕ) → Stands b c k r → IsVacant b s → r ≢ s
vacant_differs b c k r s h v e = let here : get b s ≡ Some (man c k) = rw e at h in some_none (sym here ∙ v)

enemy_differs : (b : Board) (c : Color) (k : Kind) (r s : ℕ) → Stands b c k r → IsEnemy b c s → r ≢ s
unfolding IsEnemy
enemy_differs b c k r s h (j, there) e = let here : get b s ≡ Some (man c k) = rw e at h in not_other c (same_side here there)

vacant_no_man : (b : Board) (c : Color) (k : Kind) (s : ℕ) → IsVacant b s → ¬ Stands b c k s
vacant_no_man b c k s v h = some_none (sym h ∙ v)

other_other : (c : Color) → other (other c) ≡ c
other_other White = refl
other_other Black = refl

-- a square that is attacked has no king of the other side
no_king_hit : (p : State) (k : Kind) (m : Move) → Moving p k m → IsEnemy p.board p.side m.to → Reaches p.board p.side k m.from m.to → (c : Color) → ¬ Stands p.board c King m.to
unfolding IsEnemy InCheck Attacks AttacksFrom
no_king_hit p k m mv (j, there) hits c king =
    let is_king : j ≡ King = same_kind there king in
    let enemy_king : Stands p.board (other p.side) King m.to = rw is_king at there in
    let hit : Attacks p.board p.side m.to = (m.from, mv.from_low, (k, mv.stands, hits)) in
    let hit' : Attacks p.board (other (other p.side)) m.to = subst (λ (x : Color). Attacks p.board x m.to) (sym (other_other p.side)) hit in
    mv.pos.safe (m.to, mv.to_low, enemy_king, hit')

one_king : (p : State) → IsPosition p → (c : Color) → HasOneKing p.board c
one_king p pos White = pos.kings.0
one_king p pos Black = pos.kings.1

-- a pawn that is taken in passing

record Passing (p : State) (m : Move) : Type 0 where
  rank_of : rank m.to ≡ passed_rank p.side
  vacant : IsVacant p.board m.to
  there : Stands p.board (other p.side) Pawn (ahead (other p.side) 1 m.to)
  low : ahead (other p.side) 1 m.to < 64
  not_from : ahead (other p.side) 1 m.to ≢ m.from
  not_to : ahead (other p.side) 1 m.to ≢ m.to

behind_low : (c : Color) (s : ℕ) → rank s ≡ passed_rank c → (ahead (other c) 1 s < 64) × (ahead (other c) 1 s ≢ s)
behind_low White s h = (omega arith, omega arith)
behind_low Black s h = (omega arith, omega arith)

passing_of : (p : State) (k : Kind) (m : Move) → Moving p k m → IsEnPassant p k m → Passing p m
unfolding IsPassed
passing_of p k m mv h =
    let passed : IsPassed p.board p.side m.to = mv.pos.passing m.to h.passed in
    let low : (ahead (other p.side) 1 m.to < 64) × (ahead (other p.side) 1 m.to ≢ m.to) = behind_low p.side m.to passed.0 in
    record {
      rank_of = passed.0;
      vacant = passed.1;
      there = passed.2;
      low = low.0;
      not_from = λ e. not_other p.side (same_side mv.stands (rw e at passed.2));
      not_to = low.1;
    }

right_home : (p : State) (w : Wing) → IsPosition p → holds p.rights p.side w ≡ true → IsHome p.board p.side w
unfolding RightsClause
right_home p w pos h = pos.homes p.side w h

rook_of : (b : Board) (c : Color) (w : Wing) → IsHome b c w → Stands b c Rook (rook_home c w)
unfolding IsHome
rook_of b c w h = h.1

-- the homes of the colour that doesn't castle are none of the rook's squares
far_homes : (c d : Color) (v w : Wing) (t : ℕ) → (king_home d ≡ king_home c → ⊥) → (t ≡ king_home d) ⊎ (t ≡ rook_home d w) → (t ≢ rook_home c v) × (t ≢ king_crossed c v)
far_homes White White v w t ne e = absurd (ne refl)
far_homes Black Black v w t ne e = absurd (ne refl)
far_homes White Black KingSide KingSide t ne e = (grind arith, grind arith)
far_homes White Black KingSide QueenSide t ne e = (grind arith, grind arith)
far_homes White Black QueenSide KingSide t ne e = (grind arith, grind arith)
far_homes White Black QueenSide QueenSide t ne e = (grind arith, grind arith)
far_homes Black White KingSide KingSide t ne e = (grind arith, grind arith)
far_homes Black White KingSide QueenSide t ne e = (grind arith, grind arith)
far_homes Black White QueenSide KingSide t ne e = (grind arith, grind arith)
far_homes Black White QueenSide QueenSide t ne e = (grind arith, grind arith)

-- 1 each case keeps one king of each colour
kings_kept : (p : State) (k : Kind) (m : Move) (w : StepKind) → Moving p k m → IsWay p k m w → (c : Color) → HasOneKing (board_after p m w) c
kings_kept p k m Plain mv h c = king_kept_relocate p.board m.from m.to c mv.from_low mv.to_low (vacant_differs p.board p.side k m.from m.to mv.stands h.vacant) (one_king p mv.pos c) (vacant_no_man p.board c King m.to h.vacant)
kings_kept p k m Capture mv h c = king_kept_relocate p.board m.from m.to c mv.from_low mv.to_low (enemy_differs p.board p.side k m.from m.to mv.stands h.enemy) (one_king p mv.pos c) (no_king_hit p k m mv h.enemy h.reaches c)
kings_kept p k m DoubleAdvance mv h c = king_kept_relocate p.board m.from m.to c mv.from_low mv.to_low (vacant_differs p.board p.side k m.from m.to mv.stands h.vacant) (one_king p mv.pos c) (vacant_no_man p.board c King m.to h.vacant)
kings_kept p k m EnPassant mv h c =
    let t : Passing p m = passing_of p k m mv h in
    let moved : HasOneKing (relocated p.board m.from m.to) c = king_kept_relocate p.board m.from m.to c mv.from_low mv.to_low (vacant_differs p.board p.side k m.from m.to mv.stands t.vacant) (one_king p mv.pos c) (vacant_no_man p.board c King m.to t.vacant) in
    let still : get (relocated p.board m.from m.to) (ahead (other p.side) 1 m.to) ≡ get p.board (ahead (other p.side) 1 m.to) = unrelocated p.board m.from m.to (ahead (other p.side) 1 m.to) t.not_from t.not_to in
    king_kept_write (relocated p.board m.from m.to) (ahead (other p.side) 1 m.to) None c t.low moved
    (λ king. pawn_not_king (same_kind t.there (sym still ∙ king)))
    (λ e. some_none (sym e))
kings_kept p k m (Promotion x) mv h c =
    let pawn : k ≡ Pawn = h.must.0 in
    let ne : m.from ≢ m.to = elim h.moves [ inl v ↦ vacant_differs p.board p.side k m.from m.to mv.stands v.0 | inr e ↦ enemy_differs p.board p.side k m.from m.to mv.stands e.0 ] in
    let free : ¬ Stands p.board c King m.to = elim h.moves [ inl v ↦ vacant_no_man p.board c King m.to v.0 | inr e ↦ no_king_hit p k m mv e.0 e.1 c ] in
    let gone : HasOneKing (write p.board m.from None) c = king_kept_write p.board m.from None c mv.from_low (one_king p mv.pos c) (λ king. pawn_not_king (sym pawn ∙ same_kind mv.stands king)) (λ e. some_none (sym e)) in
    king_kept_write (write p.board m.from None) m.to (Some (man p.side x)) c mv.to_low gone
    (λ king. free (sym (unwritten p.board m.from m.to None (λ e. ne (sym e))) ∙ king))
    (λ e. h.piece.1 (same_kind {o = Some (man p.side x)} refl e))
kings_kept p k m (Castling w) mv h c =
    let q : CastleSquares p.side w = castle_squares p.side w in
    let v : CastleVacant p.board p.side w = castle_vacant p.board p.side w h.clear in
    let vacant : IsVacant p.board m.to = rw h.target v.target in
    let moved : HasOneKing (relocated p.board m.from m.to) c = king_kept_relocate p.board m.from m.to c mv.from_low mv.to_low (vacant_differs p.board p.side k m.from m.to mv.stands vacant) (one_king p mv.pos c) (vacant_no_man p.board c King m.to vacant) in
    let still : get (relocated p.board m.from m.to) (king_crossed p.side w) ≡ get p.board (king_crossed p.side w) = unrelocated p.board m.from m.to (king_crossed p.side w) (rw h.home q.crossed_home) (rw h.target q.crossed_target) in
    king_kept_relocate (relocated p.board m.from m.to) (rook_home p.side w) (king_crossed p.side w) c q.rook_low q.crossed_low q.rook_crossed moved
    (λ king. vacant_no_man p.board c King (king_crossed p.side w) v.crossed (sym still ∙ king))

-- 2 each case keeps the pawns off the first and the last rank

-- where the mover, if it is a pawn, comes to
pawn_fine : (p : State) (k : Kind) (m : Move) → Moving p k m → (k ≡ Pawn → (rank m.to ≢ 1) × (rank m.to ≢ 8)) → (c : Color) → Stands p.board c Pawn m.from → (rank m.to ≢ 1) × (rank m.to ≢ 8)
pawn_fine p k m mv fine c stands = fine (same_kind mv.stands stands)

from_fine : (p : State) (k : Kind) (m : Move) → Moving p k m → k ≡ Pawn → (rank m.from ≢ 1) × (rank m.from ≢ 8)
unfolding PawnsClause
from_fine p k m mv e = mv.pos.pawns m.from p.side mv.from_low (rw e at mv.stands)

plain_fine : (p : State) (k : Kind) (m : Move) → Moving p k m → IsPlain p k m → k ≡ Pawn → (rank m.to ≢ 1) × (rank m.to ≢ 8)
unfolding Goes
plain_fine p k m mv h e = let g : Goes p.board p.side Pawn m.from m.to = rw e at h.goes in forward_fine p.side m.from m.to mv.from_low g.1 (from_fine p k m mv e) (λ l. h.stays (e, l))

capture_fine : (p : State) (k : Kind) (m : Move) → Moving p k m → IsCapture p k m → k ≡ Pawn → (rank m.to ≢ 1) × (rank m.to ≢ 8)
unfolding InPattern
capture_fine p k m mv h e = let g : InPattern p.side Pawn m.from m.to = rw e at h.reaches.0 in forward_fine p.side m.from m.to mv.from_low g.1 (from_fine p k m mv e) (λ l. h.stays (e, l))

rook_not_pawn : Rook ≡ Pawn → ⊥
rook_not_pawn e = cc

king_not_pawn : King ≡ Pawn → ⊥
king_not_pawn e = cc

pawns_kept : (p : State) (k : Kind) (m : Move) (w : StepKind) → Moving p k m → IsWay p k m w → PawnsClause (board_after p m w)
pawns_kept p k m Plain mv h = pawns_kept_relocate p.board m.from m.to mv.from_low mv.to_low mv.pos.pawns (pawn_fine p k m mv (plain_fine p k m mv h))
pawns_kept p k m Capture mv h = pawns_kept_relocate p.board m.from m.to mv.from_low mv.to_low mv.pos.pawns (pawn_fine p k m mv (capture_fine p k m mv h))
pawns_kept p k m DoubleAdvance mv h = pawns_kept_relocate p.board m.from m.to mv.from_low mv.to_low mv.pos.pawns (λ c s. double_fine p.side m.from m.to h.two h.home)
pawns_kept p k m EnPassant mv h =
    let t : Passing p m = passing_of p k m mv h in
    pawns_kept_write (relocated p.board m.from m.to) (ahead (other p.side) 1 m.to) None t.low
    (pawns_kept_relocate p.board m.from m.to mv.from_low mv.to_low mv.pos.pawns (λ c s. passed_fine p.side m.to t.rank_of))
    (λ c e. absurd (some_none (sym e)))
pawns_kept p k m (Promotion x) mv h =
    pawns_kept_write (write p.board m.from None) m.to (Some (man p.side x)) mv.to_low
    (pawns_kept_write p.board m.from None mv.from_low mv.pos.pawns (λ c e. absurd (some_none (sym e))))
    (λ c e. absurd (h.piece.0 (same_kind {o = Some (man p.side x)} refl e)))
pawns_kept p k m (Castling w) mv h =
    let q : CastleSquares p.side w = castle_squares p.side w in
    let home : IsHome p.board p.side w = right_home p w mv.pos h.right in
    let rook : Stands p.board p.side Rook (rook_home p.side w) = rook_of p.board p.side w home in
    let still : get (relocated p.board m.from m.to) (rook_home p.side w) ≡ get p.board (rook_home p.side w) = unrelocated p.board m.from m.to (rook_home p.side w) (rw h.home q.rook_home_apart) (rw h.target q.rook_target) in
    pawns_kept_relocate (relocated p.board m.from m.to) (rook_home p.side w) (king_crossed p.side w) q.rook_low q.crossed_low
    (pawns_kept_relocate p.board m.from m.to mv.from_low mv.to_low mv.pos.pawns (pawn_fine p k m mv (λ e. absurd (king_not_pawn (sym h.king ∙ e)))))
    (λ c s. absurd (rook_not_pawn (same_kind rook (sym still ∙ s))))

-- 3 each case keeps the men of the rights that are left at home

-- the move touches neither home of the right
record Untouched (m : Move) (c : Color) (w : Wing) : Type 0 where
  king_from : king_home c ≢ m.from
  king_to : king_home c ≢ m.to
  rook_from : rook_home c w ≢ m.from
  rook_to : rook_home c w ≢ m.to

tells : (a : Bool) (f t k r : ℕ) → (a && not ((nat_eq f k || nat_eq t k) || (nat_eq f r || nat_eq t r))) ≡ true → (a ≡ true) × (k ≢ f) × (k ≢ t) × (r ≢ f) × (r ≢ t)
tells a f t k r h = grind (arith, nat_tests)

kept_right : (r : Rights) (m : Move) (c : Color) (w : Wing) → keeps r m c w ≡ true → (holds r c w ≡ true) × Untouched m c w
kept_right r m c w h = let q : (holds r c w ≡ true) × (king_home c ≢ m.from) × (king_home c ≢ m.to) × (rook_home c w ≢ m.from) × (rook_home c w ≢ m.to) = tells (holds r c w) m.from m.to (king_home c) (rook_home c w) h in (q.0, record { king_from = q.1; king_to = q.2; rook_from = q.3; rook_to = q.4 })

kept : (r : Rights) (m : Move) (c : Color) (w : Wing) → holds (rights_after r m) c w ≡ true → (holds r c w ≡ true) × Untouched m c w
kept r m White KingSide h = kept_right r m White KingSide h
kept r m White QueenSide h = kept_right r m White QueenSide h
kept r m Black KingSide h = kept_right r m Black KingSide h
kept r m Black QueenSide h = kept_right r m Black QueenSide h

-- a man at home that is no pawn is where it was
stays_home : (p : State) (k : Kind) (m : Move) (v : StepKind) → Moving p k m → IsWay p k m v → (c : Color) (w : Wing) (j : Kind) (t : ℕ) → Untouched m c w → Stands p.board c j t → j ≢ Pawn → t ≢ m.from → t ≢ m.to → (t ≡ king_home c) ⊎ (t ≡ rook_home c w) → Stands (board_after p m v) c j t
stays_home p k m Plain mv h c w j t un at_home man_of f g where_at = unrelocated p.board m.from m.to t f g ∙ at_home
stays_home p k m Capture mv h c w j t un at_home man_of f g where_at = unrelocated p.board m.from m.to t f g ∙ at_home
stays_home p k m DoubleAdvance mv h c w j t un at_home man_of f g where_at = unrelocated p.board m.from m.to t f g ∙ at_home
stays_home p k m EnPassant mv h c w j t un at_home man_of f g where_at =
    let x : Passing p m = passing_of p k m mv h in
    let ne : t ≢ ahead (other p.side) 1 m.to = λ e. (let also : Stands p.board (other p.side) Pawn t = rw e x.there in man_of (same_kind at_home also)) in
    unwritten (relocated p.board m.from m.to) (ahead (other p.side) 1 m.to) t None ne ∙ unrelocated p.board m.from m.to t f g ∙ at_home
stays_home p k m (Promotion x) mv h c w j t un at_home man_of f g where_at = unwritten (write p.board m.from None) m.to t (Some (man p.side x)) g ∙ unwritten p.board m.from t None f ∙ at_home
stays_home p k m (Castling v) mv h c w j t un at_home man_of f g where_at =
    let far : (t ≢ rook_home p.side v) × (t ≢ king_crossed p.side v) = far_homes p.side c v w t (λ e. un.king_from (rw e (sym h.home))) where_at in
    unrelocated (relocated p.board m.from m.to) (rook_home p.side v) (king_crossed p.side v) t far.0 far.1 ∙ unrelocated p.board m.from m.to t f g ∙ at_home

homes_kept : (p : State) (k : Kind) (m : Move) (w : StepKind) → Moving p k m → IsWay p k m w → RightsClause (board_after p m w) (rights_after p.rights m)
unfolding RightsClause IsHome
homes_kept p k m v mv h c w held =
    let q : (holds p.rights c w ≡ true) × Untouched m c w = kept p.rights m c w held in
    let home : IsHome p.board c w = mv.pos.homes c w q.0 in (
      stays_home p k m v mv h c w King (king_home c) q.1 home.0 (λ e. king_not_pawn e) q.1.king_from q.1.king_to (inl refl),
      stays_home p k m v mv h c w Rook (rook_home c w) q.1 home.1 (λ e. rook_not_pawn e) q.1.rook_from q.1.rook_to (inr refl),
    )

-- 4 the passed square

double_squares : (c : Color) (r s : ℕ) → s ≡ ahead c 2 r → rank r ≡ home_rank c → (rank (ahead c 1 r) ≡ passed_rank (other c)) × (ahead (other (other c)) 1 (ahead c 1 r) ≡ s) × (ahead (other c) 1 (ahead c 1 r) ≡ r) × (ahead c 1 r ≢ r) × (ahead c 1 r ≢ s) × (r ≢ s)
double_squares White r s e h = (omega arith, omega arith, omega arith, omega arith, omega arith, omega arith)
double_squares Black r s e h = (omega arith, omega arith, omega arith, omega arith, omega arith, omega arith)

double_passed : (p : State) (k : Kind) (m : Move) → Moving p k m → IsDoubleAdvance p k m → IsPassed (relocated p.board m.from m.to) (other p.side) (ahead p.side 1 m.from)
unfolding IsPassed
double_passed p k m mv h =
    let q : (rank (ahead p.side 1 m.from) ≡ passed_rank (other p.side)) × (ahead (other (other p.side)) 1 (ahead p.side 1 m.from) ≡ m.to) × (ahead (other p.side) 1 (ahead p.side 1 m.from) ≡ m.from) × (ahead p.side 1 m.from ≢ m.from) × (ahead p.side 1 m.from ≢ m.to) × (m.from ≢ m.to) = double_squares p.side m.from m.to h.two h.home in
    let pawn : Stands p.board p.side Pawn m.from = rw h.pawn at mv.stands in
    let there : Stands (relocated p.board m.from m.to) p.side Pawn m.to = arrived p.board m.from m.to mv.to_low ∙ pawn in
    let back : Stands (relocated p.board m.from m.to) (other (other p.side)) Pawn m.to = subst (λ (c : Color). Stands (relocated p.board m.from m.to) c Pawn m.to) (sym (other_other p.side)) there in
    let gone : IsVacant (relocated p.board m.from m.to) m.from = left p.board m.from m.to mv.from_low q.5 in (
      q.0,
      unrelocated p.board m.from m.to (ahead p.side 1 m.from) q.3 q.4 ∙ h.crossed,
      subst (λ (s : ℕ). Stands (relocated p.board m.from m.to) (other (other p.side)) Pawn s) (sym q.1) back,
      subst (λ (s : ℕ). IsVacant (relocated p.board m.from m.to) s) (sym q.2) gone,
    )

passing_kept : (p : State) (k : Kind) (m : Move) (w : StepKind) → Moving p k m → IsWay p k m w → (e : ℕ) → passed_after p m w ≡ Some e → IsPassed (board_after p m w) (other p.side) e
passing_kept p k m DoubleAdvance mv h e is = let same : ahead p.side 1 m.from ≡ e = cc in subst (λ (x : ℕ). IsPassed (relocated p.board m.from m.to) (other p.side) x) same (double_passed p k m mv h)
passing_kept p k m Plain mv h e is = absurd (some_none (sym is))
passing_kept p k m Capture mv h e is = absurd (some_none (sym is))
passing_kept p k m EnPassant mv h e is = absurd (some_none (sym is))
passing_kept p k m (Promotion x) mv h e is = absurd (some_none (sym is))
passing_kept p k m (Castling v) mv h e is = absurd (some_none (sym is))

after_valid : (p : State) (k : Kind) (m : Move) (w : StepKind) → Moving p k m → IsWay p k m w → ¬ InCheck (board_after p m w) p.side → IsPosition (after p m w)
after_valid p k m w mv h safe = record {
  kings = (kings_kept p k m w mv h White, kings_kept p k m w mv h Black);
  pawns = pawns_kept p k m w mv h;
  homes = homes_kept p k m w mv h;
  passing = passing_kept p k m w mv h;
  safe = subst (λ (c : Color). ¬ InCheck (board_after p m w) c) (sym (other_other p.side)) safe;
}

pub step_valid : (p : State) (m : Move) (q : State) → IsPosition p → Step p m q → ¬ InCheck q.board p.side → IsPosition q
unfolding Step
step_valid p m q pos (k, w, on, stands, way, e) safe =
    let safe' : ¬ InCheck (board_after p m w) p.side = subst (λ (x : State). ¬ InCheck x.board p.side) e safe in
    let valid : IsPosition (after p m w) = after_valid p k m w (record { from_low = on.0; to_low = on.1; pos = pos; stands = stands }) way safe' in
    subst (λ (x : State). IsPosition x) (sym e) valid
