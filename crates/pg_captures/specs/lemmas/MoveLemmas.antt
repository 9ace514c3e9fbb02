-- What a legal move does to the men of either colour.
use Rattle.std.proofs.Common.{◌≡◌, ◌≢◌, ℕ, ◌<◌, ◌⊎◌, inl, inr, Some, None, Bool, true, refl, sym, ap, subst, arith, ◌∙◌, nat_eq, ◌&&◌, ◌||◌, not}
use Rattle.std.proofs.lemmas.Bool.Decides.{eqb_tells, nat_tests}
use Rattle.pg_board.specs.declared.man.Color.{Color}
use Rattle.pg_board.specs.declared.man.Color.TheVariants.{White, Black}
use Rattle.pg_board.specs.declared.man.Kind.{Kind}
use Rattle.pg_board.specs.declared.man.Kind.TheVariants.{Pawn, Knight, Bishop, Rook, Queen, King}
use Rattle.pg_position.specs.declared.rights.Wing.{Wing}
use Rattle.pg_position.specs.declared.rights.Wing.TheVariants.{KingSide, QueenSide}
use Rattle.pg_board.specs.Placement.{Placement, write}
use Rattle.pg_position.specs.declared.rights.Rights.{Rights}
use Rattle.pg_position.specs.declared.state.State.{State}
use Rattle.pg_position.specs.declared.moves.Move.{Move}
use Rattle.pg_position.specs.declared.moves.StepKind.{StepKind}
use Rattle.pg_position.specs.declared.moves.StepKind.TheVariants.{Plain, Capture, DoubleAdvance, EnPassant, Promotion, Castling}
use Rattle.pg_board.specs.Squares.{file, rank}
use Rattle.pg_position.specs.Geometry.{IsForward, InPattern}
use Rattle.pg_board.specs.Men.{other, man}
use Rattle.pg_position.specs.Position.{Stands, holds, IsHome, RightsClause, IsPassed, IsPosition}
use Rattle.pg_position.specs.Step.{Goes, MustPromote, IsPiece, IsEnPassant, IsPromotion, IsCastling, IsWay, relocated, keeps, rights_after, after, Step, IsOnBoard}
use Rattle.pg_position.specs.Squares.{king_home, rook_home, ahead, passed_rank, home_rank, last_rank, king_crossed, king_target}
use Rattle.pg_captures.specs.FreeSteps.{StepsTo, Becomes, FreeStep}
use Rattle.pg_captures.specs.lemmas.BoardLemmas.{written, stood_emptied, stood_elsewhere, stood_before, arrived, man_elsewhere, same_kind, same_side}

-- a right that is kept, with its king and rook untouched
pub record KeptRight (p : State) (c : Color) (r s : ℕ) (w : Wing) : Type 0 where
  pub held : holds p.rights c w ≡ true
  pub from_king : r ≢ king_home c
  pub from_rook : r ≢ rook_home c w
  pub to_king : s ≢ king_home c
  pub to_rook : s ≢ rook_home c w

-- c moved one man by one free step, and every other man of c that is left stood where it stands
pub record OneStep (p n : State) (c : Color) (k : Kind) (r s : ℕ) : Type 0 where
  pub from_low : r < 64
  pub to_low : s < 64
  pub stood : Stands p.board c k r
  pub came : (j : Kind) → Stands n.board c j s → FreeStep c k r j s
  pub others : (j : Kind) (t : ℕ) → t < 64 → t ≢ s → Stands n.board c j t → (t ≢ r) × Stands p.board c j t
  pub rights : (w : Wing) → holds n.rights c w ≡ true → KeptRight p c r s w

-- c castled
pub record Castled (p n : State) (c : Color) (v : Wing) : Type 0 where
  pub right : holds p.rights c v ≡ true
  pub lost : (w : Wing) → holds n.rights c w ≡ true → ⊥
  pub king : Stands p.board c King (king_home c)
  pub rook : Stands p.board c Rook (rook_home c v)
  pub at_target : (j : Kind) → Stands n.board c j (king_target c v) → King ≡ j
  pub at_crossed : (j : Kind) → Stands n.board c j (king_crossed c v) → Rook ≡ j
  pub others : (j : Kind) (t : ℕ) → t < 64 → t ≢ king_target c v → t ≢ king_crossed c v → Stands n.board c j t → (t ≢ king_home c) × (t ≢ rook_home c v) × Stands p.board c j t

-- the other colour moved
pub record Spared (p n : State) (c : Color) : Type 0 where
  pub kept : (j : Kind) (t : ℕ) → t < 64 → Stands n.board c j t → Stands p.board c j t
  pub rights : (w : Wing) → holds n.rights c w ≡ true → holds p.rights c w ≡ true

-- rights

kept_tests : (h : Bool) (f t k r : ℕ) → (h && not ((nat_eq f k || nat_eq t k) || (nat_eq f r || nat_eq t r))) ≡ true → (h ≡ true) × (f ≢ k) × (f ≢ r) × (t ≢ k) × (t ≢ r)
kept_tests h f t k r e = grind (arith, nat_tests)

holds_after : (r : Rights) (m : Move) (c : Color) (w : Wing) → holds (rights_after r m) c w ≡ true → keeps r m c w ≡ true
holds_after r m White KingSide h = h
holds_after r m White QueenSide h = h
holds_after r m Black KingSide h = h
holds_after r m Black QueenSide h = h

kept_right : (p : State) (m : Move) (c : Color) (w : Wing) → holds (rights_after p.rights m) c w ≡ true → KeptRight p c m.from m.to w
kept_right p m c w h =
    let f : (holds p.rights c w ≡ true) × (m.from ≢ king_home c) × (m.from ≢ rook_home c w) × (m.to ≢ king_home c) × (m.to ≢ rook_home c w) = kept_tests (holds p.rights c w) m.from m.to (king_home c) (rook_home c w) (holds_after p.rights m c w h) in
    record { held = f.0; from_king = f.1; from_rook = f.2; to_king = f.3; to_rook = f.4 }

-- free steps

by_pattern : (c : Color) (k : Kind) (r s : ℕ) → InPattern c k r s → StepsTo c k r s
unfolding StepsTo
by_pattern c Pawn r s h = inr (inr h)
by_pattern c Knight r s h = h
by_pattern c Bishop r s h = h
by_pattern c Rook r s h = h
by_pattern c Queen r s h = h
by_pattern c King r s h = h

by_going : (b : Placement) (c : Color) (k : Kind) (r s : ℕ) → Goes b c k r s → StepsTo c k r s
unfolding StepsTo Goes
by_going b c Pawn r s h = inl h
by_going b c Knight r s h = h.0
by_going b c Bishop r s h = h.0
by_going b c Rook r s h = h.0
by_going b c Queen r s h = h.0
by_going b c King r s h = h.0

-- a double advance stays on its file
pub ahead_file : (c : Color) (r s : ℕ) → s ≡ ahead c 2 r → rank r ≡ home_rank c → file r ≡ file s
ahead_file White r s e h = omega arith
ahead_file Black r s e h = omega arith

stays_what_it_is : (c : Color) (k : Kind) (s : ℕ) → ¬ MustPromote k c s → Becomes c k s k
unfolding Becomes
stays_what_it_is c Pawn s h = inr ((λ e. h (refl, e)), refl)
stays_what_it_is c Knight s h = refl
stays_what_it_is c Bishop s h = refl
stays_what_it_is c Rook s h = refl
stays_what_it_is c Queen s h = refl
stays_what_it_is c King s h = refl

pawn_becomes : (c : Color) (s : ℕ) (x : Kind) → IsPiece x → rank s ≡ last_rank c → Becomes c Pawn s x
unfolding Becomes
pawn_becomes c s x h e = inl (e, h)

two_ahead : (c : Color) (r s : ℕ) → r < 64 → rank r ≡ home_rank c → s ≡ ahead c 2 r → (file r ≡ file s) × IsForward c 2 r s
two_ahead White r s low h e = (omega arith, omega arith)
two_ahead Black r s low h e = (omega arith, omega arith)

two_not_last : (c : Color) (r s : ℕ) → r < 64 → rank r ≡ home_rank c → s ≡ ahead c 2 r → rank s ≢ last_rank c
two_not_last White r s low h e = omega arith
two_not_last Black r s low h e = omega arith

passed_not_last : (c : Color) (s : ℕ) → rank s ≡ passed_rank c → rank s ≢ last_rank c
passed_not_last White s h = omega arith
passed_not_last Black s h = omega arith

double_steps : (c : Color) (r s : ℕ) → r < 64 → rank r ≡ home_rank c → s ≡ ahead c 2 r → StepsTo c Pawn r s
unfolding StepsTo
double_steps c r s low h e = let f : (file r ≡ file s) × IsForward c 2 r s = two_ahead c r s low h e in inr (inl (h, f.0, f.1))

pawn_stays : (c : Color) (s : ℕ) → rank s ≢ last_rank c → Becomes c Pawn s Pawn
unfolding Becomes
pawn_stays c s h = inr (h, refl)

-- the board after a move of c's

relocated_came : (b : Placement) (c : Color) (k : Kind) (r s : ℕ) → s < 64 → Stands b c k r → FreeStep c k r k s → (j : Kind) → Stands (relocated b r s) c j s → FreeStep c k r j s
relocated_came b c k r s low stood free j h =
    let e : k ≡ j = same_kind stood (arrived b r s c j low h) in
    subst (λ (x : Kind). FreeStep c k r x s) e free

record CastleSquares (c : Color) (w : Wing) (r s : ℕ) : Type 0 where
  crossed_low : king_crossed c w < 64
  target_crossed : s ≢ king_crossed c w
  rook_from : rook_home c w ≢ r
  rook_to : rook_home c w ≢ s
  crossed_from : king_crossed c w ≢ r

castle_squares : (c : Color) (w : Wing) (r s : ℕ) → r ≡ king_home c → s ≡ king_target c w → CastleSquares c w r s
castle_squares White KingSide r s e f = record { crossed_low = omega arith; target_crossed = omega arith; rook_from = omega arith; rook_to = omega arith; crossed_from = omega arith }
castle_squares White QueenSide r s e f = record { crossed_low = omega arith; target_crossed = omega arith; rook_from = omega arith; rook_to = omega arith; crossed_from = omega arith }
castle_squares Black KingSide r s e f = record { crossed_low = omega arith; target_crossed = omega arith; rook_from = omega arith; rook_to = omega arith; crossed_from = omega arith }
castle_squares Black QueenSide r s e f = record { crossed_low = omega arith; target_crossed = omega arith; rook_from = omega arith; rook_to = omega arith; crossed_from = omega arith }

homes : (b : Placement) (r : Rights) (c : Color) (w : Wing) → RightsClause b r → holds r c w ≡ true → Stands b c King (king_home c) × Stands b c Rook (rook_home c w)
unfolding RightsClause IsHome
homes b r c w clause h = clause c w h

pub own_castling : (p : State) (m : Move) (k : Kind) (v : Wing) → IsPosition p → IsOnBoard m → IsCastling p k m v → Castled p (after p m (Castling v)) p.side v
own_castling p m k v pos (lf, lt) way =
    let h : Stands p.board p.side King (king_home p.side) × Stands p.board p.side Rook (rook_home p.side v) = homes p.board p.rights p.side v pos.homes way.right in
    let q : CastleSquares p.side v m.from m.to = castle_squares p.side v m.from m.to way.home way.target in
    record {
      right = way.right;
      lost = λ w held. (kept_right p m p.side w held).from_king way.home;
      king = h.0;
      rook = h.1;
      at_target = λ j s.
          (let s1 : Stands (relocated (relocated p.board m.from m.to) (rook_home p.side v) (king_crossed p.side v)) p.side j m.to = subst (λ (x : ℕ). Stands (relocated (relocated p.board m.from m.to) (rook_home p.side v) (king_crossed p.side v)) p.side j x) (sym way.target) s in
          let s2 : Stands p.board p.side j m.from = arrived p.board m.from m.to p.side j lt (stood_before (relocated p.board m.from m.to) (rook_home p.side v) (king_crossed p.side v) m.to p.side j lt q.target_crossed s1).1 in
          let s3 : Stands p.board p.side j (king_home p.side) = rw (← way.home) s2 in
          same_kind h.0 s3);
      at_crossed = λ j s.
          (let s1 : Stands (relocated p.board m.from m.to) p.side j (rook_home p.side v) = arrived (relocated p.board m.from m.to) (rook_home p.side v) (king_crossed p.side v) p.side j q.crossed_low s in
          same_kind h.1 (sym (man_elsewhere p.board m.from m.to (rook_home p.side v) q.rook_from q.rook_to) ∙ s1));
      others = λ j t low ne_target ne_crossed s.
          (let s1 : (t ≢ rook_home p.side v) × Stands (relocated p.board m.from m.to) p.side j t = stood_before (relocated p.board m.from m.to) (rook_home p.side v) (king_crossed p.side v) t p.side j low ne_crossed s in
          let ne : t ≢ m.to = λ e. ne_target (e ∙ way.target) in
          let s2 : (t ≢ m.from) × Stands p.board p.side j t = stood_before p.board m.from m.to t p.side j low ne s1.1 in
          ((λ e. s2.0 (e ∙ sym way.home)), s1.0, s2.1));
    }

pub own_relocation : (p n : State) (m : Move) (k : Kind) → IsOnBoard m → Stands p.board p.side k m.from → n.board ≡ relocated p.board m.from m.to → n.rights ≡ rights_after p.rights m → FreeStep p.side k m.from k m.to → OneStep p n p.side k m.from m.to
own_relocation p n m k (lf, lt) stood eb er free =
    record {
      from_low = lf;
      to_low = lt;
      stood = stood;
      came = λ j h. relocated_came p.board p.side k m.from m.to lt stood free j (rw eb at h);
      others = λ j t low ne h. stood_before p.board m.from m.to t p.side j low ne (rw eb at h);
      rights = λ w h. kept_right p m p.side w (rw er at h);
    }

pub own_passing : (p : State) (m : Move) (k : Kind) → IsPosition p → IsOnBoard m → Stands p.board p.side k m.from → IsEnPassant p k m → OneStep p (after p m EnPassant) p.side k m.from m.to
unfolding IsPassed
own_passing p m k pos (lf, lt) stood way =
    let r : rank m.to ≡ passed_rank p.side = (pos.passing m.to way.passed).0 in
    let free : FreeStep p.side Pawn m.from Pawn m.to = (lf, lt, by_pattern p.side Pawn m.from m.to way.reaches, pawn_stays p.side m.to (passed_not_last p.side m.to r)) in
    let free_k : FreeStep p.side k m.from k m.to = subst (λ (x : Kind). FreeStep p.side x m.from x m.to) (sym way.pawn) free in
    record {
      from_low = lf;
      to_low = lt;
      stood = stood;
      came = λ j h. relocated_came p.board p.side k m.from m.to lt stood free_k j (stood_emptied (relocated p.board m.from m.to) (ahead (other p.side) 1 m.to) m.to p.side j lt h).1;
      others = λ j t low ne h. stood_before p.board m.from m.to t p.side j low ne (stood_emptied (relocated p.board m.from m.to) (ahead (other p.side) 1 m.to) t p.side j low h).1;
      rights = λ w h. kept_right p m p.side w h;
    }

promotion_steps : (p : State) (m : Move) (k : Kind) (x : Kind) → IsPromotion p k m x → StepsTo p.side k m.from m.to
promotion_steps p m k x way = elim way.moves [ inl h ↦ by_going p.board p.side k m.from m.to h.1 | inr h ↦ by_pattern p.side k m.from m.to h.1.0 ]

pub own_promotion : (p : State) (m : Move) (k : Kind) (x : Kind) → IsOnBoard m → Stands p.board p.side k m.from → IsPromotion p k m x → OneStep p (after p m (Promotion x)) p.side k m.from m.to
own_promotion p m k x (lf, lt) stood way =
    let becomes : Becomes p.side k m.to x = subst (λ (y : Kind). Becomes p.side y m.to x) (sym way.must.0) (pawn_becomes p.side m.to x way.piece way.must.1) in
    let free : FreeStep p.side k m.from x m.to = (lf, lt, promotion_steps p m k x way, becomes) in
    record {
      from_low = lf;
      to_low = lt;
      stood = stood;
      came = λ j h. (let e : x ≡ j = same_kind (written (write p.board m.from None) m.to (Some (man p.side x)) lt) h in subst (λ (y : Kind). FreeStep p.side k m.from y m.to) e free);
      others = λ j t low ne h. stood_emptied p.board m.from t p.side j low (stood_elsewhere (write p.board m.from None) m.to t (Some (man p.side x)) p.side j ne h);
      rights = λ w h. kept_right p m p.side w h;
    }

abbrev pub OwnMove : State → State → Move → Kind → Type 0
OwnMove p n m k = OneStep p n p.side k m.from m.to ⊎ ((v : Wing) × Castled p n p.side v)

own_way : (p : State) (m : Move) (k : Kind) (w : StepKind) → IsPosition p → IsOnBoard m → Stands p.board p.side k m.from → IsWay p k m w → OwnMove p (after p m w) m k
own_way p m k Plain pos mv stood way = inl (own_relocation p (after p m Plain) m k mv stood refl refl (mv.0, mv.1, by_going p.board p.side k m.from m.to way.goes, stays_what_it_is p.side k m.to way.stays))
own_way p m k Capture pos mv stood way = inl (own_relocation p (after p m Capture) m k mv stood refl refl (mv.0, mv.1, by_pattern p.side k m.from m.to way.reaches.0, stays_what_it_is p.side k m.to way.stays))
own_way p m k DoubleAdvance pos mv stood way =
    let free : FreeStep p.side Pawn m.from Pawn m.to = (mv.0, mv.1, double_steps p.side m.from m.to mv.0 way.home way.two, pawn_stays p.side m.to (two_not_last p.side m.from m.to mv.0 way.home way.two)) in
    inl (own_relocation p (after p m DoubleAdvance) m k mv stood refl refl (subst (λ (x : Kind). FreeStep p.side x m.from x m.to) (sym way.pawn) free))
own_way p m k EnPassant pos mv stood way = inl (own_passing p m k pos mv stood way)
own_way p m k (Promotion x) pos mv stood way = inl (own_promotion p m k x mv stood way)
own_way p m k (Castling v) pos mv stood way = inr (v, own_castling p m k v pos mv way)

pub own_step : (p n : State) (m : Move) → IsPosition p → Step p m n → (k : Kind) × OwnMove p n m k
unfolding Step
own_step p n m pos (k, w, mv, stood, way, e) = (k, subst (λ (x : State). OwnMove p x m k) (sym e) (own_way p m k w pos mv stood way))

-- the other side's men

not_other : (c : Color) → c ≡ other c → ⊥
not_other White e = cc
not_other Black e = cc

spared_relocation : (b : Placement) (c : Color) (k : Kind) (r s : ℕ) → s < 64 → Stands b c k r → (j : Kind) (t : ℕ) → t < 64 → Stands (relocated b r s) (other c) j t → Stands b (other c) j t
spared_relocation b c k r s low stood j t lt h =
    elim (eqb_tells t s) [
      | inl w ↦ absurd (not_other c (same_side stood (arrived b r s (other c) j low (rw w.1 at h))))
      | inr w ↦ (stood_before b r s t (other c) j lt w.1 h).1
    ]

spared_promotion : (b : Placement) (c : Color) (x : Kind) (r s : ℕ) → s < 64 → (j : Kind) (t : ℕ) → t < 64 → Stands (write (write b r None) s (Some (man c x))) (other c) j t → Stands b (other c) j t
spared_promotion b c x r s low j t lt h =
    elim (eqb_tells t s) [
      | inl w ↦ absurd (not_other c (same_side (written (write b r None) s (Some (man c x)) low) (rw w.1 at h)))
      | inr w ↦ (stood_emptied b r t (other c) j lt (stood_elsewhere (write b r None) s t (Some (man c x)) (other c) j w.1 h)).1
    ]

spared_castling : (p : State) (m : Move) (k : Kind) (v : Wing) → IsPosition p → IsOnBoard m → Stands p.board p.side k m.from → IsCastling p k m v → (j : Kind) (t : ℕ) → t < 64 → Stands (after p m (Castling v)).board (other p.side) j t → Stands p.board (other p.side) j t
spared_castling p m k v pos mv stood way j t lt h =
    let q : CastleSquares p.side v m.from m.to = castle_squares p.side v m.from m.to way.home way.target in
    let rook : Stands p.board p.side Rook (rook_home p.side v) = (homes p.board p.rights p.side v pos.homes way.right).1 in
    let still : Stands (relocated p.board m.from m.to) p.side Rook (rook_home p.side v) = man_elsewhere p.board m.from m.to (rook_home p.side v) q.rook_from q.rook_to ∙ rook in
    spared_relocation p.board p.side k m.from m.to mv.1 stood j t lt (spared_relocation (relocated p.board m.from m.to) p.side Rook (rook_home p.side v) (king_crossed p.side v) q.crossed_low still j t lt h)

spared_men : (p : State) (m : Move) (k : Kind) (w : StepKind) → IsPosition p → IsOnBoard m → Stands p.board p.side k m.from → IsWay p k m w → (j : Kind) (t : ℕ) → t < 64 → Stands (after p m w).board (other p.side) j t → Stands p.board (other p.side) j t
spared_men p m k Plain pos mv stood way j t lt h = spared_relocation p.board p.side k m.from m.to mv.1 stood j t lt h
spared_men p m k Capture pos mv stood way j t lt h = spared_relocation p.board p.side k m.from m.to mv.1 stood j t lt h
spared_men p m k DoubleAdvance pos mv stood way j t lt h = spared_relocation p.board p.side k m.from m.to mv.1 stood j t lt h
spared_men p m k EnPassant pos mv stood way j t lt h = spared_relocation p.board p.side k m.from m.to mv.1 stood j t lt (stood_emptied (relocated p.board m.from m.to) (ahead (other p.side) 1 m.to) t (other p.side) j lt h).1
spared_men p m k (Promotion x) pos mv stood way j t lt h = spared_promotion p.board p.side x m.from m.to mv.1 j t lt h
spared_men p m k (Castling v) pos mv stood way j t lt h = spared_castling p m k v pos mv stood way j t lt h

spared_way : (p : State) (m : Move) (k : Kind) (w : StepKind) → IsPosition p → IsOnBoard m → Stands p.board p.side k m.from → IsWay p k m w → Spared p (after p m w) (other p.side)
spared_way p m k w pos mv stood way = record { kept = spared_men p m k w pos mv stood way; rights = λ v h. (kept_right p m (other p.side) v h).held }

pub spared_step : (p n : State) (m : Move) → IsPosition p → Step p m n → Spared p n (other p.side)
unfolding Step
spared_step p n m pos (k, w, mv, stood, way, e) = subst (λ (x : State). Spared p x (other p.side)) (sym e) (spared_way p m k w pos mv stood way)

-- the other side is to move
pub side_step : (p n : State) (m : Move) → Step p m n → n.side ≡ other p.side
unfolding Step
side_step p n m (k, w, mv, stood, way, e) = ap (λ (x : State). x.side) e
