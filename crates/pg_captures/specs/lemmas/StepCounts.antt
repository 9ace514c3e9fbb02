-- What a turn does to any count.
use Rattle.std.proofs.Common.{◌≡◌, ◌≢◌, ℕ, ◌+◌, ◌<◌, ◌≤◌, ◌⊎◌, inl, inr, Option, Some, None, Bool, true, refl, sym, ap, arith, ◌∙◌, ◌&&◌}
use Rattle.pg_board.specs.declared.man.Color.{Color}
use Rattle.pg_board.specs.declared.man.Color.TheVariants.{White, Black}
use Rattle.pg_board.specs.declared.man.Kind.{Kind}
use Rattle.pg_board.specs.declared.man.Kind.TheVariants.{Pawn, Rook}
use Rattle.pg_position.specs.declared.rights.Wing.{Wing}
use Rattle.pg_board.specs.declared.man.Man.{Man}
use Rattle.pg_board.specs.Placement.{Placement as Board, get, write}
use Rattle.pg_board.specs.Tally.{tally, one}
use Rattle.pg_board.specs.lemmas.Tallies.{tally-write}
use Rattle.pg_board.specs.lemmas.Placements.{get-write_other, get_on}
use Rattle.pg_position.specs.declared.state.State.{State}
use Rattle.pg_position.specs.declared.moves.Move.{Move}
use Rattle.pg_position.specs.declared.moves.StepKind.{StepKind}
use Rattle.pg_position.specs.declared.moves.StepKind.TheVariants.{Plain, Capture, DoubleAdvance, EnPassant, Promotion, Castling}
use Rattle.pg_position.specs.Position.{Stands, IsVacant, IsHome, RightsClause, IsPassed, IsPosition}
use Rattle.pg_position.specs.Squares.{king_home, rook_home, ahead, king_crossed, king_target}
use Rattle.pg_position.specs.Step.{IsEnemy, IsEnPassant, IsPromotion, IsCastling, IsWay, relocated, board_after}
use Rattle.pg_board.specs.lemmas.Sums.{one-le}
use Rattle.pg_board.specs.Men.{man, other, passes, color_eq}
use Rattle.pg_captures.specs.Counting.{of_color, men, any_man}
use Rattle.pg_position.proofs.StepLemmas.{some_none, not_other}
use Rattle.pg_position.proofs.ValidLemmas.{castle_squares, CastleSquares, castle_vacant, CastleVacant}

-- what an empty square counts for is none, what a man's square counts for is its man
abbrev pub worth : (ℕ → Man → Bool) → ℕ → Option Man → ℕ
worth f s o = one (passes (f s) o)

unwritten : (b : Board) (s t : ℕ) (o : Option Man) → t ≢ s → get (write b s o) t ≡ get b t
unwritten b s t o ne = get-write_other b s o t ne

-- a count before and after a man goes from one square to another
tally_relocated : (f : ℕ → Man → Bool) (b : Board) (r s : ℕ) (x : Option Man) → r < 64 → s < 64 → r ≢ s → get b r ≡ x →
    tally f (relocated b r s) + worth f r x + worth f s (get b s) ≡ tally f b + worth f s x
tally_relocated f b r s x lr ls ne is =
    let e1 : tally f (write b r None) + worth f r (get b r) ≡ tally f b + worth f r None = tally-write f b r None lr in
    let e2 : tally f (write (write b r None) s (get b r)) + worth f s (get (write b r None) s) ≡ tally f (write b r None) + worth f s (get b r) = tally-write f (write b r None) s (get b r) ls in
    let w1 : worth f s (get (write b r None) s) ≡ worth f s (get b s) = ap (worth f s) (unwritten b r s None (λ q. ne (sym q))) in
    let w2 : worth f r (get b r) ≡ worth f r x = ap (worth f r) is in
    let w3 : worth f s (get b r) ≡ worth f s x = ap (worth f s) is in
    omega arith

-- the square that loses a man of the other colour, if one is taken
abbrev pub taken_at : State → Move → StepKind → ℕ
taken_at p m Plain = m.to
taken_at p m Capture = m.to
taken_at p m DoubleAdvance = m.to
taken_at p m EnPassant = ahead (other p.side) 1 m.to
taken_at p m (Promotion x) = m.to
taken_at p m (Castling w) = m.to

-- the kind that arrives
abbrev pub placed : Kind → StepKind → Kind
placed k Plain = k
placed k Capture = k
placed k DoubleAdvance = k
placed k EnPassant = k
placed k (Promotion x) = x
placed k (Castling w) = k

-- a number that a castling has by its wing, and any other way has not
abbrev pub of_castling : (Wing → ℕ) → StepKind → ℕ
of_castling n Plain = 0
of_castling n Capture = 0
of_castling n DoubleAdvance = 0
of_castling n EnPassant = 0
of_castling n (Promotion x) = 0
of_castling n (Castling w) = n w

-- what is so of 0 and 0, and of two such numbers at each castling, is so of them
by_castling : (P : ℕ → ℕ → Type 0) (n k : Wing → ℕ) → P 0 0 → ((w : Wing) → P (n w) (k w)) → (w : StepKind) → P (of_castling n w) (of_castling k w)
by_castling P n k none some Plain = none
by_castling P n k none some Capture = none
by_castling P n k none some DoubleAdvance = none
by_castling P n k none some EnPassant = none
by_castling P n k none some (Promotion x) = none
by_castling P n k none some (Castling w) = some w

-- what the castling rook counts for where it leaves and where it comes to
abbrev pub rook_from : (ℕ → Man → Bool) → Color → StepKind → ℕ
rook_from f c way = of_castling (λ w. one (f (rook_home c w) (man c Rook))) way

abbrev pub rook_to : (ℕ → Man → Bool) → Color → StepKind → ℕ
rook_to f c way = of_castling (λ w. one (f (king_crossed c w) (man c Rook))) way

-- a square empty or of the other colour is not the mover's
pub vacant_apart : (b : Board) (r s : ℕ) (x : Man) → get b r ≡ Some x → get b s ≡ None → r ≢ s
vacant_apart b r s x h v e = some_none (sym h ∙ ap (get b) e ∙ v)

pub enemy_apart : (b : Board) (c : Color) (r s : ℕ) (k : Kind) → Stands b c k r → IsEnemy b c s → r ≢ s
unfolding IsEnemy
enemy_apart b c r s k h (j, there) e =
    let a : Some (man c k) ≡ Some (man (other c) j) = sym h ∙ ap (get b) e ∙ there in
    let g : man c k ≡ man (other c) j = cc in
    not_other c (ap (λ (x : Man). x.color) g)

unrelocated : (b : Board) (r s t : ℕ) → t ≢ r → t ≢ s → get (relocated b r s) t ≡ get b t
unrelocated b r s t a c = unwritten (write b r None) s t (get b r) c ∙ unwritten b r t None a

-- a plain move, a capture or a double advance
relocation : (f : ℕ → Man → Bool) (p : State) (k : Kind) (m : Move) → IsPosition p → m.to < 64 → Stands p.board p.side k m.from → m.from ≢ m.to →
    tally f (relocated p.board m.from m.to) + (one (f m.from (man p.side k)) + worth f m.to (get p.board m.to) + 0) ≡ tally f p.board + (one (f m.to (man p.side k)) + 0)
relocation f p k m valid low stands ne =
    let from_low : m.from < 64 = get_on p.board m.from (man p.side k) stands in
    let e : tally f (relocated p.board m.from m.to) + worth f m.from (Some (man p.side k)) + worth f m.to (get p.board m.to) ≡ tally f p.board + worth f m.to (Some (man p.side k)) =
    tally_relocated f p.board m.from m.to (Some (man p.side k)) from_low low ne stands in
    omega arith

vacant_worth : (f : ℕ → Man → Bool) (b : Board) (s : ℕ) → IsVacant b s → worth f s (get b s) ≡ 0
vacant_worth f b s v = ap (worth f s) v

-- a capture in passing
passing : (f : ℕ → Man → Bool) (p : State) (k : Kind) (m : Move) → IsPosition p → m.to < 64 → Stands p.board p.side k m.from → IsEnPassant p k m →
    let e = ahead (other p.side) 1 m.to in
    tally f (write (relocated p.board m.from m.to) e None) + (one (f m.from (man p.side k)) + worth f e (get p.board e) + 0) ≡ tally f p.board + (one (f m.to (man p.side k)) + 0)
unfolding IsPassed
passing f p k m valid low stands way =
    let e : ℕ = ahead (other p.side) 1 m.to in
    let there : Stands p.board (other p.side) Pawn e = (valid.passing m.to way.passed).2 in
    let vacant : IsVacant p.board m.to = (valid.passing m.to way.passed).1 in
    let e_low : e < 64 = get_on p.board e (man (other p.side) Pawn) there in
    let from_low : m.from < 64 = get_on p.board m.from (man p.side k) stands in
    let apart_to : e ≢ m.to = vacant_apart p.board e m.to (man (other p.side) Pawn) there vacant in
    let apart_from : e ≢ m.from = λ q. not_other p.side (let a : Some (man p.side k) ≡ Some (man (other p.side) Pawn) = sym stands ∙ ap (get p.board) (sym q) ∙ there in let g : man p.side k ≡ man (other p.side) Pawn = cc in ap (λ (x : Man). x.color) g) in
    let b1 : Board = relocated p.board m.from m.to in
    let same : get (relocated p.board m.from m.to) e ≡ get p.board e = unrelocated p.board m.from m.to e apart_from apart_to in
    let e1 : tally f (relocated p.board m.from m.to) + (one (f m.from (man p.side k)) + worth f m.to (get p.board m.to) + 0) ≡ tally f p.board + (one (f m.to (man p.side k)) + 0) =
    relocation f p k m valid low stands (vacant_apart p.board m.from m.to (man p.side k) stands vacant) in
    let v : worth f m.to (get p.board m.to) ≡ 0 = vacant_worth f p.board m.to vacant in
    let e2 : tally f (write (relocated p.board m.from m.to) e None) + worth f e (get (relocated p.board m.from m.to) e) ≡ tally f (relocated p.board m.from m.to) + 0 =
    tally-write f (relocated p.board m.from m.to) e None e_low in
    let w : worth f e (get (relocated p.board m.from m.to) e) ≡ worth f e (get p.board e) = ap (worth f e) same in
    omega arith

promotion : (f : ℕ → Man → Bool) (p : State) (k : Kind) (m : Move) (x : Kind) → IsPosition p → m.to < 64 → Stands p.board p.side k m.from → IsPromotion p k m x →
    tally f (write (write p.board m.from None) m.to (Some (man p.side x))) + (one (f m.from (man p.side k)) + worth f m.to (get p.board m.to) + 0) ≡ tally f p.board + (one (f m.to (man p.side x)) + 0)
promotion f p k m x valid low stands way =
    let from_low : m.from < 64 = get_on p.board m.from (man p.side k) stands in
    let ne : m.from ≢ m.to = elim way.moves [ inl v ↦ vacant_apart p.board m.from m.to (man p.side k) stands v.0 | inr v ↦ enemy_apart p.board p.side m.from m.to k stands v.0 ] in
    let e1 : tally f (write p.board m.from None) + worth f m.from (get p.board m.from) ≡ tally f p.board + 0 = tally-write f p.board m.from None from_low in
    let e2 : tally f (write (write p.board m.from None) m.to (Some (man p.side x))) + worth f m.to (get (write p.board m.from None) m.to) ≡ tally f (write p.board m.from None) + one (f m.to (man p.side x)) =
    tally-write f (write p.board m.from None) m.to (Some (man p.side x)) low in
    let w1 : worth f m.to (get (write p.board m.from None) m.to) ≡ worth f m.to (get p.board m.to) = ap (worth f m.to) (unwritten p.board m.from m.to None (λ q. ne (sym q))) in
    let w2 : worth f m.from (get p.board m.from) ≡ one (f m.from (man p.side k)) = ap (worth f m.from) stands in
    omega arith

castling : (f : ℕ → Man → Bool) (p : State) (k : Kind) (m : Move) (w : Wing) → IsPosition p → m.to < 64 → Stands p.board p.side k m.from → IsCastling p k m w →
    tally f (relocated (relocated p.board m.from m.to) (rook_home p.side w) (king_crossed p.side w)) + (one (f m.from (man p.side k)) + worth f m.to (get p.board m.to) + one (f (rook_home p.side w) (man p.side Rook)))
    ≡ tally f p.board + (one (f m.to (man p.side k)) + one (f (king_crossed p.side w) (man p.side Rook)))
unfolding RightsClause IsHome
castling f p k m w valid low stands way =
    let q : CastleSquares p.side w = castle_squares p.side w in
    let free : CastleVacant p.board p.side w = castle_vacant p.board p.side w way.clear in
    let rook : Stands p.board p.side Rook (rook_home p.side w) = (valid.homes p.side w way.right).1 in
    let to_free : IsVacant p.board m.to = ap (get p.board) way.target ∙ free.target in
    let h_from : m.from ≡ king_home p.side = way.home in
    let h_to : m.to ≡ king_target p.side w = way.target in
    let r_from : rook_home p.side w ≢ m.from = λ e. q.rook_home_apart (e ∙ h_from) in
    let r_to : rook_home p.side w ≢ m.to = λ e. q.rook_target (e ∙ h_to) in
    let x_from : king_crossed p.side w ≢ m.from = λ e. q.crossed_home (e ∙ h_from) in
    let x_to : king_crossed p.side w ≢ m.to = λ e. q.crossed_target (e ∙ h_to) in
    let rook1 : get (relocated p.board m.from m.to) (rook_home p.side w) ≡ Some (man p.side Rook) = unrelocated p.board m.from m.to (rook_home p.side w) r_from r_to ∙ rook in
    let free1 : get (relocated p.board m.from m.to) (king_crossed p.side w) ≡ None = unrelocated p.board m.from m.to (king_crossed p.side w) x_from x_to ∙ free.crossed in
    let e1 : tally f (relocated p.board m.from m.to) + (one (f m.from (man p.side k)) + worth f m.to (get p.board m.to) + 0) ≡ tally f p.board + (one (f m.to (man p.side k)) + 0) =
    relocation f p k m valid low stands (vacant_apart p.board m.from m.to (man p.side k) stands to_free) in
    let e2 : tally f (relocated (relocated p.board m.from m.to) (rook_home p.side w) (king_crossed p.side w)) + one (f (rook_home p.side w) (man p.side Rook)) + worth f (king_crossed p.side w) (get (relocated p.board m.from m.to) (king_crossed p.side w)) ≡ tally f (relocated p.board m.from m.to) + one (f (king_crossed p.side w) (man p.side Rook)) =
    tally_relocated f (relocated p.board m.from m.to) (rook_home p.side w) (king_crossed p.side w) (Some (man p.side Rook)) q.rook_low q.crossed_low (λ e. q.rook_crossed e) rook1 in
    let v : worth f (king_crossed p.side w) (get (relocated p.board m.from m.to) (king_crossed p.side w)) ≡ 0 = ap (worth f (king_crossed p.side w)) free1 in
    omega arith

-- any count, before and after a turn
pub turn_tally : (f : ℕ → Man → Bool) (p : State) (k : Kind) (m : Move) (w : StepKind) → IsPosition p → m.to < 64 → Stands p.board p.side k m.from → IsWay p k m w →
    tally f (board_after p m w) + (one (f m.from (man p.side k)) + worth f (taken_at p m w) (get p.board (taken_at p m w)) + rook_from f p.side w)
    ≡ tally f p.board + (one (f m.to (man p.side (placed k w))) + rook_to f p.side w)
turn_tally f p k m Plain valid low stands way = relocation f p k m valid low stands (vacant_apart p.board m.from m.to (man p.side k) stands way.vacant)
turn_tally f p k m Capture valid low stands way = relocation f p k m valid low stands (enemy_apart p.board p.side m.from m.to k stands way.enemy)
turn_tally f p k m DoubleAdvance valid low stands way = relocation f p k m valid low stands (vacant_apart p.board m.from m.to (man p.side k) stands way.vacant)
turn_tally f p k m EnPassant valid low stands way = passing f p k m valid low stands way
turn_tally f p k m (Promotion x) valid low stands way = promotion f p k m x valid low stands way
turn_tally f p k m (Castling v) valid low stands way = castling f p k m v valid low stands way

-- what is taken is of the other colour
pub taken : (p : State) (k : Kind) (m : Move) (w : StepKind) → IsPosition p → IsWay p k m w →
    (get p.board (taken_at p m w) ≡ None) ⊎ ((j : Kind) × (get p.board (taken_at p m w) ≡ Some (man (other p.side) j)))
unfolding IsEnemy IsPassed
taken p k m Plain valid way = inl way.vacant
taken p k m Capture valid way = inr way.enemy
taken p k m DoubleAdvance valid way = inl way.vacant
taken p k m EnPassant valid way = inr (Pawn, (valid.passing m.to way.passed).2)
taken p k m (Promotion x) valid way = elim way.moves [ inl v ↦ inl v.0 | inr v ↦ inr v.0 ]
taken p k m (Castling w) valid way = let free : CastleVacant p.board p.side w = castle_vacant p.board p.side w way.clear in inl (ap (get p.board) way.target ∙ free.target)

own_one : (c : Color) (x : Bool) → one (color_eq c c && x) ≡ one x
own_one White x = refl
own_one Black x = refl

their_one : (c : Color) (x : Bool) → one (color_eq c (other c) && x) ≡ 0
their_one White x = refl
their_one Black x = refl

other_one : (c : Color) (x : Bool) → one (color_eq (other c) c && x) ≡ 0
other_one White x = refl
other_one Black x = refl

-- the castling rook, by a test of square and kind
abbrev pub rook_leaves : (ℕ → Kind → Bool) → Color → StepKind → ℕ
rook_leaves f c way = of_castling (λ w. one (f (rook_home c w) Rook)) way

abbrev pub rook_comes : (ℕ → Kind → Bool) → Color → StepKind → ℕ
rook_comes f c way = of_castling (λ w. one (f (king_crossed c w) Rook)) way

own_castling : (f : ℕ → Kind → Bool) (c : Color) (s : Wing → ℕ) (w : StepKind) → of_castling (λ v. one (of_color c f (s v) (man c Rook))) w ≡ of_castling (λ v. one (f (s v) Rook)) w
own_castling f c s w = by_castling (λ x y. x ≡ y) (λ v. one (of_color c f (s v) (man c Rook))) (λ v. one (f (s v) Rook)) refl (λ v. own_one c (f (s v) Rook)) w

their_castling : (f : ℕ → Kind → Bool) (c : Color) (s : Wing → ℕ) (w : StepKind) → of_castling (λ v. one (of_color (other c) f (s v) (man c Rook))) w ≡ 0
their_castling f c s w = by_castling (λ x y. x ≡ 0) (λ v. one (of_color (other c) f (s v) (man c Rook))) (λ v. 0) refl (λ v. their_one c (f (s v) Rook)) w

-- the taken man is none of the mover's
own_taken : (f : ℕ → Kind → Bool) (c : Color) (b : Board) (t : ℕ) → (get b t ≡ None) ⊎ ((j : Kind) × (get b t ≡ Some (man (other c) j))) → worth (of_color c f) t (get b t) ≡ 0
own_taken f c b t (inl e) = ap (worth (of_color c f) t) e
own_taken f c b t (inr (j, e)) = ap (worth (of_color c f) t) e ∙ other_one c (f t j)

worth_le : (g : ℕ → Man → Bool) (t : ℕ) (o : Option Man) → worth g t o ≤ 1
worth_le g t None = omega arith
worth_le g t (Some x) = one-le (g t x)

-- any count of the mover's men
pub own_tally : (f : ℕ → Kind → Bool) (p : State) (k : Kind) (m : Move) (w : StepKind) → IsPosition p → m.to < 64 → Stands p.board p.side k m.from → IsWay p k m w →
    men p.side f (board_after p m w) + (one (f m.from k) + rook_leaves f p.side w) ≡ men p.side f p.board + (one (f m.to (placed k w)) + rook_comes f p.side w)
own_tally f p k m w valid low stands way =
    let c : Color = p.side in
    let t : ℕ = taken_at p m w in
    let e : tally (of_color p.side f) (board_after p m w) + (one (of_color p.side f m.from (man p.side k)) + worth (of_color p.side f) (taken_at p m w) (get p.board (taken_at p m w)) + rook_from (of_color p.side f) p.side w)
    ≡ tally (of_color p.side f) p.board + (one (of_color p.side f m.to (man p.side (placed k w))) + rook_to (of_color p.side f) p.side w) =
    turn_tally (of_color p.side f) p k m w valid low stands way in
    let a : one (of_color p.side f m.from (man p.side k)) ≡ one (f m.from k) = own_one p.side (f m.from k) in
    let b : one (of_color p.side f m.to (man p.side (placed k w))) ≡ one (f m.to (placed k w)) = own_one p.side (f m.to (placed k w)) in
    let z : worth (of_color p.side f) (taken_at p m w) (get p.board (taken_at p m w)) ≡ 0 = own_taken f p.side p.board (taken_at p m w) (taken p k m w valid way) in
    let r1 : rook_from (of_color p.side f) p.side w ≡ rook_leaves f p.side w = own_castling f p.side (rook_home p.side) w in
    let r2 : rook_to (of_color p.side f) p.side w ≡ rook_comes f p.side w = own_castling f p.side (king_crossed p.side) w in
    omega arith

-- any count of the other side's men
pub their_tally : (f : ℕ → Kind → Bool) (p : State) (k : Kind) (m : Move) (w : StepKind) → IsPosition p → m.to < 64 → Stands p.board p.side k m.from → IsWay p k m w →
    men (other p.side) f (board_after p m w) + worth (of_color (other p.side) f) (taken_at p m w) (get p.board (taken_at p m w)) ≡ men (other p.side) f p.board
their_tally f p k m w valid low stands way =
    let g : Color = other p.side in
    let e : tally (of_color (other p.side) f) (board_after p m w) + (one (of_color (other p.side) f m.from (man p.side k)) + worth (of_color (other p.side) f) (taken_at p m w) (get p.board (taken_at p m w)) + rook_from (of_color (other p.side) f) p.side w)
    ≡ tally (of_color (other p.side) f) p.board + (one (of_color (other p.side) f m.to (man p.side (placed k w))) + rook_to (of_color (other p.side) f) p.side w) =
    turn_tally (of_color (other p.side) f) p k m w valid low stands way in
    let a : one (of_color (other p.side) f m.from (man p.side k)) ≡ 0 = their_one p.side (f m.from k) in
    let b : one (of_color (other p.side) f m.to (man p.side (placed k w))) ≡ 0 = their_one p.side (f m.to (placed k w)) in
    let r1 : rook_from (of_color (other p.side) f) p.side w ≡ 0 = their_castling f p.side (rook_home p.side) w in
    let r2 : rook_to (of_color (other p.side) f) p.side w ≡ 0 = their_castling f p.side (king_crossed p.side) w in
    omega arith

pub their_fall : (f : ℕ → Kind → Bool) (p : State) (k : Kind) (m : Move) (w : StepKind) → IsPosition p → m.to < 64 → Stands p.board p.side k m.from → IsWay p k m w →
    (men (other p.side) f (board_after p m w) ≤ men (other p.side) f p.board) × (men (other p.side) f p.board ≤ men (other p.side) f (board_after p m w) + 1)
their_fall f p k m w valid low stands way =
    let e : men (other p.side) f (board_after p m w) + worth (of_color (other p.side) f) (taken_at p m w) (get p.board (taken_at p m w)) ≡ men (other p.side) f p.board = their_tally f p k m w valid low stands way in
    let l : worth (of_color (other p.side) f) (taken_at p m w) (get p.board (taken_at p m w)) ≤ 1 = worth_le (of_color (other p.side) f) (taken_at p m w) (get p.board (taken_at p m w)) in
    (omega arith, omega arith)

self_one : (c : Color) → one (color_eq (other c) (other c) && true) ≡ 1
self_one White = refl
self_one Black = refl

-- where a man is taken, the other side has one man less
pub took_one : (p : State) (k : Kind) (m : Move) (w : StepKind) → IsPosition p → m.to < 64 → Stands p.board p.side k m.from → IsWay p k m w → (j : Kind) → get p.board (taken_at p m w) ≡ Some (man (other p.side) j) →
    men (other p.side) any_man (board_after p m w) + 1 ≡ men (other p.side) any_man p.board
took_one p k m w valid low stands way j there =
    let e : men (other p.side) any_man (board_after p m w) + worth (of_color (other p.side) any_man) (taken_at p m w) (get p.board (taken_at p m w)) ≡ men (other p.side) any_man p.board = their_tally any_man p k m w valid low stands way in
    let z : worth (of_color (other p.side) any_man) (taken_at p m w) (get p.board (taken_at p m w)) ≡ 1 = ap (worth (of_color (other p.side) any_man) (taken_at p m w)) there ∙ self_one p.side in
    omega arith

rook_even : (f : ℕ → Kind → Bool) (c : Color) (w : StepKind) → ((s : ℕ) (j : Kind) → f s j ≡ true) → rook_leaves f c w ≡ rook_comes f c w
rook_even f c w all =
    by_castling (λ x y. x ≡ y) (λ v. one (f (rook_home c v) Rook)) (λ v. one (f (king_crossed c v) Rook)) refl
    (λ v. ap one (all (rook_home c v) Rook ∙ sym (all (king_crossed c v) Rook))) w

own_men_by : (f : ℕ → Kind → Bool) (p : State) (k : Kind) (m : Move) (w : StepKind) → ((s : ℕ) (j : Kind) → f s j ≡ true) → IsPosition p → m.to < 64 → Stands p.board p.side k m.from → IsWay p k m w →
    men p.side f (board_after p m w) ≡ men p.side f p.board
own_men_by f p k m w all valid low stands way =
    let e : men p.side f (board_after p m w) + (one (f m.from k) + rook_leaves f p.side w) ≡ men p.side f p.board + (one (f m.to (placed k w)) + rook_comes f p.side w) = own_tally f p k m w valid low stands way in
    let a : one (f m.from k) ≡ one true = ap one (all m.from k) in
    let b : one (f m.to (placed k w)) ≡ one true = ap one (all m.to (placed k w)) in
    let r : rook_leaves f p.side w ≡ rook_comes f p.side w = rook_even f p.side w all in
    omega arith

-- the mover's men in all
pub own_men : (p : State) (k : Kind) (m : Move) (w : StepKind) → IsPosition p → m.to < 64 → Stands p.board p.side k m.from → IsWay p k m w →
    men p.side any_man (board_after p m w) ≡ men p.side any_man p.board
own_men p k m w valid low stands way = own_men_by any_man p k m w (λ s j. refl) valid low stands way
