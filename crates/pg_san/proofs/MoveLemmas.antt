-- What a legal move is: its man, the way it goes, and which of its squares tell en passant and castling.
use Rattle.pg_san.proofs.Common.{◌↔◌, ◌≡◌, ◌≢◌, ℕ, ◌+◌, ◌-◌, ◌*◌, ◌≤◌, Some, None, refl, sym, ap, subst, arith, ◌∙◌, inl, inr, Color, Kind, Pawn, King, Man, file, rank, man, get, Wing, KingSide, QueenSide, State, Move, Stands, IsVacant, IsPassed, IsPosition, IsLegal, IsEnemy, Goes, IsPiece, IsWay, IsEnPassant, IsCastling, Step, ahead, king_home, passed_rank, home_rank, last_rank, king_target, same_kind, some_none, Said, GoesTwo, IsCapturing, FitsAs}
use Rattle.pg_board.specs.declared.man.Color.TheVariants.{White, Black}
use Rattle.pg_board.specs.Placement.{Placement as Board}
use Rattle.pg_position.specs.declared.moves.StepKind.{StepKind}
use Rattle.pg_position.specs.declared.moves.StepKind.TheVariants.{Plain, Capture, DoubleAdvance, EnPassant, Promotion, Castling as CastlingWay}
use Rattle.pg_position.specs.Geometry.{apart, IsForward, InPattern}

pub same_move : (m n : Move) → m.from ≡ n.from → m.to ≡ n.to → m.promotion ≡ n.promotion → m ≡ n
same_move m n e g h = λ i. record { from = e i; to = g i; promotion = h i }

-- ---- the man that moves
pub mover_stands : (p : State) (m : Move) (x : Man) → IsLegal p m → Some x ≡ get p.board m.from → Stands p.board p.side x.kind m.from
unfolding Step
mover_stands p m x (q, ((j, w, on, stands, way, e), safe)) is =
    let same : x ≡ man p.side j = (let z : Some x ≡ Some (man p.side j) = is ∙ stands in cc) in
    subst (λ (k : Kind). Stands p.board p.side k m.from) (sym (ap (λ (y : Man). y.kind) same)) stands

pub some_mover : (p : State) (m : Move) → IsLegal p m → None ≡ get p.board m.from → ⊥
unfolding Step
some_mover p m (q, ((j, w, on, stands, way, e), safe)) is = some_none (sym stands ∙ sym is)

-- the kind that fits is that of the man on the square
pub as_stands : (p : State) (said : Said) (j k : Kind) (m : Move) → FitsAs p said j m → Stands p.board p.side k m.from → FitsAs p said k m
as_stands p said j k m h stands = subst (λ (i : Kind). FitsAs p said i m) (same_kind h.stands stands) h

-- the way of a legal move
pub record Goer (p : State) (k : Kind) (m : Move) : Type 0 where
  pub way : StepKind
  pub is_way : IsWay p k m way

pub goer : (p : State) (k : Kind) (m : Move) → Stands p.board p.side k m.from → IsLegal p m → Goer p k m
unfolding Step
goer p k m at_from (q, ((j, w, on, stands, way, e), safe)) =
    let same : j ≡ k = same_kind stands at_from in
    record { way = w; is_way = subst (λ (x : Kind). IsWay p x m w) same way }

-- ---- en passant: a pawn that comes to the passed square on another file
aside_only : (p : State) (m : Move) (w : StepKind) → IsPosition p → IsWay p Pawn m w → p.passed ≡ Some m.to → file m.from ≢ file m.to → IsEnPassant p Pawn m
unfolding IsPassed IsEnemy Goes
aside_only p m Plain pos h e off = absurd (off h.goes.0)
aside_only p m Capture pos h e off = absurd (some_none (sym h.enemy.1 ∙ (pos.passing m.to e).1))
aside_only p m DoubleAdvance pos h e off = absurd (off (two_on_file p.side m.from m.to h.home h.two))
  where
    two_on_file : (c : Color) (r s : ℕ) → rank r ≡ home_rank c → s ≡ ahead c 2 r → file r ≡ file s
    two_on_file White r s home two = omega arith
    two_on_file Black r s home two = omega arith
aside_only p m EnPassant pos h e off = h
aside_only p m (Promotion x) pos h e off = absurd (not_last p.side m.to (pos.passing m.to e).0 h.must.1)
  where
    not_last : (c : Color) (s : ℕ) → rank s ≡ passed_rank c → rank s ≡ last_rank c → ⊥
    not_last White s a b = omega arith
    not_last Black s a b = omega arith
aside_only p m (CastlingWay w) pos h e off = absurd (let z : Pawn ≡ King = h.king in cc)

pub passing_is : (p : State) (k : Kind) (m : Move) → IsPosition p → IsLegal p m → Stands p.board p.side k m.from → k ≡ Pawn → p.passed ≡ Some m.to → file m.from ≢ file m.to → IsEnPassant p k m
passing_is p k m pos l stands pawn e off =
    let at_from : Stands p.board p.side Pawn m.from = subst (λ (j : Kind). Stands p.board p.side j m.from) pawn stands in
    let g = goer p Pawn m at_from l in
    subst (λ (j : Kind). IsEnPassant p j m) (sym pawn) (aside_only p m g.way pos g.is_way e off)

pub passing_aside : (p : State) (k : Kind) (m : Move) → IsEnPassant p k m → file m.from ≢ file m.to
unfolding InPattern
passing_aside p k m h = λ e. (let a : apart (file m.from) (file m.to) ≡ 1 = h.reaches.0 in omega arith)

-- ---- castling: a king that goes two files
home_two : (c : Color) (wing : Wing) (r s : ℕ) → r ≡ king_home c → s ≡ king_target c wing → GoesTwo wing r s
home_two White KingSide r s a b = omega arith
home_two White QueenSide r s a b = omega arith
home_two Black KingSide r s a b = omega arith
home_two Black QueenSide r s a b = omega arith

pub castling_two : (p : State) (k : Kind) (m : Move) (wing : Wing) → IsCastling p k m wing → GoesTwo wing m.from m.to
castling_two p k m wing h = home_two p.side wing m.from m.to h.home h.target

king_near : (wing : Wing) (c : Color) (r s : ℕ) → InPattern c King r s → GoesTwo wing r s → ⊥
unfolding InPattern
king_near KingSide c r s h g = let a : apart (file r) (file s) ≤ 1 = h.1 in omega arith
king_near QueenSide c r s h g = let a : apart (file r) (file s) ≤ 1 = h.1 in omega arith

other_wing : (c : Color) (w : Wing) (wing : Wing) (r s : ℕ) → r ≡ king_home c → s ≡ king_target c w → GoesTwo wing r s → w ≡ wing
other_wing c KingSide KingSide r s a b g = refl
other_wing c QueenSide QueenSide r s a b g = refl
other_wing White QueenSide KingSide r s a b g = absurd (omega arith)
other_wing White KingSide QueenSide r s a b g = absurd (omega arith)
other_wing Black QueenSide KingSide r s a b g = absurd (omega arith)
other_wing Black KingSide QueenSide r s a b g = absurd (omega arith)

two_castles : (p : State) (m : Move) (w : StepKind) (wing : Wing) → IsWay p King m w → GoesTwo wing m.from m.to → IsCastling p King m wing
unfolding Goes
two_castles p m Plain wing h g = absurd (king_near wing p.side m.from m.to h.goes.0 g)
two_castles p m Capture wing h g = absurd (king_near wing p.side m.from m.to h.reaches.0 g)
two_castles p m DoubleAdvance wing h g = absurd (let z : King ≡ Pawn = h.pawn in cc)
two_castles p m EnPassant wing h g = absurd (let z : King ≡ Pawn = h.pawn in cc)
two_castles p m (Promotion x) wing h g = absurd (let z : King ≡ Pawn = h.must.0 in cc)
two_castles p m (CastlingWay w) wing h g = subst (IsCastling p King m) (other_wing p.side w wing m.from m.to h.home h.target g) h

castling_is : (p : State) (k : Kind) (m : Move) (wing : Wing) → IsLegal p m → Stands p.board p.side k m.from → k ≡ King → GoesTwo wing m.from m.to → IsCastling p k m wing
castling_is p k m wing l stands king two =
    let at_from : Stands p.board p.side King m.from = subst (λ (j : Kind). Stands p.board p.side j m.from) king stands in
    let g = goer p King m at_from l in
    subst (λ (j : Kind). IsCastling p j m wing) (sym king) (two_castles p m g.way wing g.is_way two)

pub castles_there : (p : State) (k : Kind) (m : Move) (wing : Wing) → IsLegal p m → Stands p.board p.side k m.from → ((k ≡ King) × GoesTwo wing m.from m.to) ↔ IsCastling p k m wing
castles_there p k m wing l stands = (λ h. castling_is p k m wing l stands h.0 h.1, λ h. (h.king, castling_two p k m wing h))

-- ---- promotion: only a pawn promotes, and to a piece
pub unpromoted : (p : State) (k : Kind) (m : Move) (w : StepKind) → IsWay p k m w → k ≢ Pawn → m.promotion ≡ None
unpromoted p k m Plain h n = h.unpromoted
unpromoted p k m Capture h n = h.unpromoted
unpromoted p k m DoubleAdvance h n = h.unpromoted
unpromoted p k m EnPassant h n = h.unpromoted
unpromoted p k m (Promotion x) h n = absurd (n h.must.0)
unpromoted p k m (CastlingWay w) h n = h.unpromoted

pub promotes_to : (p : State) (k : Kind) (m : Move) (w : StepKind) (x : Kind) → IsWay p k m w → m.promotion ≡ Some x → IsPiece x
promotes_to p k m Plain x h e = absurd (some_none (sym e ∙ h.unpromoted))
promotes_to p k m Capture x h e = absurd (some_none (sym e ∙ h.unpromoted))
promotes_to p k m DoubleAdvance x h e = absurd (some_none (sym e ∙ h.unpromoted))
promotes_to p k m EnPassant x h e = absurd (some_none (sym e ∙ h.unpromoted))
promotes_to p k m (Promotion y) x h e = let s : y ≡ x = (let z : Some y ≡ Some x = sym h.promoted ∙ e in cc) in subst IsPiece s h.piece
promotes_to p k m (CastlingWay w) x h e = absurd (some_none (sym e ∙ h.unpromoted))

-- ---- pawns: how one goes, one forward, two forward over an empty square, or aside
pub record GoesOne (c : Color) (r s : ℕ) : Type 0 where
  pub straight : file r ≡ file s
  pub one : IsForward c 1 r s

pub record GoesFromHome (b : Board) (c : Color) (r s : ℕ) : Type 0 where
  pub home : rank r ≡ home_rank c
  pub two : s ≡ ahead c 2 r
  pub crossed : IsVacant b (ahead c 1 r)

pub record GoesAside (c : Color) (r s : ℕ) : Type 0 where
  pub aside : apart (file r) (file s) ≡ 1
  pub one : IsForward c 1 r s

pub data Pace (b : Board) (c : Color) (r s : ℕ) : Type 0 where
  one_pace : GoesOne c r s → Pace b c r s
  two_paces : GoesFromHome b c r s → Pace b c r s
  side_pace : GoesAside c r s → Pace b c r s

pub pace_of : (p : State) (m : Move) (w : StepKind) → IsWay p Pawn m w → Pace p.board p.side m.from m.to
unfolding Goes InPattern
pace_of p m Plain h = one_pace (record { straight = h.goes.0; one = h.goes.1 })
pace_of p m Capture h = side_pace (record { aside = h.reaches.0.0; one = h.reaches.0.1 })
pace_of p m DoubleAdvance h = two_paces (record { home = h.home; two = h.two; crossed = h.crossed })
pace_of p m EnPassant h = side_pace (record { aside = h.reaches.0; one = h.reaches.1 })
pace_of p m (Promotion x) h = elim h.moves [
  | inl v ↦ one_pace (record { straight = v.1.0; one = v.1.1 })
  | inr v ↦ side_pace (record { aside = v.1.0.0; one = v.1.0.1 })
]
pace_of p m (CastlingWay w) h = let e : Pawn ≡ King = h.king in absurd cc

one_two : (b : Board) (c : Color) (r t s : ℕ) → Stands b c Pawn r → GoesOne c r s → GoesFromHome b c t s → r ≡ t
one_two b White r t s at_r g h =
    let e : r ≡ t + 8 * 1 = let a : file r ≡ file s = g.straight in let o : rank s ≡ rank r + 1 = g.one in let w : s ≡ t + 8 * 2 = h.two in omega arith in
    let v : IsVacant b r = rw e h.crossed in absurd (some_none (sym at_r ∙ v))
one_two b Black r t s at_r g h =
    let e : r ≡ t - 8 * 1 = let a : file r ≡ file s = g.straight in let o : rank r ≡ rank s + 1 = g.one in let w : s ≡ t - 8 * 2 = h.two in let k : rank t ≡ 7 = h.home in omega arith in
    let v : IsVacant b r = rw e h.crossed in absurd (some_none (sym at_r ∙ v))

one_one : (c : Color) (r t s : ℕ) → file r ≡ file t → IsForward c 1 r s → IsForward c 1 t s → r ≡ t
one_one White r t s f g h = omega arith
one_one Black r t s f g h = omega arith

two_two : (b : Board) (c : Color) (r t s : ℕ) → GoesFromHome b c r s → GoesFromHome b c t s → r ≡ t
two_two b White r t s g h = let e : s ≡ r + 8 * 2 = g.two in let d : s ≡ t + 8 * 2 = h.two in omega arith
two_two b Black r t s g h = let e : s ≡ r - 8 * 2 = g.two in let d : s ≡ t - 8 * 2 = h.two in let i : rank r ≡ 7 = g.home in let j : rank t ≡ 7 = h.home in omega arith

straight_not : (r t s : ℕ) → file r ≡ file t → file r ≡ file s → apart (file t) (file s) ≡ 1 → r ≡ t
straight_not r t s f g h = omega arith

two_straight : (b : Board) (c : Color) (r s : ℕ) → GoesFromHome b c r s → file r ≡ file s
two_straight b White r s h = let e : s ≡ r + 8 * 2 = h.two in omega arith
two_straight b Black r s h = let e : s ≡ r - 8 * 2 = h.two in let i : rank r ≡ 7 = h.home in omega arith

-- two pawns of one file that come to one square are one pawn
pub one_pawn : (b : Board) (c : Color) (r t s : ℕ) → Stands b c Pawn r → Stands b c Pawn t → file r ≡ file t → Pace b c r s → Pace b c t s → r ≡ t
one_pawn b c r t s x y f (one_pace g) (one_pace h) = one_one c r t s f g.one h.one
one_pawn b c r t s x y f (one_pace g) (two_paces h) = one_two b c r t s x g h
one_pawn b c r t s x y f (one_pace g) (side_pace h) = straight_not r t s f g.straight h.aside
one_pawn b c r t s x y f (two_paces g) (one_pace h) = sym (one_two b c t r s y h g)
one_pawn b c r t s x y f (two_paces g) (two_paces h) = two_two b c r t s g h
one_pawn b c r t s x y f (two_paces g) (side_pace h) = straight_not r t s f (two_straight b c r s g) h.aside
one_pawn b c r t s x y f (side_pace g) (one_pace h) = sym (straight_not t r s (sym f) h.straight g.aside)
one_pawn b c r t s x y f (side_pace g) (two_paces h) = sym (straight_not t r s (sym f) (two_straight b c t s h) g.aside)
one_pawn b c r t s x y f (side_pace g) (side_pace h) = one_one c r t s f g.one h.one

-- a pawn that takes nothing stays on its file
pub stays_on_file : (p : State) (m : Move) (w : StepKind) → IsWay p Pawn m w → (IsCapturing p Pawn m → ⊥) → file m.from ≡ file m.to
unfolding Goes
stays_on_file p m Plain h none = h.goes.0
stays_on_file p m Capture h none = absurd (none (inl h.enemy))
stays_on_file p m DoubleAdvance h none = two_straight p.board p.side m.from m.to (record { home = h.home; two = h.two; crossed = h.crossed })
stays_on_file p m EnPassant h none = absurd (none (inr h))
stays_on_file p m (Promotion x) h none = elim h.moves [ inl v ↦ v.1.0 | inr v ↦ absurd (none (inl v.0)) ]
stays_on_file p m (CastlingWay w) h none = let e : Pawn ≡ King = h.king in absurd cc

-- ---- two moves that castle alike are one
pub same_castling : (p : State) (k j : Kind) (m n : Move) (w : Wing) → IsCastling p k m w → IsCastling p j n w → n ≡ m
same_castling p k j m n w h g = same_move n m (g.home ∙ sym h.home) (g.target ∙ sym h.target) (g.unpromoted ∙ sym h.unpromoted)
