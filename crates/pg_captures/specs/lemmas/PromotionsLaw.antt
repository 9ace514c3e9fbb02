-- The promotions law.
use Rattle.std.proofs.Common.{◌≡◌, ℕ, ◌+◌, ◌%◌, ◌<◌, ◌≤◌, Bool, true, false, refl, ap, arith, not, nat_eq}
use Rattle.pg_board.specs.declared.man.Color.{Color}
use Rattle.pg_board.specs.declared.man.Kind.{Kind}
use Rattle.pg_board.specs.declared.man.Kind.TheVariants.{Pawn, Knight, Bishop, Rook, Queen, King}
use Rattle.pg_board.specs.Placement.{Placement as Board}
use Rattle.pg_board.specs.Tally.{tally, one}
use Rattle.pg_board.specs.Men.{other}
use Rattle.pg_board.specs.lemmas.Kinds.{each_kind}
use Rattle.pg_captures.specs.declared.classes.Class.{Class}
use Rattle.pg_captures.specs.declared.classes.Class.TheVariants.{Queens, Rooks, Knights, LightBishops, DarkBishops}
use Rattle.pg_position.specs.declared.state.State.{State}
use Rattle.pg_position.specs.declared.moves.Move.{Move}
use Rattle.pg_position.specs.declared.moves.StepKind.{StepKind}
use Rattle.pg_position.specs.declared.moves.StepKind.TheVariants.{Plain, Capture, DoubleAdvance, EnPassant, Promotion, Castling}
use Rattle.pg_position.specs.Geometry.{apart, OnOneDiagonal, InPattern}
use Rattle.pg_position.specs.Position.{Stands, IsPosition}
use Rattle.pg_position.specs.Squares.{rook_home, king_crossed}
use Rattle.pg_position.specs.Step.{Goes, IsPiece, IsPlain, IsCapture, IsWay, board_after}
use Rattle.pg_board.specs.Squares.{file, rank, is_dark}
use Rattle.pg_captures.specs.Counting.{of_color, men, is_pawn, any_pawn, in_class}
use Rattle.pg_position.specs.Game.{Barren}
use Rattle.pg_captures.specs.lemmas.StepCounts.{own_tally, their_fall}
use Rattle.pg_captures.specs.lemmas.Potential.{Lasts, FailsAt, barren_from}
use Rattle.pg_captures.specs.lemmas.EitherColor.{either_lasts}
use Rattle.pg_captures.specs.Owed.{missing, shortage, PromotionsFor, PromotionsHolds}

-- what one class lacks falls by no more than the class grows
missing_kept : (d b a : Board) (c : Color) (l : Class) (x : ℕ) → men c (in_class l) a ≤ men c (in_class l) b + x → missing d b c l ≤ missing d a c l + x
unfolding missing
missing_kept d b a c l x h = omega arith

promotions_kept : (d b a : Board) (c : Color) (x : Class → ℕ) (y : ℕ) → ((l : Class) → men c (in_class l) a ≤ men c (in_class l) b + x l) → men c any_pawn a + y ≤ men c any_pawn b →
    x Queens + x Rooks + x Knights + x LightBishops + x DarkBishops ≤ y → PromotionsFor d b c → PromotionsFor d a c
unfolding shortage
promotions_kept d b a c x y grown fallen few h =
    let e1 : missing d b c Queens ≤ missing d a c Queens + x Queens = missing_kept d b a c Queens (x Queens) (grown Queens) in
    let e2 : missing d b c Rooks ≤ missing d a c Rooks + x Rooks = missing_kept d b a c Rooks (x Rooks) (grown Rooks) in
    let e3 : missing d b c Knights ≤ missing d a c Knights + x Knights = missing_kept d b a c Knights (x Knights) (grown Knights) in
    let e4 : missing d b c LightBishops ≤ missing d a c LightBishops + x LightBishops = missing_kept d b a c LightBishops (x LightBishops) (grown LightBishops) in
    let e5 : missing d b c DarkBishops ≤ missing d a c DarkBishops + x DarkBishops = missing_kept d b a c DarkBishops (x DarkBishops) (grown DarkBishops) in
    omega arith

-- a diagonal step keeps the colour of the square
parity : (a b c e : ℕ) → apart a b ≡ apart c e → (a + c) % 2 ≡ (b + e) % 2
parity a b c e h = omega arith

same_dark : (r s : ℕ) → OnOneDiagonal r s → is_dark r ≡ is_dark s
same_dark r s h = ap (λ (x : ℕ). nat_eq x 0) (parity (file r) (file s) (rank r) (rank s) h)

-- a man that moves by its own pattern keeps its class
class_along : (l : Class) (k : Kind) (r s : ℕ) → (k ≡ Bishop → is_dark r ≡ is_dark s) → in_class l r k ≡ in_class l s k
unfolding in_class
class_along Queens Pawn r s h = refl
class_along Queens Knight r s h = refl
class_along Queens Bishop r s h = refl
class_along Queens Rook r s h = refl
class_along Queens Queen r s h = refl
class_along Queens King r s h = refl
class_along Rooks Pawn r s h = refl
class_along Rooks Knight r s h = refl
class_along Rooks Bishop r s h = refl
class_along Rooks Rook r s h = refl
class_along Rooks Queen r s h = refl
class_along Rooks King r s h = refl
class_along Knights Pawn r s h = refl
class_along Knights Knight r s h = refl
class_along Knights Bishop r s h = refl
class_along Knights Rook r s h = refl
class_along Knights Queen r s h = refl
class_along Knights King r s h = refl
class_along LightBishops Pawn r s h = refl
class_along LightBishops Knight r s h = refl
class_along LightBishops Bishop r s h = ap not (h refl)
class_along LightBishops Rook r s h = refl
class_along LightBishops Queen r s h = refl
class_along LightBishops King r s h = refl
class_along DarkBishops Pawn r s h = refl
class_along DarkBishops Knight r s h = refl
class_along DarkBishops Bishop r s h = h refl
class_along DarkBishops Rook r s h = refl
class_along DarkBishops Queen r s h = refl
class_along DarkBishops King r s h = refl

plain_dark : (p : State) (k : Kind) (m : Move) → IsPlain p k m → k ≡ Bishop → is_dark m.from ≡ is_dark m.to
unfolding Goes InPattern
plain_dark p k m way e = let g : Goes p.board p.side Bishop m.from m.to = rw e at way.goes in same_dark m.from m.to g.0.1

capture_dark : (p : State) (k : Kind) (m : Move) → IsCapture p k m → k ≡ Bishop → is_dark m.from ≡ is_dark m.to
unfolding InPattern
capture_dark p k m way e = let g : InPattern p.side Bishop m.from m.to = rw e at way.reaches.0 in same_dark m.from m.to g.1

-- a rook counts in its class alone, wherever it stands
rook_class : (l : Class) (r s : ℕ) → in_class l r Rook ≡ in_class l s Rook
rook_class l r s = class_along l Rook r s (λ e. absurd (let q : Rook ≡ Bishop = e in cc))

abbrev is_promotion : StepKind → Bool
is_promotion Plain = false
is_promotion Capture = false
is_promotion DoubleAdvance = false
is_promotion EnPassant = false
is_promotion (Promotion x) = true
is_promotion (Castling w) = false

-- how much the class of the new man grows
abbrev grows : StepKind → ℕ → Class → ℕ
grows Plain s l = 0
grows Capture s l = 0
grows DoubleAdvance s l = 0
grows EnPassant s l = 0
grows (Promotion x) s l = one (in_class l s x)
grows (Castling w) s l = 0

abbrev spent : StepKind → ℕ
spent Plain = 0
spent Capture = 0
spent DoubleAdvance = 0
spent EnPassant = 0
spent (Promotion x) = 1
spent (Castling w) = 0

even : (f : ℕ → Kind → Bool) (x y : ℕ) (k : Kind) (n a b : ℕ) → f x k ≡ f y k → n + (one (f x k) + 0) ≡ b + (one (f y k) + 0) → n ≡ b
even f x y k n a b e h = let q : one (f x k) ≡ one (f y k) = ap one e in omega arith

class_grown : (l : Class) (p : State) (k : Kind) (m : Move) (w : StepKind) → IsPosition p → m.to < 64 → Stands p.board p.side k m.from → IsWay p k m w →
    men p.side (in_class l) (board_after p m w) ≤ men p.side (in_class l) p.board + grows w m.to l
class_grown l p k m Plain valid low stands way =
    let e : men p.side (in_class l) (board_after p m Plain) + (one (in_class l m.from k) + 0) ≡ men p.side (in_class l) p.board + (one (in_class l m.to k) + 0) = own_tally (in_class l) p k m Plain valid low stands way in
    let q : one (in_class l m.from k) ≡ one (in_class l m.to k) = ap one (class_along l k m.from m.to (plain_dark p k m way)) in
    omega arith
class_grown l p k m Capture valid low stands way =
    let e : men p.side (in_class l) (board_after p m Capture) + (one (in_class l m.from k) + 0) ≡ men p.side (in_class l) p.board + (one (in_class l m.to k) + 0) = own_tally (in_class l) p k m Capture valid low stands way in
    let q : one (in_class l m.from k) ≡ one (in_class l m.to k) = ap one (class_along l k m.from m.to (capture_dark p k m way)) in
    omega arith
class_grown l p k m DoubleAdvance valid low stands way =
    let e : men p.side (in_class l) (board_after p m DoubleAdvance) + (one (in_class l m.from k) + 0) ≡ men p.side (in_class l) p.board + (one (in_class l m.to k) + 0) = own_tally (in_class l) p k m DoubleAdvance valid low stands way in
    let a : k ≡ Pawn = way.pawn in
    let q : one (in_class l m.from k) ≡ one (in_class l m.to k) = ap one (class_along l k m.from m.to (λ z. absurd (let y : k ≡ Bishop = z in cc))) in
    omega arith
class_grown l p k m EnPassant valid low stands way =
    let e : men p.side (in_class l) (board_after p m EnPassant) + (one (in_class l m.from k) + 0) ≡ men p.side (in_class l) p.board + (one (in_class l m.to k) + 0) = own_tally (in_class l) p k m EnPassant valid low stands way in
    let a : k ≡ Pawn = way.pawn in
    let q : one (in_class l m.from k) ≡ one (in_class l m.to k) = ap one (class_along l k m.from m.to (λ z. absurd (let y : k ≡ Bishop = z in cc))) in
    omega arith
class_grown l p k m (Promotion x) valid low stands way =
    let e : men p.side (in_class l) (board_after p m (Promotion x)) + (one (in_class l m.from k) + 0) ≡ men p.side (in_class l) p.board + (one (in_class l m.to x) + 0) = own_tally (in_class l) p k m (Promotion x) valid low stands way in
    omega arith
class_grown l p k m (Castling v) valid low stands way =
    let e : men p.side (in_class l) (board_after p m (Castling v)) + (one (in_class l m.from k) + one (in_class l (rook_home p.side v) Rook)) ≡ men p.side (in_class l) p.board + (one (in_class l m.to k) + one (in_class l (king_crossed p.side v) Rook)) = own_tally (in_class l) p k m (Castling v) valid low stands way in
    let a : k ≡ King = way.king in
    let q : one (in_class l m.from k) ≡ one (in_class l m.to k) = ap one (class_along l k m.from m.to (λ z. absurd (let y : k ≡ Bishop = z in cc))) in
    let r : one (in_class l (rook_home p.side v) Rook) ≡ one (in_class l (king_crossed p.side v) Rook) = ap one (rook_class l (rook_home p.side v) (king_crossed p.side v)) in
    omega arith

pub not_pawn : (x : Kind) → IsPiece x → is_pawn x ≡ false
unfolding is_pawn
not_pawn = each_kind (λ k. IsPiece k → is_pawn k ≡ false) (λ h. absurd (h.0 refl), λ h. refl, λ h. refl, λ h. refl, λ h. refl, λ h. refl)

pawns_fallen : (p : State) (k : Kind) (m : Move) (w : StepKind) → IsPosition p → m.to < 64 → Stands p.board p.side k m.from → IsWay p k m w →
    men p.side any_pawn (board_after p m w) + spent w ≤ men p.side any_pawn p.board
unfolding is_pawn
pawns_fallen p k m Plain valid low stands way = omega (arith, own_tally any_pawn p k m Plain valid low stands way)
pawns_fallen p k m Capture valid low stands way = omega (arith, own_tally any_pawn p k m Capture valid low stands way)
pawns_fallen p k m DoubleAdvance valid low stands way = omega (arith, own_tally any_pawn p k m DoubleAdvance valid low stands way)
pawns_fallen p k m EnPassant valid low stands way = omega (arith, own_tally any_pawn p k m EnPassant valid low stands way)
pawns_fallen p k m (Promotion x) valid low stands way =
    let e : men p.side any_pawn (board_after p m (Promotion x)) + (one (is_pawn k) + 0) ≡ men p.side any_pawn p.board + (one (is_pawn x) + 0) = own_tally any_pawn p k m (Promotion x) valid low stands way in
    let a : one (is_pawn k) ≡ one (is_pawn Pawn) = ap (λ (z : Kind). one (is_pawn z)) way.must.0 in
    let b : one (is_pawn x) ≡ one false = ap one (not_pawn x way.piece) in
    omega arith
pawns_fallen p k m (Castling v) valid low stands way = omega (arith, own_tally any_pawn p k m (Castling v) valid low stands way)

one_not : (x : Bool) → one x + one (not x) ≤ 1
one_not true = omega arith
one_not false = omega arith

-- a new man is of one class at most
one_class : (x : Kind) (s : ℕ) → one (in_class Queens s x) + one (in_class Rooks s x) + one (in_class Knights s x) + one (in_class LightBishops s x) + one (in_class DarkBishops s x) ≤ 1
unfolding in_class
one_class Pawn s = omega arith
one_class Knight s = omega arith
one_class Bishop s = omega (arith, one_not (is_dark s))
one_class Rook s = omega arith
one_class Queen s = omega arith
one_class King s = omega arith

few_grow : (w : StepKind) (s : ℕ) → grows w s Queens + grows w s Rooks + grows w s Knights + grows w s LightBishops + grows w s DarkBishops ≤ spent w
few_grow Plain s = omega arith
few_grow Capture s = omega arith
few_grow DoubleAdvance s = omega arith
few_grow EnPassant s = omega arith
few_grow (Promotion x) s = one_class x s
few_grow (Castling v) s = omega arith

own_promotions : (d : Board) (p : State) (k : Kind) (m : Move) (w : StepKind) → IsPosition p → m.to < 64 → Stands p.board p.side k m.from → IsWay p k m w →
    PromotionsFor d p.board p.side → PromotionsFor d (board_after p m w) p.side
own_promotions d p k m w valid low stands way h =
    promotions_kept d p.board (board_after p m w) p.side (grows w m.to) (spent w) (λ l. class_grown l p k m w valid low stands way) (pawns_fallen p k m w valid low stands way) (few_grow w m.to) h

their_promotions : (d : Board) (p : State) (k : Kind) (m : Move) (w : StepKind) → IsPosition p → m.to < 64 → Stands p.board p.side k m.from → IsWay p k m w →
    PromotionsFor d p.board (other p.side) → PromotionsFor d (board_after p m w) (other p.side)
their_promotions d p k m w valid low stands way h =
    promotions_kept d p.board (board_after p m w) (other p.side) (λ l. 0) 0
    (λ l. let e : men (other p.side) (in_class l) (board_after p m w) ≤ men (other p.side) (in_class l) p.board = (their_fall (in_class l) p k m w valid low stands way).0 in omega arith)
    (let e : men (other p.side) any_pawn (board_after p m w) ≤ men (other p.side) any_pawn p.board = (their_fall any_pawn p k m w valid low stands way).0 in omega arith)
    (omega arith) h

pub promotions_last : (d : Board) → Lasts (λ p k. PromotionsHolds d p)
unfolding PromotionsHolds
promotions_last d = either_lasts (λ b c. PromotionsFor d b c) (own_promotions d) (their_promotions d)

missing_none : (d b : Board) (c : Color) (l : Class) → b ≡ d → missing d b c l ≡ 0
unfolding missing
missing_none d b c l same = let e : men c (in_class l) b ≡ men c (in_class l) d = ap (tally (of_color c (in_class l))) same in omega arith

pub promotions_fail : (d : Board) → FailsAt d (λ p k. PromotionsHolds d p)
unfolding PromotionsHolds shortage
promotions_fail d p (c, h) same =
    let e1 : missing d p.board c Queens ≡ 0 = missing_none d p.board c Queens same in
    let e2 : missing d p.board c Rooks ≡ 0 = missing_none d p.board c Rooks same in
    let e3 : missing d p.board c Knights ≡ 0 = missing_none d p.board c Knights same in
    let e4 : missing d p.board c LightBishops ≡ 0 = missing_none d p.board c LightBishops same in
    let e5 : missing d p.board c DarkBishops ≡ 0 = missing_none d p.board c DarkBishops same in
    let e : men c any_pawn p.board ≡ men c any_pawn d = ap (tally (of_color c any_pawn)) same in
    omega arith

pub promotions_barren : (d : Board) (p : State) (k : ℕ) → IsPosition p → PromotionsHolds d p → Barren d p k
promotions_barren d p k valid h = barren_from d (λ q n. PromotionsHolds d q) (promotions_last d) (promotions_fail d) p k valid h
