-- Positions with the same future have the same legal moves, and so the same games.
use Rattle.pg_position.proofs.Common.{◌≡◌, ◌<◌, ℕ, Option, Some, None, List, [], ◌∷◌, refl, sym, ap, subst, ◌∙◌, Kind, Pawn, State, Move, StepKind, Plain, Capture, DoubleAdvance, EnPassant, Promotion, Castling, parts, Stands, IsPosition, IsWay, after, Step, Legal, IsClear, IsPawnAttacked, IsEffective, SameFuture}
use Rattle.pg_position.specs.Game.{IsGame}
use Rattle.pg_position.proofs.LineLemmas.{pawn_near}
use Rattle.pg_position.proofs.StepLemmas.{one_step}
use Rattle.pg_position.proofs.ValidLemmas.{step_valid}

-- the same state with another passed square
abbrev passing : State → Option ℕ → State
passing p e = parts p.board p.side p.rights e

same_parts : (p q : State) → SameFuture p q → q ≡ passing p q.passed
same_parts p q h = λ i. record { board = (sym h.board) i; side = (sym h.side) i; rights = (sym h.rights) i; passed = q.passed }

-- a passed square that a pawn attacks is the other's too
same_passing : (p q : State) (o : Option ℕ) (s : ℕ) → IsEffective p o → IsEffective q o → p.passed ≡ Some s → IsPawnAttacked p s → q.passed ≡ Some s
same_passing p q None s h k e a = absurd (h s e a)
same_passing p q (Some t) s h k e a = k.0 ∙ sym h.0 ∙ e

way_moved : (p : State) (e : Option ℕ) (k : Kind) (m : Move) (w : StepKind) → Stands p.board p.side k m.from → m.from < 64 → ((s : ℕ) → p.passed ≡ Some s → IsPawnAttacked p s → e ≡ Some s) → IsWay p k m w → IsWay (passing p e) k m w
unfolding IsPawnAttacked IsClear
way_moved p e k m Plain st low f h = record { unpromoted = h.unpromoted; stays = h.stays; vacant = h.vacant; goes = h.goes }
way_moved p e k m Capture st low f h = record { unpromoted = h.unpromoted; stays = h.stays; enemy = h.enemy; reaches = h.reaches }
way_moved p e k m DoubleAdvance st low f h = record { unpromoted = h.unpromoted; pawn = h.pawn; home = h.home; two = h.two; crossed = h.crossed; vacant = h.vacant }
way_moved p e k m EnPassant st low f h =
    let here : Stands p.board p.side Pawn m.from = subst (λ (x : Kind). Stands p.board p.side x m.from) h.pawn st in
    record { unpromoted = h.unpromoted; pawn = h.pawn; passed = f m.to h.passed (m.from, low, here, (h.reaches, λ t l bet. absurd (pawn_near p.side m.from t m.to h.reaches bet))); reaches = h.reaches }
way_moved p e k m (Promotion x) st low f h = record { promoted = h.promoted; piece = h.piece; must = h.must; moves = h.moves }
way_moved p e k m (Castling w) st low f h = record { unpromoted = h.unpromoted; king = h.king; home = h.home; target = h.target; right = h.right; clear = h.clear; safe_home = h.safe_home; safe_crossed = h.safe_crossed; safe_target = h.safe_target }

after_moved : (p : State) (e : Option ℕ) (m : Move) (w : StepKind) → after p m w ≡ after (passing p e) m w
after_moved p e m Plain = refl
after_moved p e m Capture = refl
after_moved p e m DoubleAdvance = refl
after_moved p e m EnPassant = refl
after_moved p e m (Promotion x) = refl
after_moved p e m (Castling w) = refl

step_moved : (p : State) (e : Option ℕ) (m : Move) (r : State) → ((s : ℕ) → p.passed ≡ Some s → IsPawnAttacked p s → e ≡ Some s) → Step p m r → Step (passing p e) m r
unfolding Step
step_moved p e m r f (k, w, on, stands, way, is) = (k, w, on, stands, way_moved p e k m w stands on.0 f way, is ∙ after_moved p e m w)

pub legal_same : (p q : State) (m : Move) (r : State) → SameFuture p q → Legal p m r → Legal q m r
legal_same p q m r h (step, safe) =
    let moved : Step (passing p q.passed) m r = step_moved p q.passed m r (λ s e a. same_passing p q h.passed.0 s h.passed.1 h.passed.2 e a) step in
    let legal : Legal (passing p q.passed) m r = (moved, safe) in
    subst (λ (x : State). Legal x m r) (sym (same_parts p q h)) legal

pub future_sym : (p q : State) → SameFuture p q → SameFuture q p
future_sym p q h = record { board = sym h.board; side = sym h.side; rights = sym h.rights; passed = (h.passed.0, h.passed.2, h.passed.1) }

pub same_games : (p q : State) (ms : List Move) → SameFuture p q → (r : State) × IsGame p ms r → (s : State) × IsGame q ms s
same_games p q [] h g = (q, refl)
same_games p q (m ∷ ms) h (r, (n, legal, rest)) = (r, (n, legal_same p q m n h legal, rest))

pub legal_position : (p : State) (m : Move) (q : State) → IsPosition p → Legal p m q → IsPosition q
legal_position p m q pos (step, safe) = step_valid p m q pos step safe

pub one_result : (p : State) (m : Move) (q r : State) → IsPosition p → Legal p m q → Legal p m r → q ≡ r
one_result p m q r pos h k = one_step p m q r pos.passing h.0 k.0

-- a game has one end
pub one_end : (p : State) (ms : List Move) (r s : State) → IsPosition p → IsGame p ms r → IsGame p ms s → r ≡ s
one_end p [] r s pos g h = sym g ∙ h
one_end p (m ∷ ms) r s pos (n, legal, rest) (o, also, other_rest) =
    let same : o ≡ n = one_result p m o n pos also legal in
    let moved : IsGame n ms s = subst (λ (x : State). IsGame x ms s) same other_rest in
    one_end n ms r s (legal_position p m n pos legal) rest moved

pub same_ends : (p q : State) (ms : List Move) (r s : State) → IsPosition p → SameFuture p q → IsGame p ms r → IsGame q ms s → r.board ≡ s.board
same_ends p q [] r s pos h g k = ap (λ (x : State). x.board) (sym g) ∙ h.board ∙ ap (λ (x : State). x.board) k
same_ends p q (m ∷ ms) r s pos h (n, legal, rest) (o, also, other_rest) =
    let back : Legal p m o = legal_same q p m o (future_sym p q h) also in
    let same : o ≡ n = one_result p m o n pos back legal in
    let moved : IsGame n ms s = subst (λ (x : State). IsGame x ms s) same other_rest in
    ap (λ (x : State). x.board) (one_end n ms r s (legal_position p m n pos legal) rest moved)
