-- Facts on steps: a passed square's rank, one case for each move.
use Rattle.pg_position.proofs.Common.{◌≡◌, ◌≢◌, ℕ, ◌≤◌, Option, Some, None, refl, sym, ap, arith, ◌∙◌, Color, White, Black, Kind, Pawn, King, Wing, KingSide, QueenSide, Man, Illegal, EmptyFrom, OtherSide, NotAMove, LeavesCheck, State, Move, StepKind, Plain, Capture, DoubleAdvance, EnPassant, Promotion, Castling, apart, IsForward, InPattern, file, rank, other, man, get, Stands, IsVacant, IsPassed, PassedClause, IsPosition, IsEnemy, Goes, IsPlain, IsCapture, IsDoubleAdvance, IsEnPassant, IsCastling, IsWay, after, Step, Legal, IsCause, king_home, ahead, HasAhead, passed_rank, home_rank, king_target}

-- a pawn taken in passing is on the board
passed_behind : (c : Color) (e : ℕ) → rank e ≡ passed_rank c → HasAhead (other c) 1 e
passed_behind White e h = omega arith
passed_behind Black e h = omega arith

pub taken_on_board : (p : State) (k : Kind) (m : Move) (w : StepKind) → IsPosition p → IsWay p k m w → w ≡ EnPassant → HasAhead (other p.side) 1 m.to
unfolding IsPassed
taken_on_board p k m EnPassant valid way e = passed_behind p.side m.to (valid.passing m.to way.passed).0
taken_on_board p k m Plain valid way e = cc
taken_on_board p k m Capture valid way e = cc
taken_on_board p k m DoubleAdvance valid way e = cc
taken_on_board p k m (Promotion x) valid way e = cc
taken_on_board p k m (Castling x) valid way e = cc

-- a colour is one or the other
pub same_color_else : (c d : Color) → c ≢ other d → c ≡ d
same_color_else White White h = refl
same_color_else Black Black h = refl
same_color_else White Black h = absurd (h refl)
same_color_else Black White h = absurd (h refl)

pub same_kind : {o : Option Man} {c d : Color} {k j : Kind} → o ≡ Some (man c k) → o ≡ Some (man d j) → k ≡ j
same_kind {o} {c} {d} {k} {j} e f = let g : man c k ≡ man d j = cc in ap (λ (x : Man). x.kind) g

pub same_side : {o : Option Man} {c d : Color} {k j : Kind} → o ≡ Some (man c k) → o ≡ Some (man d j) → c ≡ d
same_side {o} {c} {d} {k} {j} e f = let g : man c k ≡ man d j = cc in ap (λ (x : Man). x.color) g

pub not_other : (c : Color) → c ≡ other c → ⊥
not_other White e = cc
not_other Black e = cc

pub some_none : {A : Type 0} {x : A} → Some x ≡ None → ⊥
some_none e = cc

pub one_not_two : (c : Color) (r s : ℕ) → IsForward c 1 r s → s ≡ ahead c 2 r → rank r ≡ home_rank c → ⊥
one_not_two White r s f e h = omega arith
one_not_two Black r s f e h = omega arith

pub same_file : (c : Color) (r s : ℕ) → s ≡ ahead c 2 r → rank r ≡ home_rank c → apart (file r) (file s) ≡ 1 → ⊥
same_file White r s e h a = omega arith
same_file Black r s e h a = omega arith

pub two_files : (c : Color) (w : Wing) (r s : ℕ) → r ≡ king_home c → s ≡ king_target c w → apart (file r) (file s) ≤ 1 → ⊥
two_files White KingSide r s e h a = omega arith
two_files White QueenSide r s e h a = omega arith
two_files Black KingSide r s e h a = omega arith
two_files Black QueenSide r s e h a = omega arith

pub one_target : (c : Color) → king_target c KingSide ≡ king_target c QueenSide → ⊥
one_target White e = omega arith
one_target Black e = omega arith

pub not_both : (p : State) (s : ℕ) → IsVacant p.board s → IsEnemy p.board p.side s → ⊥
unfolding IsEnemy
not_both p s v e = let h : get p.board s ≡ Some (man (other p.side) e.0) = e.1 in cc

pub plain_double : (p : State) (k : Kind) (m : Move) → IsPlain p k m → IsDoubleAdvance p k m → ⊥
unfolding Goes
plain_double p k m h d = let g : Goes p.board p.side Pawn m.from m.to = rw d.pawn at h.goes in one_not_two p.side m.from m.to g.1 d.two d.home

pub plain_passing : (p : State) (k : Kind) (m : Move) → IsPlain p k m → IsEnPassant p k m → ⊥
unfolding Goes InPattern
plain_passing p k m h d = let g : Goes p.board p.side Pawn m.from m.to = rw d.pawn at h.goes in let a : apart (file m.from) (file m.to) ≡ 1 = d.reaches.0 in let f : file m.from ≡ file m.to = g.0 in omega arith

pub plain_castling : (p : State) (k : Kind) (m : Move) (w : Wing) → IsPlain p k m → IsCastling p k m w → ⊥
unfolding Goes InPattern
plain_castling p k m w h d = let g : Goes p.board p.side King m.from m.to = rw d.king at h.goes in two_files p.side w m.from m.to d.home d.target g.0.1

pub capture_castling : (p : State) (k : Kind) (m : Move) (w : Wing) → IsCapture p k m → IsCastling p k m w → ⊥
unfolding InPattern
capture_castling p k m w h d = let g : InPattern p.side King m.from m.to = rw d.king at h.reaches.0 in two_files p.side w m.from m.to d.home d.target g.1

pub capture_passing : (p : State) (k : Kind) (m : Move) → PassedClause p → IsCapture p k m → IsEnPassant p k m → ⊥
unfolding IsPassed
capture_passing p k m pos h d = not_both p m.to (pos m.to d.passed).1 h.enemy

pub double_passing : (p : State) (k : Kind) (m : Move) → IsDoubleAdvance p k m → IsEnPassant p k m → ⊥
unfolding InPattern
double_passing p k m h d = same_file p.side m.from m.to h.two h.home d.reaches.0

pub double_castling : (p : State) (k : Kind) (m : Move) (w : Wing) → IsDoubleAdvance p k m → IsCastling p k m w → ⊥
double_castling p k m w h d = let a : k ≡ Pawn = h.pawn in let b : k ≡ King = d.king in cc

pub passing_castling : (p : State) (k : Kind) (m : Move) (w : Wing) → IsEnPassant p k m → IsCastling p k m w → ⊥
passing_castling p k m w h d = let a : k ≡ Pawn = h.pawn in let b : k ≡ King = d.king in cc

pub castlings : (p : State) (k : Kind) (m : Move) (w v : Wing) → IsCastling p k m w → IsCastling p k m v → w ≡ v
castlings p k m KingSide KingSide h d = refl
castlings p k m QueenSide QueenSide h d = refl
castlings p k m KingSide QueenSide h d = absurd (one_target p.side (sym h.target ∙ d.target))
castlings p k m QueenSide KingSide h d = absurd (one_target p.side (sym d.target ∙ h.target))

pub promoted_not : {A : Type 0} (p : State) (m : Move) (x : Kind) → m.promotion ≡ Some x → m.promotion ≡ None → A
promoted_not p m x a b = absurd (some_none (sym a ∙ b))

-- a move is one case
pub one_way : (p : State) (k : Kind) (m : Move) (w v : StepKind) → PassedClause p → IsWay p k m w → IsWay p k m v → w ≡ v
one_way p k m Plain Plain pos h d = refl
one_way p k m Plain Capture pos h d = absurd (not_both p m.to h.vacant d.enemy)
one_way p k m Plain DoubleAdvance pos h d = absurd (plain_double p k m h d)
one_way p k m Plain EnPassant pos h d = absurd (plain_passing p k m h d)
one_way p k m Plain (Castling w) pos h d = absurd (plain_castling p k m w h d)
one_way p k m Capture Plain pos h d = absurd (not_both p m.to d.vacant h.enemy)
one_way p k m Capture Capture pos h d = refl
one_way p k m Capture DoubleAdvance pos h d = absurd (not_both p m.to d.vacant h.enemy)
one_way p k m Capture EnPassant pos h d = absurd (capture_passing p k m pos h d)
one_way p k m Capture (Castling w) pos h d = absurd (capture_castling p k m w h d)
one_way p k m DoubleAdvance Plain pos h d = absurd (plain_double p k m d h)
one_way p k m DoubleAdvance Capture pos h d = absurd (not_both p m.to h.vacant d.enemy)
one_way p k m DoubleAdvance DoubleAdvance pos h d = refl
one_way p k m DoubleAdvance EnPassant pos h d = absurd (double_passing p k m h d)
one_way p k m DoubleAdvance (Castling w) pos h d = absurd (double_castling p k m w h d)
one_way p k m EnPassant Plain pos h d = absurd (plain_passing p k m d h)
one_way p k m EnPassant Capture pos h d = absurd (capture_passing p k m pos d h)
one_way p k m EnPassant DoubleAdvance pos h d = absurd (double_passing p k m d h)
one_way p k m EnPassant EnPassant pos h d = refl
one_way p k m EnPassant (Castling w) pos h d = absurd (passing_castling p k m w h d)
one_way p k m (Castling w) Plain pos h d = absurd (plain_castling p k m w d h)
one_way p k m (Castling w) Capture pos h d = absurd (capture_castling p k m w d h)
one_way p k m (Castling w) DoubleAdvance pos h d = absurd (double_castling p k m w d h)
one_way p k m (Castling w) EnPassant pos h d = absurd (passing_castling p k m w d h)
one_way p k m (Castling w) (Castling v) pos h d = ap Castling (castlings p k m w v h d)
one_way p k m (Promotion x) Plain pos h d = promoted_not p m x h.promoted d.unpromoted
one_way p k m (Promotion x) Capture pos h d = promoted_not p m x h.promoted d.unpromoted
one_way p k m (Promotion x) DoubleAdvance pos h d = promoted_not p m x h.promoted d.unpromoted
one_way p k m (Promotion x) EnPassant pos h d = promoted_not p m x h.promoted d.unpromoted
one_way p k m (Promotion x) (Castling w) pos h d = promoted_not p m x h.promoted d.unpromoted
one_way p k m (Promotion x) (Promotion y) pos h d = let a : m.promotion ≡ Some x = h.promoted in let b : m.promotion ≡ Some y = d.promoted in cc
one_way p k m Plain (Promotion x) pos h d = promoted_not p m x d.promoted h.unpromoted
one_way p k m Capture (Promotion x) pos h d = promoted_not p m x d.promoted h.unpromoted
one_way p k m DoubleAdvance (Promotion x) pos h d = promoted_not p m x d.promoted h.unpromoted
one_way p k m EnPassant (Promotion x) pos h d = promoted_not p m x d.promoted h.unpromoted
one_way p k m (Castling w) (Promotion x) pos h d = promoted_not p m x d.promoted h.unpromoted

-- a move leads to one state
pub one_step : (p : State) (m : Move) (q r : State) → PassedClause p → Step p m q → Step p m r → q ≡ r
unfolding Step
one_step p m q r pos (k, w, on, stands, way, e) (j, v, on', also, path, f) =
    let same : k ≡ j = same_kind stands also in
    let path' : IsWay p k m v = rw (← same) at path in
    let both : w ≡ v = one_way p k m w v pos way path' in
    e ∙ ap (after p m) both ∙ sym f

-- where no case holds there is no step
pub no_step : (p : State) (k : Kind) (m : Move) → Stands p.board p.side k m.from → ((w : StepKind) → IsWay p k m w → ⊥) → (q : State) → Step p m q → ⊥
unfolding Step
no_step p k m at_from none q (j, w, on, also, way, e) = let same : j ≡ k = same_kind also at_from in let moved : IsWay p k m w = rw same at way in none w moved

-- a move that has a cause to be refused isn't legal
pub cause_refutes : (p : State) (m : Move) (e : Illegal) (q : State) → PassedClause p → IsCause p m e → Legal p m q → ⊥
unfolding Step IsEnemy
cause_refutes p m EmptyFrom q pos h ((k, w, on, stands, way, e), safe) = let v : get p.board m.from ≡ None = h in cc
cause_refutes p m OtherSide q pos (j, there) ((k, w, on, stands, way, e), safe) = not_other p.side (same_side stands there)
cause_refutes p m NotAMove q pos (k, stands, none) (step, safe) = none q step
cause_refutes p m LeavesCheck q pos (r, step, check) (also, safe) = let same : r ≡ q = one_step p m r q pos step also in safe (rw same at check)
