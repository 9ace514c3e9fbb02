-- The case of a legal move, told apart by few tests.
use Rattle.pg_position.proofs.Common.{refl, Ok, Err, Result, IfOk, IfErr, is_ok, ◌≡◌, ◌≢◌, ℕ, ◌+◌, ◌⊎◌, ◌↔◌, inl, inr, Bool, true, false, IsTrue, Some, None, sym, ap, subst, arith, ◌∙◌, Option, Color, White, Black, Kind, Pawn, King, Man, file, rank, man, other, get, Rights, Wing, KingSide, QueenSide, State, Move, StepKind, Plain, Capture, DoubleAdvance, EnPassant, Promotion, Castling, Illegal, LeavesCheck, apart, IsForward, InPattern, parts, Stands, IsVacant, IsPassed, InCheck, holds, IsPosition, Goes, IsDoubleAdvance, IsCastling, IsWay, relocated, passed_after, rights_after, after, IsOnBoard, Step, Legal, IsLegal, IsCause, king_home, ahead, HasAhead, home_rank, king_target}
use Rattle.pg_position.proofs.StepLemmas.{not_both, same_kind, one_way, one_step, one_target, promoted_not, two_files, cause_refutes}
use Rattle.pg_position.proofs.ValidLemmas.{step_valid}

pub not_so : {A : Type 0} (b : Bool) → IsTrue b ↔ A → b ≡ false → ¬ A
not_so b h e = λ a. let t : b ≡ true = h.1 a in cc

pub piece_plain : (p : State) (k : Kind) (m : Move) → k ≢ Pawn → k ≢ King → m.promotion ≡ None → IsVacant p.board m.to → ((w : StepKind) × IsWay p k m w) → IsWay p k m Plain
piece_plain p k m a b n v (Plain, h) = h
piece_plain p k m a b n v (Capture, h) = absurd (not_both p m.to v h.enemy)
piece_plain p k m a b n v (DoubleAdvance, h) = absurd (a h.pawn)
piece_plain p k m a b n v (EnPassant, h) = absurd (a h.pawn)
piece_plain p k m a b n v (Castling u, h) = absurd (b h.king)
piece_plain p k m a b n v (Promotion y, h) = promoted_not p m y h.promoted n

pub piece_capture : (p : State) (k : Kind) (m : Move) → k ≢ Pawn → k ≢ King → m.promotion ≡ None → ¬ IsVacant p.board m.to → ((w : StepKind) × IsWay p k m w) → IsWay p k m Capture
piece_capture p k m a b n v (Plain, h) = absurd (v h.vacant)
piece_capture p k m a b n v (Capture, h) = h
piece_capture p k m a b n v (DoubleAdvance, h) = absurd (a h.pawn)
piece_capture p k m a b n v (EnPassant, h) = absurd (a h.pawn)
piece_capture p k m a b n v (Castling u, h) = absurd (b h.king)
piece_capture p k m a b n v (Promotion y, h) = promoted_not p m y h.promoted n

-- ---- kings
king_pawn : {A : Type 0} → King ≡ Pawn → A
king_pawn e = absurd (cc)

pawn_king : {A : Type 0} → Pawn ≡ King → A
pawn_king e = absurd (cc)

abbrev pub GoesCastling : State → Move → Wing → Type 0
GoesCastling p m w = (m.from ≡ king_home p.side) × (m.to ≡ king_target p.side w)

pub king_castles : (p : State) (m : Move) (w : Wing) → m.promotion ≡ None → GoesCastling p m w → ((v : StepKind) × IsWay p King m v) → IsWay p King m (Castling w)
unfolding Goes InPattern
king_castles p m w n at (Plain, h) = absurd (two_files p.side w m.from m.to at.0 at.1 h.goes.0.1)
king_castles p m w n at (Capture, h) = absurd (two_files p.side w m.from m.to at.0 at.1 h.reaches.0.1)
king_castles p m w n at (DoubleAdvance, h) = king_pawn h.pawn
king_castles p m w n at (EnPassant, h) = king_pawn h.pawn
king_castles p m KingSide n at (Castling KingSide, h) = h
king_castles p m QueenSide n at (Castling QueenSide, h) = h
king_castles p m KingSide n at (Castling QueenSide, h) = absurd (one_target p.side (sym at.1 ∙ h.target))
king_castles p m QueenSide n at (Castling KingSide, h) = absurd (one_target p.side (sym h.target ∙ at.1))
king_castles p m w n at (Promotion y, h) = promoted_not p m y h.promoted n

not_castling : {A : Type 0} (p : State) (m : Move) (w : Wing) → ¬ GoesCastling p m KingSide → ¬ GoesCastling p m QueenSide → IsCastling p King m w → A
not_castling p m KingSide a b h = absurd (a (h.home, h.target))
not_castling p m QueenSide a b h = absurd (b (h.home, h.target))

pub king_plain : (p : State) (m : Move) → m.promotion ≡ None → ¬ GoesCastling p m KingSide → ¬ GoesCastling p m QueenSide → IsVacant p.board m.to → ((v : StepKind) × IsWay p King m v) → IsWay p King m Plain
king_plain p m n a b v (Plain, h) = h
king_plain p m n a b v (Capture, h) = absurd (not_both p m.to v h.enemy)
king_plain p m n a b v (DoubleAdvance, h) = king_pawn h.pawn
king_plain p m n a b v (EnPassant, h) = king_pawn h.pawn
king_plain p m n a b v (Castling w, h) = not_castling p m w a b h
king_plain p m n a b v (Promotion y, h) = promoted_not p m y h.promoted n

pub king_capture : (p : State) (m : Move) → m.promotion ≡ None → ¬ GoesCastling p m KingSide → ¬ GoesCastling p m QueenSide → ¬ IsVacant p.board m.to → ((v : StepKind) × IsWay p King m v) → IsWay p King m Capture
king_capture p m n a b v (Plain, h) = absurd (v h.vacant)
king_capture p m n a b v (Capture, h) = h
king_capture p m n a b v (DoubleAdvance, h) = king_pawn h.pawn
king_capture p m n a b v (EnPassant, h) = king_pawn h.pawn
king_capture p m n a b v (Castling w, h) = not_castling p m w a b h
king_capture p m n a b v (Promotion y, h) = promoted_not p m y h.promoted n

-- ---- pawns
abbrev pub TwoRanks : Move → Type 0
TwoRanks m = (rank m.from + 2 ≡ rank m.to) ⊎ (rank m.to + 2 ≡ rank m.from)

one_rank : (c : Color) (r s : ℕ) → IsForward c 1 r s → (rank r + 2 ≡ rank s) ⊎ (rank s + 2 ≡ rank r) → ⊥
one_rank White r s f t = omega (arith, f, t)
one_rank Black r s f t = omega (arith, f, t)

two_ranks : (c : Color) (r s : ℕ) → s ≡ ahead c 2 r → rank r ≡ home_rank c → (rank r + 2 ≡ rank s) ⊎ (rank s + 2 ≡ rank r)
two_ranks White r s e h = inl (omega arith)
two_ranks Black r s e h = inr (omega arith)

two_file : (c : Color) (r s : ℕ) → s ≡ ahead c 2 r → rank r ≡ home_rank c → file r ≡ file s
two_file White r s e h = omega arith
two_file Black r s e h = omega arith

off_file : (r s : ℕ) → file r ≡ file s → apart (file r) (file s) ≡ 1 → ⊥
off_file r s e a = omega arith

pub pawn_double : (p : State) (m : Move) → m.promotion ≡ None → file m.from ≡ file m.to → TwoRanks m → ((v : StepKind) × IsWay p Pawn m v) → IsWay p Pawn m DoubleAdvance
unfolding Goes InPattern
pawn_double p m n f t (Plain, h) = absurd (one_rank p.side m.from m.to h.goes.1 t)
pawn_double p m n f t (Capture, h) = absurd (off_file m.from m.to f h.reaches.0.0)
pawn_double p m n f t (DoubleAdvance, h) = h
pawn_double p m n f t (EnPassant, h) = absurd (off_file m.from m.to f h.reaches.0)
pawn_double p m n f t (Castling w, h) = pawn_king h.king
pawn_double p m n f t (Promotion y, h) = promoted_not p m y h.promoted n

pub pawn_plain : (p : State) (m : Move) → m.promotion ≡ None → file m.from ≡ file m.to → ¬ TwoRanks m → ((v : StepKind) × IsWay p Pawn m v) → IsWay p Pawn m Plain
unfolding InPattern
pawn_plain p m n f t (Plain, h) = h
pawn_plain p m n f t (Capture, h) = absurd (off_file m.from m.to f h.reaches.0.0)
pawn_plain p m n f t (DoubleAdvance, h) = absurd (t (two_ranks p.side m.from m.to h.two h.home))
pawn_plain p m n f t (EnPassant, h) = absurd (off_file m.from m.to f h.reaches.0)
pawn_plain p m n f t (Castling w, h) = pawn_king h.king
pawn_plain p m n f t (Promotion y, h) = promoted_not p m y h.promoted n

pub pawn_passing : (p : State) (m : Move) → m.promotion ≡ None → ¬ (file m.from ≡ file m.to) → IsVacant p.board m.to → ((v : StepKind) × IsWay p Pawn m v) → IsWay p Pawn m EnPassant
unfolding Goes
pawn_passing p m n f v (Plain, h) = absurd (f h.goes.0)
pawn_passing p m n f v (Capture, h) = absurd (not_both p m.to v h.enemy)
pawn_passing p m n f v (DoubleAdvance, h) = absurd (f (two_file p.side m.from m.to h.two h.home))
pawn_passing p m n f v (EnPassant, h) = h
pawn_passing p m n f v (Castling w, h) = pawn_king h.king
pawn_passing p m n f v (Promotion y, h) = promoted_not p m y h.promoted n

pub pawn_capture : (p : State) (m : Move) → IsPosition p → m.promotion ≡ None → ¬ (file m.from ≡ file m.to) → ¬ IsVacant p.board m.to → ((v : StepKind) × IsWay p Pawn m v) → IsWay p Pawn m Capture
unfolding Goes IsPassed
pawn_capture p m pos n f v (Plain, h) = absurd (v h.vacant)
pawn_capture p m pos n f v (Capture, h) = h
pawn_capture p m pos n f v (DoubleAdvance, h) = absurd (v h.vacant)
pawn_capture p m pos n f v (EnPassant, h) = absurd (v (pos.passing m.to h.passed).1)
pawn_capture p m pos n f v (Castling w, h) = pawn_king h.king
pawn_capture p m pos n f v (Promotion y, h) = promoted_not p m y h.promoted n

-- ---- the state after it
mover : (p : State) (k : Kind) (r : ℕ) (x : Man) → get p.board r ≡ Some (man p.side k) → get p.board r ≡ Some x → k ≡ x.kind
mover p k r x e f = let g : man p.side k ≡ x = cc in ap (λ (y : Man). y.kind) g

pub mover_way : (p : State) (m : Move) (x : Man) → IsLegal p m → get p.board m.from ≡ Some x → (w : StepKind) × IsWay p x.kind m w
unfolding Step
mover_way p m x (q, ((k, w, on, stands, way, e), safe)) there = (w, subst (λ (j : Kind). IsWay p j m w) (mover p k m.from x stands there) way)

pub mover_there : (p : State) (m : Move) → IsLegal p m → get p.board m.from ≡ None → ⊥
unfolding Step
mover_there p m (q, ((k, w, on, stands, way, e), safe)) none = let there : get p.board m.from ≡ Some (man p.side k) = stands in cc

pub after_is : (p : State) (m : Move) (x : Man) (v : StepKind) (r : State) → IsPosition p → IsLegal p m → get p.board m.from ≡ Some x → IsWay p x.kind m v → r ≡ after p m v → Legal p m r × IsPosition r
unfolding Step
after_is p m x v r pos (q, ((k, w, on, stands, way, e), safe)) there h is =
    let path : IsWay p k m v = subst (λ (j : Kind). IsWay p j m v) (sym (mover p k m.from x stands there)) h in
    let both : w ≡ v = one_way p k m w v pos.passing way path in
    let same : q ≡ r = e ∙ ap (after p m) both ∙ sym is in
    subst (λ (s : State). Legal p m s × IsPosition s) same (((k, w, on, stands, way, e), safe), step_valid p m q pos (k, w, on, stands, way, e) safe)

-- ---- whether it is legal
pub played_tells : (p : State) (m : Move) (x : Result State Illegal) (b : Bool) → b ≡ is_ok x → IfOk x (λ q. (r : State) → (q ≡ r) ↔ Legal p m r) → IfErr x (λ e. IsCause p m e × ((r : State) → ¬ Legal p m r)) → IsTrue b ↔ IsLegal p m
played_tells p m (Ok q) b e ok err = (λ _. (q, (ok q).0 refl), λ _. e)
played_tells p m (Err f) b e ok err = (λ t. (let same : true ≡ false = sym t ∙ e in cc), λ (q, legal). absurd (err.1 q legal))

-- ---- moves that do no more than take a man to a square
-- with no promotion, all rights kept, no king at home who may castle and another square than the passed one, the man goes
pub common_after : (p : State) (k : Kind) (m : Move) (w : StepKind) → m.promotion ≡ None → p.rights ≡ rights_after p.rights m → ((v : Wing) → holds p.rights p.side v ≡ true → m.from ≢ king_home p.side) → p.passed ≢ Some m.to → IsWay p k m w → parts (relocated p.board m.from m.to) (other p.side) p.rights (passed_after p m w) ≡ after p m w
common_after p k m Plain n r h e way = ap (λ (x : Rights). parts (relocated p.board m.from m.to) (other p.side) x None) r
common_after p k m Capture n r h e way = ap (λ (x : Rights). parts (relocated p.board m.from m.to) (other p.side) x None) r
common_after p k m DoubleAdvance n r h e way = ap (λ (x : Rights). parts (relocated p.board m.from m.to) (other p.side) x (Some (ahead p.side 1 m.from))) r
common_after p k m EnPassant n r h e way = absurd (e way.passed)
common_after p k m (Castling v) n r h e way = absurd (h v way.right way.home)
common_after p k m (Promotion x) n r h e way = promoted_not p m x way.promoted n

-- a pawn goes by two ranks from its home alone
pub two_double : (p : State) (m : Move) (w : StepKind) → TwoRanks m → IsWay p Pawn m w → (w ≡ DoubleAdvance) × IsDoubleAdvance p Pawn m
unfolding Goes InPattern
two_double p m Plain t h = absurd (one_rank p.side m.from m.to h.goes.1 t)
two_double p m Capture t h = absurd (one_rank p.side m.from m.to h.reaches.0.1 t)
two_double p m DoubleAdvance t h = (refl, h)
two_double p m EnPassant t h = absurd (one_rank p.side m.from m.to h.reaches.1 t)
two_double p m (Castling v) t h = pawn_king h.king
two_double p m (Promotion x) t h = elim h.moves [
  | inl a ↦ absurd (one_rank p.side m.from m.to a.1.1 t)
  | inr a ↦ absurd (one_rank p.side m.from m.to a.1.0.1 t)
]

pub passed_two : (p : State) (m : Move) (k : Kind) (w : StepKind) → Stands p.board p.side Pawn m.from → TwoRanks m → Stands p.board p.side k m.from → IsWay p k m w → Some (ahead p.side 1 m.from) ≡ passed_after p m w
passed_two p m k w pawn t there way =
    let path : IsWay p Pawn m w = subst (λ (j : Kind). IsWay p j m w) (same_kind there pawn) way in
    ap (passed_after p m) (sym (two_double p m w t path).0)

-- the square that it passes is on the board
two_ahead : (c : Color) (r : ℕ) → rank r ≡ home_rank c → HasAhead c 1 r
two_ahead White r h = omega arith
two_ahead Black r h = omega arith

pub passed_on_board : (p : State) (m : Move) → IsLegal p m → Stands p.board p.side Pawn m.from → TwoRanks m → HasAhead p.side 1 m.from
unfolding Step
passed_on_board p m (q, ((k, w, on, there, way, e), safe)) pawn t =
    let path : IsWay p Pawn m w = subst (λ (j : Kind). IsWay p j m w) (same_kind there pawn) way in
    two_ahead p.side m.from (two_double p m w t path).1.home

pub common_legal : (p : State) (m : Move) (o : Option ℕ) (r : State) → IsPosition p → IsLegal p m → m.promotion ≡ None → p.rights ≡ rights_after p.rights m → ((v : Wing) → holds p.rights p.side v ≡ true → m.from ≢ king_home p.side) → p.passed ≢ Some m.to → ((k : Kind) (w : StepKind) → Stands p.board p.side k m.from → IsWay p k m w → o ≡ passed_after p m w) → r ≡ parts (relocated p.board m.from m.to) (other p.side) p.rights o → Legal p m r × IsPosition r
unfolding Step
common_legal p m o r pos (q, ((k, w, on, there, way, e), safe)) n a h f passed is =
    let made : r ≡ after p m w = is ∙ ap (parts (relocated p.board m.from m.to) (other p.side) p.rights) (passed k w there way) ∙ common_after p k m w n a h f way in
    let same : q ≡ r = e ∙ sym made in
    subst (λ (s : State). Legal p m s × IsPosition s) same (((k, w, on, there, way, e), safe), step_valid p m q pos (k, w, on, there, way, e) safe)

-- ---- a step that is judged by the king's safety
module _ (p : State) (m : Move) (k : Kind) (w : StepKind) (next : State) (pos : IsPosition p) (on : IsOnBoard m) (there : Stands p.board p.side k m.from) (way : IsWay p k m w) (is : next ≡ after p m w) where
  step : Step p m next
  unfolding Step
  step = (k, w, on, there, way, is)

  pub judged_safe : (b : Bool) → IsTrue b ↔ InCheck next.board p.side → b ≡ false → IsPosition next × ((r : State) → (next ≡ r) ↔ Legal p m r)
  judged_safe b h e =
      let safe : InCheck next.board p.side → ⊥ = λ c. (let t : b ≡ true = h.1 c in cc) in
      let legal : Legal p m next = (step, safe) in (
        step_valid p m next pos step safe,
        λ r. ((λ f. subst (λ (x : State). Legal p m x) f legal), (λ l. one_step p m next r pos.passing step l.0)),
      )

  pub judged_unsafe : (b : Bool) → IsTrue b ↔ InCheck next.board p.side → b ≡ true → IsCause p m LeavesCheck × ((r : State) → ¬ Legal p m r)
  judged_unsafe b h e =
      let cause : IsCause p m LeavesCheck = (next, step, h.0 e) in
      (cause, λ r l. cause_refutes p m LeavesCheck r pos.passing cause l)
