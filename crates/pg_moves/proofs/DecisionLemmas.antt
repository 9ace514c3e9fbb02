-- What the rules of chess say can be decided: antt has no excluded middle.
use Rattle.pg_moves.proofs.Common.{◌≡◌, ℕ, suc, ◌+◌, ◌⊎◌, inl, inr, Some, None, refl, subst, Color, White, Black, Kind, Pawn, Knight, Bishop, Rook, Queen, King, KingSide, QueenSide, State, Move, StepKind, Plain, Capture, DoubleAdvance, EnPassant, Promotion, Castling, get, file, rank, other, man, apart, IsForward, OnOneLine, OnOneDiagonal, InPattern, IsWithin, IsBetween, IsClear, Reaches, AttacksFrom, Attacks, Stands, InCheck, holds, IsEnemy, Goes, MustPromote, IsWay, after, IsOnBoard, Step, Legal, king_home, rook_home, ahead, home_rank, last_rank, king_crossed, king_target}
use Rattle.pg_board.specs.Placement.{Placement as Board}
use Rattle.pg_board.specs.lemmas.Decisions.{dec_along, dec_and, dec_and3, dec_and4, dec_and5, dec_or, dec_not, dec_implies, dec_equal, dec_at_most, dec_some_below, dec_all_below, dec_true, dec_option, dec_kind, dec_kinds, dec_get}

-- 1 ways

pub dec_ways : (P : StepKind → Type 0) → ((w : StepKind) → Dec (P w)) → Dec ((w : StepKind) × P w)
dec_ways P dec = dec_along out back (dec_or (dec Plain) (dec_or (dec Capture) (dec_or (dec DoubleAdvance) (dec_or (dec EnPassant) (dec_or (dec (Castling KingSide)) (dec_or (dec (Castling QueenSide)) (dec_kinds (λ x. P (Promotion x)) (λ x. dec (Promotion x)))))))))
  where
    out : P Plain ⊎ (P Capture ⊎ (P DoubleAdvance ⊎ (P EnPassant ⊎ (P (Castling KingSide) ⊎ (P (Castling QueenSide) ⊎ ((x : Kind) × P (Promotion x))))))) → (w : StepKind) × P w
    out (inl h) = (Plain, h)
    out (inr (inl h)) = (Capture, h)
    out (inr (inr (inl h))) = (DoubleAdvance, h)
    out (inr (inr (inr (inl h)))) = (EnPassant, h)
    out (inr (inr (inr (inr (inl h))))) = (Castling KingSide, h)
    out (inr (inr (inr (inr (inr (inl h)))))) = (Castling QueenSide, h)
    out (inr (inr (inr (inr (inr (inr h)))))) = (Promotion h.0, h.1)

    back : ((w : StepKind) × P w) → P Plain ⊎ (P Capture ⊎ (P DoubleAdvance ⊎ (P EnPassant ⊎ (P (Castling KingSide) ⊎ (P (Castling QueenSide) ⊎ ((x : Kind) × P (Promotion x)))))))
    back (Plain, h) = inl h
    back (Capture, h) = inr (inl h)
    back (DoubleAdvance, h) = inr (inr (inl h))
    back (EnPassant, h) = inr (inr (inr (inl h)))
    back (Castling KingSide, h) = inr (inr (inr (inr (inl h))))
    back (Castling QueenSide, h) = inr (inr (inr (inr (inr (inl h)))))
    back (Promotion x, h) = inr (inr (inr (inr (inr (inr (x, h))))))

-- 2 squares and patterns

dec_forward : (c : Color) (n r s : ℕ) → Dec (IsForward c n r s)
dec_forward White n r s = dec_equal (rank s) (rank r + n)
dec_forward Black n r s = dec_equal (rank r) (rank s + n)

dec_line : (r s : ℕ) → Dec (OnOneLine r s)
dec_line r s = dec_or (dec_equal (file r) (file s)) (dec_equal (rank r) (rank s))

dec_diagonal : (r s : ℕ) → Dec (OnOneDiagonal r s)
dec_diagonal r s = dec_equal (apart (file r) (file s)) (apart (rank r) (rank s))

pub dec_pattern : (c : Color) (k : Kind) (r s : ℕ) → Dec (InPattern c k r s)
unfolding InPattern
dec_pattern c Pawn r s = dec_and (dec_equal (apart (file r) (file s)) 1) (dec_forward c 1 r s)
dec_pattern c Knight r s = dec_or (dec_and (dec_equal (apart (file r) (file s)) 1) (dec_equal (apart (rank r) (rank s)) 2)) (dec_and (dec_equal (apart (file r) (file s)) 2) (dec_equal (apart (rank r) (rank s)) 1))
dec_pattern c Bishop r s = dec_and (dec_not (dec_equal r s)) (dec_diagonal r s)
dec_pattern c Rook r s = dec_and (dec_not (dec_equal r s)) (dec_line r s)
dec_pattern c Queen r s = dec_and (dec_not (dec_equal r s)) (dec_or (dec_line r s) (dec_diagonal r s))
dec_pattern c King r s = dec_and3 (dec_not (dec_equal r s)) (dec_at_most (apart (file r) (file s)) 1) (dec_at_most (apart (rank r) (rank s)) 1)

dec_within : (a b c : ℕ) → Dec (IsWithin a b c)
dec_within a b c = dec_equal (apart a b + apart b c) (apart a c)

pub dec_between : (r t s : ℕ) → Dec (IsBetween r t s)
unfolding IsBetween
dec_between r t s = dec_and5 (dec_not (dec_equal t r)) (dec_not (dec_equal t s)) (dec_within (file r) (file t) (file s)) (dec_within (rank r) (rank t) (rank s)) (dec_or (dec_line r s) (dec_and (dec_diagonal r t) (dec_diagonal r s)))

-- 3 boards

pub dec_clear : (b : Board) (r s : ℕ) → Dec (IsClear b r s)
unfolding IsClear
dec_clear b r s = dec_all_below (λ t. IsBetween r t s → get b t ≡ None) (λ t. dec_implies (dec_between r t s) (dec_get b t None)) 64

dec_reaches : (b : Board) (c : Color) (k : Kind) (r s : ℕ) → Dec (Reaches b c k r s)
dec_reaches b c k r s = dec_and (dec_pattern c k r s) (dec_clear b r s)

dec_attacks_from : (b : Board) (c : Color) (r s : ℕ) → Dec (AttacksFrom b c r s)
unfolding AttacksFrom
dec_attacks_from b c r s = dec_along (λ h. (h.0, h.1.0, h.1.1)) (λ h. (h.0, (h.1, h.2)))
    (dec_kinds (λ k. (get b r ≡ Some (man c k)) × Reaches b c k r s) (λ k. dec_and (dec_get b r (Some (man c k))) (dec_reaches b c k r s)))

pub dec_attacks : (b : Board) (c : Color) (s : ℕ) → Dec (Attacks b c s)
unfolding Attacks
dec_attacks b c s = dec_some_below (λ r. AttacksFrom b c r s) (λ r. dec_attacks_from b c r s) 64

pub dec_check : (b : Board) (c : Color) → Dec (InCheck b c)
unfolding InCheck
dec_check b c = dec_along (λ h. (h.0, h.1, h.2.0, h.2.1)) (λ h. (h.0, h.1, (h.2, h.3)))
    (dec_some_below (λ k. Stands b c King k × Attacks b (other c) k) (λ k. dec_and (dec_get b k (Some (man c King))) (dec_attacks b (other c) k)) 64)

-- 4 steps

dec_enemy : (b : Board) (c : Color) (s : ℕ) → Dec (IsEnemy b c s)
unfolding IsEnemy
dec_enemy b c s = dec_kinds (λ k. Stands b (other c) k s) (λ k. dec_get b s (Some (man (other c) k)))

dec_goes : (b : Board) (c : Color) (k : Kind) (r s : ℕ) → Dec (Goes b c k r s)
unfolding Goes
dec_goes b c Pawn r s = dec_and (dec_equal (file r) (file s)) (dec_forward c 1 r s)
dec_goes b c Knight r s = dec_reaches b c Knight r s
dec_goes b c Bishop r s = dec_reaches b c Bishop r s
dec_goes b c Rook r s = dec_reaches b c Rook r s
dec_goes b c Queen r s = dec_reaches b c Queen r s
dec_goes b c King r s = dec_reaches b c King r s

dec_must : (k : Kind) (c : Color) (s : ℕ) → Dec (MustPromote k c s)
dec_must k c s = dec_and (dec_kind k Pawn) (dec_equal (rank s) (last_rank c))

pub dec_way : (p : State) (k : Kind) (m : Move) (w : StepKind) → Dec (IsWay p k m w)
dec_way p k m Plain = dec_along (λ h. record { unpromoted = h.0; stays = h.1; vacant = h.2; goes = h.3 }) (λ h. (h.unpromoted, h.stays, h.vacant, h.goes))
    (dec_and4 (dec_option dec_kind m.promotion None) (dec_not (dec_must k p.side m.to)) (dec_get p.board m.to None) (dec_goes p.board p.side k m.from m.to))
dec_way p k m Capture = dec_along (λ h. record { unpromoted = h.0; stays = h.1; enemy = h.2; reaches = h.3 }) (λ h. (h.unpromoted, h.stays, h.enemy, h.reaches))
    (dec_and4 (dec_option dec_kind m.promotion None) (dec_not (dec_must k p.side m.to)) (dec_enemy p.board p.side m.to) (dec_reaches p.board p.side k m.from m.to))
dec_way p k m DoubleAdvance = dec_along (λ h. record { unpromoted = h.0; pawn = h.1.0; home = h.1.1; two = h.1.2; crossed = h.1.3; vacant = h.1.4 }) (λ h. (h.unpromoted, (h.pawn, h.home, h.two, h.crossed, h.vacant)))
    (dec_and (dec_option dec_kind m.promotion None) (dec_and5 (dec_kind k Pawn) (dec_equal (rank m.from) (home_rank p.side)) (dec_equal m.to (ahead p.side 2 m.from)) (dec_get p.board (ahead p.side 1 m.from) None) (dec_get p.board m.to None)))
dec_way p k m EnPassant = dec_along (λ h. record { unpromoted = h.0; pawn = h.1; passed = h.2; reaches = h.3 }) (λ h. (h.unpromoted, h.pawn, h.passed, h.reaches))
    (dec_and4 (dec_option dec_kind m.promotion None) (dec_kind k Pawn) (dec_option dec_equal p.passed (Some m.to)) (dec_pattern p.side Pawn m.from m.to))
dec_way p k m (Promotion x) = dec_along (λ h. record { promoted = h.0; piece = h.1; must = h.2; moves = h.3 }) (λ h. (h.promoted, h.piece, h.must, h.moves))
    (dec_and4 (dec_option dec_kind m.promotion (Some x)) (dec_and (dec_not (dec_kind x Pawn)) (dec_not (dec_kind x King))) (dec_must k p.side m.to) (dec_or (dec_and (dec_get p.board m.to None) (dec_goes p.board p.side k m.from m.to)) (dec_and (dec_enemy p.board p.side m.to) (dec_reaches p.board p.side k m.from m.to))))
dec_way p k m (Castling w) = dec_along (λ h. record { unpromoted = h.0.0; king = h.0.1; home = h.0.2; target = h.0.3; right = h.1.0; clear = h.1.1; safe_home = h.1.2; safe_crossed = h.1.3; safe_target = h.1.4 }) (λ h. ((h.unpromoted, h.king, h.home, h.target), (h.right, h.clear, h.safe_home, h.safe_crossed, h.safe_target)))
    (dec_and (dec_and4 (dec_option dec_kind m.promotion None) (dec_kind k King) (dec_equal m.from (king_home p.side)) (dec_equal m.to (king_target p.side w))) (dec_and5 (dec_true (holds p.rights p.side w)) (dec_clear p.board (king_home p.side) (rook_home p.side w)) (dec_not (dec_attacks p.board (other p.side) (king_home p.side))) (dec_not (dec_attacks p.board (other p.side) (king_crossed p.side w))) (dec_not (dec_attacks p.board (other p.side) (king_target p.side w)))))

-- a legal move, in a form with no state to look for
LegalBy : State → Move → Kind → StepKind → Type 0
LegalBy p m k w = (IsOnBoard m × Stands p.board p.side k m.from) × (IsWay p k m w × ¬ InCheck (after p m w).board p.side)

legal_out : (p : State) (m : Move) → ((k : Kind) × (w : StepKind) × LegalBy p m k w) → (q : State) × Legal p m q
unfolding LegalBy Step
legal_out p m (k, w, h) = (after p m w, ((k, w, h.0.0, h.0.1, h.1.0, refl), h.1.1))

legal_back : (p : State) (m : Move) → ((q : State) × Legal p m q) → (k : Kind) × (w : StepKind) × LegalBy p m k w
unfolding LegalBy Step
legal_back p m (q, ((k, w, on, stands, way, e), safe)) = (k, w, ((on, stands), (way, subst (λ (x : State). ¬ InCheck x.board p.side) e safe)))

dec_legal_by : (p : State) (m : Move) (k : Kind) (w : StepKind) → Dec (LegalBy p m k w)
unfolding LegalBy
dec_legal_by p m k w = dec_and (dec_and (dec_and (dec_at_most (suc m.from) 64) (dec_at_most (suc m.to) 64)) (dec_get p.board m.from (Some (man p.side k)))) (dec_and (dec_way p k m w) (dec_not (dec_check (after p m w).board p.side)))

-- for every state, position or not
pub dec_legal : (p : State) (m : Move) → Dec ((q : State) × Legal p m q)
dec_legal p m = dec_along (λ h. legal_out p m (h.0, h.1.0, h.1.1)) (λ h. let g : (k : Kind) × (w : StepKind) × LegalBy p m k w = legal_back p m h in (g.0, (g.1, g.2)))
    (dec_kinds (λ k. (w : StepKind) × LegalBy p m k w) (λ k. dec_ways (λ w. LegalBy p m k w) (λ w. dec_legal_by p m k w)))
