-- The sets of squares to which men may go.
use Rattle.pg_moves.proofs.Common.{◌≡◌, ◌≢◌, ℕ, ◌<◌, ◌⊎◌, inl, inr, ◌↔◌, ◌&&◌, ◌||◌, not, Option, Some, None, refl, sym, ap, ◌∙◌, subst, arith, Decides, Decides-at, Color, White, Black, Kind, Pawn, Knight, Bishop, Rook, Queen, King, Man, file, rank, man, other, is_of, is_held, of_decides, Placement, get, has, State, Move, StepKind, Plain, Capture, DoubleAdvance, EnPassant, Promotion, Castling, IsForward, InPattern, IsClear, Reaches, IsSetOf, Stands, IsVacant, IsLegal, IsEnemy, Goes, IsWay, Step, ahead, HasAhead, home_rank, same_kind, same_side, not_other, pawn_near, set_like, set_of_union, set_of_both, set_of_rest, set_none, IsOwn, Strides, Leaps, Advances, CapturesEnPassant}

-- ---- what stands on a square
held_decides : (o : Option Man) → Decides (is_held o) (o ≢ None)
held_decides None = (λ e. absurd (cc), λ h. absurd (h refl))
held_decides (Some m) = (λ _ e. cc, λ _. refl)

module _ (b : Placement) (n : ℕ) where
  pub own_set : (c : Color) → ((q : ℕ) → q < 64 → has n q ≡ is_of c (get b q)) → IsSetOf n (IsOwn b c)
  unfolding IsOwn
  own_set c h q l = Decides-at _ _ (h q l) (of_decides c (get b q))

  pub enemy_set : (c : Color) → ((q : ℕ) → q < 64 → has n q ≡ is_of (other c) (get b q)) → IsSetOf n (IsEnemy b c)
  unfolding IsEnemy
  enemy_set c h q l = Decides-at _ _ (h q l) (of_decides (other c) (get b q))

  pub held_set : ((q : ℕ) → q < 64 → has n q ≡ is_held (get b q)) → IsSetOf n (λ q. get b q ≢ None)
  held_set h q l = Decides-at _ _ (h q l) (held_decides (get b q))

-- a square is empty, or a man of one's own or of the other colour stands there
vacant_else : (o : Option Man) → (o ≢ None → ⊥) → o ≡ None
vacant_else None h = refl
vacant_else (Some m) h = absurd (h (λ e. cc))

who : (c : Color) (o : Option Man) → (o ≡ None) ⊎ (((k : Kind) × (o ≡ Some (man c k))) ⊎ ((k : Kind) × (o ≡ Some (man (other c) k))))
who c None = inl refl
who White (Some m) = elim m.color as (λ x. m.color ≡ x → (Some m ≡ None) ⊎ (((k : Kind) × (Some m ≡ Some (man White k))) ⊎ ((k : Kind) × (Some m ≡ Some (man Black k))))) [
  | White ↦ λ e. inr (inl (m.kind, λ i. Some (record { color = e i; kind = m.kind })))
  | Black ↦ λ e. inr (inr (m.kind, λ i. Some (record { color = e i; kind = m.kind })))
] refl
who Black (Some m) = elim m.color as (λ x. m.color ≡ x → (Some m ≡ None) ⊎ (((k : Kind) × (Some m ≡ Some (man Black k))) ⊎ ((k : Kind) × (Some m ≡ Some (man White k))))) [
  | White ↦ λ e. inr (inr (m.kind, λ i. Some (record { color = e i; kind = m.kind })))
  | Black ↦ λ e. inr (inl (m.kind, λ i. Some (record { color = e i; kind = m.kind })))
] refl

-- ---- strides
pub pawn_set : (b : Placement) (c : Color) (r reached enemies front held taken forth all : ℕ)
    → IsSetOf reached (Reaches b c Pawn r) → ((q : ℕ) → q < 64 → has enemies q ≡ is_of (other c) (get b q))
    → IsSetOf front (λ q. (file r ≡ file q) × IsForward c 1 r q) → ((q : ℕ) → q < 64 → has held q ≡ is_held (get b q))
    → ((q : ℕ) → has taken q ≡ has reached q && has enemies q) → ((q : ℕ) → q < 64 → has forth q ≡ has front q && not (has held q)) → ((q : ℕ) → has all q ≡ has taken q || has forth q)
    → IsSetOf all (Strides b c Pawn r)
unfolding Strides Goes
pawn_set b c r reached enemies front held taken forth all x e f h both rest either = set_like all
    (λ q _ s. elim s [ inl t ↦ inr (t.1, t.0) | inr t ↦ inl (vacant_else (get b q) t.1, t.0) ])
    (λ q _ s. elim s [ inl t ↦ inr (t.1, λ n. n t.0) | inr t ↦ inl (t.1, t.0) ])
    (set_of_union all taken forth either (set_of_both taken reached enemies both x (enemy_set b enemies c e)) (set_of_rest forth front held rest f (held_set b held h)))

goes_piece : (b : Placement) (c : Color) (k : Kind) (r s : ℕ) → k ≢ Pawn → Goes b c k r s ↔ Reaches b c k r s
unfolding Goes
goes_piece b c Pawn r s n = absurd (n refl)
goes_piece b c Knight r s n = (λ h. h, λ h. h)
goes_piece b c Bishop r s n = (λ h. h, λ h. h)
goes_piece b c Rook r s n = (λ h. h, λ h. h)
goes_piece b c Queen r s n = (λ h. h, λ h. h)
goes_piece b c King r s n = (λ h. h, λ h. h)

pub not_own : (b : Placement) (c : Color) (k : Kind) (r s : ℕ) → Strides b c k r s → ¬ IsOwn b c s
unfolding Strides IsOwn IsEnemy
not_own b c k r s (inl h) (j, own) = let e : get b s ≡ None = h.0 in let f : get b s ≡ Some (man c j) = own in absurd (cc)
not_own b c k r s (inr h) (j, own) = not_other c (same_side own h.0.1)

pub piece_set : (b : Placement) (c : Color) (k : Kind) (r reached own all : ℕ) → k ≢ Pawn
    → IsSetOf reached (Reaches b c k r) → ((q : ℕ) → q < 64 → has own q ≡ is_of c (get b q))
    → ((q : ℕ) → q < 64 → has all q ≡ has reached q && not (has own q)) → IsSetOf all (Strides b c k r)
unfolding Strides IsOwn IsEnemy
piece_set b c k r reached own all n x h rest = set_like all forth back (set_of_rest all reached own rest x (own_set b own c h))
  where
    forth : (q : ℕ) → q < 64 → Reaches b c k r q × ¬ IsOwn b c q → Strides b c k r q
    forth q _ s = elim (who c (get b q)) [
      | inl e ↦ inl (e, (goes_piece b c k r q n).1 s.0)
      | inr (inl o) ↦ absurd (s.1 o)
      | inr (inr o) ↦ inr (o, s.0)
    ]

    back : (q : ℕ) → q < 64 → Strides b c k r q → Reaches b c k r q × ¬ IsOwn b c q
    back q _ s = (elim s [ inl t ↦ (goes_piece b c k r q n).0 t.1 | inr t ↦ t.1 ], not_own b c k r q s)

-- the square in front of a man that has one, and of a man that has none
pub front_set : (c : Color) (r s n : ℕ) → r < 64 → HasAhead c 1 r → s ≡ ahead c 1 r → IsSetOf n (λ q. q ≡ s) → IsSetOf n (λ q. (file r ≡ file q) × IsForward c 1 r q)
front_set White r s n low h e set = set_like n (λ q l f. (omega arith, omega arith)) (λ q l (f, g). omega arith) set
front_set Black r s n low h e set = set_like n (λ q l f. (omega arith, omega arith)) (λ q l (f, g). omega arith) set

pub front_none : (c : Color) (r : ℕ) → ¬ HasAhead c 1 r → IsSetOf 0 (λ q. (file r ≡ file q) × IsForward c 1 r q)
front_none White r h = set_none (λ q l (f, g). h (omega arith))
front_none Black r h = set_none (λ q l (f, g). h (omega arith))

pub leap_set : (b : Placement) (c : Color) (r s n : ℕ) → (rank r ≡ home_rank c) × IsVacant b (ahead c 1 r) × IsVacant b (ahead c 2 r) → s ≡ ahead c 2 r → IsSetOf n (λ q. q ≡ s) → IsSetOf n (Leaps b c r)
unfolding Leaps
leap_set b c r s n h e set = set_like n (λ q _ f. (h.0, f ∙ e, h.1, rw (f ∙ e) h.2)) (λ q _ l. l.1 ∙ sym e) set

pub leap_none : (b : Placement) (c : Color) (r : ℕ) → ¬ ((rank r ≡ home_rank c) × IsVacant b (ahead c 1 r) × IsVacant b (ahead c 2 r)) → IsSetOf 0 (Leaps b c r)
unfolding Leaps
leap_none b c r h = set_none (λ q _ l. h (l.0, l.2, rw (← l.1) l.3))

pub advance_pawn : (b : Placement) (c : Color) (k : Kind) (r x y n : ℕ) → k ≡ Pawn → IsSetOf x (Strides b c Pawn r) → IsSetOf y (Leaps b c r) → ((q : ℕ) → has n q ≡ has x q || has y q) → IsSetOf n (Advances b c k r)
unfolding Advances
advance_pawn b c k r x y n e s l either = set_like n
    (λ q _ h. elim h [ inl t ↦ inl (rw e t) | inr t ↦ inr (e, t) ])
    (λ q _ h. elim h [ inl t ↦ inl (rw e at t) | inr t ↦ inr t.1 ])
    (set_of_union n x y either s l)

pub advance_piece : (b : Placement) (c : Color) (k : Kind) (r x : ℕ) → k ≢ Pawn → IsSetOf x (Strides b c k r) → IsSetOf x (Advances b c k r)
unfolding Advances
advance_piece b c k r x n s = set_like x (λ q _ h. inl h) (λ q _ h. elim h [ inl t ↦ t | inr t ↦ absurd (n t.0) ]) s

-- ---- en passant and castling
pub en_passant_set : (p : State) (b : Placement) (c : Color) (r s x y n : ℕ) → p.side ≡ c → p.passed ≡ Some s → IsSetOf x (Reaches b c Pawn r) → IsSetOf y (λ q. q ≡ s) → ((q : ℕ) → has n q ≡ has x q && has y q) → IsSetOf n (CapturesEnPassant p r)
unfolding CapturesEnPassant IsClear
en_passant_set p b c r s x y n e f g h both = set_like n
    (λ q _ t. (f ∙ ap Some (sym t.1), rw e t.0.0))
    (λ q _ t. let way : InPattern c Pawn r q = rw e at t.1 in let same : q ≡ s = (let a : p.passed ≡ Some q = t.0 in cc) in ((way, λ u l bet. absurd (pawn_near c r u q way bet)), same))
    (set_of_both n x y both g h)

pub en_passant_none : (p : State) (r : ℕ) → p.passed ≡ None → IsSetOf 0 (CapturesEnPassant p r)
unfolding CapturesEnPassant
en_passant_none p r e = set_none (λ q _ t. let a : p.passed ≡ Some q = t.0 in cc)

-- ---- each legal move is an advance, or en passant, or a king's
unfoldable pub Goals : State → Kind → ℕ → ℕ → Type 0
Goals p k r s = Advances p.board p.side k r s ⊎ (((k ≡ Pawn) × CapturesEnPassant p r s) ⊎ (k ≡ King))

goals : (p : State) (k : Kind) (m : Move) (w : StepKind) → IsWay p k m w → Goals p k m.from m.to
unfolding Goals Advances Strides Leaps CapturesEnPassant
goals p k m Plain h = inl (inl (inl (h.vacant, h.goes)))
goals p k m Capture h = inl (inl (inr (h.enemy, h.reaches)))
goals p k m DoubleAdvance h = inl (inr (h.pawn, (h.home, h.two, h.crossed, h.vacant)))
goals p k m EnPassant h = inr (inl (h.pawn, (h.passed, h.reaches)))
goals p k m (Promotion x) h = inl (inl h.moves)
goals p k m (Castling w) h = inr (inr h.king)

module _ (p : State) (k : Kind) (r : ℕ) (here : Stands p.board p.side k r) where
  pub legal_goals : (m : Move) → IsLegal p m → m.from ≡ r → (m.to < 64) × Goals p k r m.to
  unfolding Step
  legal_goals m (q, ((j, w, on, stands, way, e), safe)) f =
      let there : Stands p.board p.side j r = subst (λ (s : ℕ). Stands p.board p.side j s) f stands in
      let same : j ≡ k = same_kind there here in
      (on.1, subst (λ (s : ℕ). Goals p k s m.to) f (subst (λ (x : Kind). Goals p x m.from m.to) same (goals p j m w way)))
