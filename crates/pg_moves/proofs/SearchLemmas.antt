-- The steps of a search for the next legal move.
use Rattle.pg_moves.proofs.Common.{◌≡◌, ◌≢◌, ℕ, suc, ◌+◌, ◌<◌, ◌≤◌, ◌⊎◌, inl, inr, Option, Some, None, MatchOption, Bool, true, false, IsTrue, refl, sym, ap, subst, arith, ◌∙◌, Less, Equal, tied_itself, eqb_tells, leb_tells, State, Move, Stands, IsPassed, IsPosition, Color, White, Black, Kind, Pawn, Knight, Bishop, Rook, Queen, King, StepKind, Plain, Capture, DoubleAdvance, EnPassant, Promotion, Castling, rank, Man, has, man, is_of, Placement, get, IsLegal, IsOnBoard, IsWay, IsPiece, MustPromote, Step, ahead, passed_rank, home_rank, last_rank, same_kind, HasNoneFrom, IsFirstFrom, promotion_number, move_cmp, IsPast, IsNext, IsLast, place_of, start_after, place, NoneFrom, IsFirstMove, IsOwn, Covers}
use Rattle.pg_moves.proofs.TargetLemmas.{own_set}
use Rattle.pg_moves.proofs.PlaceLemmas.{move_cmp_total, promotion_low, place_less, same_place, place_low}
use Rattle.pg_moves.proofs.ListLemmas.{on_board}

pub none_yet : (p : State) (low high : ℕ) → high ≤ low → NoneFrom p low high
none_yet p low high h m l g = omega arith

-- the move of the next place isn't legal
pub none_more : (p : State) (low n : ℕ) (m : Move) → NoneFrom p low n → (IsLegal p m → ⊥) → m.to < 64 → place m ≡ n → NoneFrom p low (n + 1)
none_more p low n m none illegal s e x l h = elim (eqb_tells (place x) n) [
  | inl w ↦ absurd (illegal (subst (λ (z : Move). IsLegal p z) (same_place x m (on_board p x l).1 s (w.1 ∙ sym e)) l))
  | inr w ↦ (let le : n ≤ place x = none x l h in let ne : place x ≢ n = w.1 in omega arith)
]

-- a block of places after those that are searched, from its start or from low
pub none_block : (p : State) (low n k high : ℕ) → NoneFrom p low n → NoneFrom p k high → k ≤ low ⊎ (k ≡ n) → NoneFrom p low high
none_block p low n k high a b (inl g) x l h = b x l (omega arith)
none_block p low n k high a b (inr g) x l h = b x l (let le : n ≤ place x = a x l h in omega arith)

pub mover_is : (p : State) (m : Move) → IsLegal p m → IsOwn p.board p.side m.from
unfolding Step IsOwn
mover_is p m (q, ((k, w, on, stands, way, e), safe)) = (k, stands)

-- found in a block
pub first_block : (p : State) (low n k mid high : ℕ) (m : Move) → NoneFrom p low n → IsFirstMove p k mid m → low ≤ k → (k ≤ low) ⊎ (k ≡ n) → mid ≤ high → IsFirstMove p low high m
first_block p low n k mid high m a f le g up = record {
  legal = f.legal;
  from_low = (let h : k ≤ place m = f.from_low in omega arith);
  to_high = (let h : place m < mid = f.to_high in omega arith);
  first = none_block p low n k (place m) a f.first g;
}

-- the order of legal moves is that of their places
pub less_place : (a b : Move) → IsOnBoard a → IsOnBoard b → move_cmp a b ≡ Less → place a < place b
less_place a b x y h = elim (leb_tells (suc (place a)) (place b)) [
  | inl w ↦ w.1
  | inr w ↦ elim (eqb_tells (place a) (place b)) [
    | inl v ↦ absurd (let same : a ≡ b = same_place a b x.1 y.1 v.1 in let less : move_cmp a a ≡ Less = subst (λ (z : Move). move_cmp a z ≡ Less) (sym same) h in let tie : move_cmp a a ≡ Equal = tied_itself move_cmp_total a in let both : Less ≡ Equal = sym less ∙ tie in cc)
    | inr v ↦ absurd (let low : place b < place a = (let u : place b < suc (place a) = w.1 in let ne : place a ≢ place b = v.1 in omega arith) in let back : move_cmp b a ≡ Less = place_less b a y.1 x.1 low in let less : move_cmp a a ≡ Less = move_cmp_total.trans a b a h back in let tie : move_cmp a a ≡ Equal = tied_itself move_cmp_total a in let both : Less ≡ Equal = sym less ∙ tie in cc)
  ]
]

-- both squares are on the board
abbrev pub IsGood : Option Move → Type 0
IsGood None = Unit {0}
IsGood (Some a) = IsOnBoard a

past_start : (p : State) (after : Option Move) (m : Move) → IsGood after → IsLegal p m → IsPast after m → start_after after ≤ place m
past_start p None m good l h = omega arith
past_start p (Some a) m good l h = let low : place a < place m = less_place a m good (on_board p m l) h in omega arith

start_past : (p : State) (after : Option Move) (m : Move) → IsGood after → IsLegal p m → start_after after ≤ place m → IsPast after m
start_past p None m good l h = tt
start_past p (Some a) m good l h = place_less a m good.1 (on_board p m l).1 (omega arith)

pub next_found : (p : State) (after : Option Move) (m : Move) → IsGood after → IsFirstMove p (start_after after) 28672 m → IsNext p after m
next_found p after m good f = record {
  legal = f.legal;
  past = start_past p after m good f.legal f.from_low;
  first = λ n l h. (let le : place m ≤ place n = f.first n l (past_start p after n good l h) in elim (eqb_tells (place m) (place n)) [
    | inl w ↦ inl (same_place m n (on_board p m f.legal).1 (on_board p n l).1 w.1)
    | inr w ↦ inr (place_less m n (on_board p m f.legal).1 (on_board p n l).1 (let ne : place m ≢ place n = w.1 in omega arith))
  ]);
}

pub next_none : (p : State) (after : Option Move) → IsGood after → NoneFrom p (start_after after) 28672 → IsLast p after
next_none p after good none m l h = let far : 28672 ≤ place m = none m l (past_start p after m good l h) in let low : place m < 28672 = place_low m (on_board p m l) in omega arith

pub start_low : (after : Option Move) → IsGood after → start_after after ≤ 28672
start_low None good = omega arith
start_low (Some a) good = let low : place a < 28672 = place_low a good in omega arith

pub found_next : (p : State) (after : Option Move) (m : Move) → IsGood after → IsNext p after m → IsFirstMove p (start_after after) 28672 m
found_next p after m good n = record {
  legal = n.legal;
  from_low = past_start p after m good n.legal n.past;
  to_high = place_low m (on_board p m n.legal);
  first = λ x l h. elim (n.first x l (start_past p after x good l h)) [
    | inl e ↦ (let same : place m ≡ place x = ap place e in omega arith)
    | inr b ↦ (let less : place m < place x = less_place m x (on_board p m n.legal) (on_board p x l) b in omega arith)
  ];
}

pub none_next : (p : State) (after : Option Move) → IsGood after → IsLast p after → NoneFrom p (start_after after) 28672
none_next p after good last m l h = absurd (last m l (start_past p after m good l h))

none_one : (p : State) (n : ℕ) (m : Move) → (IsLegal p m → ⊥) → m.to < 64 → place m ≡ n → NoneFrom p n (n + 1)
none_one p n m illegal s e = none_more p n n m (λ x l h. h) illegal s e

pub none_here : (p : State) (r s n : ℕ) (m : Move) → (IsLegal p m → ⊥) → m.to < 64 → place m ≡ place_of r s n → NoneFrom p (place_of r s n) (place_of r s (n + 1))
none_here p r s n m illegal low e = let same : place_of r s n + 1 ≡ place_of r s (n + 1) = omega arith in subst (λ k. NoneFrom p (place_of r s n) k) same (none_one p (place_of r s n) m illegal low e)

pub not_both : {b : Bool} → IsTrue b → b ≡ false → ⊥
not_both h e = let both : true ≡ false = sym h ∙ e in cc

pub next_answer : (p : State) (after a : Option Move) (low : ℕ) (r : Option Move) → after ≡ a → IsGood a → low ≡ start_after a → MatchOption r (NoneFrom p low 28672) (λ m. IsFirstMove p low 28672 m) → MatchOption r (IsLast p after) (λ m. IsNext p after m)
next_answer p after a low None is good e h = subst (λ x. IsLast p x) (sym is) (next_none p a good (subst (λ n. NoneFrom p n 28672) e h))
next_answer p after a low (Some m) is good e h = subst (λ x. IsNext p x m) (sym is) (next_found p a m good (subst (λ n. IsFirstMove p n 28672 m) e h))

-- 3 only a pawn that comes to its last rank promotes

pub promotes : (p : State) (m : Move) → IsLegal p m → (m.promotion ≡ None) ⊎ (Stands p.board p.side Pawn m.from × (rank m.to ≡ last_rank p.side))
unfolding Step
promotes p m (q, ((k, w, on, stands, way, e), safe)) = go w way
  where
    go : (v : StepKind) → IsWay p k m v → (m.promotion ≡ None) ⊎ (Stands p.board p.side Pawn m.from × (rank m.to ≡ last_rank p.side))
    go Plain h = inl h.unpromoted
    go Capture h = inl h.unpromoted
    go DoubleAdvance h = inl h.unpromoted
    go EnPassant h = inl h.unpromoted
    go (Castling v) h = inl h.unpromoted
    go (Promotion x) h = inr (rw (← h.must.0) stands, h.must.1)

pub leap_last : (c : Color) (r s : ℕ) → s ≡ ahead c 2 r → rank r ≡ home_rank c → rank s ≡ last_rank c → ⊥
leap_last White r s e h l = omega arith
leap_last Black r s e h l = omega arith

passed_last : (c : Color) (s : ℕ) → rank s ≡ passed_rank c → rank s ≡ last_rank c → ⊥
passed_last White s h l = omega arith
passed_last Black s h l = omega arith

piece_number : (x : Kind) → IsPiece x → (2 ≤ promotion_number (Some x)) × (promotion_number (Some x) < 6)
piece_number Pawn h = absurd (h.0 refl)
piece_number Knight h = (omega arith, omega arith)
piece_number Bishop h = (omega arith, omega arith)
piece_number Rook h = (omega arith, omega arith)
piece_number Queen h = (omega arith, omega arith)
piece_number King h = absurd (h.1 refl)

-- a pawn that comes to its last rank becomes a piece
promoted : (p : State) (k : Kind) (m : Move) (w : StepKind) → IsPosition p → IsWay p k m w → MustPromote k p.side m.to → (2 ≤ promotion_number m.promotion) × (promotion_number m.promotion < 6)
unfolding IsPassed
promoted p k m Plain pos h must = absurd (h.stays must)
promoted p k m Capture pos h must = absurd (h.stays must)
promoted p k m DoubleAdvance pos h must = absurd (leap_last p.side m.from m.to h.two h.home must.1)
promoted p k m EnPassant pos h must = absurd (passed_last p.side m.to (pos.passing m.to h.passed).0 must.1)
promoted p k m (Promotion x) pos h must = subst (λ (o : Option Kind). (2 ≤ promotion_number o) × (promotion_number o < 6)) (sym h.promoted) (piece_number x h.piece)
promoted p k m (Castling w) pos h must = absurd (let a : k ≡ King = h.king in let b : k ≡ Pawn = must.0 in cc)

-- the promotions of the moves from r to s, from low up to high
pub none_numbers : (p : State) (r s low high : ℕ) → s < 64 → high ≤ 7 → ((m : Move) → IsLegal p m → m.from ≡ r → m.to ≡ s → low ≤ promotion_number m.promotion → promotion_number m.promotion < high → ⊥) → NoneFrom p (place_of r s low) (place_of r s high)
none_numbers p r s low high on up none x l h = elim (leb_tells (place_of r s high) (place x)) [
  | inl w ↦ w.1
  | inr w ↦ absurd (
      let to : x.to < 64 = (on_board p x l).1 in
      let some : promotion_number x.promotion < 7 = promotion_low x.promotion in
      let near : place x < place_of r s high = w.1 in
      none x l (omega arith) (omega arith) (omega arith) (omega arith))
]

module _ (p : State) (k : Kind) (r s : ℕ) (pos : IsPosition p) (here : Stands p.board p.side k r) (low : s < 64) where
  ranks_must : (m : Move) → MustPromote k p.side s → IsLegal p m → m.from ≡ r → m.to ≡ s → (2 ≤ promotion_number m.promotion) × (promotion_number m.promotion < 6)
  unfolding Step
  ranks_must m must (q, ((j, w, on, stands, way, e), safe)) f t =
      let there : Stands p.board p.side j r = subst (λ (x : ℕ). Stands p.board p.side j x) f stands in
      let same : k ≡ j = same_kind here there in
      promoted p j m w pos way (subst (λ (x : ℕ). MustPromote j p.side x) (sym t) (subst (λ (x : Kind). MustPromote x p.side s) same must))

  pub before_must : MustPromote k p.side s → NoneFrom p (place_of r s 0) (place_of r s 2)
  before_must must = none_numbers p r s 0 2 low (omega arith) (λ m l f t a b. let h : (2 ≤ promotion_number m.promotion) × (promotion_number m.promotion < 6) = ranks_must m must l f t in omega arith)

  pub rest_must : MustPromote k p.side s → NoneFrom p (place_of r s 6) (place_of r s 7)
  rest_must must = none_numbers p r s 6 7 low (omega arith) (λ m l f t a b. let h : (2 ≤ promotion_number m.promotion) × (promotion_number m.promotion < 6) = ranks_must m must l f t in omega arith)

  pub rest_else : ¬ MustPromote k p.side s → NoneFrom p (place_of r s 1) (place_of r s 7)
  rest_else no_pawn = none_numbers p r s 1 7 low (omega arith) (λ m l f t a b. elim (promotes p m l) [
    | inl e ↦ (let none : promotion_number m.promotion ≡ 0 = ap promotion_number e in omega arith)
    | inr g ↦ no_pawn (let there : Stands p.board p.side Pawn r = subst (λ (x : ℕ). Stands p.board p.side Pawn x) f g.0 in same_kind here there, ap rank (sym t) ∙ g.1)
  ])

-- ---- the loops
pub none_then : (p : State) (low a b high : ℕ) → NoneFrom p low a → NoneFrom p b high → b ≤ a → NoneFrom p low high
none_then p low a b high f g le m l h = let far : a ≤ place m = f m l h in g m l (omega arith)

pub stands_own : (b : Placement) (c : Color) (s : ℕ) (m : Man) → IsOwn b c s → get b s ≡ Some m → Stands b c m.kind s
unfolding IsOwn
stands_own b c s m (k, own) e = let same : m ≡ man c k = (let o : get b s ≡ Some (man c k) = own in cc) in let kind : k ≡ m.kind = ap (λ (x : Man). x.kind) (sym same) in subst (λ (x : Kind). Stands b c x s) kind own

pub own_some : (b : Placement) (c : Color) (s : ℕ) → IsOwn b c s → get b s ≡ None → ⊥
unfolding IsOwn
own_some b c s (k, own) e = let o : get b s ≡ Some (man c k) = own in cc

-- no target from one square up to another
target_gap : (p : State) (r set a b : ℕ) → Covers p r set → a ≤ b → b ≤ 64 → ((q : ℕ) → a ≤ q → q < b → has set q ≡ false) → NoneFrom p (place_of r a 0) (place_of r b 0)
unfolding Covers
target_gap p r set a b covers le up none x l h = elim (leb_tells (place_of r b 0) (place x)) [
  | inl w ↦ w.1
  | inr w ↦ absurd (
      let to : x.to < 64 = (on_board p x l).1 in
      let some : promotion_number x.promotion < 7 = promotion_low x.promotion in
      let near : place x < place_of r b 0 = w.1 in
      let f : x.from ≡ r = omega arith in
      let is : has set x.to ≡ true = covers x l f in
      let off : has set x.to ≡ false = none x.to (omega arith) (omega arith) in
      cc)
]

-- no man of the side to move from one square up to another
pub own_gap : (p : State) (set a b : ℕ) → ((q : ℕ) → q < 64 → has set q ≡ is_of p.side (get p.board q)) → a ≤ b → b ≤ 64 → ((q : ℕ) → a ≤ q → q < b → has set q ≡ false) → NoneFrom p (place_of a 0 0) (place_of b 0 0)
own_gap p set a b own le up none x l h = elim (leb_tells (place_of b 0 0) (place x)) [
  | inl w ↦ w.1
  | inr w ↦ absurd (
      let on : IsOnBoard x = on_board p x l in
      let some : promotion_number x.promotion < 7 = promotion_low x.promotion in
      let near : place x < place_of b 0 0 = w.1 in
      let is : has set x.from ≡ true = (own_set p.board set p.side own x.from on.0).1 (mover_is p x l) in
      let off : has set x.from ≡ false = none x.from (omega arith) (omega arith) in
      cc)
]

-- where a man's search goes on at the next target s, from promotion n
record Resumes (p : State) (low here : ℕ) : Type 0 where
  above : low ≤ here
  none : NoneFrom p low here

module _ (p : State) (r set to rank : ℕ) (covers : Covers p r set) where
  target_start : (at s n : ℕ) → to ≤ at → NoneFrom p (place_of r to rank) (place_of r at 0) → IsFirstFrom set at s → (s ≡ to → n ≡ rank) → (s ≢ to → n ≡ 0) → rank ≤ 7 → Resumes p (place_of r to rank) (place_of r s n)
  target_start at s n le none first same later few = elim (eqb_tells s to) [
    | inl w ↦ (let e : s ≡ to = w.1 in let f : n ≡ rank = same e in record { above = omega arith; none = none_yet p _ _ (omega arith) })
    | inr w ↦ (
        let ne : s ≢ to = w.1 in
        let f : n ≡ 0 = later ne in
        let up : at ≤ s = first.reached in
        let on : s < 64 = first.on_board in
        let gap : NoneFrom p (place_of r at 0) (place_of r s 0) = target_gap p r set at s covers up (omega arith) first.before in
        let here : place_of r s 0 ≡ place_of r s n = omega arith in
        record { above = omega arith; none = subst (λ k. NoneFrom p (place_of r to rank) k) here (none_then p _ (place_of r at 0) (place_of r at 0) (place_of r s 0) none gap (omega arith)) })
  ]

  pub target_found : (at s n : ℕ) (m : Move) → to ≤ at → NoneFrom p (place_of r to rank) (place_of r at 0) → IsFirstFrom set at s → (s ≡ to → n ≡ rank) → (s ≢ to → n ≡ 0) → rank ≤ 7 → IsFirstMove p (place_of r s n) (place_of r s 7) m → IsFirstMove p (place_of r to rank) (place_of (r + 1) 0 0) m
  target_found at s n m le none first same later few found =
      let h : Resumes p (place_of r to rank) (place_of r s n) = target_start at s n le none first same later few in
      let on : s < 64 = first.on_board in
      first_block p (place_of r to rank) (place_of r s n) (place_of r s n) (place_of r s 7) (place_of (r + 1) 0 0) m h.none found h.above (inr refl) (omega arith)

  pub target_next : (at s n k : ℕ) → to ≤ at → NoneFrom p (place_of r to rank) (place_of r at 0) → IsFirstFrom set at s → (s ≡ to → n ≡ rank) → (s ≢ to → n ≡ 0) → rank ≤ 7 → NoneFrom p (place_of r s n) (place_of r s 7) → k ≡ s → NoneFrom p (place_of r to rank) (place_of r (k + 1) 0)
  target_next at s n k le none first same later few rest e =
      let h : Resumes p (place_of r to rank) (place_of r s n) = target_start at s n le none first same later few in
      let same : place_of r s 7 ≡ place_of r (k + 1) 0 = omega arith in
      subst (λ x. NoneFrom p (place_of r to rank) x) same (none_then p _ (place_of r s n) (place_of r s n) (place_of r s 7) h.none rest (omega arith))

  pub target_end : (at : ℕ) → at ≤ 64 → NoneFrom p (place_of r to rank) (place_of r at 0) → HasNoneFrom set at → NoneFrom p (place_of r to rank) (place_of (r + 1) 0 0)
  target_end at le none rest =
      let gap : NoneFrom p (place_of r at 0) (place_of r 64 0) = target_gap p r set at 64 covers le (omega arith) rest in
      let same : place_of r 64 0 ≡ place_of (r + 1) 0 0 = omega arith in
      subst (λ x. NoneFrom p (place_of r to rank) x) same (none_then p _ (place_of r at 0) (place_of r at 0) (place_of r 64 0) none gap (omega arith))

module _ (p : State) (set from to rank : ℕ) (own : (q : ℕ) → q < 64 → has set q ≡ is_of p.side (get p.board q)) where
  pub own_at : (at s : ℕ) → IsFirstFrom set at s → IsOwn p.board p.side s
  own_at at s first = (own_set p.board set p.side own s first.on_board).0 first.member

  own_start : (at s t n : ℕ) → from ≤ at → NoneFrom p (place_of from to rank) (place_of at 0 0) → IsFirstFrom set at s → (s ≡ from → t ≡ to) → (s ≢ from → t ≡ 0) → (s ≡ from → n ≡ rank) → (s ≢ from → n ≡ 0) → to < 64 → rank ≤ 7 → Resumes p (place_of from to rank) (place_of s t n)
  own_start at s t n le none first same_to later_to same later low few = elim (eqb_tells s from) [
    | inl w ↦ (let e : s ≡ from = w.1 in let f : n ≡ rank = same e in let g : t ≡ to = same_to e in record { above = omega arith; none = none_yet p _ _ (omega arith) })
    | inr w ↦ (
        let ne : s ≢ from = w.1 in
        let f : n ≡ 0 = later ne in
        let g : t ≡ 0 = later_to ne in
        let up : at ≤ s = first.reached in
        let on : s < 64 = first.on_board in
        let gap : NoneFrom p (place_of at 0 0) (place_of s 0 0) = own_gap p set at s own up (omega arith) first.before in
        let here : place_of s 0 0 ≡ place_of s t n = omega arith in
        record { above = omega arith; none = subst (λ k. NoneFrom p (place_of from to rank) k) here (none_then p _ (place_of at 0 0) (place_of at 0 0) (place_of s 0 0) none gap (omega arith)) })
  ]

  pub own_found : (at s t n : ℕ) (m : Move) → from ≤ at → NoneFrom p (place_of from to rank) (place_of at 0 0) → IsFirstFrom set at s → (s ≡ from → t ≡ to) → (s ≢ from → t ≡ 0) → (s ≡ from → n ≡ rank) → (s ≢ from → n ≡ 0) → to < 64 → rank ≤ 7 → IsFirstMove p (place_of s t n) (place_of (s + 1) 0 0) m → IsFirstMove p (place_of from to rank) 28672 m
  own_found at s t n m le none first same_to later_to same later low few found =
      let h : Resumes p (place_of from to rank) (place_of s t n) = own_start at s t n le none first same_to later_to same later low few in
      let on : s < 64 = first.on_board in
      first_block p (place_of from to rank) (place_of s t n) (place_of s t n) (place_of (s + 1) 0 0) 28672 m h.none found h.above (inr refl) (omega arith)

  pub own_next : (at s t n k : ℕ) → from ≤ at → NoneFrom p (place_of from to rank) (place_of at 0 0) → IsFirstFrom set at s → (s ≡ from → t ≡ to) → (s ≢ from → t ≡ 0) → (s ≡ from → n ≡ rank) → (s ≢ from → n ≡ 0) → to < 64 → rank ≤ 7 → NoneFrom p (place_of s t n) (place_of (s + 1) 0 0) → k ≡ s → NoneFrom p (place_of from to rank) (place_of (k + 1) 0 0)
  own_next at s t n k le none first same_to later_to same later low few rest e =
      let h : Resumes p (place_of from to rank) (place_of s t n) = own_start at s t n le none first same_to later_to same later low few in
      let here : place_of (s + 1) 0 0 ≡ place_of (k + 1) 0 0 = omega arith in
      subst (λ x. NoneFrom p (place_of from to rank) x) here (none_then p _ (place_of s t n) (place_of s t n) (place_of (s + 1) 0 0) h.none rest (omega arith))

  pub own_end : (at : ℕ) → at ≤ 64 → NoneFrom p (place_of from to rank) (place_of at 0 0) → HasNoneFrom set at → NoneFrom p (place_of from to rank) 28672
  own_end at le none rest =
      let gap : NoneFrom p (place_of at 0 0) (place_of 64 0 0) = own_gap p set at 64 own le (omega arith) rest in
      let same : place_of 64 0 0 ≡ 28672 = omega arith in
      subst (λ x. NoneFrom p (place_of from to rank) x) same (none_then p _ (place_of at 0 0) (place_of at 0 0) (place_of 64 0 0) none gap (omega arith))

-- the set of the side's own men, by a board and a side that are the position's
pub own_of : (p : State) (set : ℕ) (b : Placement) (c : Color) → b ≡ p.board → c ≡ p.side → ((q : ℕ) → q < 64 → has set q ≡ is_of c (get b q)) → (q : ℕ) → q < 64 → has set q ≡ is_of p.side (get p.board q)
own_of p set b c e f h q l = h q l ∙ ap (λ (x : Placement). is_of c (get x q)) e ∙ ap (λ (x : Color). is_of x (get p.board q)) f
