-- The legal moves past the last one.
use Rattle.pg_moves.proofs.Common.{◌≡◌, ℕ, ◌+◌, ◌<◌, ◌≤◌, ◌∙◌, inl, inr, true, false, Option, Some, None, MatchOption, refl, sym, subst, arith, State, Move, MovesLeft, IsPeeked, IsManDone, IsNextOfMan, men_from, IsSource, IsToldSource, promotion_number, IsNext, IsLast, place, place_of, NoneFrom, IsFirstMove, IsOwn, IsTried, Source}
use Rattle.pg_moves.specs.declared.cursor.Peeked.{Peeked}
use Rattle.pg_moves.proofs.ListLemmas.{on_board}
use Rattle.pg_moves.proofs.PlaceLemmas.{promotion_low}
use Rattle.pg_moves.proofs.SearchLemmas.{next_found, next_none, none_then, none_yet, first_block}

-- a move of a man's block is from there
pub there : (r to n f t j : ℕ) → n ≤ 7 → t < 64 → j < 7 → place_of r to n ≤ place_of f t j → place_of f t j < place_of (r + 1) 0 0 → f ≡ r
there r to n f t j a b c d e = omega arith

pub found_there : (p : State) (r to n : ℕ) (m : Move) → n ≤ 7 → IsFirstMove p (place_of r to n) (place_of (r + 1) 0 0) m → m.from ≡ r
found_there p r to n m few f = there r to n m.from m.to (promotion_number m.promotion) few (on_board p m f.legal).1 (promotion_low m.promotion) f.from_low f.to_high

pub source_there : (p : State) (r to n : ℕ) (m : Move) (s : Source) → n ≤ 7 → IsFirstMove p (place_of r to n) (place_of (r + 1) 0 0) m → IsToldSource p r s → IsToldSource p m.from s
source_there p r to n m s few f h = subst (λ (x : ℕ). IsToldSource p x s) (sym (found_there p r to n m few f)) h

-- a peek tells less of a man than is kept of him; where his set is exact it tells all
pub untold : (p : State) (r : ℕ) (s : Source) → IsToldSource p r s → IsSource p r s
unfolding IsSource IsToldSource
untold p r s h = (h.0, h.1, λ e. (h.2 e).0)

pub told : (p : State) (r : ℕ) (s : Source) → IsSource p r s → s.exact ≡ true → IsToldSource p r s
unfolding IsSource IsToldSource
told p r s h e = (h.0, h.1, λ no. absurd (let never : true ≡ false = sym e ∙ no in cc))

pub told_tried : (p : State) (r : ℕ) (s : Source) → IsSource p r s → IsTried p r → IsToldSource p r s
unfolding IsSource IsToldSource
told_tried p r s h tried = (h.0, h.1, λ e. (h.2 e, tried))

pub own_there : (p : State) (r : ℕ) (s : Source) → IsSource p r s → IsOwn p.board p.side r
unfolding IsSource IsOwn
own_there p r s h = (s.kind, h.0)

-- ---- after a move
module _ (p : State) (last : Move) (from : last.from < 64) (to : last.to < 64) (low next : ℕ) (at : low ≡ place last + 1) (beyond : next ≡ place_of (last.from + 1) 0 0) where
  ends : promotion_number last.promotion < 7
  ends = promotion_low last.promotion

  pub next_same : (m : Move) → IsFirstMove p low (place_of (last.from + 1) 0 0) m → IsNext p (Some last) m
  next_same m f = next_found p (Some last) m (from, to) (first_block p (place last + 1) (place last + 1) low (place_of (last.from + 1) 0 0) 28672 m (none_yet p _ _ (omega arith)) f (omega arith) (inl (omega arith)) (omega arith))

  pub next_other : (m : Move) → NoneFrom p low (place_of (last.from + 1) 0 0) → IsFirstMove p next 28672 m → IsNext p (Some last) m
  next_other m none f = next_found p (Some last) m (from, to) (let b : promotion_number last.promotion < 7 = ends in first_block p (place last + 1) next next 28672 28672 m (none_then p (place last + 1) (place last + 1) low next (none_yet p _ _ (omega arith)) (subst (λ n. NoneFrom p low n) (sym beyond) none) (omega arith)) f (omega arith) (inr refl) (omega arith))

  pub next_over : NoneFrom p low (place_of (last.from + 1) 0 0) → NoneFrom p next 28672 → IsLast p (Some last)
  next_over none rest = next_none p (Some last) (from, to) (none_then p (place last + 1) next next 28672 (none_then p (place last + 1) (place last + 1) low next (none_yet p _ _ (omega arith)) (subst (λ n. NoneFrom p low n) (sym beyond) none) (omega arith)) rest (omega arith))

-- ---- the answer, by what is seen of the moves
ahead_here : (p : State) (l last : Option Move) (r : Option Peeked) → l ≡ last
    → MatchOption r (IsLast p last) (λ a. IsNext p last a.m × IsPeeked p a) → MatchOption r (IsLast p l) (λ a. IsNext p l a.m × IsPeeked p a)
ahead_here p l last r e h = subst (λ (x : Option Move). MatchOption r (IsLast p x) (λ a. IsNext p x a.m × IsPeeked p a)) (sym e) h

pub ahead_of : (q : MovesLeft) (p : State) (l last : Option Move) (r : Option Peeked) → record { position = p; last = l } ≡ q → l ≡ last
    → MatchOption r (IsLast p last) (λ a. IsNext p last a.m × IsPeeked p a)
    → MatchOption r (IsLast q.position q.last) (λ a. IsNext q.position q.last a.m × IsPeeked q.position a)
ahead_of q p l last r is e h = subst (λ (v : MovesLeft). MatchOption r (IsLast v.position v.last) (λ a. IsNext v.position v.last a.m × IsPeeked v.position a)) is (ahead_here p l last r e h)

-- ---- the man that moved last, and then the others
pub done_none : (p : State) → IsManDone p None
unfolding IsManDone
done_none p = tt

-- the next move of the man that moved last
pub of_man : (p : State) (a : Move) (t n : ℕ) → a.from < 64 → a.to < 64 → t ≡ a.to → n ≡ promotion_number a.promotion + 1 → (r : Option Move)
    → MatchOption r (NoneFrom p (place_of a.from t n) (place_of (a.from + 1) 0 0)) (λ m. IsFirstMove p (place_of a.from t n) (place_of (a.from + 1) 0 0) m)
    → MatchOption r (IsManDone p (Some a)) (λ m. IsNextOfMan p (Some a) m)
unfolding IsManDone IsNextOfMan
of_man p a t n from to e f None none = ((from, to), (let at : place_of a.from t n ≡ place a + 1 = omega arith in subst (λ x. NoneFrom p x (place_of (a.from + 1) 0 0)) at none))
of_man p a t n from to e f (Some m) first =
    let few : promotion_number a.promotion < 7 = promotion_low a.promotion in
    let at : place_of a.from t n ≡ place a + 1 = omega arith in
    (next_same p a from to (place_of a.from t n) (place_of (a.from + 1) 0 0) at refl m first, found_there p a.from t n m (omega arith) first)

pub man_of : (q : MovesLeft) (p : State) (l last : Option Move) (r : Option Move) → record { position = p; last = l } ≡ q → l ≡ last
    → MatchOption r (IsManDone p last) (λ m. IsNextOfMan p last m) → MatchOption r (IsManDone q.position q.last) (λ m. IsNextOfMan q.position q.last m)
man_of q p l last r is e h = subst (λ (v : MovesLeft). MatchOption r (IsManDone v.position v.last) (λ m. IsNextOfMan v.position v.last m)) is
    (subst (λ (x : Option Move). MatchOption r (IsManDone p x) (λ m. IsNextOfMan p x m)) (sym e) h)

pub man_next : (p : State) (last : Option Move) (m : Move) → IsNextOfMan p last m → IsNext p last m
unfolding IsNextOfMan
man_next p None m h = absurd h
man_next p (Some a) m h = h.0

-- the first move of the men beyond is the next one, and none of theirs is none at all
pub beyond_is : (p : State) (last : Option Move) (m : Move) → IsManDone p last → IsFirstMove p (place_of (men_from last) 0 0) 28672 m → IsNext p last m
unfolding IsManDone
beyond_is p None m d f = next_found p None m tt f
beyond_is p (Some a) m d f = next_other p a d.0.0 d.0.1 (place a + 1) (place_of (a.from + 1) 0 0) refl refl m d.1 f

pub beyond_none : (p : State) (last : Option Move) → IsManDone p last → NoneFrom p (place_of (men_from last) 0 0) 28672 → IsLast p last
unfolding IsManDone
beyond_none p None d none = next_none p None tt none
beyond_none p (Some a) d none = next_over p a d.0.0 d.0.1 (place a + 1) (place_of (a.from + 1) 0 0) refl refl d.1 none
