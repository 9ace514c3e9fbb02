-- The squares from the king to the rook before they castle, and the square that a pawn has just passed. Leads to the contracts of
-- `span`, `is_way` and `passed_square`.
use Rattle.pg_journeys.proofs.Common.{◌≡◌, ◌↔◌, ℕ, ◌+◌, ◌<◌, inl, inr, IsTrue, Option, Some, Bool, true, false, not, ◌&&◌, ltb, refl, sym, ap, subst, ◌∙◌, arith, cases_Bool, Decides-ltb, Decides-and, Decides-at, Decides-like, Color, White, Black, has, bits_below, has-bits_below, other, IsSetOf, Meet, rank, dec_equal, Wing, KingSide, QueenSide, State, IsBetween, holds, IsPosition, IsPassed, king_home, rook_home, HasAhead, passed_rank, IsWayUnder, known, IsOnSpan}
use Rattle.pg_journeys.specs.declared.facts.Facts.{Facts as FactSets}

-- ---- the span
-- the least of its squares, and the one past the greatest
unfoldable least : Color → Wing → ℕ
least White KingSide = 4
least White QueenSide = 0
least Black KingSide = 60
least Black QueenSide = 56

unfoldable beyond : Color → Wing → ℕ
beyond White KingSide = 8
beyond White QueenSide = 5
beyond Black KingSide = 64
beyond Black QueenSide = 61

inside : (c : Color) (w : Wing) (q : ℕ) → (least c w < q + 1) × (q < beyond c w) → IsOnSpan c w q
unfolding IsBetween least beyond
inside White KingSide q (a, b) = elim (dec_equal q 4) [
  | yes e ↦ inl e
  | no n ↦ elim (dec_equal q 7) [
    | yes e ↦ inr (inl e)
    | no m ↦ (let z : rank q ≡ 1 = omega arith in inr (inr (λ y. omega arith, λ y. omega arith, omega arith, omega arith, inl (inr refl))))
  ]
]
inside White QueenSide q (a, b) = elim (dec_equal q 4) [
  | yes e ↦ inl e
  | no n ↦ elim (dec_equal q 0) [
    | yes e ↦ inr (inl e)
    | no m ↦ (let z : rank q ≡ 1 = omega arith in inr (inr (λ y. omega arith, λ y. omega arith, omega arith, omega arith, inl (inr refl))))
  ]
]
inside Black KingSide q (a, b) = elim (dec_equal q 60) [
  | yes e ↦ inl e
  | no n ↦ elim (dec_equal q 63) [
    | yes e ↦ inr (inl e)
    | no m ↦ (let z : rank q ≡ 8 = omega arith in inr (inr (λ y. omega arith, λ y. omega arith, omega arith, omega arith, inl (inr refl))))
  ]
]
inside Black QueenSide q (a, b) = elim (dec_equal q 60) [
  | yes e ↦ inl e
  | no n ↦ elim (dec_equal q 56) [
    | yes e ↦ inr (inl e)
    | no m ↦ (let z : rank q ≡ 8 = omega arith in inr (inr (λ y. omega arith, λ y. omega arith, omega arith, omega arith, inl (inr refl))))
  ]
]

between : (c : Color) (w : Wing) (q : ℕ) → q < 64 → IsBetween (king_home c) q (rook_home c w) → (least c w < q + 1) × (q < beyond c w)
unfolding IsBetween least beyond
between White KingSide q low (a, b, u, v, _) = let z : rank q ≡ 1 = omega arith in (omega arith, omega arith)
between White QueenSide q low (a, b, u, v, _) = let z : rank q ≡ 1 = omega arith in (omega arith, omega arith)
between Black KingSide q low (a, b, u, v, _) = let z : rank q ≡ 8 = omega arith in (omega arith, omega arith)
between Black QueenSide q low (a, b, u, v, _) = let z : rank q ≡ 8 = omega arith in (omega arith, omega arith)

ends : (c : Color) (w : Wing) → (least c w < king_home c + 1) × (king_home c < beyond c w) × (least c w < rook_home c w + 1) × (rook_home c w < beyond c w)
unfolding least beyond
ends White KingSide = (omega arith, omega arith, omega arith, omega arith)
ends White QueenSide = (omega arith, omega arith, omega arith, omega arith)
ends Black KingSide = (omega arith, omega arith, omega arith, omega arith)
ends Black QueenSide = (omega arith, omega arith, omega arith, omega arith)

outside : (c : Color) (w : Wing) (q : ℕ) → q < 64 → IsOnSpan c w q → (least c w < q + 1) × (q < beyond c w)
outside c w q low (inl e) = subst (λ (x : ℕ). (least c w < x + 1) × (x < beyond c w)) (sym e) ((ends c w).0, (ends c w).1)
outside c w q low (inr (inl e)) = subst (λ (x : ℕ). (least c w < x + 1) × (x < beyond c w)) (sym e) ((ends c w).2, (ends c w).3)
outside c w q low (inr (inr b)) = between c w q low b

unfoldable span_test : Color → Wing → ℕ → Bool
span_test c w q = ltb (least c w) (q + 1) && ltb q (beyond c w)

unfoldable pub span_set : Color → Wing → ℕ
span_set White KingSide = 240
span_set White QueenSide = 31
span_set Black KingSide = 17293822569102704640
span_set Black QueenSide = 2233785415175766016

span_bits : (c : Color) (w : Wing) → span_set c w ≡ bits_below (span_test c w) 64
unfolding span_set span_test bits_below least beyond
span_bits White KingSide = refl
span_bits White QueenSide = refl
span_bits Black KingSide = refl
span_bits Black QueenSide = refl

span_at : (c : Color) (w : Wing) → IsSetOf (span_set c w) (IsOnSpan c w)
unfolding span_test
span_at c w q low = Decides-at _ _ (ap (λ n. has n q) (span_bits c w) ∙ has-bits_below (span_test c w) 64 q low)
    (Decides-like (span_test c w q) (inside c w q) (outside c w q low) (Decides-and _ _ (Decides-ltb (least c w) (q + 1)) (Decides-ltb q (beyond c w))))

pub span_is : (c d : Color) (w v : Wing) (n : ℕ) → c ≡ d → w ≡ v → n ≡ span_set d v → IsSetOf n (IsOnSpan c w)
span_is c d w v n ec ew e = subst (λ (x : ℕ). IsSetOf x (IsOnSpan c w)) (both ∙ sym e) (span_at c w)
  where
    both : span_set c w ≡ span_set d v
    both = (λ i. span_set (ec i) (ew i))

-- ---- ways
pub home_low : (c : Color) → king_home c < 64
home_low White = omega arith
home_low Black = omega arith

pub rook_low : (c : Color) (w : Wing) → rook_home c w < 64
rook_low White KingSide = omega arith
rook_low White QueenSide = omega arith
rook_low Black KingSide = omega arith
rook_low Black QueenSide = omega arith

-- a square of a set that does not meet another is not in that one
free : (a b q : ℕ) → (Meet a b → ⊥) → q < 64 → has b q ≡ true → has a q ≡ false
free a b q none low e = elim (cases_Bool (has a q)) [
  | inl t ↦ absurd (none (q, low, t, e))
  | inr f ↦ f
]

pub way_open : (f : FactSets) (p : State) (c : Color) (w : Wing) (way : Option Wing) (held m : Bool) (span : ℕ) → way ≡ Some w → held ≡ holds p.rights c w → held ≡ true →
    IsSetOf span (IsOnSpan c w) → (IsTrue m ↔ Meet f.still span) → IsTrue (not m) ↔ IsWayUnder (known f) p c way
way_open f p c w way held m span e h t is meets = subst (λ (o : Option Wing). IsTrue (not m) ↔ IsWayUnder (known f) p c o) (sym e) (by m meets)
  where
    by : (m : Bool) → (IsTrue m ↔ Meet f.still span) → IsTrue (not m) ↔ IsWayUnder (known f) p c (Some w)
    by true x = (
      λ z. absurd (let f : IsTrue false = z in cc),
      λ u. absurd (let g : (q : ℕ) × (q < 64) × (has f.still q ≡ true) × (has span q ≡ true) = x.0 refl in
          let on : IsOnSpan c w g.0 = (is g.0 g.1).0 g.3 in
          let none : has f.still g.0 ≡ false = elim on [
            | inl k ↦ ap (has f.still) k ∙ u.1
            | inr r ↦ elim r [
              | inl k ↦ ap (has f.still) k ∙ u.2
              | inr b ↦ u.3 g.0 g.1 b
            ]
          ] in
          let yes_true : has f.still g.0 ≡ true = g.2 in
          cc),
    )
    by false x = (
      λ z. (let none : Meet f.still span → ⊥ = λ k. (let t : IsTrue false = x.1 k in cc) in (
        sym h ∙ t,
        free f.still span (king_home c) none (home_low c) ((is (king_home c) (home_low c)).1 (inl refl)),
        free f.still span (rook_home c w) none (rook_low c w) ((is (rook_home c w) (rook_low c w)).1 (inr (inl refl))),
        λ q low b. free f.still span q none low ((is q low).1 (inr (inr b))),
      )),
      λ u. refl,
    )

-- ---- the passed square
-- the pawn that has just passed a square stands on the board
pub passed_ahead : (p : State) (c : Color) (e : ℕ) → IsPosition p → p.passed ≡ Some e → p.side ≡ other c → HasAhead c 1 e
unfolding IsPassed
passed_ahead p c e is at turn = by c (subst (λ (s : Color). rank e ≡ passed_rank s) turn (is.passing e at).0)
  where
    by : (c : Color) → rank e ≡ passed_rank (other c) → HasAhead c 1 e
    by White r = omega arith
    by Black r = omega arith
