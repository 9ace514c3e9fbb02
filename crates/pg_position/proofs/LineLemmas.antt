-- Rays against lines, diagonals and what is between two squares. Leads to AttackLemmas and ReachLemmas.
use Rattle.pg_position.proofs.Common.{◌≡◌, ◌≢◌, ℕ, Bool, true, false, not, ◌<◌, ◌≤◌, ◌⊎◌, inl, inr, arith, ltb, ltb-true, ltb-false, refl, ap, Color, White, Black, Kind, Pawn, Knight, Bishop, Rook, Queen, King, file, rank, Direction, North, NorthEast, East, SouthEast, South, SouthWest, West, NorthWest, OnOneLine, OnOneDiagonal, InPattern, IsWithin, IsBetween, OnRay, Before, is_straight, slides}

-- lines and diagonals are rays
pub straight_pattern : (d : Direction) (s r : ℕ) → is_straight d ≡ true → OnRay d s r → (r ≢ s) × OnOneLine r s
unfolding OnRay
straight_pattern North s r _ (f, g) = (omega arith, inl (omega arith))
straight_pattern NorthEast s r e _ = absurd (cc)
straight_pattern East s r _ (f, g) = (omega arith, inr (omega arith))
straight_pattern SouthEast s r e _ = absurd (cc)
straight_pattern South s r _ (f, g) = (omega arith, inl (omega arith))
straight_pattern SouthWest s r e _ = absurd (cc)
straight_pattern West s r _ (f, g) = (omega arith, inr (omega arith))
straight_pattern NorthWest s r e _ = absurd (cc)

pub diagonal_pattern : (d : Direction) (s r : ℕ) → is_straight d ≡ false → OnRay d s r → (r ≢ s) × OnOneDiagonal r s
unfolding OnRay
diagonal_pattern North s r e _ = absurd (cc)
diagonal_pattern NorthEast s r _ (f, g) = (omega arith, omega arith)
diagonal_pattern East s r e _ = absurd (cc)
diagonal_pattern SouthEast s r _ (f, g) = (omega arith, omega arith)
diagonal_pattern South s r e _ = absurd (cc)
diagonal_pattern SouthWest s r _ (f, g) = (omega arith, omega arith)
diagonal_pattern West s r e _ = absurd (cc)
diagonal_pattern NorthWest s r _ (f, g) = (omega arith, omega arith)

-- the squares between two of a diagonal are on it
diagonal_between : (d : Direction) (s r t : ℕ) → is_straight d ≡ false → OnRay d s r → IsBetween r t s → OnOneDiagonal r t
unfolding IsBetween
diagonal_between d s r t e o (n, m, wf, wr, z) =
    let ne : r ≢ s = (diagonal_pattern d s r e o).0 in
    let on : OnOneDiagonal r s = (diagonal_pattern d s r e o).1 in
    elim z [
      | inl c ↦ absurd (elim c [ inl f ↦ omega arith | inr f ↦ omega arith ])
      | inr (x, y) ↦ x
    ]

-- the squares between a square of a ray and its start are those of the ray before it
pub between_forth : (d : Direction) (s r t : ℕ) → OnRay d s r → IsBetween r t s → OnRay d s t × Before d t r
unfolding OnRay IsBetween
between_forth North s r t (f, g) (n, m, wf, wr, _) = ((omega arith, omega arith), omega arith)
between_forth NorthEast s r t (f, g) (n, m, wf, wr, z) = let x = diagonal_between NorthEast s r t refl (f, g) (n, m, wf, wr, z) in ((omega arith, omega arith), omega arith)
between_forth East s r t (f, g) (n, m, wf, wr, _) = ((omega arith, omega arith), omega arith)
between_forth SouthEast s r t (f, g) (n, m, wf, wr, z) = let x = diagonal_between SouthEast s r t refl (f, g) (n, m, wf, wr, z) in ((omega arith, omega arith), omega arith)
between_forth South s r t (f, g) (n, m, wf, wr, _) = ((omega arith, omega arith), omega arith)
between_forth SouthWest s r t (f, g) (n, m, wf, wr, z) = let x = diagonal_between SouthWest s r t refl (f, g) (n, m, wf, wr, z) in ((omega arith, omega arith), omega arith)
between_forth West s r t (f, g) (n, m, wf, wr, _) = ((omega arith, omega arith), omega arith)
between_forth NorthWest s r t (f, g) (n, m, wf, wr, z) = let x = diagonal_between NorthWest s r t refl (f, g) (n, m, wf, wr, z) in ((omega arith, omega arith), omega arith)

pub between_back : (d : Direction) (s r t : ℕ) → OnRay d s r → OnRay d s t → Before d t r → IsBetween r t s
unfolding OnRay IsBetween
between_back North s r t (f, g) (h, k) l = (omega arith, omega arith, omega arith, omega arith, inl (inl (omega arith)))
between_back NorthEast s r t (f, g) (h, k) l = (omega arith, omega arith, omega arith, omega arith, inr (omega arith, omega arith))
between_back East s r t (f, g) (h, k) l = (omega arith, omega arith, omega arith, omega arith, inl (inr (omega arith)))
between_back SouthEast s r t (f, g) (h, k) l = (omega arith, omega arith, omega arith, omega arith, inr (omega arith, omega arith))
between_back South s r t (f, g) (h, k) l = (omega arith, omega arith, omega arith, omega arith, inl (inl (omega arith)))
between_back SouthWest s r t (f, g) (h, k) l = (omega arith, omega arith, omega arith, omega arith, inr (omega arith, omega arith))
between_back West s r t (f, g) (h, k) l = (omega arith, omega arith, omega arith, omega arith, inl (inr (omega arith)))
between_back NorthWest s r t (f, g) (h, k) l = (omega arith, omega arith, omega arith, omega arith, inr (omega arith, omega arith))

pub straight_ray : (s r : ℕ) → r ≢ s → OnOneLine r s → (d : Direction) × (is_straight d ≡ true) × OnRay d s r
unfolding OnRay
straight_ray s r n (inl e) = elim (ltb (rank s) (rank r)) as (λ v. ltb (rank s) (rank r) ≡ v → (d : Direction) × (is_straight d ≡ true) × OnRay d s r) [
  | true ↦ λ t. let l = ltb-true _ _ t in (North, refl, (omega arith, omega arith))
  | false ↦ λ t. let l = ltb-false _ _ t in (South, refl, (omega arith, omega arith))
] refl
straight_ray s r n (inr e) = elim (ltb (file s) (file r)) as (λ v. ltb (file s) (file r) ≡ v → (d : Direction) × (is_straight d ≡ true) × OnRay d s r) [
  | true ↦ λ t. let l = ltb-true _ _ t in (East, refl, (omega arith, omega arith))
  | false ↦ λ t. let l = ltb-false _ _ t in (West, refl, (omega arith, omega arith))
] refl

pub diagonal_ray : (s r : ℕ) → r ≢ s → OnOneDiagonal r s → (d : Direction) × (is_straight d ≡ false) × OnRay d s r
unfolding OnRay
diagonal_ray s r n e = elim (ltb (rank s) (rank r)) as (λ v. ltb (rank s) (rank r) ≡ v → (d : Direction) × (is_straight d ≡ false) × OnRay d s r) [
  | true ↦ λ t. let l : rank s < rank r = ltb-true _ _ t in elim (ltb (file s) (file r)) as (λ v. ltb (file s) (file r) ≡ v → (d : Direction) × (is_straight d ≡ false) × OnRay d s r) [
    | true ↦ λ u. let k : file s < file r = ltb-true _ _ u in (NorthEast, refl, (omega arith, omega arith))
    | false ↦ λ u. let k : file r ≤ file s = ltb-false _ _ u in (NorthWest, refl, (omega arith, omega arith))
  ] refl
  | false ↦ λ t. let l : rank r ≤ rank s = ltb-false _ _ t in elim (ltb (file s) (file r)) as (λ v. ltb (file s) (file r) ≡ v → (d : Direction) × (is_straight d ≡ false) × OnRay d s r) [
    | true ↦ λ u. let k : file s < file r = ltb-true _ _ u in (SouthEast, refl, (omega arith, omega arith))
    | false ↦ λ u. let k : file r ≤ file s = ltb-false _ _ u in (SouthWest, refl, (omega arith, omega arith))
  ] refl
] refl

not_true : (b : Bool) → not b ≡ true → b ≡ false
not_true true e = absurd (cc)
not_true false e = refl

-- a man that moves along rays, from r to s
pub slide_pattern : (d : Direction) (c : Color) (k : Kind) (s r : ℕ) → slides d k ≡ true → OnRay d s r → InPattern c k r s
unfolding InPattern
slide_pattern d c Pawn s r e o = absurd (cc)
slide_pattern d c Knight s r e o = absurd (cc)
slide_pattern d c Bishop s r e o = diagonal_pattern d s r (not_true (is_straight d) e) o
slide_pattern d c Rook s r e o = straight_pattern d s r e o
slide_pattern d c Queen s r e o = elim (is_straight d) as (λ v. is_straight d ≡ v → (r ≢ s) × (OnOneLine r s ⊎ OnOneDiagonal r s)) [
  | true ↦ λ t. let (n, x) = straight_pattern d s r t o in (n, inl x)
  | false ↦ λ t. let (n, x) = diagonal_pattern d s r t o in (n, inr x)
] refl
slide_pattern d c King s r e o = absurd (cc)

pub bishop_ray : (c : Color) (s r : ℕ) → InPattern c Bishop r s → (d : Direction) × (slides d Bishop ≡ true) × OnRay d s r
unfolding InPattern
bishop_ray c s r (n, e) = let (d, t, o) = diagonal_ray s r n e in (d, ap not t, o)

pub rook_ray : (c : Color) (s r : ℕ) → InPattern c Rook r s → (d : Direction) × (slides d Rook ≡ true) × OnRay d s r
unfolding InPattern
rook_ray c s r (n, e) = straight_ray s r n e

pub queen_ray : (c : Color) (s r : ℕ) → InPattern c Queen r s → (d : Direction) × (slides d Queen ≡ true) × OnRay d s r
unfolding InPattern
queen_ray c s r (n, inl e) = let (d, t, o) = straight_ray s r n e in (d, refl, o)
queen_ray c s r (n, inr e) = let (d, t, o) = diagonal_ray s r n e in (d, refl, o)

-- nothing is between the squares of a short step
pub pawn_near : (c : Color) (r t s : ℕ) → InPattern c Pawn r s → ¬ IsBetween r t s
unfolding InPattern IsBetween
pawn_near White r t s (a, b) (n, m, wf, wr, z) = elim z [
  | inl w ↦ elim w [ inl e ↦ omega arith | inr e ↦ omega arith ]
  | inr (x, y) ↦ omega arith
]
pawn_near Black r t s (a, b) (n, m, wf, wr, z) = elim z [
  | inl w ↦ elim w [ inl e ↦ omega arith | inr e ↦ omega arith ]
  | inr (x, y) ↦ omega arith
]

pub knight_near : (c : Color) (r t s : ℕ) → InPattern c Knight r s → ¬ IsBetween r t s
unfolding InPattern IsBetween
knight_near c r t s p (n, m, wf, wr, z) = elim p [
  | inl (a, b) ↦ elim z [
    | inl w ↦ elim w [ inl e ↦ omega arith | inr e ↦ omega arith ]
    | inr (x, y) ↦ omega arith
  ]
  | inr (a, b) ↦ elim z [
    | inl w ↦ elim w [ inl e ↦ omega arith | inr e ↦ omega arith ]
    | inr (x, y) ↦ omega arith
  ]
]

level : (a b c : ℕ) → IsWithin a b c → a ≡ c → a ≡ b
level a b c w e = omega arith

pub king_near : (c : Color) (r t s : ℕ) → InPattern c King r s → ¬ IsBetween r t s
unfolding InPattern IsBetween
king_near c r t s (d, a, b) (n, m, wf, wr, z) = elim z [
  | inl w ↦ elim w [
    | inl e ↦ (let f : file r ≡ file t = level (file r) (file t) (file s) wf e in omega arith)
    | inr e ↦ (let f : rank r ≡ rank t = level (rank r) (rank t) (rank s) wr e in omega arith)
  ]
  | inr (x, y) ↦ omega arith
]
