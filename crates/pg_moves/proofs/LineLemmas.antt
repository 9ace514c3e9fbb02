-- Squares between others.
use Rattle.pg_moves.proofs.Common.{◌≡◌, ℕ, ◌+◌, ◌-◌, inl, inr, sym, arith, ◌∙◌, Color, Bishop, Rook, file, rank, apart, OnOneDiagonal, InPattern, IsWithin, IsBetween}

-- on a line, by numbers

within_more : (x r h t : ℕ) → IsWithin x r h → IsWithin h t r → IsWithin x t h
within_more x r h t a b = omega arith

pub within_same : (x r h : ℕ) → IsWithin x r h → x ≡ h → r ≡ x
within_same x r h a e = omega arith

pub same_square : (r s : ℕ) → file r ≡ file s → rank r ≡ rank s → r ≡ s
same_square r s f g = omega arith

near_end : (x r h : ℕ) → IsWithin x r h → IsWithin h x r → r ≡ x
near_end x r h a b = omega arith

-- the distances between points of a line
less : (x r h : ℕ) → IsWithin x r h → apart r h ≡ apart x h - apart x r
less x r h a = omega arith

line_same : (x t h : ℕ) → IsWithin x t h → x ≡ h → (x ≡ t) × (t ≡ h)
line_same x t h w e = let s : t ≡ x = within_same x t h w e in (sym s, s ∙ e)

-- on a diagonal its end is on one with each square within it
diagonal_back : (x r h : ℕ) → IsWithin (file x) (file r) (file h) → IsWithin (rank x) (rank r) (rank h) → OnOneDiagonal x r → OnOneDiagonal x h → OnOneDiagonal h r
diagonal_back x r h wf wr a b =
    let f : apart (file r) (file h) ≡ apart (file x) (file h) - apart (file x) (file r) = less (file x) (file r) (file h) wf in
    let g : apart (rank r) (rank h) ≡ apart (rank x) (rank h) - apart (rank x) (rank r) = less (rank x) (rank r) (rank h) wr in
    let p : apart (file x) (file r) ≡ apart (rank x) (rank r) = a in
    let q : apart (file x) (file h) ≡ apart (rank x) (rank h) = b in
    turned (file r) (file h) (rank r) (rank h) (f ∙ both _ _ _ _ q p ∙ sym g)
  where
    turned : (a b c d : ℕ) → apart a b ≡ apart c d → apart b a ≡ apart d c
    turned a b c d e = omega arith

    both : (a b c d : ℕ) → a ≡ b → c ≡ d → a - c ≡ b - d
    both a b c d e f = omega arith

-- a rook at the end of a line sees each square within it, and so does a bishop
pub rook_within : (c : Color) (x r h : ℕ) → InPattern c Rook h x → IsBetween x r h → InPattern c Rook h r
unfolding InPattern IsBetween
rook_within c x r h (d, l) (n, m, wf, wr, z) = (
  λ e. m (sym e),
  elim l [
    | inl e ↦ inl (sym (line_same (file x) (file r) (file h) wf (sym e)).1)
    | inr e ↦ inr (sym (line_same (rank x) (rank r) (rank h) wr (sym e)).1)
  ],
)

pub bishop_within : (c : Color) (x r h : ℕ) → InPattern c Bishop h x → IsBetween x r h → InPattern c Bishop h r
unfolding InPattern IsBetween
bishop_within c x r h (d, l) (n, m, wf, wr, z) = (
  λ e. m (sym e),
  elim z [
    | inl o ↦ absurd (elim o [
      | inl e ↦ d (same_square h x (sym e) (flat (file h) (file x) (rank h) (rank x) l (sym e)))
      | inr e ↦ d (same_square h x (flat (rank h) (rank x) (file h) (file x) (sym l) (sym e)) (sym e))
    ])
    | inr (a, b) ↦ diagonal_back x r h wf wr a b
  ],
)
  where
    flat : (a b c d : ℕ) → apart a b ≡ apart c d → a ≡ b → c ≡ d
    flat a b c d e f = omega arith

diagonal_more : (a b c d e f g h : ℕ) → IsWithin a b c → IsWithin c d b → IsWithin e f g → IsWithin g h f → apart a c ≡ apart e g → apart c d ≡ apart g h → apart a d ≡ apart e h
diagonal_more a b c d e f g h p q r s u v =
    let i : IsWithin a d c = within_more a b c d p q in
    let j : IsWithin e h g = within_more e f g h r s in
    let k : apart d c ≡ apart c d = turn d c in
    let l : apart h g ≡ apart g h = turn h g in
    sums (apart a d) (apart d c) (apart a c) (apart e h) (apart h g) (apart e g) i j u (k ∙ v ∙ sym l)
  where
    turn : (a b : ℕ) → apart a b ≡ apart b a
    turn a b = omega arith

    sums : (a b c d e f : ℕ) → a + b ≡ c → d + e ≡ f → c ≡ f → b ≡ e → a ≡ d
    sums a b c d e f p q r s = omega arith

-- what is between the end and a square within a line is between the line's ends
pub between_more : (x r h t : ℕ) → IsBetween x r h → IsBetween h t r → IsBetween x t h
unfolding IsBetween
between_more x r h t (n, m, wf, wr, z) (o, q, vf, vr, y) =
    let uf : IsWithin (file x) (file t) (file h) = within_more (file x) (file r) (file h) (file t) wf vf in
    let ur : IsWithin (rank x) (rank t) (rank h) = within_more (rank x) (rank r) (rank h) (rank t) wr vr in (
      apart_ends,
      o,
      uf,
      ur,
      elim z [
        | inl d ↦ inl d
        | inr (a, b) ↦ elim y [
          | inl f ↦ absurd (elim f [
            | inl g ↦ m (same_square r h (sym g) (level_else (file x) (file r) (file h) (rank x) (rank r) (rank h) wr a b (sym g)))
            | inr g ↦ m (same_square r h (level_else (rank x) (rank r) (rank h) (file x) (file r) (file h) wf (sym a) (sym b) (sym g)) (sym g))
          ])
          | inr (d, e) ↦ inr (diagonal_more (file x) (file r) (file h) (file t) (rank x) (rank r) (rank h) (rank t) wf vf wr vr b d, b)
        ]
      ],
    )
  where
    moved : (h t x r : ℕ) → IsWithin h t r → t ≡ x → IsWithin h x r
    moved h t x r w e = omega arith

    apart_ends : t ≡ x → ⊥
    apart_ends e = n (same_square r x (near_end (file x) (file r) (file h) wf (moved (file h) (file t) (file x) (file r) vf (λ i. file (e i)))) (near_end (rank x) (rank r) (rank h) wr (moved (rank h) (rank t) (rank x) (rank r) vr (λ i. rank (e i)))))

    level_else : (a b c d e f : ℕ) → IsWithin d e f → apart a b ≡ apart d e → apart a c ≡ apart d f → b ≡ c → e ≡ f
    level_else a b c d e f w p q s = omega arith
