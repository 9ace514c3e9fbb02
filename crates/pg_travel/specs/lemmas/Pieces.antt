-- The distances of men other than pawns.
use Rattle.std.proofs.Common.{◌≡◌, ◌≢◌, ℕ, ◌<◌, ◌≤◌, ◌⊎◌, inl, inr, Some, None, true, ◌&&◌, ◌||◌, not, eqb, leb, refl, arith}
use Rattle.std.proofs.lemmas.Bool.Decides.{eqb_tells, nat_tests}
use Rattle.pg_board.specs.declared.man.Color.{Color}
use Rattle.pg_board.specs.declared.man.Kind.{Kind}
use Rattle.pg_board.specs.declared.man.Kind.TheVariants.{Pawn, Knight, Bishop, Rook, Queen, King}
use Rattle.pg_board.specs.Squares.{file, rank}
use Rattle.pg_position.specs.Geometry.{InPattern}
use Rattle.pg_captures.specs.FreeSteps.{StepsTo, Becomes, FreeStep}
use Rattle.pg_travel.specs.inner.Formulas.{files, ranks, piece, answer}
use Rattle.pg_travel.specs.lemmas.PairTests.{Fits, fits}
use Rattle.pg_travel.specs.lemmas.Tables.{knight_to, bishop_to, rook_to, queen_to, king_to, goes_to, pieces_fit}

knight_tests : (a b : ℕ) → (((eqb a 1 && eqb b 2) || (eqb a 2 && eqb b 1)) ≡ true → ((a ≡ 1) × (b ≡ 2)) ⊎ ((a ≡ 2) × (b ≡ 1))) × (((a ≡ 1) × (b ≡ 2)) ⊎ ((a ≡ 2) × (b ≡ 1)) → ((eqb a 1 && eqb b 2) || (eqb a 2 && eqb b 1)) ≡ true)
knight_tests a b = (λ h. grind (arith, nat_tests), λ h. grind (arith, nat_tests))

bishop_tests : (r s a b : ℕ) → ((not (eqb r s) && eqb a b) ≡ true → (r ≢ s) × (a ≡ b)) × ((r ≢ s) × (a ≡ b) → (not (eqb r s) && eqb a b) ≡ true)
bishop_tests r s a b = (λ h. grind (arith, nat_tests), λ h. grind (arith, nat_tests))

rook_tests : (r s a b c d : ℕ) → ((not (eqb r s) && (eqb a b || eqb c d)) ≡ true → (r ≢ s) × ((a ≡ b) ⊎ (c ≡ d))) × ((r ≢ s) × ((a ≡ b) ⊎ (c ≡ d)) → (not (eqb r s) && (eqb a b || eqb c d)) ≡ true)
rook_tests r s a b c d = (λ h. grind (arith, nat_tests), λ h. grind (arith, nat_tests))

queen_tests : (r s a b c d e f : ℕ) → ((not (eqb r s) && ((eqb a b || eqb c d) || eqb e f)) ≡ true → (r ≢ s) × (((a ≡ b) ⊎ (c ≡ d)) ⊎ (e ≡ f))) × ((r ≢ s) × (((a ≡ b) ⊎ (c ≡ d)) ⊎ (e ≡ f)) → (not (eqb r s) && ((eqb a b || eqb c d) || eqb e f)) ≡ true)
queen_tests r s a b c d e f = (λ h. grind (arith, nat_tests), λ h. grind (arith, nat_tests))

king_tests : (r s a b : ℕ) → ((not (eqb r s) && (leb a 1 && leb b 1)) ≡ true → (r ≢ s) × (a ≤ 1) × (b ≤ 1)) × ((r ≢ s) × (a ≤ 1) × (b ≤ 1) → (not (eqb r s) && (leb a 1 && leb b 1)) ≡ true)
king_tests r s a b = (λ h. grind (arith, nat_tests), λ h. grind (arith, nat_tests))

pattern_tests : (c : Color) (k : Kind) (r s : ℕ) → k ≢ Pawn → (goes_to k r s ≡ true → InPattern c k r s) × (InPattern c k r s → goes_to k r s ≡ true)
unfolding InPattern knight_to bishop_to rook_to queen_to king_to
pattern_tests c Pawn r s ne = absurd (ne refl)
pattern_tests c Knight r s ne = knight_tests (files r s) (ranks r s)
pattern_tests c Bishop r s ne = bishop_tests r s (files r s) (ranks r s)
pattern_tests c Rook r s ne = rook_tests r s (file r) (file s) (rank r) (rank s)
pattern_tests c Queen r s ne = queen_tests r s (file r) (file s) (rank r) (rank s) (files r s) (ranks r s)
pattern_tests c King r s ne = king_tests r s (files r s) (ranks r s)

pub piece_step : (c : Color) (k : Kind) (r : ℕ) (i : Kind) (t : ℕ) → k ≢ Pawn → FreeStep c k r i t → (i ≡ k) × (goes_to k r t ≡ true)
unfolding StepsTo Becomes
piece_step c Pawn r i t ne f = absurd (ne refl)
piece_step c Knight r i t ne f = (f.3, (pattern_tests c Knight r t ne).1 f.2)
piece_step c Bishop r i t ne f = (f.3, (pattern_tests c Bishop r t ne).1 f.2)
piece_step c Rook r i t ne f = (f.3, (pattern_tests c Rook r t ne).1 f.2)
piece_step c Queen r i t ne f = (f.3, (pattern_tests c Queen r t ne).1 f.2)
piece_step c King r i t ne f = (f.3, (pattern_tests c King r t ne).1 f.2)

pub piece_free : (c : Color) (k : Kind) (r t : ℕ) → k ≢ Pawn → r < 64 → t < 64 → goes_to k r t ≡ true → FreeStep c k r k t
unfolding StepsTo Becomes
piece_free c Pawn r t ne lr lt h = absurd (ne refl)
piece_free c Knight r t ne lr lt h = (lr, lt, (pattern_tests c Knight r t ne).0 h, refl)
piece_free c Bishop r t ne lr lt h = (lr, lt, (pattern_tests c Bishop r t ne).0 h, refl)
piece_free c Rook r t ne lr lt h = (lr, lt, (pattern_tests c Rook r t ne).0 h, refl)
piece_free c Queen r t ne lr lt h = (lr, lt, (pattern_tests c Queen r t ne).0 h, refl)
piece_free c King r t ne lr lt h = (lr, lt, (pattern_tests c King r t ne).0 h, refl)

pub piece_fits : (k : Kind) → k ≢ Pawn → Fits true (goes_to k) (piece k) (piece k)
piece_fits k ne = fits true (goes_to k) (piece k) (piece k) (pieces_fit k ne)

pub answer_none : (n : ℕ) → n ≡ 64 → answer n ≡ None
answer_none n e = elim (eqb_tells n 64) [ inl w ↦ rw w.0 refl | inr w ↦ absurd (w.1 e) ]

pub answer_some : (n : ℕ) → n ≢ 64 → answer n ≡ Some n
answer_some n ne = elim (eqb_tells n 64) [ inl w ↦ absurd (ne w.1) | inr w ↦ rw w.0 refl ]
