-- The tests, run over all pairs of squares.
use Rattle.std.proofs.Common.{◌≡◌, ◌≢◌, ℕ, Bool, true, false, ◌&&◌, ◌||◌, not, refl, eqb, leb}
use Rattle.pg_board.specs.declared.man.Kind.{Kind}
use Rattle.pg_board.specs.declared.man.Kind.TheVariants.{Pawn, Knight, Bishop, Rook, Queen, King}
use Rattle.pg_board.specs.Squares.{file, rank}
use Rattle.pg_board.specs.lemmas.Kinds.{each_kind}
use Rattle.pg_travel.specs.inner.Formulas.{files, ranks, king, rook, bishop, queen, knight, piece}
use Rattle.pg_travel.specs.lemmas.PairTests.{all_below, gather, all_of, any_of, fits_at, fits_row, fits_rows}

-- the patterns as tests
unfoldable pub knight_to : ℕ → ℕ → Bool
knight_to r s = (eqb (files r s) 1 && eqb (ranks r s) 2) || (eqb (files r s) 2 && eqb (ranks r s) 1)

unfoldable pub bishop_to : ℕ → ℕ → Bool
bishop_to r s = not (eqb r s) && eqb (files r s) (ranks r s)

unfoldable pub rook_to : ℕ → ℕ → Bool
rook_to r s = not (eqb r s) && (eqb (file r) (file s) || eqb (rank r) (rank s))

unfoldable pub queen_to : ℕ → ℕ → Bool
queen_to r s = not (eqb r s) && ((eqb (file r) (file s) || eqb (rank r) (rank s)) || eqb (files r s) (ranks r s))

unfoldable pub king_to : ℕ → ℕ → Bool
king_to r s = not (eqb r s) && (leb (files r s) 1 && leb (ranks r s) 1)

abbrev pub goes_to : Kind → ℕ → ℕ → Bool
goes_to Pawn r s = false
goes_to Knight r s = knight_to r s
goes_to Bishop r s = bishop_to r s
goes_to Rook r s = rook_to r s
goes_to Queen r s = queen_to r s
goes_to King r s = king_to r s

pub pieces_fit : (k : Kind) → k ≢ Pawn → fits_rows true (goes_to k) (piece k) (piece k) ≡ true
unfolding knight knight_to king king_to rook rook_to bishop bishop_to queen queen_to all_below gather all_of any_of fits_at fits_row fits_rows
pieces_fit = each_kind (λ k. k ≢ Pawn → fits_rows true (goes_to k) (piece k) (piece k) ≡ true) (λ ne. absurd (ne refl), λ _. refl, λ _. refl, λ _. refl, λ _. refl, λ _. refl)
