-- The tests on pawns, run.
use Rattle.std.proofs.Common.{◌≡◌, ◌≢◌, ℕ, ◌+◌, Bool, true, cond, ◌&&◌, ◌||◌, refl, eqb}
use Rattle.pg_board.specs.declared.man.Color.{Color}
use Rattle.pg_board.specs.declared.man.Color.TheVariants.{White, Black}
use Rattle.pg_board.specs.declared.man.Kind.{Kind}
use Rattle.pg_board.specs.declared.man.Kind.TheVariants.{Pawn, King}
use Rattle.pg_board.specs.Squares.{file, rank}
use Rattle.pg_board.specs.Men.{kind_eq}
use Rattle.pg_board.specs.lemmas.Kinds.{each_man}
use Rattle.pg_travel.specs.inner.Formulas.{files, rook, bishop, queen, knight, piece, pawn_steps, pawn, least_of, pawn_to, from_pawn}
use Rattle.pg_travel.specs.lemmas.PairTests.{all_below, gather, all_of, any_of, fits_at, fits_row, fits_rows}

-- where a pawn steps, as a test: n ranks forward
abbrev pub forward_by : Color → ℕ → ℕ → ℕ → Bool
forward_by White n r s = eqb (rank s) (rank r + n)
forward_by Black n r s = eqb (rank r) (rank s + n)

abbrev pub at_home : Color → ℕ → Bool
at_home White r = eqb (rank r) 2
at_home Black r = eqb (rank r) 7

abbrev pub at_end : Color → ℕ → Bool
at_end White r = eqb (rank r) 8
at_end Black r = eqb (rank r) 1

unfoldable pub pawn_goes : Color → ℕ → ℕ → Bool
pawn_goes c r s = (eqb (file r) (file s) && forward_by c 1 r s) || ((at_home c r && (eqb (file r) (file s) && forward_by c 2 r s)) || (eqb (files r s) 1 && forward_by c 1 r s))

-- what is left after a step to kind j on s: of a pawn, or of the piece that it became
unfoldable pub left_of : Color → Kind → ℕ → ℕ → ℕ
left_of c j t s = cond (at_end c t) (piece j t s) (from_pawn c j t s)

abbrev pub fits_kind : Color → Kind → Bool
fits_kind c j = fits_rows (kind_eq j Pawn) (pawn_goes c) (from_pawn c j) (left_of c j)

pub kinds_fit : (c : Color) (j : Kind) → j ≢ King → fits_kind c j ≡ true
unfolding pawn_steps pawn pawn_to least_of left_of knight bishop rook queen pawn_goes all_below gather all_of any_of fits_at fits_row fits_rows
kinds_fit = each_man (λ c j. j ≢ King → fits_kind c j ≡ true) (λ _. refl, λ _. refl, λ _. refl, λ _. refl, λ _. refl, λ ne. absurd (ne refl)) (λ _. refl, λ _. refl, λ _. refl, λ _. refl, λ _. refl, λ ne. absurd (ne refl))
