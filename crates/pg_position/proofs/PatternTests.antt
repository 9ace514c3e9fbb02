-- The patterns of the men of one step, and the rays, as tests of two squares: what the tables are compared with. Leads to TableLemmas.
use Rattle.pg_position.proofs.Common.{ℕ, ◌+◌, Bool, ◌&&◌, ◌||◌, not, eqb, ltb, arith, Decides, Decides-eqb, Decides-ltb, Decides-and, Decides-or, Decides-not, Decides-like, Color, White, Black, Pawn, Knight, King, file, rank, Direction, North, NorthEast, East, SouthEast, South, SouthWest, West, NorthWest, apart, InPattern, OnRay, OnFileOrRank, OnDiagonal}

unfoldable pub knight_test : ℕ → ℕ → Bool
knight_test r s = (eqb (apart (file r) (file s)) 1 && eqb (apart (rank r) (rank s)) 2) || (eqb (apart (file r) (file s)) 2 && eqb (apart (rank r) (rank s)) 1)

pub knight_decides : (c : Color) (r s : ℕ) → Decides (knight_test r s) (InPattern c Knight r s)
unfolding knight_test InPattern
knight_decides c r s =
    Decides-or _ _ (Decides-and _ _ (Decides-eqb (apart (file r) (file s)) 1) (Decides-eqb (apart (rank r) (rank s)) 2))
    (Decides-and _ _ (Decides-eqb (apart (file r) (file s)) 2) (Decides-eqb (apart (rank r) (rank s)) 1))

unfoldable pub king_test : ℕ → ℕ → Bool
king_test r s = not (eqb r s) && (ltb (apart (file r) (file s)) 2 && ltb (apart (rank r) (rank s)) 2)

pub king_decides : (c : Color) (r s : ℕ) → Decides (king_test r s) (InPattern c King r s)
unfolding king_test InPattern
king_decides c r s = Decides-like (king_test r s)
    (λ (a, (b, c)). (a, omega arith, omega arith)) (λ (a, b, c). (a, (omega arith, omega arith)))
    (Decides-and _ _ (Decides-not _ (Decides-eqb r s)) (Decides-and _ _ (Decides-ltb (apart (file r) (file s)) 2) (Decides-ltb (apart (rank r) (rank s)) 2)))

unfoldable pub pawn_test : Color → ℕ → ℕ → Bool
pawn_test White r s = eqb (apart (file r) (file s)) 1 && eqb (rank s) (rank r + 1)
pawn_test Black r s = eqb (apart (file r) (file s)) 1 && eqb (rank r) (rank s + 1)

pub pawn_decides : (c : Color) (r s : ℕ) → Decides (pawn_test c r s) (InPattern c Pawn r s)
unfolding pawn_test InPattern
pawn_decides White r s = Decides-and _ _ (Decides-eqb (apart (file r) (file s)) 1) (Decides-eqb (rank s) (rank r + 1))
pawn_decides Black r s = Decides-and _ _ (Decides-eqb (apart (file r) (file s)) 1) (Decides-eqb (rank r) (rank s + 1))

unfoldable pub ray_test : Direction → ℕ → ℕ → Bool
ray_test North r s = eqb (file s) (file r) && ltb (rank r) (rank s)
ray_test NorthEast r s = eqb (file s + rank r) (file r + rank s) && ltb (rank r) (rank s)
ray_test East r s = eqb (rank s) (rank r) && ltb (file r) (file s)
ray_test SouthEast r s = eqb (file s + rank s) (file r + rank r) && ltb (rank s) (rank r)
ray_test South r s = eqb (file s) (file r) && ltb (rank s) (rank r)
ray_test SouthWest r s = eqb (file s + rank r) (file r + rank s) && ltb (rank s) (rank r)
ray_test West r s = eqb (rank s) (rank r) && ltb (file s) (file r)
ray_test NorthWest r s = eqb (file s + rank s) (file r + rank r) && ltb (rank r) (rank s)

pub ray_decides : (d : Direction) (r s : ℕ) → Decides (ray_test d r s) (OnRay d r s)
unfolding ray_test OnRay
ray_decides North r s = Decides-and _ _ (Decides-eqb (file s) (file r)) (Decides-ltb (rank r) (rank s))
ray_decides NorthEast r s = Decides-and _ _ (Decides-eqb (file s + rank r) (file r + rank s)) (Decides-ltb (rank r) (rank s))
ray_decides East r s = Decides-and _ _ (Decides-eqb (rank s) (rank r)) (Decides-ltb (file r) (file s))
ray_decides SouthEast r s = Decides-and _ _ (Decides-eqb (file s + rank s) (file r + rank r)) (Decides-ltb (rank s) (rank r))
ray_decides South r s = Decides-and _ _ (Decides-eqb (file s) (file r)) (Decides-ltb (rank s) (rank r))
ray_decides SouthWest r s = Decides-and _ _ (Decides-eqb (file s + rank r) (file r + rank s)) (Decides-ltb (rank s) (rank r))
ray_decides West r s = Decides-and _ _ (Decides-eqb (rank s) (rank r)) (Decides-ltb (file s) (file r))
ray_decides NorthWest r s = Decides-and _ _ (Decides-eqb (file s + rank s) (file r + rank r)) (Decides-ltb (rank r) (rank s))

unfoldable pub straight_test : ℕ → ℕ → Bool
straight_test r s = ((ray_test North r s || ray_test East r s) || ray_test South r s) || ray_test West r s

pub straight_decides : (r s : ℕ) → Decides (straight_test r s) (OnFileOrRank r s)
unfolding straight_test
straight_decides r s = Decides-or _ _ (Decides-or _ _ (Decides-or _ _ (ray_decides North r s) (ray_decides East r s)) (ray_decides South r s)) (ray_decides West r s)

unfoldable pub diagonal_test : ℕ → ℕ → Bool
diagonal_test r s = ((ray_test NorthEast r s || ray_test SouthEast r s) || ray_test SouthWest r s) || ray_test NorthWest r s

pub diagonal_decides : (r s : ℕ) → Decides (diagonal_test r s) (OnDiagonal r s)
unfolding diagonal_test
diagonal_decides r s = Decides-or _ _ (Decides-or _ _ (Decides-or _ _ (ray_decides NorthEast r s) (ray_decides SouthEast r s)) (ray_decides SouthWest r s)) (ray_decides NorthWest r s)
