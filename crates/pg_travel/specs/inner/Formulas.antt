-- Distances as formulas on numbers. 64 is none.
use Rattle.std.specs.Prelude.{ℕ, zero, suc, ◌+◌, ◌-◌, ◌*◌, ◌/◌, ◌%◌, ◌<◌, Bool, cond, ◌&&◌, ◌||◌, not, min, max, eqb, leb, Option, Some, None}
use Rattle.pg_board.specs.declared.man.Color.{Color}
use Rattle.pg_board.specs.declared.man.Color.TheVariants.{White, Black}
use Rattle.pg_board.specs.declared.man.Kind.{Kind}
use Rattle.pg_board.specs.declared.man.Kind.TheVariants.{Pawn, Knight, Bishop, Rook, Queen, King}
use Rattle.pg_board.specs.Squares.{file, rank}
use Rattle.pg_board.specs.Men.{kind_eq}
use Rattle.pg_position.specs.Geometry.{apart}
use Rattle.pg_travel.specs.Walks.{DistanceIs}

abbrev pub files : ℕ → ℕ → ℕ
files r s = apart (file r) (file s)

abbrev pub ranks : ℕ → ℕ → ℕ
ranks r s = apart (rank r) (rank s)

unfoldable pub king : ℕ → ℕ → ℕ
king r s = max (files r s) (ranks r s)

unfoldable pub rook : ℕ → ℕ → ℕ
rook r s = cond (eqb r s) 0 (cond (eqb (files r s) 0 || eqb (ranks r s) 0) 1 2)

unfoldable pub bishop : ℕ → ℕ → ℕ
bishop r s = cond (eqb r s) 0 (cond (eqb (files r s) (ranks r s)) 1 (cond (eqb ((files r s + ranks r s) % 2) 0) 2 64))

unfoldable pub queen : ℕ → ℕ → ℕ
queen r s = cond (eqb r s) 0 (cond ((eqb (files r s) 0 || eqb (ranks r s) 0) || eqb (files r s) (ranks r s)) 1 2)

abbrev pub is_corner : ℕ → Bool
is_corner r = (eqb r 0 || eqb r 7) || (eqb r 56 || eqb r 63)

abbrev pub long_way : ℕ → ℕ → ℕ
long_way x y = max ((x + 1) / 2) ((x + y + 2) / 3) + (max ((x + 1) / 2) ((x + y + 2) / 3) + x + y) % 2

abbrev pub knight_by : ℕ → ℕ → Bool → ℕ
knight_by x y corner = cond (eqb x 1 && eqb y 0) 3 (cond (eqb x 2 && eqb y 2) 4 (cond (eqb x 1 && eqb y 1) (cond corner 4 2) (long_way x y)))

unfoldable pub knight : ℕ → ℕ → ℕ
knight r s = knight_by (max (files r s) (ranks r s)) (min (files r s) (ranks r s)) (is_corner r || is_corner s)

abbrev pub piece : Kind → ℕ → ℕ → ℕ
piece Pawn r s = 64
piece Knight r s = knight r s
piece Bishop r s = bishop r s
piece Rook r s = rook r s
piece Queen r s = queen r s
piece King r s = king r s

abbrev pub answer : ℕ → Option ℕ
answer n = cond (eqb n 64) None (Some n)

-- the rank as the colour counts it, 1 at its own side
abbrev pub rank_for : Color → ℕ → ℕ
rank_for White s = rank s
rank_for Black s = 9 - rank s

-- a pawn's steps from r to s, its promotion apart: as many as ranks, one less where it can advance two from home
unfoldable pub pawn_steps : Color → ℕ → ℕ → ℕ
pawn_steps c r s = cond (leb (rank_for c r + files r s) (rank_for c s)) (cond ((leb (rank_for c r) 2 && leb 4 (rank_for c s)) && leb (rank_for c r + files r s + 2) (rank_for c s)) (rank_for c s - rank_for c r - 1) (rank_for c s - rank_for c r)) 64

-- the square as the other colour sees it
abbrev pub mirrored : ℕ → ℕ
mirrored s = 8 * (7 - s / 8) + s % 8

-- from pawn to pawn: none onto the last rank
unfoldable pub pawn : Color → ℕ → ℕ → ℕ
pawn c r s = cond (eqb r s) 0 (cond (eqb (rank_for c s) 8) 64 (pawn_steps c r s))

-- the square on the last rank
abbrev pub last_at : Color → ℕ → ℕ
last_at White f = 56 + f
last_at Black f = f

-- the least of f 0 .. f (n - 1) and 64
unfoldable pub least_of : (ℕ → ℕ) → ℕ → ℕ
least_of f zero = 64
least_of f (suc n) = min (least_of f n) (f n)

-- from a pawn on r to a piece on s, over the eight squares where it may become that piece
unfoldable pub pawn_to : (ℕ → ℕ → ℕ) → Color → ℕ → ℕ → ℕ
pawn_to to c r s = cond (eqb (rank_for c r) 8) 64 (least_of (λ f. pawn_steps c r (last_at c f) + to (last_at c f) s) 8)

-- the steps that a pawn needs at least to the last rank: one less than the ranks where it can advance two from home
abbrev pub soonest : Color → ℕ → ℕ
soonest c r = cond (leb (rank_for c r) 2) (7 - rank_for c r) (8 - rank_for c r)

abbrev pub from_pawn : Color → Kind → ℕ → ℕ → ℕ
from_pawn c Pawn r s = pawn c r s
from_pawn c Knight r s = pawn_to knight c r s
from_pawn c Bishop r s = pawn_to bishop c r s
from_pawn c Rook r s = pawn_to rook c r s
from_pawn c Queen r s = pawn_to queen c r s
from_pawn c King r s = 64

-- whether a pawn can become of the kind
abbrev pub is_promoted : Kind → Bool
is_promoted k = not (kind_eq k Pawn || kind_eq k King)

-- the steps that kind k on r needs at least to be of kind j on s: a pawn's to the last rank where j is promoted to, else one where r is not s
abbrev pub least_steps : Color → Kind → Kind → ℕ → ℕ → ℕ
least_steps c j k r s = cond (kind_eq k Pawn && is_promoted j) (soonest c r) (cond (eqb r s) 0 1)

-- from kind k on r to kind j on s
abbrev pub distance_of : Color → Kind → Kind → ℕ → ℕ → ℕ
distance_of c j Pawn r s = from_pawn c j r s
distance_of c j Knight r s = cond (kind_eq Knight j) (knight r s) 64
distance_of c j Bishop r s = cond (kind_eq Bishop j) (bishop r s) 64
distance_of c j Rook r s = cond (kind_eq Rook j) (rook r s) 64
distance_of c j Queen r s = cond (kind_eq Queen j) (queen r s) 64
distance_of c j King r s = cond (kind_eq King j) (king r s) 64

abbrev pub DistanceLaw : Type 0
DistanceLaw = (c : Color) (k : Kind) (r : ℕ) (j : Kind) (s : ℕ) → r < 64 → s < 64 → DistanceIs c k r j s (answer (distance_of c j k r s))
