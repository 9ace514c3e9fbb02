-- What the men of a colour cost together, by tables: sums over different columns for different men, in some way.
use Rattle.std.specs.Prelude.{◌≡◌, ℕ, zero, suc, ◌+◌, ◌*◌, ◌-◌, ◌<◌, min, true, cond, nat_eq, ltb, ◌&&◌, Option, Some, None, get_or}
use Rattle.pg_board.specs.Bits.{has}
use Rattle.pg_board.specs.declared.man.Color.{Color}
use Rattle.pg_board.specs.declared.man.Kind.{Kind}
use Rattle.pg_board.specs.declared.man.Kind.TheVariants.{Pawn, King}
use Rattle.pg_board.specs.declared.man.Man.{Man}
use Rattle.pg_board.specs.Men.{color_eq, kind_eq, other}
use Rattle.pg_board.specs.Placement.{Placement, get}
use Rattle.pg_position.specs.declared.rights.Wing.{Wing}
use Rattle.pg_position.specs.declared.state.State.{State}
use Rattle.pg_position.specs.Geometry.{IsBetween}
use Rattle.pg_position.specs.Position.{Stands, holds}
use Rattle.pg_position.specs.Squares.{ahead, king_home, rook_home}
use Rattle.pg_captures.specs.Counting.{men, any_man, sum_over}
use Rattle.pg_captures.specs.Owed.{victims}
use Rattle.pg_travel.specs.Origins.{charge, counted}
use Rattle.pg_tolls.specs.inner.Tables.{entry}
use Rattle.pg_tolls.specs.declared.half.Half.{Half}

-- ---- one man
-- the kind of the man on a square
abbrev pub kind_of : Option Man → Kind
kind_of None = Pawn
kind_of (Some m) = m.kind

abbrev pub kind_on : Placement → ℕ → Kind
kind_on b s = kind_of (get b s)

-- what it costs to be captured: by the table, and, for the pawn on s who has just passed a free square, by a move to that
-- square, which is no step of his
abbrev pub by_passing : Half → Color → ℕ → ℕ → ℕ → Option ℕ → ℕ
by_passing x side j s n None = n
by_passing x side j s n (Some u) =
    cond (color_eq side (other x.color) && (nat_eq s (ahead x.color 1 u) && has x.free u)) (min n (get_or x.lost u 0 + 128 * j)) n

-- what the man on s costs at a column, with j marks: to become a man of the diagram, or, in a later column, to be captured
abbrev pub cost_at : Half → State → Option Wing → ℕ → ℕ → ℕ → ℕ
cost_at x p way j s e =
    cond (ltb e x.goals.count)
    (entry x.rows.items j (kind_on p.board s) (counted x.color way s) e)
    (cond (kind_eq (kind_on p.board s) King) 65535
    (by_passing x p.side j s (entry x.rows.items j (kind_on p.board s) (counted x.color way s) 15) p.passed))

-- the least of n numbers; 65535 for none
abbrev pub least_of : (ℕ → ℕ) → ℕ → ℕ
least_of f zero = 65535
least_of f (suc n) = min (least_of f n) (f n)

-- what he costs at a column, where 254 more than his least counts for all that is more
abbrev pub clipped : Half → State → Option Wing → ℕ → ℕ → ℕ → ℕ → ℕ
clipped x p way j n s e = min (cost_at x p way j s e) (least_of (cost_at x p way j s) n + 254)

-- ---- all men of a colour
-- the marks that a walk may have
abbrev pub marks_for : Half → Placement → Placement → ℕ
marks_for x d b = victims x.color b - victims x.color d

-- each man has a column of his own, one of as many as there are men, where he costs some number; x is what they cost together
pub record AreColumns (x : Half) (d : Placement) (p : State) (way : Option Wing) (to : ℕ → ℕ) : Type 0 where
  pub inside : (k : Kind) (s : ℕ) → s < 64 → Stands p.board x.color k s → to s < men x.color any_man p.board
  pub some : (k : Kind) (s : ℕ) → s < 64 → Stands p.board x.color k s → cost_at x p way (marks_for x d p.board) s (to s) < 65535
  pub different : (k i : Kind) (r s : ℕ) → r < 64 → s < 64 → Stands p.board x.color k r → Stands p.board x.color i s → to r ≡ to s → r ≡ s

-- a way of the colour of a half: no castling, or castling by a right that p holds, where king and rook and all between stand
-- on free squares
abbrev pub IsOpenWay : Half → State → Option Wing → Type 0
IsOpenWay x p None = Unit {0}
IsOpenWay x p (Some w) =
    (holds p.rights x.color w ≡ true) × (has x.free (king_home x.color) ≡ true) × (has x.free (rook_home x.color w) ≡ true)
    × ((t : ℕ) → t < 64 → IsBetween (king_home x.color) t (rook_home x.color w) → has x.free t ≡ true)

-- v is what the men cost together in some way, at different columns, with the weight for a castling
abbrev pub IsCost : Half → Placement → State → ℕ → Type 0
IsCost x d p v =
    (way : Option Wing) × IsOpenWay x p way × ((to : ℕ → ℕ) × AreColumns x d p way to
    × (v ≡ x.weight * charge way + sum_over x.color any_man p.board (λ s. clipped x p way (marks_for x d p.board) (men x.color any_man p.board) s (to s))))
