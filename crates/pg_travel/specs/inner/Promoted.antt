-- The distances of a pawn to the four men that it can become, as the digits of one number.
use Rattle.std.specs.Prelude.{◌≡◌, ℕ, ◌/◌, ◌%◌, cond, eqb}
use Rattle.pg_board.specs.declared.man.Color.{Color}
use Rattle.pg_travel.specs.inner.Formulas.{knight, bishop, rook, queen, pawn_to}

-- the distance that a digit tells
abbrev pub told : ℕ → ℕ
told digit = cond (eqb digit 15) 64 digit

pub record ArePromoted (c : Color) (r s entry : ℕ) : Type 0 where
  pub knight : told (entry % 16) ≡ pawn_to knight c r s
  pub bishop : told (entry / 16 % 16) ≡ pawn_to bishop c r s
  pub rook : told (entry / 256 % 16) ≡ pawn_to rook c r s
  pub queen : told (entry / 4096 % 16) ≡ pawn_to queen c r s
