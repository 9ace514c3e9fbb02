-- What stands on a square, from the 32 bytes of a placement.
use Rattle.std.specs.Prelude.{ℕ, ◌-◌, ◌/◌, ◌%◌, ◌==◌, cond, eqb, ltb, List, Option, Some, None, slice_index, if◌then◌else◌}
use Rattle.pg_board.specs.declared.man.Color.TheVariants.{White, Black}
use Rattle.pg_board.specs.declared.man.Man.{Man}
use Rattle.pg_board.specs.Men.{man}
use Rattle.pg_board.specs.lemmas.Codes.{kind_of_number}

-- the number of what stands on a square: the low half of a byte for the even one of two squares, else the high half
abbrev pub number_at : List ℕ → ℕ → ℕ
number_at bytes s = if s % 2 == 0 then slice_index bytes (s / 2) % 16 else slice_index bytes (s / 2) / 16

-- what stands on a square of this number, where a square has it
abbrev pub cell_from : ℕ → Option Man
cell_from n = cond (eqb n 0) None (cond (ltb n 9) (Some (man White (kind_of_number (n - 1)))) (Some (man Black (kind_of_number (n - 9)))))
