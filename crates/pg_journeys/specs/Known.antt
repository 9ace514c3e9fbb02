-- The facts that sets of squares tell.
use Rattle.std.specs.Prelude.{ℕ}
use Rattle.pg_board.specs.Bits.{has}
use Rattle.pg_board.specs.declared.man.Color.{Color}
use Rattle.pg_board.specs.declared.man.Color.TheVariants.{White, Black}
use Rattle.pg_journeys.specs.Facts.{Facts}
use Rattle.pg_journeys.specs.declared.facts.Facts.{Facts as FactSets}

-- where captures by a colour may land
abbrev pub landing : FactSets → Color → ℕ
landing f White = f.white
landing f Black = f.black

-- the facts that these sets tell
abbrev pub known : FactSets → Facts
known f = record { still = λ s. has f.still s; lands = λ c s. has (landing f c) s }
