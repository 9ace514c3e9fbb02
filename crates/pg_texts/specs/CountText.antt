-- When the number of games from a position is written, and why it is not.
use Rattle.std.specs.Prelude.{◌≡◌, ℕ, ◌≤◌, Bool, true, List, [], ◌∷◌, ◌++◌, Option}
use Rattle.std.specs.Fmt.{decimal}
use Rattle.std.specs.Io.KnownBytes.{Appends}
use Prim.Native.Char.{code}
use Rattle.pg_position.specs.declared.state.State.{State}
use Rattle.pg_moves.specs.Counts.{IsCountFault, IsGameCount}
use Rattle.pg_texts.specs.MovesText.{SpellsPosition, IsRefusedAs}
use Rattle.pg_texts.specs.declared.fault.CountRunFault.{CountRunFault}
use Rattle.pg_texts.specs.declared.fault.CountRunFault.TheVariants.{Position, Count, Write}

-- a text spells a position, and the number of games of `plies` plies from it, 8 at most, was appended, with a line feed
abbrev pub IsCounted : List ℕ → ℕ → Option (List ℕ) → Option (List ℕ) → Type 0
IsCounted text plies old new = (p : State) × SpellsPosition text p × (plies ≤ 8)
    × ((n : ℕ) × IsGameCount p plies n × Appends old new (decimal n ++ code "\n" ∷ []))

-- why the number of games of `plies` plies is not written: the text
-- is refused; else they are not counted; else the sink has failed
abbrev pub IsCountRunFault : List ℕ → ℕ → Bool → CountRunFault → Type 0
IsCountRunFault text plies failed (Position fault) = IsRefusedAs text fault
IsCountRunFault text plies failed (Count fault) = (p : State) × SpellsPosition text p × IsCountFault p plies fault
IsCountRunFault text plies failed Write = ((p : State) × SpellsPosition text p) × (plies ≤ 8) × (failed ≡ true)
