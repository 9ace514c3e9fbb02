-- What a refusal of the search says: a write for a sink that has failed, a shorter game for a length below the stated one.
use Rattle.std.specs.Prelude.{◌≡◌, ℕ, ◌<◌, Bool, true, Result, Ok, Err}
use Rattle.pg_searcher.specs.declared.fault.SearchFault.{SearchFault}
use Rattle.pg_searcher.specs.declared.fault.SearchFault.TheVariants.{Budget, Shorter, TooManyGames, Write, Memory}

-- what is said by an answer of a search for games of `plies` plies, where the sink has failed or not
abbrev pub RefusesTruly : {X : Type 0} → ℕ → Bool → Result X SearchFault → Type 0
RefusesTruly plies failed (Ok x) = Unit {0}
RefusesTruly plies failed (Err Budget) = Unit {0}
RefusesTruly plies failed (Err (Shorter fewer)) = fewer < plies
RefusesTruly plies failed (Err TooManyGames) = Unit {0}
RefusesTruly plies failed (Err Write) = failed ≡ true
RefusesTruly plies failed (Err Memory) = Unit {0}
