-- Why games that are known are not written.
use Rattle.std.specs.Prelude.{◌≡◌, ℕ, Bool, true, List}
use Rattle.pg_board.specs.Placement.{Placement}
use Rattle.pg_position.specs.declared.moves.Move.{Move}
use Rattle.pg_checker.specs.Answer.{AreSolutions}
use Rattle.pg_checker.specs.Listed.{IsListFault}
use Rattle.pg_cooks.specs.declared.fault.ListingFault.{ListingFault}
use Rattle.pg_cooks.specs.declared.fault.ListingFault.TheVariants.{Listed, Write}

-- why a list of games is not written: the first of them is named
-- that is no solution, or the sink has failed after each was tested
abbrev pub IsListingFault : Placement → ℕ → List (List Move) → Bool → ListingFault → Type 0
IsListingFault d n list failed (Listed fault) = IsListFault d n list fault
IsListingFault d n list failed Write = AreSolutions d n list × (failed ≡ true)
