-- The refusal that a fault of a file or of a list is, and the status with which the program ends where a command has no answer.
use Rattle.std.specs.Prelude.{ℕ}
use Rattle.pg_checker.specs.declared.fault.Fault.TheVariants.{Listed as Unfit}
use Rattle.pg_cooks.specs.declared.fault.ListingFault.{ListingFault}
use Rattle.pg_cooks.specs.declared.fault.ListingFault.TheVariants as listing
use Rattle.pg_files.specs.declared.faults.FileFault.{FileFault}
use Rattle.pg_files.specs.declared.faults.FileFault.TheVariants as file
use Rattle.pg_report.specs.declared.fault.RunFault.TheVariants.{Check as CheckFault, Write as CheckWrite}
use Rattle.pg_report.specs.Statuses.{answer_status_of, status_of, search_status_of, show_status_of, moves_status_of, count_status_of, upgrade_status_of}
use Rattle.pg_tariff_files.specs.declared.fault.CarriedFault.{CarriedFault}
use Rattle.pg_tariff_files.specs.declared.fault.CarriedFault.TheVariants as carried
use Rattle.pg_pgn.specs.declared.fault.PgnFault.{PgnFault}
use Rattle.pg_pgn.specs.declared.fault.PgnFault.TheVariants as pgn
use Rattle.pg_cli.specs.declared.refusals.Named.{Named}
use Rattle.pg_cli.specs.declared.refusals.Refusal.{Refusal}
use Rattle.pg_cli.specs.declared.refusals.Refusal.TheVariants.{Words, Minutes, Nodes, Bytes, OnTerminal, Open, NoName, Line, NoGame, NotUtf8, Read, Write, Memory, Show, Moves, Count, Search, Full, Late, GaveUp, Upgrade, Check, Answer, Tariffs, Pgn, Letters}

-- that of a file whose tariffs are not read
abbrev pub tariffs_status : CarriedFault → ℕ
tariffs_status carried.Read = 4
tariffs_status carried.Memory = 3
tariffs_status fault = 1

-- that of bytes that are no games in PGN
abbrev pub pgn_status : PgnFault → ℕ
pgn_status pgn.Memory = 3
pgn_status fault = 2

-- 1 where a list or a certificate is refused or a search gave up,
-- 2 for bad words and texts, 3 for want of memory, 4 for a file
abbrev pub refusal_status : Refusal → ℕ
refusal_status Words = 2
refusal_status Minutes = 2
refusal_status Nodes = 2
refusal_status Bytes = 2
refusal_status OnTerminal = 2
refusal_status (Open name obstacle) = 4
refusal_status (NoName name) = 4
refusal_status Line = 2
refusal_status NoGame = 2
refusal_status NotUtf8 = 2
refusal_status Read = 4
refusal_status Write = 4
refusal_status Memory = 3
refusal_status (Show fault) = show_status_of fault
refusal_status (Moves fault) = moves_status_of fault
refusal_status (Count fault) = count_status_of fault
refusal_status (Search fault) = search_status_of fault
refusal_status (Full known) = 1
refusal_status (Late known) = 1
refusal_status (GaveUp fault known) = search_status_of fault
refusal_status (Upgrade fault) = upgrade_status_of fault
refusal_status (Check fault) = status_of fault
refusal_status (Answer fault) = answer_status_of fault
refusal_status (Tariffs fault) = tariffs_status fault
refusal_status (Pgn fault) = pgn_status fault
refusal_status Letters = 2

-- the refusal that a fault of the file is which this word names
abbrev pub file_refusal : FileFault → Named → Refusal
file_refusal (file.Open obstacle) name = Open name obstacle
file_refusal file.Read name = Read
file_refusal file.Write name = Write
file_refusal file.Memory name = Memory

-- the refusal that a fault of a list is which is written
abbrev pub listing_refusal : ListingFault → Refusal
listing_refusal (listing.Listed fault) = Check (CheckFault (Unfit fault))
listing_refusal listing.Write = Check CheckWrite
