-- Why a file is not read or written.
use Rattle.std.specs.Prelude.{◌≡◌, ◌⊎◌, ⊤, ℤ, Option, Some, None}
use Rattle.pg_files.specs.declared.faults.FileFault.{FileFault}
use Rattle.pg_files.specs.declared.faults.Obstacle.{Obstacle}
use Rattle.pg_files.specs.declared.faults.Obstacle.TheVariants.{System, Unknown, NoName, NotPlain, Link, NoFolder}
use Rattle.pg_files.specs.declared.faults.Obstacle.TheVariants.{Input, PrintedTo, NamedTwice, Drafts}
use Rattle.pg_files.specs.declared.faults.FileFault.TheVariants.{Open, Read, Write, Memory}

-- what the system says, where it gives this number or none
abbrev pub obstacle_of : Option ℤ → Obstacle
obstacle_of (Some number) = System number
obstacle_of None = Unknown

-- the system says so
abbrev pub IsOfSystem : Obstacle → Type 0
IsOfSystem (System number) = ⊤
IsOfSystem Unknown = ⊤
IsOfSystem NoName = ⊥
IsOfSystem NotPlain = ⊥
IsOfSystem Link = ⊥
IsOfSystem NoFolder = ⊥
IsOfSystem Input = ⊥
IsOfSystem PrintedTo = ⊥
IsOfSystem NamedTwice = ⊥
IsOfSystem Drafts = ⊥

-- the system refuses to open a file, to create it or to put it in its place
abbrev pub IsOfOpening : FileFault → Type 0
IsOfOpening (Open obstacle) = IsOfSystem obstacle
IsOfOpening Read = ⊥
IsOfOpening Write = ⊥
IsOfOpening Memory = ⊥

-- a file is not opened to be read: the system refuses it, or it is no plain file
abbrev pub IsNotOpened : FileFault → Type 0
IsNotOpened fault = (fault ≡ Open NotPlain) ⊎ IsOfOpening fault

-- a reader is not read to its end
abbrev pub IsNotRead : FileFault → Type 0
IsNotRead fault = (fault ≡ Read) ⊎ (fault ≡ Memory)

-- it stands in the way of a file that is begun, where links are followed
abbrev pub IsOfBeginning : Obstacle → Type 0
IsOfBeginning (System number) = ⊤
IsOfBeginning Unknown = ⊤
IsOfBeginning NoName = ⊤
IsOfBeginning NotPlain = ⊤
IsOfBeginning Link = ⊥
IsOfBeginning NoFolder = ⊥
IsOfBeginning Input = ⊤
IsOfBeginning PrintedTo = ⊤
IsOfBeginning NamedTwice = ⊥
IsOfBeginning Drafts = ⊤

-- a file is not begun: a growth was refused, or something stands in its way, which is no other word of the command, no
-- link and no want of a folder
abbrev pub IsNotBegun : FileFault → Type 0
IsNotBegun (Open obstacle) = IsOfBeginning obstacle
IsNotBegun Read = ⊥
IsNotBegun Write = ⊥
IsNotBegun Memory = ⊤

-- a file is not begun at its own path: likewise, or a link stands there
abbrev pub IsNotBegunHere : FileFault → Type 0
IsNotBegunHere fault = (fault ≡ Open Link) ⊎ IsNotBegun fault

-- a folder is not made: something else stands there, or the system refuses it
abbrev pub IsNotMade : FileFault → Type 0
IsNotMade fault = (fault ≡ Open NoFolder) ⊎ IsOfOpening fault

-- a file is not put in its place: it is not wholly written, or the system refuses that
abbrev pub IsNotPut : FileFault → Type 0
IsNotPut fault = (fault ≡ Write) ⊎ IsOfOpening fault
