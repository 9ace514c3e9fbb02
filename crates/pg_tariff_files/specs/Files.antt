-- The bytes of a file that carries tariffs before its certificate.
use Rattle.std.specs.Prelude.{◌≡◌, ◌⊎◌, ℕ, ◌+◌, ◌*◌, ◌-◌, ◌<◌, ◌≤◌, ℤ, pos, negsuc, List, [], ◌∷◌, ◌++◌, Option, Some, None, IfSome, cond, ltb, get_or, length, codes}
use Rattle.pg_board.specs.declared.man.Color.TheVariants.{White, Black}
use Rattle.pg_tolls.specs.Tariffs.{Tariff}
use Rattle.pg_tolls.specs.Stated.{stated}
use Rattle.pg_tolls.specs.declared.tariff.Tariff.{Tariff as Told}
use Rattle.pg_tariff_files.specs.declared.fault.CarriedFault.{CarriedFault}
use Rattle.pg_tariff_files.specs.declared.fault.CarriedFault.TheVariants.{Read, Number, Truncated, Memory}

-- a byte as a number with a sign: from 128 on it is 256 less
abbrev pub signed : ℕ → ℤ
signed n = cond (ltb n 128) (pos n) (negsuc (255 - n))

-- the first n tolls are the bytes from a place on
abbrev pub AreTolls : List ℕ → ℕ → List ℤ → ℕ → Type 0
AreTolls bytes at tolls n = (q : ℕ) → q < n → get_or tolls q (pos 0) ≡ signed (get_or bytes (at + q) 0)

-- the tariff whose 130 bytes begin at a place: White's weight, Black's, White's tolls from a1 to h1 and on to h8, and
-- Black's tolls
pub record IsAt (bytes : List ℕ) (at : ℕ) (t : Tariff) : Type 0 where
  pub white : t.weight White ≡ get_or bytes at 0
  pub black : t.weight Black ≡ get_or bytes (at + 1) 0
  pub by_white : (q : ℕ) → q < 64 → t.toll White q ≡ signed (get_or bytes (at + 2 + q) 0)
  pub by_black : (q : ℕ) → q < 64 → t.toll Black q ≡ signed (get_or bytes (at + 66 + q) 0)

-- a tariff of no weight and no toll
abbrev pub nothing : Told
nothing = record { weights = []; tolls = [] }

-- these bytes state the first n of the tariffs, one after the other
abbrev pub AreStated : List ℕ → (ℕ → Tariff) → ℕ → Type 0
AreStated bytes tariffs n = (length bytes ≡ 130 * n) × ((i : ℕ) → i < n → IsAt bytes (130 * i) (tariffs i))

-- these are the n tariffs that bytes state one after the other
abbrev pub AreRead : List ℕ → List Told → ℕ → Type 0
AreRead bytes tariffs n = (length tariffs ≡ n) × ((i : ℕ) → i < n → IsAt bytes (130 * i) (stated (get_or tariffs i nothing)))

-- what stands before the certificate of a file that carries so many tariffs
abbrev pub lead : ℕ → List ℕ → List ℕ
lead n stated = codes "PGT1" ++ (n ∷ stated)

-- bytes begin as those of a file that carries tariffs
abbrev pub BeginsSo : List ℕ → Type 0
BeginsSo bytes = (rest : List ℕ) × (bytes ≡ codes "PGT1" ++ rest)

-- the bytes of a file: a certificate alone; or it stands behind 1 to 250 tariffs, which are stated by 130 bytes each
abbrev pub IsFile : List ℕ → List ℕ → List ℕ → Type 0
IsFile bytes stated certificate = ((stated ≡ []) × (bytes ≡ certificate) × ¬ BeginsSo bytes)
    ⊎ ((n : ℕ) × 0 < n × n ≤ 250 × (length stated ≡ 130 * n) × (bytes ≡ lead n stated ++ certificate))

-- the same of bytes that may be known
abbrev pub IsBegun : Option (List ℕ) → Option (List ℕ) → List ℕ → Type 0
IsBegun None certificate stated = Unit {0}
IsBegun (Some bytes) None stated = ⊥
IsBegun (Some bytes) (Some certificate) stated = IsFile bytes stated certificate

-- a read has failed, or a growth was refused
abbrev pub IsOfReading : CarriedFault → Type 0
IsOfReading Read = Unit {0}
IsOfReading Memory = Unit {0}
IsOfReading fault = ⊥

-- behind the magic the bytes are refused: the number of tariffs is none that a file may have; or they end before that
-- number, or before the last of the tariffs does
abbrev pub IsUnstated : CarriedFault → List ℕ → Type 0
IsUnstated Number bytes = (n : ℕ) × (rest : List ℕ) × (bytes ≡ n ∷ rest) × ((n ≡ 0) ⊎ (250 < n))
IsUnstated Truncated bytes = (bytes ≡ []) ⊎ ((n : ℕ) × (rest : List ℕ) × (bytes ≡ n ∷ rest) × length rest < 130 * n)
IsUnstated fault bytes = Unit {0}

-- so the bytes of a file are, where they are known
abbrev pub IsUnread : Option (List ℕ) → CarriedFault → Type 0
IsUnread file Number = IfSome file (λ bytes. (rest : List ℕ) × (bytes ≡ codes "PGT1" ++ rest) × IsUnstated Number rest)
IsUnread file Truncated = IfSome file (λ bytes. (rest : List ℕ) × (bytes ≡ codes "PGT1" ++ rest) × IsUnstated Truncated rest)
IsUnread file fault = Unit {0}
