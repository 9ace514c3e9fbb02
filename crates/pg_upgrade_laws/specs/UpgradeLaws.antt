-- What an upgrade keeps.
use Rattle.std.specs.Prelude.{◌≡◌, ◌≢◌, ◌↔◌, ℕ, ◌<◌, ◌≤◌, ◌⊎◌, Bool, List, [], ◌++◌, length, Option, Ok, Err}
use Rattle.pg_board.specs.declared.man.Color.{Color}
use Rattle.pg_board.specs.Placement.{Placement}
use Rattle.pg_position.specs.declared.state.State.{State}
use Rattle.pg_position.specs.declared.moves.Move.{Move}
use Rattle.pg_captures.specs.PriceLists.{PriceList}
use Rattle.pg_certificate.specs.declared.record.Header.{Header}
use Rattle.pg_certificate.specs.Laws.{IsCutShort, IsUnknownAt}
use Rattle.pg_certificate.specs.Spelling.{AreBytes, header_length, header_spelling, IsHeader}
use Rattle.pg_checker.specs.declared.certify.Proved.{Proved}
use Rattle.pg_checker.specs.Check.{IsCertified}
use Rattle.pg_checker.specs.Chess.{chess}
use Rattle.pg_checker.specs.Cuts.{CheckRules}
use Rattle.pg_texts.specs.declared.fault.UpgradeFault.TheVariants.{Truncated, NotVersion1, UnknownRecord, Budget}
use Rattle.pg_texts.specs.Upgrade.{Certificate1, certificate_bytes, IsUpgraded, with_digit_2, upgrade_of}

-- bytes are upgraded exactly where they are a certificate of version 1
-- with no more than `most` records, and their number is the answer
abbrev pub UpgradesExactly : Type 0
UpgradesExactly =
    (most n : ℕ) (bytes : List ℕ) → AreBytes bytes
    → (upgrade_of most bytes ≡ Ok n) ↔ ((n ≤ most) × IsUpgraded bytes (with_digit_2 bytes) n)

-- what a check goes by: chess with the diagram d, n plies and
-- these games, whatever cuts by bounds and by prices there are
abbrev pub rules_with : Placement → ℕ → List (List Move) → (ℕ → State → ℕ → Option Bool)
    → (ℕ → Color → List PriceList → State → ℕ → Option Bool) → CheckRules
rules_with d n games bounds prices = record {
  plies = n;
  of = λ version. chess d n games (record { version = version; bounds = bounds; prices = prices });
}

-- bytes that a check says yes to, within its limits, are certified
-- once upgraded, with the same numbers of records and named nodes
abbrev pub UpgradedIsCertified : Type 0
UpgradedIsCertified =
    (d : Placement) (n : ℕ) (games : List (List Move)) (bounds : ℕ → State → ℕ → Option Bool)
    (prices : ℕ → Color → List PriceList → State → ℕ → Option Bool)
    (max_records max_named : ℕ) (old new : List ℕ) (k : ℕ) (proved : Proved)
    → IsUpgraded old new k → IsCertified (rules_with d n games bounds prices) d max_records max_named old proved
    → IsCertified (rules_with d n games bounds prices) d max_records max_named new proved

-- bytes of version 1 that a check says yes to, within its limits, are upgraded within the same limit of records
abbrev pub CertifiedIsUpgraded : Type 0
CertifiedIsUpgraded =
    (d : Placement) (n : ℕ) (games : List (List Move)) (bounds : ℕ → State → ℕ → Option Bool)
    (prices : ℕ → Color → List PriceList → State → ℕ → Option Bool)
    (max_records max_named : ℕ) (bytes : List ℕ) (proved : Proved)
    (is : IsCertified (rules_with d n games bounds prices) d max_records max_named bytes proved)
    → is.version ≡ 1 → upgrade_of max_records bytes ≡ Ok proved.records

-- a header of version 1 and n records of version 1 stand there, and behind them these bytes, which are some
pub record IsLeftBehind (n : ℕ) (bytes rest : List ℕ) : Type 0 where
  pub certificate : Certificate1
  pub many : length certificate.records ≡ n
  pub parts : bytes ≡ certificate_bytes certificate ++ rest
  pub some : rest ≢ []

-- Where each refusal stands, with no more than `most` records allowed. Truncated: fewer than 37 bytes, or
-- less than a whole record behind fewer records than those. NotVersion1: 37 bytes or more
-- that begin with no header of version 1. UnknownRecord: behind fewer records, the first byte
-- that no record of version 1 can have at its place. Budget: bytes behind `most` records.
pub record RefusesUpgrade (most : ℕ) (bytes : List ℕ) : Type 0 where
  pub truncated : (upgrade_of most bytes ≡ Err Truncated)
      ↔ ((length bytes < header_length)
      ⊎ ((n : ℕ) × (rest : List ℕ) × (n < most) × IsLeftBehind n bytes rest × IsCutShort 1 rest))
  pub not_version_1 : (upgrade_of most bytes ≡ Err NotVersion1)
      ↔ ((header_length ≤ length bytes)
      × ((h : Header) (rest : List ℕ) → IsHeader h → h.version ≡ 1 → bytes ≢ header_spelling h ++ rest))
  pub unknown : (byte : ℕ)
      → (upgrade_of most bytes ≡ Err (UnknownRecord byte))
      ↔ ((n : ℕ) × (rest : List ℕ) × (n < most) × IsLeftBehind n bytes rest × IsUnknownAt 1 rest byte)
  pub budget : (upgrade_of most bytes ≡ Err Budget) ↔ ((rest : List ℕ) × IsLeftBehind most bytes rest)

abbrev pub RefusesExactly : Type 0
RefusesExactly = (most : ℕ) (bytes : List ℕ) → AreBytes bytes → RefusesUpgrade most bytes
