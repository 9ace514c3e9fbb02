-- Certificates of version 1 as certificates of version 2: what becomes of their bytes, and why other bytes are refused.
use Rattle.std.specs.Prelude.{◌≡◌, ℕ, zero, suc, ◌+◌, ◌≤◌, Bool, true, List, [], ◌∷◌, ◌++◌, length, slice_set, All, Option, IfSome, Result, Ok, Err, ◌==◌, if◌then◌else◌}
use Rattle.std.specs.List.{flat_map}
use Rattle.pg_certificate.specs.declared.fault.ReadFault.{ReadFault}
use Rattle.pg_certificate.specs.declared.fault.ReadFault.TheVariants as reading
use Rattle.pg_certificate.specs.declared.record.Header.{Header}
use Rattle.pg_certificate.specs.declared.record.Record.{Record}
use Rattle.pg_certificate.specs.Spelling.{spelling, header_spelling, IsHeader, IsRecordOf}
use Rattle.pg_certificate.specs.Reading.{header_at, record_at}
use Rattle.pg_texts.specs.declared.fault.UpgradeFault.{UpgradeFault}
use Rattle.pg_texts.specs.declared.fault.UpgradeFault.TheVariants.{Truncated, NotVersion1, UnknownRecord, Read, Budget, Write}

-- ---- certificates of version 1
-- a header of version 1, and records of version 1
pub record Certificate1 : Type 0 where
  pub header : Header
  pub records : List Record
  pub is_header : IsHeader header
  pub is_first : header.version ≡ 1
  pub are_records : All (λ x. IsRecordOf 1 x) records

-- the bytes of the header, and then those of each record
abbrev pub certificate_bytes : Certificate1 → List ℕ
certificate_bytes c = header_spelling c.header ++ flat_map spelling c.records

-- the same bytes with the digit 2 (50) as the fourth
abbrev pub with_digit_2 : List ℕ → List ℕ
with_digit_2 bytes = slice_set bytes 3 50

-- the old bytes are a header of version 1 and then n records of version
-- 1, and the new ones are the same with the digit 2 as the fourth
pub record IsUpgraded (old new : List ℕ) (n : ℕ) : Type 0 where
  pub certificate : Certificate1
  pub many : length certificate.records ≡ n
  pub old_is : old ≡ certificate_bytes certificate
  pub new_is : new ≡ with_digit_2 old

-- ---- how they are read
-- a refusal to read a header or a record, by its name here; the last two are never given there
abbrev pub upgrade_fault_of : ReadFault → UpgradeFault
upgrade_fault_of reading.Truncated = Truncated
upgrade_fault_of reading.Magic = NotVersion1
upgrade_fault_of (reading.UnknownRecord byte) = UnknownRecord byte
upgrade_fault_of reading.Read = Read
upgrade_fault_of reading.Trailing = Truncated
upgrade_fault_of reading.Failed = Read

-- reading on from what was read
infixl 10 ◌>>=◌
abbrev pub ◌>>=◌ : {A B : Type 0} → Result A ReadFault → (A → Result B UpgradeFault) → Result B UpgradeFault
(Ok x) >>= f = f x
(Err e) >>= f = Err (upgrade_fault_of e)

-- one record more
abbrev pub one_more : Result ℕ UpgradeFault → Result ℕ UpgradeFault
one_more (Ok n) = Ok (suc n)
one_more (Err e) = Err e

-- how many records of version 1 the bytes are, no more than `most`, or the first refusal
abbrev pub records_in : ℕ → List ℕ → Result ℕ UpgradeFault
records_in most [] = Ok 0
records_in zero (b ∷ rest) = Err Budget
records_in (suc most) (b ∷ rest) = record_at 1 (b ∷ rest) >>= λ x. one_more (records_in most x.1)

-- how many records there are behind a header of version 1, no more than `most`, or the first refusal
abbrev pub upgrade_of : ℕ → List ℕ → Result ℕ UpgradeFault
upgrade_of most bytes = header_at bytes >>= λ x. if x.0.version == 1 then records_in most x.1 else Err NotVersion1

-- why nothing more is written: Read for a source that has failed,
-- Write for a sink that has; else what reading the known bytes gives
abbrev pub IsUpgradeFault : (List ℕ → Result ℕ UpgradeFault) → Option (List ℕ) → Bool → Bool → UpgradeFault → Type 0
IsUpgradeFault answer known source sink Read = source ≡ true
IsUpgradeFault answer known source sink Write = sink ≡ true
IsUpgradeFault answer known source sink e = IfSome known (λ bytes. answer bytes ≡ Err e)

-- no more than `most` of the known bytes are gone from the source; a source that has failed does not tell
abbrev pub Takes : {A : Type 0} → ℕ → Option (List ℕ) → Option (List ℕ) → Result A UpgradeFault → Type 0
Takes most before after (Err Read) = Unit {0}
Takes most before after answer = IfSome before (λ bytes. IfSome after (λ rest. length bytes ≤ length rest + most))
