-- What reading and spelling have to do with one another.
use Rattle.std.specs.Prelude.{◌≡◌, ◌≢◌, ◌↔◌, ◌≤◌, ◌<◌, ℕ, List, [], ◌∷◌, ◌++◌, length, Ok, Err}
use Rattle.pg_certificate.specs.declared.fault.ReadFault.TheVariants.{Truncated, Magic, UnknownRecord}
use Rattle.pg_certificate.specs.declared.record.Header.{Header}
use Rattle.pg_certificate.specs.declared.record.Record.{Record}
use Rattle.pg_certificate.specs.Spelling.{AreBytes, spelling, header_length, header_spelling, longest_record, IsRecord, IsRecordOf, IsHeader}
use Rattle.pg_certificate.specs.Reading.{record_at, header_at}

-- a record that was written is read again in its version, whatever follows, and what follows is left
abbrev pub RecordsAreReadAgain : Type 0
RecordsAreReadAgain =
    (version : ℕ) (x : Record) (rest : List ℕ) → IsRecordOf version x
    → record_at version (spelling x ++ rest) ≡ Ok (x, rest)

-- the bytes of a record that is read begin with its spelling, and it is one of the version
abbrev pub WhatIsReadIsSpelled : Type 0
WhatIsReadIsSpelled =
    (version : ℕ) (bytes rest : List ℕ) (x : Record) → AreBytes bytes → record_at version bytes ≡ Ok (x, rest)
    → IsRecordOf version x × (bytes ≡ spelling x ++ rest)

-- bytes that begin with the spellings of two records are those of one
abbrev pub NoSpellingBeginsAnother : Type 0
NoSpellingBeginsAnother =
    (x y : Record) (after_x after_y : List ℕ) → IsRecord x → IsRecord y
    → spelling x ++ after_x ≡ spelling y ++ after_y → (x ≡ y) × (after_x ≡ after_y)

-- no spelling has more bytes than the longest
abbrev pub NoSpellingIsLonger : Type 0
NoSpellingIsLonger = (x : Record) → IsRecord x → length (spelling x) ≤ longest_record

-- less than a whole record of this version
pub record IsCutShort (version : ℕ) (bytes : List ℕ) : Type 0 where
  pub whole : Record
  pub missing : List ℕ
  pub fits : IsRecordOf version whole
  pub some_missing : missing ≢ []
  pub parts : spelling whole ≡ bytes ++ missing

-- Truncated is answered exactly where the bytes are less than a whole record
abbrev pub TruncatedWhereCutShort : Type 0
TruncatedWhereCutShort =
    (version : ℕ) (bytes : List ℕ) → AreBytes bytes
    → (record_at version bytes ≡ Err Truncated) ↔ IsCutShort version bytes

-- the byte x stands where no record of this version goes on with it: what
-- is before it is less than a whole record, and no record goes on so
pub record IsUnknownAt (version : ℕ) (bytes : List ℕ) (x : ℕ) : Type 0 where
  pub front : List ℕ
  pub rest : List ℕ
  pub parts : bytes ≡ front ++ x ∷ rest
  pub begun : IsCutShort version front
  pub none : (r : Record) (more : List ℕ) → IsRecordOf version r → spelling r ≢ front ++ x ∷ more

-- a byte is unknown exactly where it is the first that no record of this version can have at its place
abbrev pub UnknownWhereNoneGoesOn : Type 0
UnknownWhereNoneGoesOn =
    (version : ℕ) (bytes : List ℕ) (x : ℕ) → AreBytes bytes
    → (record_at version bytes ≡ Err (UnknownRecord x)) ↔ IsUnknownAt version bytes x

-- a header that was written is read again whatever follows, and what follows is left
abbrev pub HeadersAreReadAgain : Type 0
HeadersAreReadAgain = (h : Header) (rest : List ℕ) → IsHeader h → header_at (header_spelling h ++ rest) ≡ Ok (h, rest)

-- the bytes of a header that is read begin with its spelling
abbrev pub WhatIsReadIsAHeader : Type 0
WhatIsReadIsAHeader =
    (bytes rest : List ℕ) (h : Header) → header_at bytes ≡ Ok (h, rest)
    → IsHeader h × (bytes ≡ header_spelling h ++ rest)

-- fewer bytes than a header has are Truncated, and Magic is answered
-- exactly where there are as many and they begin with no header
pub record RefusesWhatIsNoHeader (bytes : List ℕ) : Type 0 where
  pub truncated : (header_at bytes ≡ Err Truncated) ↔ length bytes < header_length
  pub magic : (header_at bytes ≡ Err Magic)
      ↔ ((header_length ≤ length bytes)
      × ((h : Header) (rest : List ℕ) → IsHeader h → bytes ≢ header_spelling h ++ rest))
