-- The bytes that stand for a header and for each record, in both versions.
use Rattle.std.specs.Prelude.{◌≡◌, ℕ, ◌+◌, ◌*◌, ◌<◌, ◌≤◌, ◌^◌, ◌⊎◌, Bool, true, false, List, [], ◌∷◌, ◌++◌, length, get_or, All}
use Rattle.std.specs.List.{flat_map}
use Rattle.std.specs.Int.{w32, to_be_bytes}
use Prim.Native.Char.{code}
use Rattle.pg_board.specs.declared.man.Color.{Color}
use Rattle.pg_board.specs.declared.man.Color.TheVariants.{White, Black}
use Rattle.pg_price_lists.specs.PriceLists.{PriceList}
use Rattle.pg_price_lists.specs.PriceRecords.{sources, targets}
use Rattle.pg_certificate.specs.declared.record.Header.{Header}
use Rattle.pg_certificate.specs.declared.record.Bare.{Bare}
use Rattle.pg_certificate.specs.declared.record.Bare.TheVariants as bare
use Rattle.pg_certificate.specs.declared.record.Record.{Record}
use Rattle.pg_certificate.specs.declared.record.Record.TheVariants.{Expand, Cut, Ref, Priced}

-- each number is a byte
abbrev pub AreBytes : List ℕ → Type 0
AreBytes bytes = (i : ℕ) → get_or bytes i 0 < 256

-- the byte of an expanded node, by whether it is named
abbrev pub expand_byte : Bool → ℕ
expand_byte false = 1
expand_byte true = 5

-- the byte of a colour
abbrev pub color_byte : Color → ℕ
color_byte White = 0
color_byte Black = 1

-- a price list: the numbers of its sources, then those of its targets
abbrev pub list_spelling : PriceList → List ℕ
list_spelling l = l.u ++ l.v

-- price lists: how many there are, how many sources and targets each has, then the lists
abbrev pub prices_spelling : List PriceList → List ℕ
prices_spelling prices = length prices ∷ sources prices ∷ targets prices ∷ flat_map list_spelling prices

-- 01 or 05; 02 and the bound's code; 03 and the number in four bytes, most
-- significant byte first; 06, the bound's code, the colour and the prices
abbrev pub spelling : Record → List ℕ
spelling (Expand named) = expand_byte named ∷ []
spelling (Cut code) = 2 ∷ code ∷ []
spelling (Ref number) = 3 ∷ to_be_bytes w32 number
spelling (Priced code color prices) = 6 ∷ code ∷ color_byte color ∷ prices_spelling prices

-- a record with these price lists, where it has any
abbrev pub record_of : List PriceList → Bare → Record
record_of prices (bare.Expand named) = Expand named
record_of prices (bare.Cut code) = Cut code
record_of prices (bare.Ref number) = Ref number
record_of prices (bare.Priced code color) = Priced code color prices

-- price lists kept elsewhere stay as they are, but where the record has some of its own
abbrev pub PricesStay : Bare → List PriceList → List PriceList → Type 0
PricesStay (bare.Expand named) old new = new ≡ old
PricesStay (bare.Cut code) old new = new ≡ old
PricesStay (bare.Ref number) old new = new ≡ old
PricesStay (bare.Priced code color) old new = Unit {0}

-- the length of a header: four letters, one byte of plies, 32 of the diagram
abbrev pub header_length : ℕ
header_length = 37

-- no spelling is longer: six bytes, then at most three lists of 64 sources and 64 targets
abbrev pub longest_record : ℕ
longest_record = 6 + 3 * (64 + 64)

-- a price list of bytes, for `a` sources and `b` targets
pub record IsPriceList (a b : ℕ) (l : PriceList) : Type 0 where
  pub sources : length l.u ≡ a
  pub targets : length l.v ≡ b
  pub source_bytes : AreBytes l.u
  pub target_bytes : AreBytes l.v

-- one to three price lists of bytes, all for the same numbers of sources and targets, at most 64 of each
pub record ArePrices (prices : List PriceList) : Type 0 where
  pub some : 0 < length prices
  pub few : length prices ≤ 3
  pub few_sources : sources prices ≤ 64
  pub few_targets : targets prices ≤ 64
  pub lists : All (λ l. IsPriceList (sources prices) (targets prices) l) prices

-- what has a spelling: a code is a byte, a number has four bytes, and prices are bytes
abbrev pub IsRecord : Record → Type 0
IsRecord (Expand named) = Unit {0}
IsRecord (Cut code) = code < 2 ^ 8
IsRecord (Ref number) = number < 2 ^ 32
IsRecord (Priced code color prices) = (code < 2 ^ 8) × ArePrices prices

-- which records a version has: priced ones are of version 2 alone
abbrev pub HasRecord : ℕ → Record → Type 0
HasRecord version (Expand named) = Unit {0}
HasRecord version (Cut code) = Unit {0}
HasRecord version (Ref number) = Unit {0}
HasRecord version (Priced code color prices) = version ≡ 2

-- a record of this version
pub record IsRecordOf (version : ℕ) (x : Record) : Type 0 where
  pub known : HasRecord version x
  pub fits : IsRecord x

-- the letters PGC and the digit of the version
abbrev pub magic : ℕ → List ℕ
magic version = code "P" ∷ code "G" ∷ code "C" ∷ (code "0" + version) ∷ []

-- the magic, the plies, the diagram
abbrev pub header_spelling : Header → List ℕ
header_spelling h = magic h.version ++ (h.plies ∷ h.diagram)

-- a version that there is
abbrev pub IsVersion : ℕ → Type 0
IsVersion version = (version ≡ 1) ⊎ (version ≡ 2)

-- a header of a version that there is, whose diagram has 32 bytes
pub record IsHeader (h : Header) : Type 0 where
  pub known : IsVersion h.version
  pub whole : length h.diagram ≡ 32
