-- Reading from a list of bytes: the value at its front and the bytes after it, or the refusal that is met first.
use Rattle.std.specs.Prelude.{ℕ, zero, suc, ◌+◌, ◌*◌, Bool, true, false, List, [], ◌∷◌, length, take, drop, Option, Some, None, Result, Ok, Err, nat_lt, ◌==◌, ◌&&◌, ◌||◌, slice_index, if◌then◌else◌}
use Rattle.std.specs.Int.{w32, from_be_bytes}
use Rattle.std.specs.Option.{option_map}
use Prim.Native.Char.{code}
use Rattle.pg_board.specs.declared.man.Color.{Color}
use Rattle.pg_board.specs.declared.man.Color.TheVariants.{White, Black}
use Rattle.pg_price_lists.specs.PriceLists.{PriceList, list_of}
use Rattle.pg_certificate.specs.declared.fault.ReadFault.{ReadFault}
use Rattle.pg_certificate.specs.declared.fault.ReadFault.TheVariants.{Truncated, Magic, UnknownRecord, Trailing}
use Rattle.pg_certificate.specs.declared.record.Header.{Header}
use Rattle.pg_certificate.specs.declared.record.Record.{Record}
use Rattle.pg_certificate.specs.declared.record.Record.TheVariants.{Expand, Cut, Ref, Priced}
use Rattle.pg_certificate.specs.declared.outline.Outline.{Outline}
use Rattle.pg_certificate.specs.Spelling.{header_length}

-- reading on from what was read
infixl 10 ◌>>=◌
abbrev pub ◌>>=◌ : {A B : Type 0} → Result A ReadFault → (A → Result B ReadFault) → Result B ReadFault
(Ok x) >>= f = f x
(Err e) >>= f = Err e

-- whether a byte is left; it stays
abbrev pub more_at : List ℕ → Result (Bool × List ℕ) ReadFault
more_at [] = Ok (false, [])
more_at (b ∷ rest) = Ok (true, b ∷ rest)

-- nothing
abbrev pub end_at : List ℕ → Result (Unit {0} × List ℕ) ReadFault
end_at [] = Ok (tt, [])
end_at (b ∷ rest) = Err Trailing

-- one byte
abbrev pub byte_at : List ℕ → Result (ℕ × List ℕ) ReadFault
byte_at [] = Err Truncated
byte_at (b ∷ rest) = Ok (b, rest)

-- n bytes
abbrev pub exactly : ℕ → List ℕ → Result (List ℕ × List ℕ) ReadFault
exactly n bytes = if nat_lt (length bytes) n then Err Truncated else Ok (take n bytes, drop n bytes)

-- a number of four bytes, most significant byte first
abbrev pub number_at : List ℕ → Result (ℕ × List ℕ) ReadFault
number_at bytes = exactly 4 bytes >>= λ x. Ok (from_be_bytes w32 x.0, x.1)

-- one byte, from the least to the most that may stand there; any other is unknown
abbrev pub byte_from : ℕ → ℕ → List ℕ → Result (ℕ × List ℕ) ReadFault
byte_from least most bytes =
    byte_at bytes >>= λ x. if nat_lt x.0 least || nat_lt most x.0 then Err (UnknownRecord x.0) else Ok x

-- the colour of a byte
abbrev pub color_of : ℕ → Color
color_of byte = if byte == 0 then White else Black

-- what stands before the price lists: the bound's code, the colour, how many lists, sources and targets there are
abbrev pub outline_at : List ℕ → Result (Outline × List ℕ) ReadFault
outline_at bytes =
    byte_at bytes >>= λ code.
    byte_from 0 1 code.1 >>= λ color.
    byte_from 1 3 color.1 >>= λ ways.
    byte_from 0 64 ways.1 >>= λ a.
    byte_from 0 64 a.1 >>= λ b.
    Ok (record { code = code.0; color = color_of color.0; ways = ways.0; sources = a.0; targets = b.0 }, b.1)

-- `ways` price lists, each a numbers for its sources and then b for its targets
abbrev pub lists_of : ℕ → ℕ → ℕ → List ℕ → List PriceList
lists_of zero a b bytes = []
lists_of (suc ways) a b bytes = list_of (take a bytes) (take b (drop a bytes)) ∷ lists_of ways a b (drop (a + b) bytes)

-- the price lists after their outline
abbrev pub lists_at : Outline → List ℕ → Result (List PriceList × List ℕ) ReadFault
lists_at o bytes =
    exactly (o.ways * (o.sources + o.targets)) bytes >>= λ x. Ok (lists_of o.ways o.sources o.targets x.0, x.1)

-- a priced record, after its first byte
abbrev pub priced_at : List ℕ → Result (Record × List ℕ) ReadFault
priced_at bytes =
    outline_at bytes >>= λ o. lists_at o.0 o.1 >>= λ prices. Ok (Priced o.0.code o.0.color prices.0, prices.1)

-- the record of this version whose first byte was read
abbrev pub record_after : ℕ → ℕ × List ℕ → Result (Record × List ℕ) ReadFault
record_after version x =
    if x.0 == 1 then Ok (Expand false, x.1) else
    if x.0 == 5 then Ok (Expand true, x.1) else
    if x.0 == 2 then (byte_at x.1 >>= λ y. Ok (Cut y.0, y.1)) else
    if x.0 == 3 then (number_at x.1 >>= λ y. Ok (Ref y.0, y.1)) else
    if (version == 2) && (x.0 == 6) then priced_at x.1 else
    Err (UnknownRecord x.0)

-- a record of this version
abbrev pub record_at : ℕ → List ℕ → Result (Record × List ℕ) ReadFault
record_at version bytes = byte_at bytes >>= record_after version

-- the version that a digit stands for, where there is such a version
abbrev pub version_named : ℕ → Option ℕ
version_named digit = if digit == code "1" then Some 1 else if digit == code "2" then Some 2 else None

-- the version whose magic is the first four bytes: PGC and its digit
abbrev pub version_of : List ℕ → Option ℕ
version_of text =
    if (slice_index text 0 == code "P") && (slice_index text 1 == code "G") && (slice_index text 2 == code "C")
    then version_named (slice_index text 3)
    else None

-- the header that 37 bytes spell: the magic, one byte of plies, 32 bytes of diagram
abbrev pub header_of : List ℕ → Option Header
header_of text =
    option_map (λ version. record { version = version; plies = slice_index text 4; diagram = drop 5 text })
    (version_of text)

-- the header with the bytes after it, where there is one
abbrev pub header_or_magic : Option Header → List ℕ → Result (Header × List ℕ) ReadFault
header_or_magic None rest = Err Magic
header_or_magic (Some h) rest = Ok (h, rest)

-- a header: too few bytes come before a wrong magic
abbrev pub header_at : List ℕ → Result (Header × List ℕ) ReadFault
header_at bytes = exactly header_length bytes >>= λ x. header_or_magic (header_of x.0) x.1
