-- What a whole text says of a move: a core or castling, and behind it three ends that may be missing, in this order:
-- `ep` or `e.p.`; `+`, `++` or `#`; one or two of `!` and `?`.
use Rattle.std.specs.Prelude.{ℕ, Bool, true, false, ◌||◌, ◌==◌, List, [], ◌∷◌, reverse, Option, Some, None, if◌then◌else◌, codes}
use Rattle.std.specs.Option.{option_map, option_and_then}
use Rattle.std.specs.Str.{bytes_eq}
use Prim.Native.Char.{code}
use Rattle.pg_position.specs.declared.rights.Wing.{Wing}
use Rattle.pg_position.specs.declared.rights.Wing.TheVariants.{KingSide, QueenSide}
use Rattle.pg_san.specs.declared.said.Form.{Form}
use Rattle.pg_san.specs.declared.said.Form.TheVariants.{Castles, Moves}
use Rattle.pg_san.specs.declared.said.Said.{Said}
use Rattle.pg_san.specs.CoreText.{core_of}

-- castling, with letters or with digits
abbrev pub castling_of : List ℕ → Option Wing
castling_of text =
    if bytes_eq text (codes "O-O") then Some KingSide
    else (if bytes_eq text (codes "0-0") then Some KingSide
    else (if bytes_eq text (codes "O-O-O") then Some QueenSide
    else (if bytes_eq text (codes "0-0-0") then Some QueenSide
    else None)))

abbrev pub form_by : Option Wing → List ℕ → Option Form
form_by (Some wing) text = Some (Castles wing)
form_by None text = option_map Moves (core_of text)

-- what a text says without its ends
abbrev pub form_of : List ℕ → Option Form
form_of text = form_by (castling_of text) text

-- ---- the ends, off a reversed text
abbrev pub is_mark : ℕ → Bool
is_mark b = (b == code "!") || (b == code "?")

abbrev pub without_mark : List ℕ → List ℕ
without_mark [] = []
without_mark (b ∷ more) = if is_mark b then more else b ∷ more

-- without two of `!` and `?` at most
abbrev pub without_marks : List ℕ → List ℕ
without_marks text = without_mark (without_mark text)

abbrev pub without_plus : List ℕ → List ℕ
without_plus [] = []
without_plus (b ∷ more) = if b == code "+" then more else b ∷ more

-- without `+`, `++` or `#`
abbrev pub without_check : List ℕ → List ℕ
without_check [] = []
without_check (b ∷ more) = if b == code "#" then more else (if b == code "+" then without_plus more else b ∷ more)

-- what is left behind this byte
abbrev pub byte_in : ℕ → List ℕ → Option (List ℕ)
byte_in byte [] = None
byte_in byte (b ∷ more) = if b == byte then Some more else None

-- what is left behind `ep`, reversed
abbrev pub ep_in : List ℕ → Option (List ℕ)
ep_in text = option_and_then (byte_in (code "e")) (byte_in (code "p") text)

-- what is left behind `e.p.`, reversed
abbrev pub dots_in : List ℕ → Option (List ℕ)
dots_in text =
    option_and_then (byte_in (code "e"))
    (option_and_then (byte_in (code ".")) (option_and_then (byte_in (code "p")) (byte_in (code ".") text)))

abbrev pub passing_by : Option (List ℕ) → Option (List ℕ) → List ℕ → Bool × List ℕ
passing_by (Some front) dots text = (true, front)
passing_by None (Some front) text = (true, front)
passing_by None None text = (false, text)

-- whether `ep` or `e.p.` stands there, and what is left
abbrev pub passing_in : List ℕ → Bool × List ℕ
passing_in text = passing_by (ep_in text) (dots_in text) text

abbrev pub said_by : Bool × List ℕ → Option Said
said_by off = option_map (λ form. record { form = form; passing = off.0 }) (form_of (reverse off.1))

-- what a whole text says; nothing where it is spelled as no move is
unfoldable pub said_of : List ℕ → Option Said
said_of text = said_by (passing_in (without_check (without_marks (reverse text))))
