-- The length of a game as text: whole moves, and a half move more as `.5`.
--     length_of text     what a text reads as: its number of plies, or why it is no length
--     length_text plies  what this number of plies is written as
--     IsLength text n    the grammar: the text spells n plies
use Rattle.std.specs.Prelude.{◌≡◌, ◌≢◌, ℕ, ◌+◌, ◌*◌, ◌/◌, ◌%◌, ◌==◌, ◌⊎◌, List, [], ◌++◌, take, drop, Option, Some, None, Result, Ok, Err, if◌then◌else◌, nat_lt, codes, IsTrue}
use Rattle.std.specs.Str.{bytes_eq, all_ascii_digits}
use Rattle.std.specs.Option.{option_map}
use Rattle.std.specs.List.{prefix_len}
use Rattle.std.specs.Char.{is_ascii_digit}
use Rattle.std.specs.Fmt.{decimal}
use Rattle.std.specs.Str.Parse.{digits_value}
use Rattle.pg_fen.specs.declared.fault.LengthFault.{LengthFault}
use Rattle.pg_fen.specs.declared.fault.LengthFault.TheVariants.{Shape, TooLong}

-- ---- reading
-- the digits at the front, and what follows them
abbrev pub front_digits : List ℕ → List ℕ
front_digits text = take (prefix_len is_ascii_digit text) text

abbrev pub after_digits : List ℕ → List ℕ
after_digits text = drop (prefix_len is_ascii_digit text) text

-- the plies that the end of a length adds to the whole moves
abbrev pub half_of : List ℕ → Option ℕ
half_of end =
    if bytes_eq end [] then Some 0
    else (if bytes_eq end (codes ".0") then Some 0
    else (if bytes_eq end (codes ".5") then Some 1
    else None))

-- the plies that a text spells, however many
abbrev pub plies_of : List ℕ → Option ℕ
plies_of text =
    if nat_lt 0 (prefix_len is_ascii_digit text)
    then option_map (λ half. 2 * digits_value 10 (front_digits text) + half) (half_of (after_digits text))
    else None

abbrev pub length_or_fault : Option ℕ → Result ℕ LengthFault
length_or_fault None = Err Shape
length_or_fault (Some plies) = if nat_lt 128 plies then Err TooLong else Ok plies

-- the length that a text reads as, or why it is none
unfoldable pub length_of : List ℕ → Result ℕ LengthFault
length_of text = length_or_fault (plies_of text)

-- ---- writing
-- `n.0` for 2 * n plies, and `n.5` for one more
unfoldable pub length_text : ℕ → List ℕ
length_text plies = decimal (plies / 2) ++ (if plies % 2 == 0 then codes ".0" else codes ".5")

-- ---- the grammar
-- the end of a length, and the plies that it adds
abbrev pub IsEnd : List ℕ → ℕ → Type 0
IsEnd end half = ((half ≡ 0) × (end ≡ [])) ⊎ (((half ≡ 0) × (end ≡ codes ".0")) ⊎ ((half ≡ 1) × (end ≡ codes ".5")))

-- One or more digits, then nothing, `.0` or `.5`: the digits spell the whole moves.
pub record IsLength (text : List ℕ) (plies : ℕ) : Type 0 where
  pub digits : List ℕ
  pub end : List ℕ
  pub half : ℕ
  pub whole : text ≡ digits ++ end
  pub some : digits ≢ []
  pub are_digits : IsTrue (all_ascii_digits digits)
  pub ends : IsEnd end half
  pub value : plies ≡ 2 * digits_value 10 digits + half
