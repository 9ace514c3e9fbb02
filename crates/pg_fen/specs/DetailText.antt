-- The five fields behind the placement (the PGN standard, sections 16.1.3.2 to 16.1.3.6): the side to move, the
-- castling rights, the passed square, the number of half moves and the number of the full move.
use Rattle.std.specs.Prelude.{ℕ, ◌+◌, ◌-◌, ◌*◌, Bool, ◌&&◌, ◌||◌, ◌==◌, List, [], ◌∷◌, length, Option, Some, None, Result, Ok, Err, if◌then◌else◌, nat_lt, nat_le, codes}
use Rattle.std.specs.Str.{bytes_eq, all_ascii_digits}
use Rattle.std.specs.Str.Parse.{digits_value}
use Rattle.std.specs.List.{list_all, count_by}
use Prim.Native.Char.{code}
use Rattle.pg_board.specs.declared.man.Color.{Color}
use Rattle.pg_board.specs.declared.man.Color.TheVariants.{White, Black}
use Rattle.pg_fen.specs.declared.fault.FenFault.{FenFault}
use Rattle.pg_fen.specs.declared.fault.FenFault.TheVariants.{Side, Rights as BadRights, EnPassant, Number}
use Rattle.pg_position.specs.declared.rights.Rights.{Rights}
use Rattle.pg_fen.specs.declared.details.Details.{Details}

-- ---- each field: its value, and none where it is not well formed
-- `w` or `b`
abbrev pub side_of : List ℕ → Option Color
side_of text =
    if bytes_eq text (codes "w") then Some White
    else (if bytes_eq text (codes "b") then Some Black else None)

abbrev pub is_right : ℕ → Bool
is_right b = (b == code "K") || (b == code "Q") || (b == code "k") || (b == code "q")

-- how often a letter stands in a text
abbrev pub count_letter : ℕ → List ℕ → ℕ
count_letter letter text = count_by (λ b. b == letter) text

abbrev pub no_letter_twice : List ℕ → Bool
no_letter_twice text =
    nat_le (count_letter (code "K") text) 1 && (nat_le (count_letter (code "Q") text) 1
    && (nat_le (count_letter (code "k") text) 1 && nat_le (count_letter (code "q") text) 1))

-- one to four different letters of `KQkq`
abbrev pub are_rights : List ℕ → Bool
are_rights text = nat_lt 0 (length text) && (list_all is_right text && no_letter_twice text)

-- the rights whose letters stand in a text
abbrev pub rights_in : List ℕ → Rights
rights_in text = record {
  white_king = count_letter (code "K") text == 1;
  white_queen = count_letter (code "Q") text == 1;
  black_king = count_letter (code "k") text == 1;
  black_queen = count_letter (code "q") text == 1;
}

-- `-` for no right, or one to four different letters of `KQkq` in any order
abbrev pub rights_of : List ℕ → Option Rights
rights_of text =
    if bytes_eq text (codes "-") then Some (rights_in [])
    else (if are_rights text then Some (rights_in text) else None)

-- `-` for none, or a file a to h with rank 3 or 6
abbrev pub passed_of : List ℕ → Option (Option ℕ)
passed_of (dash ∷ []) = if dash == code "-" then Some None else None
passed_of (file ∷ rank ∷ []) =
    if nat_le (code "a") file && nat_le file (code "h") && ((rank == code "3") || (rank == code "6"))
    then Some (Some (8 * (rank - code "1") + (file - code "a"))) else None
passed_of _ = None

-- decimal digits that spell at most 65,535
abbrev pub is_number : List ℕ → Bool
is_number text = nat_lt 0 (length text) && (all_ascii_digits text && nat_le (digits_value 10 text) 65535)

abbrev pub number_of : List ℕ → Option ℕ
number_of text = if is_number text then Some (digits_value 10 text) else None

-- ---- the five of them
-- goes on with the value of a field, or answers the field's fault
abbrev pub with_field : {A B : Type 0} → FenFault → Option A → (A → Result B FenFault) → Result B FenFault
with_field fault None go_on = Err fault
with_field fault (Some value) go_on = go_on value

-- the values of the five fields, or the fault of the first that is not well formed
unfoldable pub details_of : List ℕ → List ℕ → List ℕ → List ℕ → List ℕ → Result Details FenFault
details_of side_text rights_text passed_text half_text full_text =
    with_field Side (side_of side_text) (λ side_value.
    with_field BadRights (rights_of rights_text) (λ rights_value.
    with_field EnPassant (passed_of passed_text) (λ passed_value.
    with_field Number (number_of half_text) (λ half_value.
    with_field Number (number_of full_text) (λ full_value.
    Ok (record {
      side = side_value;
      rights = rights_value;
      passed = passed_value;
      half = half_value;
      full = full_value;
    }))))))
