-- What the core of a move's text says, castling and the ends apart: a letter, a source and a target such as `Nbxd2`,
-- or a target alone such as `e4`. It is read from its end, so these functions take a text that is reversed. A file is
-- a number, 1 for a to 8 for h, and a rank is a number 1 to 8.
use Rattle.std.specs.Prelude.{ℕ, ◌+◌, ◌-◌, ◌*◌, Bool, true, false, ◌&&◌, ◌==◌, List, [], ◌∷◌, length, reverse, Option, Some, None, if◌then◌else◌, nat_le}
use Rattle.std.specs.Option.{option_map, option_and_then}
use Prim.Native.Char.{code}
use Rattle.pg_board.specs.declared.man.Kind.{Kind}
use Rattle.pg_board.specs.declared.man.Kind.TheVariants.{Pawn}
use Rattle.pg_board.specs.Squares.{file}
use Rattle.pg_san.specs.declared.cores.Core.{Core}
use Rattle.pg_san.specs.declared.cores.Parts.{Parts}
use Rattle.pg_san.specs.declared.cores.Sep.{Sep}
use Rattle.pg_san.specs.declared.cores.Sep.TheVariants.{Nothing, Cross, Hyphen}
use Rattle.pg_san.specs.Spelling.{piece_of, promoted_of}
use Rattle.pg_san.specs.Grammar.{is_cross, core_to, piece_core}

-- a letter a to h, and a digit 1 to 8
abbrev pub is_file : ℕ → Bool
is_file b = nat_le (code "a") b && nat_le b (code "h")

abbrev pub is_rank : ℕ → Bool
is_rank b = nat_le (code "1") b && nat_le b (code "8")

-- ---- what stands first in a reversed text, and what is left
-- a file, if one stands there
abbrev pub file_in : List ℕ → Option ℕ × List ℕ
file_in [] = (None, [])
file_in (b ∷ more) = if is_file b then (Some (b - 96), more) else (None, b ∷ more)

-- a rank, if one stands there
abbrev pub rank_in : List ℕ → Option ℕ × List ℕ
rank_in [] = (None, [])
rank_in (b ∷ more) = if is_rank b then (Some (b - 48), more) else (None, b ∷ more)

-- the square that a letter and a digit name
abbrev pub square_named : ℕ → ℕ → ℕ
square_named f r = (r - code "1") * 8 + (f - code "a")

-- a square
abbrev pub square_in : List ℕ → Option (ℕ × List ℕ)
square_in [] = None
square_in (r ∷ []) = None
square_in (r ∷ f ∷ more) = if is_file f && is_rank r then Some (square_named f r, more) else None

-- `x` or `-`, if one stands there
abbrev pub sep_in : List ℕ → Sep × List ℕ
sep_in [] = (Nothing, [])
sep_in (b ∷ more) =
    if b == code "x" then (Cross, more)
    else (if b == code "-" then (Hyphen, more) else (Nothing, b ∷ more))

-- without `=`, if one stands there
abbrev pub without_equals : List ℕ → List ℕ
without_equals [] = []
without_equals (b ∷ more) = if b == code "=" then more else b ∷ more

abbrev pub promotion_by : Option Kind → ℕ → List ℕ → Option Kind × List ℕ
promotion_by None b more = (None, b ∷ more)
promotion_by (Some kind) b more = (Some kind, without_equals more)

-- the letter of a promotion, if one stands there, with a `=` or without
abbrev pub promotion_in : List ℕ → Option Kind × List ℕ
promotion_in [] = (None, [])
promotion_in (b ∷ more) = promotion_by (promoted_of b) b more

-- the source that makes up all of a text, before a target
abbrev pub source_in : ℕ → List ℕ → Option Parts
source_in target text =
    let s = sep_in text in
    let r = rank_in s.1 in
    let f = file_in r.1 in
    if length f.1 == 0 then Some (record { file = f.0; rank = r.0; sep = s.0; target = target }) else None

abbrev pub parts_by : Option (ℕ × List ℕ) → Option Parts
parts_by None = None
parts_by (Some t) = source_in t.0 t.1

-- the source and the target that make up all of a text
unfoldable pub parts_in : List ℕ → Option Parts
parts_in text = parts_by (square_in text)

-- ---- what a core says
-- with no letter: a target alone is that of a pawn that stays on its file; a file, or a file and `x`, is a pawn's; a
-- source square is any man's
abbrev pub plain_by : Option ℕ → Option ℕ → Sep → ℕ → Option Kind → Option Core
plain_by None None Nothing target promotion =
    Some (core_to (Some Pawn) (Some (file target)) None target false promotion)
plain_by (Some f) None Nothing target promotion = Some (core_to (Some Pawn) (Some f) None target false promotion)
plain_by (Some f) None Cross target promotion = Some (core_to (Some Pawn) (Some f) None target true promotion)
plain_by (Some f) (Some r) sep target promotion = Some (core_to None (Some f) (Some r) target (is_cross sep) promotion)
plain_by _ _ _ target promotion = None

abbrev pub plain_core : Option Kind → Parts → Option Core
plain_core promotion p = plain_by p.file p.rank p.sep p.target promotion

-- a letter of a man says its kind and has no promotion; else the text may end with a promotion
abbrev pub core_by : Option Kind → ℕ → List ℕ → Option Core
core_by (Some kind) b rest = option_map (piece_core kind) (parts_in (reverse rest))
core_by None b rest =
    option_and_then (plain_core (promotion_in (reverse (b ∷ rest))).0)
    (parts_in (promotion_in (reverse (b ∷ rest))).1)

-- what a text says of a move, castling apart; nothing where it is spelled as no move is
unfoldable pub core_of : List ℕ → Option Core
core_of [] = None
core_of (b ∷ rest) = core_by (piece_of b) b rest
