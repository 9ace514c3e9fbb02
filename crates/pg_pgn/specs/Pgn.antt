-- The games of a text in PGN (the import format of the PGN standard, sections 7 and 8), and its first fault.
use Rattle.std.specs.Prelude.{◌≡◌, ℕ, ◌+◌, ◌-◌, ◌<◌, ◌⊎◌, Bool, true, false, ◌||◌, ◌==◌, nat_lt, List, [], ◌∷◌, ◌++◌, length, drop, take, Ok, Err, if◌then◌else◌, codes}
use Rattle.std.specs.List.{prefix_len}
use Rattle.std.specs.Str.{bytes_eq}
use Prim.Native.Char.{code}
use Rattle.pg_position.specs.declared.state.State.{State}
use Rattle.pg_position.specs.declared.moves.Move.{Move}
use Rattle.pg_position.specs.Array.{array_state}
use Rattle.pg_position.specs.Step.{Legal}
use Rattle.pg_san.specs.declared.fault.SanFault.{SanFault}
use Rattle.pg_san.specs.GameText.{digits_len, dots_len}
use Rattle.pg_san.specs.Matching.{IsReading}
use Rattle.pg_pgn.specs.declared.letters.Letters.{Letters}
use Rattle.pg_pgn.specs.declared.tokens.TokenKind.{TokenKind}
use Rattle.pg_pgn.specs.declared.tokens.TokenKind.TheVariants.{Gap, LineEnd, Comment, LineComment, Tag, Glyph, Opens, Closes, Star, Word}
use Rattle.pg_pgn.specs.declared.signs.Sign.{Sign}
use Rattle.pg_pgn.specs.declared.signs.Sign.TheVariants.{Nothing, Heads, Fen, SetUp, Opening, Closing, Result, Moves}
use Rattle.pg_pgn.specs.declared.fault.PgnFault.{PgnFault}
use Rattle.pg_pgn.specs.declared.fault.PgnFault.TheVariants.{Memory, At, Form}
use Rattle.pg_pgn.specs.declared.fault.FormFault.{FormFault}
use Rattle.pg_pgn.specs.declared.fault.FormFault.TheVariants as Fault
use Rattle.pg_pgn.specs.Letters.{english}
use Rattle.pg_pgn.specs.Tokens.{AreTokens, StartsWith, IsUnclosed, kind_at, tag_name, tag_value, body, without_mark}
use Rattle.pg_pgn.specs.Places.{before, line_from, column_from}

-- ---- what a token says
-- behind the digits and dots at its front
abbrev pub behind_number : List ℕ → List ℕ
behind_number word = drop (dots_len word) (drop (digits_len word) word)

-- the word without a move number: digits and dots at its front are one, where there is a dot or nothing stands behind
unfoldable pub without_number : List ℕ → List ℕ
without_number word =
    if nat_lt 0 (dots_len word) || (length (behind_number word) == 0) then behind_number word else word

-- what a word says, in English and without a move number
abbrev pub said : Letters → List ℕ → List ℕ
said letters word = english letters (without_number word)

abbrev pub is_result : List ℕ → Bool
is_result text =
    bytes_eq text (codes "1-0") || (bytes_eq text (codes "0-1") || bytes_eq text (codes "1/2-1/2"))

abbrev pub is_mark : ℕ → Bool
is_mark b = (b == code "!") || ((b == code "?") || ((b == code "+") || (b == code "#")))

-- nothing, marks and check signs alone, or `e.p.`
abbrev pub is_idle : List ℕ → Bool
is_idle text =
    (prefix_len is_mark text == length text) || (bytes_eq text (codes "e.p.") || bytes_eq text (codes "ep"))

abbrev pub word_sign : List ℕ → Sign
word_sign text = if is_result text then Result else (if is_idle text then Nothing else Moves)

-- a tag pair `SetUp` says by its value whether a position is set up
abbrev pub set_up_sign : List ℕ → Sign
set_up_sign token = if bytes_eq (take 3 (tag_value token)) (codes "\"1\"") then SetUp else Heads

-- a tag pair `FEN` gives that position
abbrev pub tag_sign : List ℕ → Sign
tag_sign token =
    if bytes_eq (tag_name token) (codes "FEN") then Fen
    else (if bytes_eq (tag_name token) (codes "SetUp") then set_up_sign token else Heads)

abbrev pub sign_by : TokenKind → Letters → List ℕ → Sign
sign_by Gap letters token = Nothing
sign_by LineEnd letters token = Nothing
sign_by Comment letters token = Nothing
sign_by LineComment letters token = Nothing
sign_by Glyph letters token = Nothing
sign_by Tag letters token = tag_sign token
sign_by Opens letters token = Opening
sign_by Closes letters token = Closing
sign_by Star letters token = Result
sign_by Word letters token = word_sign (said letters token)

abbrev pub sign_of : Letters → List ℕ → Sign
sign_of letters token = sign_by (kind_at token) letters token

-- ---- reading
-- what a reader knows at a place in a text: the games that have ended; the moves of the game at hand, where they lead,
-- and whether it has a tag pair; and how many variations are open
pub record Reader : Type 0 where
  pub games : List (List Move)
  pub moves : List Move
  pub here : State
  pub headed : Bool
  pub depth : ℕ

-- behind these games, at the front of the next, which has a tag pair or none yet
abbrev pub at_game : List (List Move) → Bool → Reader
at_game games headed = record { games = games; moves = []; here = array_state; headed = headed; depth = 0 }

-- the game at hand ends
abbrev pub ended : Reader → List (List Move)
ended r = r.games ++ r.moves ∷ []

-- a tag pair is of the game at hand; behind a move it begins the next
abbrev pub at_head : Reader → Reader
at_head r = record { games = r.games; moves = r.moves; here = r.here; headed = true; depth = r.depth }

abbrev pub head : Reader → Reader
head r = if length r.moves == 0 then at_head r else at_game (ended r) true

abbrev pub at_depth : Reader → ℕ → Reader
at_depth r depth = record { games = r.games; moves = r.moves; here = r.here; headed = r.headed; depth = depth }

abbrev pub moved : Reader → Move → State → Reader
moved r m next = record { games = r.games; moves = r.moves ++ m ∷ []; here = next; headed = r.headed; depth = r.depth }

-- what the reader knows behind a token that says this, in this text: the words of variations are passed over
unfoldable pub Goes : Sign → Reader → List ℕ → Reader → Type 0
Goes Nothing r text s = s ≡ r
Goes Opening r text s = s ≡ at_depth r (r.depth + 1)
Goes Closing r text s = (0 < r.depth) × (s ≡ at_depth r (r.depth - 1))
Goes Heads r text s = (r.depth ≡ 0) × (s ≡ head r)
Goes Fen r text s = ⊥
Goes SetUp r text s = ⊥
Goes Result r text s = ((0 < r.depth) × (s ≡ r)) ⊎ ((r.depth ≡ 0) × (s ≡ at_game (ended r) false))
Goes Moves r text s =
    ((0 < r.depth) × (s ≡ r))
    ⊎ ((r.depth ≡ 0) × ((m : Move) × (next : State) × IsReading r.here text (Ok m) × Legal r.here m next
    × (s ≡ moved r m next)))

-- the tokens lead a reader from here to there
unfoldable pub Lead : Letters → Reader → List (List ℕ) → Reader → Type 0
Lead letters r [] s = s ≡ r
Lead letters r (token ∷ tokens) s =
    (next : Reader) × Goes (sign_of letters token) r (said letters token) next × Lead letters next tokens s

-- at the end of a text: the games, with the one at hand, if it has a tag pair or a move
abbrev pub all_games : Reader → List (List Move)
all_games r = if r.headed || nat_lt 0 (length r.moves) then ended r else r.games

-- the tokens at the front of a text lead a reader here, and the rest stands behind them
pub record IsRead (letters : Letters) (text : List ℕ) (r : Reader) (rest : List ℕ) : Type 0 where
  pub tokens : List (List ℕ)
  pub cut : AreTokens (body text) tokens rest
  pub leads : Lead letters (at_game [] false) tokens r

-- the games of a text: all its tokens lead to them, and no variation is open at the end
unfoldable pub IsFile : Letters → List ℕ → List (List Move) → Type 0
IsFile letters text games = (r : Reader) × IsRead letters text r [] × (r.depth ≡ 0) × (games ≡ all_games r)

-- ---- faults
-- the line and the column at which the rest of a text begins
abbrev pub IsPlace : List ℕ → List ℕ → ℕ → ℕ → Type 0
IsPlace text rest line column =
    (line ≡ line_from 1 (before (without_mark text) rest)) × (column ≡ column_from 1 (before (without_mark text) rest))

-- a token that says this is at fault: a tag pair in a variation, or one that sets up a position; a `)` where no variation
-- is open
abbrev pub IsSignFault : Sign → Reader → FormFault → Type 0
IsSignFault Heads r f = (0 < r.depth) × (f ≡ Fault.Variation)
IsSignFault Fen r f = ((0 < r.depth) × (f ≡ Fault.Variation)) ⊎ ((r.depth ≡ 0) × (f ≡ Fault.Fen))
IsSignFault SetUp r f = ((0 < r.depth) × (f ≡ Fault.Variation)) ⊎ ((r.depth ≡ 0) × (f ≡ Fault.SetUp))
IsSignFault Closing r f = (r.depth ≡ 0) × (f ≡ Fault.Closing)
IsSignFault sign r f = ⊥

-- what is wrong where the rest of a text begins
unfoldable pub IsFormFault : Letters → Reader → List ℕ → FormFault → Type 0
IsFormFault letters r rest f =
    ((rest ≡ []) × (0 < r.depth) × (f ≡ Fault.Variation))
    ⊎ (((IsUnclosed rest Comment × (f ≡ Fault.Comment)) ⊎ (IsUnclosed rest Tag × (f ≡ Fault.Tag)))
    ⊎ ((token : List ℕ) × (left : List ℕ) × StartsWith rest token left × IsSignFault (sign_of letters token) r f))

-- a word of the main line is not read as a move, for this cause
unfoldable pub IsWordFault : Letters → Reader → List ℕ → SanFault → Type 0
IsWordFault letters r rest cause =
    (token : List ℕ) × (left : List ℕ) × StartsWith rest token left × (sign_of letters token ≡ Moves) × (r.depth ≡ 0)
    × IsReading r.here (said letters token) (Err cause)

-- the first fault of a text, with its place, and the number of the game and of the ply, counted from 1; want of memory
-- may come anywhere
abbrev pub IsFaultAt : Letters → List ℕ → Reader → List ℕ → PgnFault → Type 0
IsFaultAt letters text r rest Memory = Unit {0}
IsFaultAt letters text r rest (At line column game ply word cause) =
    IsPlace text rest line column × (game ≡ length r.games + 1) × (ply ≡ length r.moves + 1)
    × IsWordFault letters r rest cause
IsFaultAt letters text r rest (Form line column game fault) =
    IsPlace text rest line column × (game ≡ length r.games + 1) × IsFormFault letters r rest fault

unfoldable pub IsFirstFault : Letters → List ℕ → PgnFault → Type 0
IsFirstFault letters text fault =
    (r : Reader) × (rest : List ℕ) × IsRead letters text r rest × IsFaultAt letters text r rest fault
