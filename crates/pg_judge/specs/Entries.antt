-- A line of a file of problems: a name, a diagram, a length, and behind them, if wanted, the author's game.
use Rattle.std.specs.Prelude.{◌≡◌, ◌≢◌, ◌⊎◌, ◌<◌, ◌≤◌, ℕ, Bool, true, ◌||◌, ◌==◌, Option, Some, None, Ok, Err}
use Rattle.std.specs.Prelude.{List, [], ◌∷◌, length, slice_get, take, drop}
use Rattle.std.specs.List.{list_all}
use Rattle.std.specs.Char.{is_ascii_alphanumeric}
use Rattle.std.specs.Str.{IsUtf8}
use Prim.Native.Char.{code}
use Rattle.pg_fen.specs.Fields.{fields}
use Rattle.pg_fen.specs.DiagramText.{diagram_of}
use Rattle.pg_fen.specs.Lengths.{length_of}
use Rattle.pg_san.specs.GameText.{words}
use Rattle.pg_position.specs.declared.moves.Move.{Move}
use Rattle.pg_san.specs.Listing.{IsListing, IsTextFault}
use Rattle.pg_san.specs.declared.listing_fault.GamesFault.TheVariants.{At}
use Rattle.pg_judge.specs.declared.entry.BadMove.{BadMove}
use Rattle.pg_judge.specs.declared.entry.Entry.{Entry}
use Rattle.pg_judge.specs.declared.entry_fault.EntryFault.{EntryFault}
use Rattle.pg_judge.specs.declared.entry_fault.EntryFault.TheVariants.{Name, Short, NotUtf8, Diagram, Length, Games}

-- ---- a list
-- the byte order mark of a text in UTF-8
abbrev pub mark : List ℕ
mark = 239 ∷ 187 ∷ 191 ∷ []

-- the text begins with the mark, and this is what is behind it; or it does not, and this is the text
abbrev pub IsUnmarked : List ℕ → List ℕ → Type 0
IsUnmarked text rest = ((3 ≤ length text) × (take 3 text ≡ mark) × (rest ≡ drop 3 text))
    ⊎ ((3 ≤ length text → take 3 text ≢ mark) × (rest ≡ text))

-- ---- names
-- a letter or a digit of ASCII, a hyphen, an underscore or a dot
abbrev pub is_name_byte : ℕ → Bool
is_name_byte b = is_ascii_alphanumeric b || (b == code "-") || (b == code "_") || (b == code ".")

-- the word is of such bytes, and begins with no dot
abbrev pub IsName : List ℕ → Type 0
IsName word = (list_all is_name_byte word ≡ true) × (slice_get word 0 ≢ Some (code "."))

-- ---- lines
-- the word begins a comment
abbrev pub IsHash : List ℕ → Type 0
IsHash word = slice_get word 0 ≡ Some (code "#")

-- the line has no words, or is a comment
abbrev pub IsSkipped : List ℕ → Type 0
IsSkipped line = (words line ≡ []) ⊎ ((word : List ℕ) × (more : List (List ℕ)) × (words line ≡ word ∷ more) × IsHash word)

-- the first word of the line is this one, no comment, and behind it stands the rest
abbrev pub Begins : List ℕ → List ℕ → List ℕ → Type 0
Begins line name rest = (words line ≡ name ∷ words rest) × ¬ IsHash name

-- the games are those of the text; or it is refused by this word of a line, and they are none
abbrev pub IsAuthor : List ℕ → List (List Move) → Option BadMove → Type 0
IsAuthor text games None = IsListing text games
IsAuthor text games (Some bad) = (games ≡ []) × ((line : ℕ) × IsTextFault text (At line bad.ply bad.cause))

-- the line spells a problem: a name, a diagram, a length, and the author's games of what stands behind them
pub record IsEntry (line : List ℕ) (entry : Entry) : Type 0 where
  pub diagram : List ℕ
  pub length : List ℕ
  pub games : List ℕ
  pub words_are : words line ≡ entry.name.now ∷ diagram ∷ length ∷ words games
  pub is_no_comment : ¬ IsHash entry.name.now
  pub is_name : IsName entry.name.now
  pub diagram_is : diagram_of (fields diagram) ≡ Ok entry.problem.diagram
  pub length_is : length_of length ≡ Ok entry.problem.length
  pub author_is : IsAuthor games entry.games entry.bad

-- ---- faults
-- the line has a name and two more words, and then the text of games
abbrev pub AreParts : List ℕ → List ℕ → List ℕ → List ℕ → List ℕ → Type 0
AreParts line name diagram length games =
    (words line ≡ name ∷ diagram ∷ length ∷ words games) × ¬ IsHash name × IsName name

-- why two words are no problem: one is not UTF-8; the diagram is refused, or else the length
abbrev pub IsProblemFault : List ℕ → List ℕ → EntryFault → Type 0
IsProblemFault diagram length NotUtf8 = ¬ IsUtf8 diagram ⊎ ¬ IsUtf8 length
IsProblemFault diagram length (Diagram fault) = diagram_of (fields diagram) ≡ Err fault
IsProblemFault diagram length (Length fault) = length_of length ≡ Err fault
IsProblemFault diagram length fault = ⊥

-- why a text is neither games nor a word by which it is none: it is not UTF-8, or is refused otherwise
abbrev pub IsGamesFault : List ℕ → EntryFault → Type 0
IsGamesFault text NotUtf8 = ¬ IsUtf8 text
IsGamesFault text (Games (At line ply cause)) = ⊥
IsGamesFault text (Games fault) = IsTextFault text fault
IsGamesFault text fault = ⊥

-- why a line that has words and is no comment spells no problem: its first word is no name; or it is, and the line has
-- fewer than three words; or it has three, and the second and the third are no problem, or what follows is refused
abbrev pub IsEntryFault : List ℕ → EntryFault → Type 0
IsEntryFault line Name = (name : List ℕ) × (rest : List ℕ) × Begins line name rest × (IsUtf8 name → ¬ IsName name)
IsEntryFault line Short = (name : List ℕ) × (rest : List ℕ) × Begins line name rest × IsName name × (length (words line) < 3)
IsEntryFault line fault = (name : List ℕ) × (diagram : List ℕ) × (length : List ℕ) × (games : List ℕ)
    × AreParts line name diagram length games × (IsProblemFault diagram length fault ⊎ IsGamesFault games fault)
