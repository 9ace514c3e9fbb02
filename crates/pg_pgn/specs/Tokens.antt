-- How a text in PGN is cut into tokens (the PGN standard, section 7). Each byte begins a token of one kind.
use Rattle.std.specs.Prelude.{◌≡◌, ℕ, ◌+◌, Bool, true, false, ◌||◌, ◌==◌, not, nat_lt, List, [], ◌∷◌, Option, Some, None, length, take, drop, if◌then◌else◌}
use Rattle.std.specs.List.{prefix_len}
use Rattle.std.specs.Str.{bytes_eq}
use Rattle.std.specs.Char.{is_ascii_digit}
use Prim.Native.Char.{code}
use Rattle.pg_pgn.specs.declared.tokens.TokenKind.{TokenKind}
use Rattle.pg_pgn.specs.declared.tokens.TokenKind.TheVariants.{Gap, LineEnd, Comment, LineComment, Tag, Glyph, Opens, Closes, Star, Word}
use Rattle.pg_pgn.specs.declared.tokens.TagPart.{TagPart}
use Rattle.pg_pgn.specs.declared.tokens.TagPart.TheVariants.{Bare, Quoted, Escaped, Closed, Broken}

abbrev pub is_line_end : ℕ → Bool
is_line_end b = (b == code "\n") || (b == code "\r")

abbrev pub is_in_line : ℕ → Bool
is_in_line b = not (is_line_end b)

-- a space, a tab, or one of the bytes 194 and 160 of a no-break space (U+00A0), which stand in no move
abbrev pub is_gap : ℕ → Bool
is_gap b = (b == code " ") || ((b == code "\t") || ((b == 194) || (b == 160)))

-- the kind of the token that a byte begins
unfoldable pub kind_of : ℕ → TokenKind
kind_of b =
    if is_gap b then Gap
    else (if is_line_end b then LineEnd
    else (if b == code "{" then Comment
    else (if b == code ";" then LineComment
    else (if b == code "[" then Tag
    else (if b == code "$" then Glyph
    else (if b == code "(" then Opens
    else (if b == code ")" then Closes
    else (if b == code "*" then Star
    else Word))))))))

-- the kind of a token, by its first byte
abbrev pub kind_at : List ℕ → TokenKind
kind_at [] = Gap
kind_at (b ∷ more) = kind_of b

abbrev pub is_word : TokenKind → Bool
is_word Word = true
is_word kind = false

-- a byte that begins no other token goes on with a word
abbrev pub is_word_byte : ℕ → Bool
is_word_byte b = is_word (kind_of b)

-- ---- comments
abbrev pub is_inside : ℕ → Bool
is_inside b = not (b == code "}")

-- `%` in the first column: how long the line is that it hides; none stands there
abbrev pub hidden_len : List ℕ → ℕ
hidden_len [] = 0
hidden_len (b ∷ more) = if b == code "%" then 1 + prefix_len is_in_line more else 0

-- up to the `}` that ends a comment, and with it
abbrev pub comment_len : List ℕ → Option ℕ
comment_len more =
    if nat_lt (prefix_len is_inside more) (length more) then Some (prefix_len is_inside more + 1) else None

-- ---- tag pairs
-- in a tag pair `"` begins and ends a string, in which `\` takes the byte behind it along, and which no line end may
-- stand in; the `]` that ends the pair stands in no string
abbrev pub next_part : TagPart → ℕ → TagPart
next_part Bare b = if b == code "\"" then Quoted else (if b == code "]" then Closed else Bare)
next_part Quoted b =
    if b == code "\"" then Bare else (if b == code "\\" then Escaped else (if is_line_end b then Broken else Quoted))
next_part Escaped b = if is_line_end b then Broken else Quoted
next_part Closed b = Closed
next_part Broken b = Broken

-- how many bytes go to the end of a tag pair, n of which are behind us; none where it is not closed
unfoldable pub tag_from : ℕ → TagPart → List ℕ → Option ℕ
tag_from n Closed text = Some n
tag_from n Broken text = None
tag_from n part [] = None
tag_from n part (b ∷ more) = tag_from (n + 1) (next_part part b) more

abbrev pub is_blank : ℕ → Bool
is_blank b = is_gap b || is_line_end b

abbrev pub past_blanks : List ℕ → List ℕ
past_blanks text = drop (prefix_len is_blank text) text

-- a name goes to the next blank or `"`
abbrev pub is_name_byte : ℕ → Bool
is_name_byte b = not (is_blank b || (b == code "\""))

-- the name in a tag pair, and what stands behind it
abbrev pub tag_front : List ℕ → List ℕ
tag_front token = past_blanks (drop 1 token)

unfoldable pub tag_name : List ℕ → List ℕ
tag_name token = take (prefix_len is_name_byte (tag_front token)) (tag_front token)

unfoldable pub tag_value : List ℕ → List ℕ
tag_value token = past_blanks (drop (prefix_len is_name_byte (tag_front token)) (tag_front token))

-- ---- tokens
-- how many bytes of a token stand behind its first; none where it is not closed
abbrev pub more_len : TokenKind → List ℕ → Option ℕ
more_len Gap more = Some (prefix_len is_gap more)
more_len LineEnd more = Some (hidden_len more)
more_len Comment more = comment_len more
more_len LineComment more = Some (prefix_len is_in_line more)
more_len Tag more = tag_from 0 Bare more
more_len Glyph more = Some (prefix_len is_ascii_digit more)
more_len Opens more = Some 0
more_len Closes more = Some 0
more_len Star more = Some 0
more_len Word more = Some (prefix_len is_word_byte more)

-- the text begins with this token, and the rest stands behind it
pub record StartsWith (text token rest : List ℕ) : Type 0 where
  pub first : ℕ
  pub more : List ℕ
  pub n : ℕ
  pub is : text ≡ first ∷ more
  pub long : more_len (kind_of first) more ≡ Some n
  pub token_is : token ≡ first ∷ take n more
  pub rest_is : rest ≡ drop n more

-- the text begins with a token of this kind that is not closed
abbrev pub IsUnclosed : List ℕ → TokenKind → Type 0
IsUnclosed text kind =
    (first : ℕ) × (more : List ℕ) × (text ≡ first ∷ more) × (kind_of first ≡ kind) × (more_len kind more ≡ None)

-- the text begins with these tokens, one after another, and the rest stands behind them
unfoldable pub AreTokens : List ℕ → List (List ℕ) → List ℕ → Type 0
AreTokens text [] rest = text ≡ rest
AreTokens text (token ∷ tokens) rest = (left : List ℕ) × StartsWith text token left × AreTokens left tokens rest

-- ---- the front of a file
-- without the byte order mark (U+FEFF, the bytes 239, 187 and 191)
abbrev pub without_mark : List ℕ → List ℕ
without_mark text = if bytes_eq (take 3 text) (239 ∷ 187 ∷ 191 ∷ []) then drop 3 text else text

-- and without a first line that `%` hides
abbrev pub body : List ℕ → List ℕ
body text = drop (hidden_len (without_mark text)) (without_mark text)
