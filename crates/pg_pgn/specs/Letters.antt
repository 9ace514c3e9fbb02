-- A word of a game in the letters of a language, or in figurines, as it is written in English.
use Rattle.std.specs.Prelude.{ℕ, Bool, ◌||◌, ◌==◌, nat_lt, List, [], ◌∷◌, ◌++◌, if◌then◌else◌, codes}
use Prim.Native.Char.{code}
use Rattle.pg_pgn.specs.declared.letters.Letters.{Letters}
use Rattle.pg_pgn.specs.declared.letters.Letters.TheVariants.{English, German, French, Dutch, Spanish, Italian}

-- a letter that names a man in English
abbrev pub is_man : ℕ → Bool
is_man b = (b == code "K") || ((b == code "Q") || ((b == code "R") || ((b == code "B") || ((b == code "N") || (b == code "S")))))

-- by the letters of king, queen, rook, bishop and knight; an English one that none of these is says nothing of a move
abbrev pub translated : ℕ → ℕ → ℕ → ℕ → ℕ → ℕ → ℕ
translated king queen rook bishop knight b =
    if b == king then code "K"
    else (if b == queen then code "Q"
    else (if b == rook then code "R"
    else (if b == bishop then code "B"
    else (if b == knight then code "N"
    else (if is_man b then code "_"
    else b)))))

-- the letters of each language, in the order king, queen, rook, bishop, knight
abbrev pub letter : Letters → ℕ → ℕ
letter English b = b
letter German b = translated (code "K") (code "D") (code "T") (code "L") (code "S") b
letter French b = translated (code "R") (code "D") (code "T") (code "F") (code "C") b
letter Dutch b = translated (code "K") (code "D") (code "T") (code "L") (code "P") b
letter Spanish b = translated (code "R") (code "D") (code "T") (code "A") (code "C") b
letter Italian b = translated (code "R") (code "D") (code "T") (code "A") (code "C") b

-- ---- characters of several bytes
-- the figurines U+2654 to U+265F end in the bytes 148 to 159, the six white men first; a pawn has no letter
abbrev pub figurine : ℕ → List ℕ
figurine b =
    if (b == 148) || (b == 154) then codes "K"
    else (if (b == 149) || (b == 155) then codes "Q"
    else (if (b == 150) || (b == 156) then codes "R"
    else (if (b == 151) || (b == 157) then codes "B"
    else (if (b == 152) || (b == 158) then codes "N"
    else (if (b == 153) || (b == 159) then []
    else codes "_")))))

-- the dash U+2013 ends in 147
abbrev pub dash : ℕ → List ℕ
dash b = if b == 147 then codes "-" else codes "_"

-- behind the byte 226: 153 and the last byte of a figurine, or 128 and that of the dash
abbrev pub behind_226 : List ℕ → List ℕ
behind_226 [] = codes "_"
behind_226 (b ∷ []) = codes "_"
behind_226 (b ∷ c ∷ more) = if b == 153 then figurine c else (if b == 128 then dash c else codes "_")

-- behind the byte 195: the cross U+00D7 ends in 151
abbrev pub behind_195 : List ℕ → List ℕ
behind_195 [] = codes "_"
behind_195 (b ∷ more) = if b == 151 then codes "x" else codes "_"

-- ---- a word
-- what is written for the character that this byte begins, where these bytes stand behind it: `x` for `:` and for the
-- cross, `O` for `o`, `-` for the dash, a man's letter for its letter or its figurine; `_`, which is in no move, for what
-- is in none; bytes from 128 to 191 end a character, and nothing is written for them
abbrev pub written : Letters → ℕ → List ℕ → List ℕ
written letters b more =
    if b == code ":" then codes "x"
    else (if b == code "o" then codes "O"
    else (if nat_lt b 128 then letter letters b ∷ []
    else (if nat_lt b 192 then []
    else (if b == 195 then behind_195 more
    else (if b == 226 then behind_226 more
    else codes "_")))))

-- the word in English
unfoldable pub english : Letters → List ℕ → List ℕ
english letters [] = []
english letters (b ∷ more) = written letters b more ++ english letters more
