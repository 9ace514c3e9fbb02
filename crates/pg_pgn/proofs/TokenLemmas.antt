-- The token at the front of a text.
use Rattle.pg_pgn.proofs.Common.{◌≡◌, ℕ, inl, inr, List, ◌∷◌, None, refl, TokenKind, Gap, LineEnd, Comment, LineComment, Tag, Glyph, Opens, Closes, Star, Word, kind_of, more_len, IsOpen, open_fault}

is_open_by : (text : List ℕ) (first : ℕ) (more : List ℕ) (kind : TokenKind) → text ≡ first ∷ more → kind_of first ≡ kind → more_len kind more ≡ None → IsOpen text (open_fault kind)
is_open_by text first more Comment e k none = inl ((first, more, e, k, none), refl)
is_open_by text first more Tag e k none = inr ((first, more, e, k, none), refl)
is_open_by text first more Gap e k none = absurd cc
is_open_by text first more LineEnd e k none = absurd cc
is_open_by text first more LineComment e k none = absurd cc
is_open_by text first more Glyph e k none = absurd cc
is_open_by text first more Opens e k none = absurd cc
is_open_by text first more Closes e k none = absurd cc
is_open_by text first more Star e k none = absurd cc
is_open_by text first more Word e k none = absurd cc

pub is_open : (text : List ℕ) (first : ℕ) (more : List ℕ) → text ≡ first ∷ more → more_len (kind_of first) more ≡ None → IsOpen text (open_fault (kind_of first))
is_open text first more e none = is_open_by text first more (kind_of first) e refl none
