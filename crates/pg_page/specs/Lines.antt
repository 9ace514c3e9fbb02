-- The lines that the page's script reads: how a move is written there.
use Rattle.std.specs.Prelude.{◌≡◌, ℕ, Bool, true, false, List, ◌∷◌, codes, get_or}
use Rattle.pg_position.specs.declared.state.State.{State}
use Rattle.pg_position.specs.declared.moves.Move.{Move}
use Rattle.pg_san.specs.Writing.{IsSan}

-- a letter for each square, from a1 on
abbrev pub letter_at : ℕ → ℕ
letter_at s = get_or (codes "ABCDEFGHIJKLMNOPQRSTUVWXYZabcdefghijklmnopqrstuvwxyz0123456789-_") s 0

-- a move of p: the letters of its squares, and its text
abbrev pub IsMoveText : State → Move → List ℕ → Type 0
IsMoveText p m text = (san : List ℕ) × IsSan p m san × (text ≡ letter_at m.from ∷ letter_at m.to ∷ san)

-- behind the last move of a game stands whether it leads to the diagram
abbrev pub leaf_mark : Bool → List ℕ
leaf_mark true = codes "*"
leaf_mark false = codes ","
