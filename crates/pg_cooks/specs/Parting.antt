-- Where two games part, and whether they are the same moves in another order.
use Rattle.std.specs.Prelude.{ℕ, ◌+◌, ◌/◌, ◌%◌, ◌==◌, ◌&&◌, Bool, true, cond, List, [], ◌∷◌, ◌++◌, codes, if◌then◌else◌}
use Rattle.std.specs.Fmt.{decimal}
use Rattle.std.specs.List.{common_prefix_len}
use Rattle.std.specs.Ordering.{is_eq}
use Rattle.pg_position.specs.declared.moves.Move.{Move}
use Rattle.pg_position.specs.Order.{move_cmp}

-- two moves go from the same square to the same one, and promote to the same man
abbrev pub is_same : Move → Move → Bool
is_same m n = is_eq (move_cmp m n)

-- how many plies two games have in common from the start: the ply, counted from 0, at which they part
abbrev pub parting : List Move → List Move → ℕ
parting = common_prefix_len is_same

-- 1 where a ply is that of a colour, 0 for White and 1 for Black, and its move n is m; else 0
abbrev pub played : ℕ → ℕ → Move → Move → ℕ
played colour ply m n = cond (ply % 2 == colour && is_same m n) 1 0

-- how often a colour plays the move m in a game, whose first move is this ply
abbrev pub plays : ℕ → ℕ → Move → List Move → ℕ
plays colour ply m [] = 0
plays colour ply m (n ∷ ms) = played colour ply m n + plays colour (ply + 1) m ms

-- each move of a game, whose first is this ply, is played by its colour as often in the game a as in b
abbrev pub agrees : ℕ → List Move → List Move → List Move → Bool
agrees ply [] a b = true
agrees ply (m ∷ ms) a b = (plays (ply % 2) 0 m a == plays (ply % 2) 0 m b) && agrees (ply + 1) ms a b

-- two games are the same moves in another order: each move of either is played by its colour as often in both
abbrev pub are_reordered : List Move → List Move → Bool
are_reordered a b = agrees 0 a a b && agrees 0 b a b

-- ---- texts
-- whose move a ply is
abbrev pub colour_text : ℕ → List ℕ
colour_text ply = if ply % 2 == 0 then codes " of White" else codes " of Black"

-- the number of the move of a ply, and whose it is
abbrev pub move_text : ℕ → List ℕ
move_text ply = codes " at move " ++ (decimal (ply / 2 + 1) ++ colour_text ply)

abbrev pub order_text : Bool → List ℕ
order_text same = cond same (codes ", with the same moves in another order") []

-- at which move two games part, and whether they are the same moves in another order, between two texts
abbrev pub between_text : List ℕ → List Move → List Move → List ℕ → List ℕ
between_text before a b behind = before ++ (move_text (parting a b) ++ (order_text (are_reordered a b) ++ behind))

-- so of the first of some games and another one; nothing where there is none
abbrev pub apart_text : List ℕ → List (List Move) → List Move → List ℕ → List ℕ
apart_text before [] game behind = []
apart_text before (g ∷ more) game behind = between_text before g game behind

-- so of the first two of some games; nothing where there are fewer
abbrev pub pair_text : List ℕ → List (List Move) → List ℕ → List ℕ
pair_text before [] behind = []
pair_text before (a ∷ []) behind = []
pair_text before (a ∷ b ∷ more) behind = between_text before a b behind
