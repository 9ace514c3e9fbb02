-- What reads as a diagram is one.
use Rattle.pg_fen.proofs.Common.{◌≡◌, ℕ, Bool, true, false, cond, List, [], ◌∷◌, refl, ap, subst, not, Result, Ok, Err, Color, White, Black, Placement, State, HasOneKing, IsPosition, FenFault, Rank, Letter, Kings, PawnRank, details_of, IsDiagram, if_read, diagram_of, ranks_fit, letters_fit, placed, has_kings, has_no_edge_pawn, read_placement}
use Rattle.pg_fen.proofs.CountLemmas.{has_kings_is, has_no_edge_pawn_is}

-- what the tests of a placement say where it is read
pub record IsPlaced (text : List ℕ) (b : Placement) : Type 0 where
  pub ranks : ranks_fit text ≡ true
  pub letters : letters_fit text ≡ true
  pub kings : has_kings (placed text) ≡ true
  pub pawns : has_no_edge_pawn (placed text) ≡ true
  pub board : placed text ≡ b

-- the answer of the four tests
abbrev tested : Bool → Bool → Bool → Bool → Placement → Result Placement FenFault
tested r l k p b = cond (not r) (Err Rank) (cond (not l) (Err Letter) (cond (not k) (Err Kings) (cond (not p) (Err PawnRank) (Ok b))))

record AllPassed (r l k p : Bool) (x b : Placement) : Type 0 where
  ranks : r ≡ true
  letters : l ≡ true
  kings : k ≡ true
  pawns : p ≡ true
  board : x ≡ b

all_passed : (r l k p : Bool) (x b : Placement) → tested r l k p x ≡ Ok b → AllPassed r l k p x b
all_passed false l k p x b e = absurd cc
all_passed true false k p x b e = absurd cc
all_passed true true false p x b e = absurd cc
all_passed true true true false x b e = absurd cc
all_passed true true true true x b e = record { ranks = refl; letters = refl; kings = refl; pawns = refl; board = cc }

pub placed_from_read : (text : List ℕ) (b : Placement) → read_placement text ≡ Ok b → IsPlaced text b
unfolding read_placement
placed_from_read text b e =
    let h = all_passed (ranks_fit text) (letters_fit text) (has_kings (placed text)) (has_no_edge_pawn (placed text)) (placed text) b e in
    record { ranks = h.ranks; letters = h.letters; kings = h.kings; pawns = h.pawns; board = h.board }

pub read_from_placed : (text : List ℕ) (b : Placement) → IsPlaced text b → read_placement text ≡ Ok b
unfolding read_placement
read_from_placed text b h = rw (h.ranks, h.letters, h.kings, h.pawns) (ap Ok h.board)

pub diagram_from_tests : (b : Placement) → has_kings b ≡ true → has_no_edge_pawn b ≡ true → IsDiagram b
diagram_from_tests b k p = record { kings = (has_kings_is b).0 k; pawns = (has_no_edge_pawn_is b).0 p }

pub tests_of_diagram : (b : Placement) → IsDiagram b → (has_kings b ≡ true) × (has_no_edge_pawn b ≡ true)
tests_of_diagram b d = ((has_kings_is b).1 d.kings, (has_no_edge_pawn_is b).1 d.pawns)

pub diagram_from_read : (text : List ℕ) (b : Placement) → read_placement text ≡ Ok b → IsDiagram b
diagram_from_read text b e =
    let h = placed_from_read text b e in
    subst IsDiagram h.board (diagram_from_tests (placed text) h.kings h.pawns)

pub read_of_six : {A : Type 0} (r : Result Placement FenFault) (d : Result A FenFault) (b : Placement) → if_read r d ≡ Ok b → r ≡ Ok b
read_of_six (Err fault) d b e = absurd cc
read_of_six (Ok x) (Err fault) b e = absurd cc
read_of_six (Ok x) (Ok y) b e = e

-- the fields of a text that reads as a diagram make one
pub diagram_of_is : (fs : List (List ℕ)) (b : Placement) → diagram_of fs ≡ Ok b → IsDiagram b
unfolding diagram_of
diagram_of_is [] b e = absurd cc
diagram_of_is (p ∷ []) b e = diagram_from_read p b e
diagram_of_is (p ∷ s ∷ []) b e = absurd cc
diagram_of_is (p ∷ s ∷ r ∷ []) b e = absurd cc
diagram_of_is (p ∷ s ∷ r ∷ q ∷ []) b e = absurd cc
diagram_of_is (p ∷ s ∷ r ∷ q ∷ h ∷ []) b e = absurd cc
diagram_of_is (p ∷ s ∷ r ∷ q ∷ h ∷ f ∷ []) b e = diagram_from_read p b (read_of_six (read_placement p) (details_of s r q h f) b e)
diagram_of_is (p ∷ s ∷ r ∷ q ∷ h ∷ f ∷ g ∷ fs) b e = absurd cc

kings_of : (p : State) → IsPosition p → (c : Color) → HasOneKing p.board c
kings_of p pos White = pos.kings.0
kings_of p pos Black = pos.kings.1

-- a position's placement is a diagram
pub diagram_of_state : (p : State) → IsPosition p → IsDiagram p.board
diagram_of_state p pos = record { kings = kings_of p pos; pawns = pos.pawns }
