-- What solving a problem tells, by what is told of an entry.
use Rattle.pg_cli.proofs.Common.{◌≡◌, ℕ, Bool, List, [], refl, subst, sym, Appends-nil, Option, Some, None, Result, IfOk, Placement, AddsSome, IsPgnText, Move, IsSolvedBeside, IsSolvedBoard, IsSolvedWith, Refusal}
use Rattle.pg_cli.proofs.StatusLemmas.{tells}

-- what is told beside these games is told beside some
pub beside_some : (pgn : Bool) (d : Placement) (n : ℕ) (author : List (List Move)) (result : Result ℕ Refusal) (a b : Option (List ℕ))
    → IfOk result (λ status. AddsSome (IsSolvedWith pgn d n author status) a b) → IfOk result (λ status. AddsSome (IsSolvedBeside pgn d n status) a b)
beside_some pgn d n author result a b h =
    tells result (λ status. AddsSome (IsSolvedWith pgn d n author status) a b) (λ status. AddsSome (IsSolvedBeside pgn d n status) a b) h
    (λ status k. (k.0, (author, k.1), k.2))

-- of a length it is told of some
pub of_some : (pgn : Bool) (d : Placement) (n : ℕ) (result : Result ℕ Refusal) (a b : Option (List ℕ))
    → IfOk result (λ status. AddsSome (IsSolvedBeside pgn d n status) a b) → IfOk result (λ status. AddsSome (IsSolvedBoard pgn d None status) a b)
of_some pgn d n result a b h =
    tells result (λ status. AddsSome (IsSolvedBeside pgn d n status) a b) (λ status. AddsSome (IsSolvedBoard pgn d None status) a b) h
    (λ status k. (k.0, (n, k.1), k.2))

-- of the length that is asked
pub as_asked : (pgn : Bool) (d : Placement) (asked said : Option ℕ) (result : Result ℕ Refusal) (a b : Option (List ℕ)) → asked ≡ said
    → IfOk result (λ status. AddsSome (IsSolvedBoard pgn d said status) a b) → IfOk result (λ status. AddsSome (IsSolvedBoard pgn d asked status) a b)
as_asked pgn d asked said result a b e h = subst (λ (o : Option ℕ). IfOk result (λ status. AddsSome (IsSolvedBoard pgn d o status) a b)) (sym e) h

-- no games in PGN are no text
pub no_games_sent : (a : Option (List ℕ)) → AddsSome (IsPgnText []) a a
unfolding IsPgnText
no_games_sent a = ([], refl, Appends-nil a)

-- what is told as the words want it
pub told_as : (pgn b : Bool) (d : Placement) (n : ℕ) (author : List (List Move)) (result : Result ℕ Refusal) (x y : Option (List ℕ)) → pgn ≡ b
    → IfOk result (λ status. AddsSome (IsSolvedWith b d n author status) x y) → IfOk result (λ status. AddsSome (IsSolvedWith pgn d n author status) x y)
told_as pgn b d n author result x y e h = subst (λ (p : Bool). IfOk result (λ status. AddsSome (IsSolvedWith p d n author status) x y)) (sym e) h
