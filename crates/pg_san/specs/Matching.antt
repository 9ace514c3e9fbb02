-- Which legal moves are as a text says, and what reading the text in a position gives.
use Rattle.std.specs.Prelude.{◌≡◌, ◌≢◌, ℕ, ◌+◌, ◌⊎◌, true, List, IfSome, Result, Ok, Err}
use Rattle.pg_board.specs.declared.man.Kind.{Kind}
use Rattle.pg_board.specs.Squares.{file, rank}
use Rattle.pg_position.specs.declared.rights.Wing.{Wing}
use Rattle.pg_position.specs.declared.rights.Wing.TheVariants.{KingSide, QueenSide}
use Rattle.pg_position.specs.declared.state.State.{State}
use Rattle.pg_position.specs.declared.moves.Move.{Move}
use Rattle.pg_position.specs.Position.{Stands}
use Rattle.pg_position.specs.Step.{IsLegal, IsEnemy, IsEnPassant, IsCastling}
use Rattle.pg_san.specs.declared.cores.Core.{Core}
use Rattle.pg_san.specs.declared.said.Form.{Form}
use Rattle.pg_san.specs.declared.said.Form.TheVariants.{Castles, Moves}
use Rattle.pg_san.specs.declared.said.Said.{Said}
use Rattle.pg_san.specs.declared.fault.SanFault.{SanFault}
use Rattle.pg_san.specs.declared.fault.SanFault.TheVariants.{Shape, NoSuchMove, Ambiguous}
use Rattle.pg_san.specs.Grammar.{IsSaidText}

-- the way of a king that castles: two files towards the h-file, or towards the a-file
abbrev pub GoesTwo : Wing → ℕ → ℕ → Type 0
GoesTwo KingSide r s = file s ≡ file r + 2
GoesTwo QueenSide r s = file r ≡ file s + 2

-- the move of a man of kind k captures, en passant included
abbrev pub IsCapturing : State → Kind → Move → Type 0
IsCapturing p k m = IsEnemy p.board p.side m.to ⊎ IsEnPassant p k m

-- the move of a man of kind k is as the core says: of what the core leaves open, anything fits
pub record FitsCore (p : State) (c : Core) (k : Kind) (m : Move) : Type 0 where
  pub kind_fits : IfSome c.kind (λ j. j ≡ k)
  pub file_fits : IfSome c.file (λ f. file m.from ≡ f)
  pub rank_fits : IfSome c.rank (λ r. rank m.from ≡ r)
  pub target_fits : m.to ≡ c.target
  pub takes_fits : c.takes ≡ true → IsCapturing p k m
  pub promotion_fits : m.promotion ≡ c.promotion

abbrev pub FitsForm : State → Form → Kind → Move → Type 0
FitsForm p (Castles wing) k m = IsCastling p k m wing
FitsForm p (Moves core) k m = FitsCore p core k m

-- a man of kind k of the side to move makes the move, and it is as the text says
pub record FitsAs (p : State) (said : Said) (k : Kind) (m : Move) : Type 0 where
  pub stands : Stands p.board p.side k m.from
  pub form_fits : FitsForm p said.form k m
  pub passing_fits : said.passing ≡ true → IsEnPassant p k m

-- the move is as the text says
unfoldable pub Fits : State → Said → Move → Type 0
Fits p said m = (k : Kind) × FitsAs p said k m

-- the move matches the text
unfoldable pub Matches : State → List ℕ → Move → Type 0
Matches p text m = (said : Said) × IsSaidText text said × Fits p said m

-- what reading a text gives: the one legal move that matches it; Shape, where the text says nothing of a move;
-- NoSuchMove, where no legal move matches it; Ambiguous, where two do
abbrev pub IsReading : State → List ℕ → Result Move SanFault → Type 0
IsReading p text (Ok m) = IsLegal p m × Matches p text m × ((n : Move) → IsLegal p n → Matches p text n → n ≡ m)
IsReading p text (Err Shape) = (said : Said) → ¬ IsSaidText text said
IsReading p text (Err NoSuchMove) =
    ((said : Said) × IsSaidText text said) × ((n : Move) → IsLegal p n → ¬ Matches p text n)
IsReading p text (Err Ambiguous) =
    (m : Move) × (n : Move) × (m ≢ n) × (IsLegal p m × Matches p text m) × (IsLegal p n × Matches p text n)
