-- A test of one colour's men that each move keeps, for the mover's colour and for the other, lasts.
use Rattle.std.proofs.Common.{◌≡◌, ◌<◌, ◌⊎◌, inl, inr, refl, sym, subst}
use Rattle.pg_board.specs.declared.man.Color.{Color}
use Rattle.pg_board.specs.declared.man.Color.TheVariants.{White, Black}
use Rattle.pg_board.specs.declared.man.Kind.{Kind}
use Rattle.pg_board.specs.Men.{other}
use Rattle.pg_board.specs.Placement.{Placement}
use Rattle.pg_position.specs.declared.state.State.{State}
use Rattle.pg_position.specs.declared.moves.Move.{Move}
use Rattle.pg_position.specs.declared.moves.StepKind.{StepKind}
use Rattle.pg_position.specs.Position.{Stands, IsPosition}
use Rattle.pg_position.specs.Step.{IsWay, Step, board_after}
use Rattle.pg_captures.specs.lemmas.Potential.{Lasts}

-- a colour is the mover's or the other
pub either : (c side : Color) → (c ≡ side) ⊎ (c ≡ other side)
either White White = inl refl
either White Black = inr refl
either Black White = inr refl
either Black Black = inl refl

pub other_other : (c : Color) → other (other c) ≡ c
other_other White = refl
other_other Black = refl

-- each move keeps the test for this colour as the mover sees it
abbrev pub KeptFor : (Color → Color) → (Placement → Color → Type 0) → Type 0
KeptFor seen H = (p : State) (k : Kind) (m : Move) (w : StepKind) → IsPosition p → m.to < 64 → Stands p.board p.side k m.from → IsWay p k m w → H p.board (seen p.side) → H (board_after p m w) (seen p.side)

pub either_lasts : (H : Placement → Color → Type 0) → KeptFor (λ c. c) H → KeptFor other H → Lasts (λ p k. (c : Color) × H p.board c)
unfolding Step
either_lasts H own theirs p m q k valid turn (c, h) =
    let s : Step p m q = turn.0 in
    let P : State → Type 0 = λ x. (c : Color) × H x.board c in
    subst P (sym s.5) (elim (either c p.side) [
      | inl e ↦ (p.side, own p s.0 m s.1 valid s.2.1 s.3 s.4 (subst (H p.board) e h))
      | inr e ↦ (other p.side, theirs p s.0 m s.1 valid s.2.1 s.3 s.4 (subst (H p.board) e h))
    ])
