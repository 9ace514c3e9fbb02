-- The test by men: no move adds a man, so no game leads to a diagram that has more men of a colour.
use Rattle.std.proofs.Common.{◌≡◌, ℕ, ◌<◌, ◌≤◌, Bool, ap, subst, sym, arith}
use Rattle.pg_board.specs.declared.man.Color.{Color}
use Rattle.pg_board.specs.declared.man.Color.TheVariants.{White, Black}
use Rattle.pg_board.specs.declared.man.Kind.{Kind}
use Rattle.pg_board.specs.Men.{other}
use Rattle.pg_board.specs.Placement.{Placement}
use Rattle.pg_board.specs.Tally.{tally}
use Rattle.pg_board.specs.lemmas.Decisions.{answer, dec_less, dec_colors}
use Rattle.pg_position.specs.declared.state.State.{State}
use Rattle.pg_position.specs.declared.moves.Move.{Move}
use Rattle.pg_position.specs.declared.moves.StepKind.{StepKind}
use Rattle.pg_position.specs.Position.{IsPosition, Stands}
use Rattle.pg_position.specs.Step.{IsWay, Step, after, board_after}
use Rattle.pg_position.specs.Game.{Barren}
use Rattle.pg_captures.specs.Counting.{men, any_man, of_color}
use Rattle.pg_captures.specs.lemmas.StepCounts.{own_men, their_fall}
use Rattle.pg_captures.specs.lemmas.Potential.{Lasts, FailsAt, barren_from}

-- the diagram has more men of the colour than the placement
unfoldable pub HasMoreMen : Placement → Placement → Color → Type 0
HasMoreMen d b c = men c any_man b < men c any_man d

-- it has more of either colour
unfoldable pub MenHolds : Placement → State → Type 0
MenHolds d p = (c : Color) × HasMoreMen d p.board c

pub dec_men : (d : Placement) (p : State) → Dec (MenHolds d p)
unfolding MenHolds HasMoreMen
dec_men d p = dec_colors (HasMoreMen d p.board) (λ c. dec_less (men c any_man p.board) (men c any_man d))

-- whether the test by men holds
abbrev pub men_test : Placement → State → Bool
men_test d p = answer (dec_men d p)

-- a move leaves its own men and takes one of the others at most
more_after : (d b a : Placement) (side c : Color) → men side any_man a ≡ men side any_man b → men (other side) any_man a ≤ men (other side) any_man b → HasMoreMen d b c → HasMoreMen d a c
unfolding HasMoreMen
more_after d b a White White own theirs h = omega arith
more_after d b a White Black own theirs h = omega arith
more_after d b a Black White own theirs h = omega arith
more_after d b a Black Black own theirs h = omega arith

men_after : (d : Placement) (p : State) (m : Move) (w : StepKind) (j : Kind) → IsPosition p → m.to < 64 → Stands p.board p.side j m.from → IsWay p j m w → MenHolds d p → MenHolds d (after p m w)
unfolding MenHolds
men_after d p m w j valid low stands way (c, h) = (c, more_after d p.board (board_after p m w) p.side c (own_men p j m w valid low stands way) (their_fall any_man p j m w valid low stands way).0 h)

men_last : (d : Placement) → Lasts (λ p k. MenHolds d p)
unfolding Step
men_last d p m q k valid turn holds =
    let s : Step p m q = turn.0 in
    let P : State → Type 0 = λ x. MenHolds d x in
    subst P (sym s.5) (men_after d p m s.1 s.0 valid s.2.1 s.3 s.4 holds)

men_fail : (d : Placement) → FailsAt d (λ p k. MenHolds d p)
unfolding MenHolds HasMoreMen
men_fail d p (c, h) same = (let e : men c any_man p.board ≡ men c any_man d = ap (tally (of_color c any_man)) same in omega arith)

-- the law: where the test holds, no game of any length ends on the diagram
pub men_barren : (d : Placement) (p : State) (k : ℕ) → IsPosition p → MenHolds d p → Barren d p k
men_barren d p k valid h = barren_from d (λ q n. MenHolds d q) (men_last d) (men_fail d) p k valid h
