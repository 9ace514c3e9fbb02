use Rattle.pg_travel.proofs.Common.{ℕ, None, Option, refl, subst, QueenSide, HeldBeside, sum_is_value}
use Rattle.pg_travel.proofs.Within.{all_within}
use Rattle.pg_travel.proofs.needs.Ways.new.Goals as goal

pub returns-clause-free : goal.returns-clause-free
returns-clause-free c = sum_is_value c.args.position.now c.args.diagram.now c.args.color None c.total_within-free.result
    (all_within c.args.position.now.board c.args.diagram.now c.args.color None 4033 c.total_within-free.result refl (rw (c.board.ensures.value, c.board-2.ensures.value) at c.total_within-free.ensures))

pub returns-clause-long : goal.returns-clause-long
returns-clause-long c = subst (λ (o : Option ℕ). HeldBeside c.args.diagram.now c.args.position.now c.args.color QueenSide o c.castled_value-long.result) c.lesser-better.ensures c.castled_value-long.ensures
