use Rattle.pg_moves.proofs.Common.{◌∙◌, ap, arith, Placement, without}
use Rattle.pg_moves.proofs.OffLemmas.{left_fewer}
use Rattle.pg_moves.proofs.StepsLemmas.{step_is, kept_start, kept_step, kept_end, kept_none}
use Rattle.pg_moves.proofs.kings.safe_steps.Goals as goal

pub returns-then-is_empty : goal.returns-then-is_empty
returns-then-is_empty c = kept_none _ c.args.steps c.empty.result (c.is_empty.ensures.none.0 c.if-is_empty.true) c.empty.ensures.none

pub loop-square-init : goal.loop-square-init
loop-square-init c = kept_start c.args.player.now c.args.from c.args.steps

pub loop-square-smaller : goal.loop-square-smaller
loop-square-smaller c = omega (arith, left_fewer c.loop-square.left c.pop_first.new.self c.in-Some.square c.in-Some.ensures.rest c.in-Some.ensures.taken)

pub loop-square-preserved : goal.loop-square-preserved
loop-square-preserved c =
    let first = c.in-Some.ensures.taken in
    kept_step c.args.player.now c.args.from c.args.steps c.loop-square.left c.pop_first.new.self c.in-Some.square c.loop-square.kept c.kept_if-kept.result _
    c.loop-square.invariant first c.in-Some.ensures.rest c.kept_if-kept.ensures
    (step_is c.args.player.now c.args.from c.in-Some.square c.args.steps c.color.ensures.position c.index.ensures.bound first.on_board c.requires.stands c.requires.steps
    c.take.new.self c.color.result c.other-by.result c.attacked-unsafe_there.result (c.loop-square.invariant.inside c.in-Some.square first.on_board first.member) (c.take.ensures.rest ∙ ap (λ (b : Placement). without b c.args.from) c.board.ensures) c.color.ensures.value c.other-by.ensures c.attacked-unsafe_there.ensures)

pub returns : goal.returns
returns c = kept_end c.args.player.now c.args.from c.args.steps c.loop-square.left c.loop-square.kept c.loop-square.invariant c.in_default.ensures.taken
