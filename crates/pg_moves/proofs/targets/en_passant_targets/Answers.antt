use Rattle.pg_moves.proofs.Common.{sym, ◌∙◌}
use Rattle.pg_moves.proofs.TargetLemmas.{en_passant_set, en_passant_none}
use Rattle.pg_moves.proofs.targets.en_passant_targets.Goals as goal

pub returns-in-Some : goal.returns-in-Some
returns-in-Some c = en_passant_set c.args.position.now c.board.result c.side.result c.args.from c.in-Some.square c.attacks_from.result c.single.result c.bitand.result (sym c.side.ensures.value) (sym c.passed.ensures ∙ c.in-Some.is) (rw c.new-pawn.ensures at c.attacks_from.ensures) c.single.ensures c.bitand.ensures.members

pub returns-in-None : goal.returns-in-None
returns-in-None c = rw c.empty.ensures.value (en_passant_none c.args.position.now c.args.from (sym c.passed.ensures ∙ c.in-None.is))
