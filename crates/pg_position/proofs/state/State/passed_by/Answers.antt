use Rattle.pg_position.proofs.Common.{ap, refl, Some, ◌∙◌}
use Rattle.pg_position.proofs.LegalLemmas.{passed_on_board, passed_two}
use Rattle.pg_position.proofs.state.State.passed_by.Goals as goal

pub ahead-requires : goal.ahead-requires
ahead-requires c = passed_on_board c.args.self.now c.args.m.now c.requires (c.stands-pawn.ensures.0 c.if-pawn.true) (c.if-is_two_ranks.ensures.0 refl)

pub returns-then-is_two_ranks : goal.returns-then-is_two_ranks
returns-then-is_two_ranks c k w there way = ap Some c.ahead.ensures ∙ passed_two c.args.self.now c.args.m.now k w (c.stands-pawn.ensures.0 c.if-pawn.true) (c.if-is_two_ranks.ensures.0 refl) there way
