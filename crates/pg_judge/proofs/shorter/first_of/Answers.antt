use Rattle.pg_judge.proofs.GameLemmas.{copied}
use Rattle.pg_judge.proofs.shorter.first_of.Goals as goal

pub returns-in-Ok-try_extend_from_slice : goal.returns-in-Ok-try_extend_from_slice
returns-in-Ok-try_extend_from_slice c =
    copied c.args.diagram.now c.args.length c.args.games.now c.in-Some.first.now c.new-game.result.items c.try_extend_from_slice.new.self.items c.new-game.ensures c.in-Ok-try_extend_from_slice.ensures.ok c.in-Ok.ensures.ok c.in-Some.ensures
