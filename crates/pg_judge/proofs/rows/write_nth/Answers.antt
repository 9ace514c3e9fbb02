use Rattle.pg_texts.proofs.ReportLemmas.{listed_game}
use Rattle.pg_judge.proofs.rows.write_nth.Goals as goal

pub write_moves-requires : goal.write_moves-requires
write_moves-requires g c = listed_game c.args.games.now c.args.i c.in-Some.game.now c.len.ensures.games c.requires c.in-Some.ensures
