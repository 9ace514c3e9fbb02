use Rattle.pg_cooks.proofs.CookLemmas.{refuted}
use Rattle.pg_cooks.proofs.FoundLemmas.{some_games}
use Rattle.pg_cooks.proofs.finding.cooks.Goals as goal

pub returns-in-Ok-found-clause-headline : goal.returns-in-Ok-found-clause-headline
returns-in-Ok-found-clause-headline g c =
    refuted c.args.diagram.now c.args.length c.args.games.now c.in-Ok-found.answer (some_games c.args.games.now c.len.result c.len.ensures.value c.if-len-eq0.false) c.in-Ok.ensures.ok c.in-Ok-found.ensures.answer
