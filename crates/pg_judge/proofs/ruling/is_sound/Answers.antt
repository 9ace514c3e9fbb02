use Rattle.pg_judge.proofs.GameLemmas.{sound_means}
use Rattle.pg_judge.proofs.ruling.is_sound.Goals as goal

pub returns-clause-means : goal.returns-clause-means
returns-clause-means c = λ entry h t. sound_means entry.problem.diagram entry.problem.length entry.games c.args.ruling.now.finding h (c.is_said_sound.ensures.0 t)
