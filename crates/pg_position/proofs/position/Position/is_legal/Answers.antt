use Rattle.pg_position.proofs.LegalLemmas.{played_tells}
use Rattle.pg_position.proofs.position.Position.is_legal.Goals as goal

pub returns : goal.returns
returns c = played_tells c.args.self.now c.args.m.now c.play.result c.is_ok.result c.is_ok.ensures.value c.play.ensures.ok c.play.ensures.err
