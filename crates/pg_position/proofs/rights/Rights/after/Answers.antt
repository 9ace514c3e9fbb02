use Rattle.pg_position.proofs.Common.{refl}
use Rattle.pg_position.proofs.rights.Rights.after.Goals as goal

pub returns-then-touches_no_home : goal.returns-then-touches_no_home
returns-then-touches_no_home c = c.if-touches_no_home.ensures.rights refl c.args.self.now
