use Rattle.pg_page.proofs.Common.{refl}
use Rattle.pg_page.proofs.telling.reached_from.Goals as goal

pub move_text-requires : goal.move_text-requires
move_text-requires c = (c.in-Ok.ensures.ok c.in-Ok.next).0 refl
