use Rattle.pg_travel.proofs.Common.{sym, subst, ◌∙◌, Color, IsTold}
use Rattle.pg_travel.proofs.AfterMove.{told_after}
use Rattle.pg_travel.proofs.after_move.above_after.Goals as goal

pub returns : goal.returns
returns c = λ t q legal.
    let told : IsTold c.side-color.result c.args.m.now = subst (λ (x : Color). IsTold x c.args.m.now) (sym c.side-color.ensures.value) c.requires.told in
    told_after c.args.position.now q c.args.m.now c.args.rows.now c.side-color.result c.other.result c.args.left c.from-plies.result c.side-color.ensures.value c.other.ensures (c.from-plies.ensures ∙ c.plies_left.ensures) c.side-color.ensures.position legal told.0 told.1 (c.rows_above.ensures t q)
