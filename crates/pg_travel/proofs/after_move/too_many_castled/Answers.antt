use Rattle.pg_travel.proofs.AfterMove.{each_castled, if_held_pays}
use Rattle.pg_travel.proofs.after_move.too_many_castled.Goals as goal

pub returns-then-holds : goal.returns-then-holds
returns-then-holds c = λ t q d rights come. if_held_pays q d c.args.color c.args.right c.args.plies
    (c.too_many.ensures t q d c.args.color (each_castled q.board d c.args.color c.args.right c.args.come c.castled_squares.result c.sub-sure.result c.castled_squares.ensures c.sub-sure.ensures.members come))
