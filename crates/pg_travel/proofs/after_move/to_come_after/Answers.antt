use Rattle.pg_travel.proofs.Common.{sym, ◌∙◌}
use Rattle.pg_travel.proofs.AfterMove.{elsewhere_come, all_come}
use Rattle.pg_travel.proofs.after_move.to_come_after.Goals as goal

pub returns-then-differs_there : goal.returns-then-differs_there
returns-then-differs_there c = λ a who. all_come c.args.board.now a c.args.goal.now c.args.color c.args.m.now.from c.args.m.now.to c.squares_of_color-own.result c.differing.result c.single.result c.bitor-moved.result c.single-there.result c.bitand.result c.sub-elsewhere.result c.bitor.result
    (c.squares_of_color-own.ensures, c.differing.ensures, c.single.ensures, c.single-there.ensures, c.bitor-moved.ensures.members, c.bitand.ensures.members, c.sub-elsewhere.ensures.members)
    (sym c.contains.ensures.value ∙ c.if-contains.true)
    (c.differs_there.ensures c.if-differs_there.true)
    c.bitor.ensures.members who

pub returns-else-contains : goal.returns-else-contains
returns-else-contains c = λ a who. elsewhere_come c.args.board.now a c.args.goal.now c.args.color c.args.m.now.from c.args.m.now.to c.squares_of_color-own.result c.differing.result c.single.result c.bitor-moved.result c.single-there.result c.bitand.result c.sub-elsewhere.result
    (c.squares_of_color-own.ensures, c.differing.ensures, c.single.ensures, c.single-there.ensures, c.bitor-moved.ensures.members, c.bitand.ensures.members, c.sub-elsewhere.ensures.members) who
