use Rattle.pg_travel.proofs.Common.{sym, ap, ◌∙◌, is_of}
use Rattle.pg_travel.proofs.LeastRows.{lowered_here, lowered_off}
use Rattle.pg_travel.proofs.least_rows.lowered_at.Goals as goal

pub returns-in-None : goal.returns-in-None
returns-in-None c = lowered_off c.args.rows.now c.args.board.now c.args.color c.args.way c.args.o c.args.least (ap (is_of c.args.color) (sym c.get.ensures ∙ c.in-None.is))

pub returns-then-same_side : goal.returns-then-same_side
returns-then-same_side c = lowered_here c.args.rows.now c.args.board.now c.args.color c.args.way c.in-Some.m c.args.o c.counted.result c.args.least c.of.result c.lesser.result c.index.ensures.bound (sym c.get.ensures ∙ c.in-Some.is) (sym c.same_side.ensures ∙ c.if-same_side.true) c.counted.ensures c.of.ensures c.lesser.ensures

pub returns-else-same_side : goal.returns-else-same_side
returns-else-same_side c = lowered_off c.args.rows.now c.args.board.now c.args.color c.args.way c.args.o c.args.least (ap (is_of c.args.color) (sym c.get.ensures ∙ c.in-Some.is) ∙ sym c.same_side.ensures ∙ c.if-same_side.false)
