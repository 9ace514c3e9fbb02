use Rattle.pg_travel.proofs.Common.{StandsOff}
use Rattle.pg_travel.proofs.LeastRows.{stands_off, by_first, by_next, by_all}
use Rattle.pg_travel.proofs.TakenSets.{all_left, fewer}
use Rattle.pg_travel.proofs.least_rows.lowered_by.Goals as goal

pub loop-o-init : goal.loop-o-init
loop-o-init c =
    let is = stands_off c.args.board.now c.args.man c.squares_of.result c.args.off c.sub-own.result c.squares_of.ensures c.sub-own.ensures.members in
    record { is = by_first c.args.rows.now c.args.board.now c.args.man.color (StandsOff c.args.board.now c.args.man c.args.off) c.sub-own.result c.args.least is; all = λ q l on. (is q l).0 on }

pub loop-o-smaller : goal.loop-o-smaller
loop-o-smaller c = fewer c.loop-o.own c.pop_first.new.self c.in-Some.o c.in-Some.ensures.taken c.in-Some.ensures.rest

pub loop-o-preserved : goal.loop-o-preserved
loop-o-preserved c = record {
  is = by_next c.args.rows.now c.args.board.now c.args.man (StandsOff c.args.board.now c.args.man c.args.off) c.loop-o.own c.pop_first.new.self c.in-Some.o c.args.least c.loop-o.lowest c.of.result c.lesser-next.result (λ q p. p.0) c.loop-o.invariant.all c.in-Some.ensures.taken c.in-Some.ensures.rest c.of.ensures c.lesser-next.ensures c.loop-o.invariant.is;
  all = all_left (StandsOff c.args.board.now c.args.man c.args.off) c.loop-o.own c.pop_first.new.self c.in-Some.o c.loop-o.invariant.all c.in-Some.ensures.rest;
}

pub returns : goal.returns
returns c = by_all c.args.rows.now c.args.board.now c.args.man.color (StandsOff c.args.board.now c.args.man c.args.off) c.loop-o.own c.args.least c.loop-o.lowest c.in_default.ensures.taken c.loop-o.invariant.is
