use Rattle.pg_travel.proofs.Common.{◌≡◌, Some, get}
use Rattle.pg_travel.proofs.SourceLemmas.{source_low, source_is, men_off, men_not, men_first, men_next, men_all}
use Rattle.pg_travel.proofs.TakenSets.{all_left, fewer}
use Rattle.pg_travel.proofs.sources.men_fit.Goals as goal

pub loop-s-init : goal.loop-s-init
loop-s-init c = record {
  seen = λ q l off there. men_off c.args.rows.now c.args.board.now c.args.way c.args.u.now c.args.v.now c.args.man c.squares_of-men.result q l c.squares_of-men.ensures off there;
  all = men_first c.args.board.now c.args.man c.squares_of-men.result c.squares_of-men.ensures;
}

pub loop-s-smaller : goal.loop-s-smaller
loop-s-smaller c = fewer c.loop-s.men c.pop_first.new.self c.in-Some.s c.in-Some.ensures.taken c.in-Some.ensures.rest

pub bounds-u-number_before : goal.bounds-u-number_before
bounds-u-number_before c =
    let first = c.in-Some.ensures.taken in
    source_low c.args.board.now c.args.man c.squares_of_color-own.result c.in-Some.s c.number_before.result c.args.u.now c.requires.priced c.squares_of_color-own.ensures first.on_board (c.loop-s.invariant.all c.in-Some.s first.on_board first.member) c.number_before.ensures

pub returns-then-not-source_fits : goal.returns-then-not-source_fits
returns-then-not-source_fits c =
    let first = c.in-Some.ensures.taken in
    men_not c.args.rows.now c.args.board.now c.args.way c.args.man c.in-Some.s c.args.u.now c.args.v.now c.source_fits.result first.on_board (c.loop-s.invariant.all c.in-Some.s first.on_board first.member) c.if-not-source_fits.true
    (source_is c.args.rows.now c.args.board.now c.args.way c.args.man c.in-Some.s c.number_before.result c.counted-origin.result c.squares_of_color-own.result c.args.u.now c.args.v.now c.source_fits.result first.on_board c.squares_of_color-own.ensures c.number_before.ensures c.counted-origin.ensures c.source_fits.ensures)

pub loop-s-preserved : goal.loop-s-preserved
loop-s-preserved c =
    let first = c.in-Some.ensures.taken in
    record {
      seen = men_next c.args.rows.now c.args.board.now c.args.way c.args.man c.loop-s.men c.pop_first.new.self c.in-Some.s c.args.u.now c.args.v.now c.loop-s.invariant.seen c.in-Some.ensures.rest
          ((source_is c.args.rows.now c.args.board.now c.args.way c.args.man c.in-Some.s c.number_before.result c.counted-origin.result c.squares_of_color-own.result c.args.u.now c.args.v.now c.source_fits.result first.on_board c.squares_of_color-own.ensures c.number_before.ensures c.counted-origin.ensures c.source_fits.ensures).0 c.if-not-source_fits.false);
      all = all_left (λ q. get c.args.board.now q ≡ Some c.args.man) c.loop-s.men c.pop_first.new.self c.in-Some.s c.loop-s.invariant.all c.in-Some.ensures.rest;
    }

pub returns : goal.returns
returns c = men_all c.args.rows.now c.args.board.now c.args.way c.args.man c.loop-s.men c.args.u.now c.args.v.now c.loop-s.invariant.seen c.in_default.ensures.taken
