use Rattle.pg_journeys.proofs.Common.{refl, sym, ◌∙◌, lifted, fewer}
use Rattle.pg_journeys.proofs.Lifting.{found_there, found_none}
use Rattle.pg_journeys.proofs.RestingLemmas.{own_lifted}
use Rattle.pg_journeys.proofs.MenLemmas.{found_first, found_next, found_count, found_all, room_left}
use Rattle.pg_journeys.proofs.men.men_without.Goals as goal

pub loop-square-init : goal.loop-square-init
loop-square-init c = found_first (lifted c.args.board.now c.args.resting) c.args.color c.sub-left.result _ refl
    (own_lifted c.args.board.now c.args.resting c.args.color c.squares_of_color.result c.sub-left.result c.sub-left.ensures.members c.squares_of_color.ensures)

pub add-requires : goal.add-requires
add-requires c = room_left (lifted c.args.board.now c.args.resting) c.args.color c.loop-square.left c.pop_first.new.self c.in-Some.square c.loop-square.men c.requires c.loop-square.invariant c.in-Some.ensures.taken c.in-Some.ensures.rest

pub loop-square-smaller-in-Some-get : goal.loop-square-smaller-in-Some-get
loop-square-smaller-in-Some-get c = fewer c.loop-square.left c.pop_first.new.self c.in-Some.square c.in-Some.ensures.taken c.in-Some.ensures.rest

pub loop-square-preserved-in-Some-get : goal.loop-square-preserved-in-Some-get
loop-square-preserved-in-Some-get c =
    let own = c.loop-square.invariant.own c.in-Some.square c.in-Some.ensures.taken.on_board c.in-Some.ensures.taken.member in
    found_next (lifted c.args.board.now c.args.resting) c.args.color c.loop-square.left c.pop_first.new.self c.in-Some.square c.loop-square.men c.add.new.self c.in-Some-get.man c.loop-square.invariant c.in-Some.ensures.taken c.in-Some.ensures.rest
    (found_there c.args.board.now c.args.resting c.in-Some.square _ c.in-Some-get.man c.in-Some.ensures.taken.on_board own.1 (sym c.in-Some-get.ensures)) c.add.ensures

pub returns-clause-all : goal.returns-clause-all
returns-clause-all c = found_all (lifted c.args.board.now c.args.resting) c.args.color c.loop-square.left c.loop-square.men c.requires c.loop-square.invariant c.in_default.ensures.taken

pub returns-clause-count : goal.returns-clause-count
returns-clause-count c = found_count (lifted c.args.board.now c.args.resting) c.args.color c.loop-square.left c.loop-square.men c.loop-square.invariant c.in_default.ensures.taken

pub loop-square-smaller : goal.loop-square-smaller
loop-square-smaller c = fewer c.loop-square.left c.pop_first.new.self c.in-Some.square c.in-Some.ensures.taken c.in-Some.ensures.rest

pub loop-square-preserved : goal.loop-square-preserved
loop-square-preserved c =
    let own = c.loop-square.invariant.own c.in-Some.square c.in-Some.ensures.taken.on_board c.in-Some.ensures.taken.member in
    absurd (found_none c.args.board.now c.args.resting c.in-Some.square _ c.in-Some.ensures.taken.on_board own.1 (sym c.get.ensures ∙ c.in_default-get.is))
