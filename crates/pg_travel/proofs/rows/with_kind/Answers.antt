use Rattle.pg_travel.proofs.Common.{◌≡◌, ◌∙◌, Some, refl, ap, arith, man, get, any_man, number_among, stored, distance_of}
use Rattle.pg_travel.proofs.MakingRows.{going_first, going_next, going_all}
use Rattle.pg_travel.proofs.SourceLemmas.{number_of, men_first}
use Rattle.pg_travel.proofs.TakenSets.{all_left, fewer}
use Rattle.pg_travel.proofs.rows.with_kind.Goals as goal

pub loop-t-init : goal.loop-t-init
loop-t-init c = record {
  going = going_first c.args.goal.now c.args.man.color c.args.kind c.args.first (λ t. stored (distance_of c.args.man.color c.args.kind c.args.man.kind c.args.from t)) c.squares_of-left.result c.new.result c.args.row (omega arith) c.new.ensures c.squares_of-left.ensures;
  all = λ q l on. men_first c.args.goal.now c.new.result c.squares_of-left.result c.squares_of-left.ensures q l on ∙ ap Some c.new.ensures;
}

pub loop-t-smaller : goal.loop-t-smaller
loop-t-smaller c = fewer c.loop-t.left c.pop_first.new.self c.in-Some.t c.in-Some.ensures.taken c.in-Some.ensures.rest

pub loop-t-preserved : goal.loop-t-preserved
loop-t-preserved c =
    let first = c.in-Some.ensures.taken in
    let number : c.number_before.result ≡ number_among c.args.man.color any_man c.args.goal.now c.in-Some.t = c.number_before.ensures ∙ number_of c.args.goal.now c.args.man.color c.squares_of_color-own.result c.in-Some.t (omega (arith, first.on_board)) c.squares_of_color-own.ensures in
    record {
      going = going_next c.args.goal.now c.args.man.color c.args.kind c.args.first (λ t. stored (distance_of c.args.man.color c.args.kind c.args.man.kind c.args.from t)) c.loop-t.left c.pop_first.new.self c.in-Some.t c.number_before.result c.stored-steps.result (man c.args.man.color c.args.kind) c.args.row c.loop-t.all c.written-next.result refl c.loop-t.invariant.all first c.in-Some.ensures.rest number (c.stored-steps.ensures ∙ ap stored c.all_steps.ensures.value) c.written-next.ensures c.loop-t.invariant.going;
      all = all_left (λ q. get c.args.goal.now q ≡ Some (man c.args.man.color c.args.kind)) c.loop-t.left c.pop_first.new.self c.in-Some.t c.loop-t.invariant.all c.in-Some.ensures.rest;
    }

pub returns : goal.returns
returns c = going_all c.args.goal.now c.args.man.color c.args.kind c.args.first (λ t. stored (distance_of c.args.man.color c.args.kind c.args.man.kind c.args.from t)) c.loop-t.left c.args.row c.loop-t.all c.in_default.ensures.taken c.loop-t.invariant.going
