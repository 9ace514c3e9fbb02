use Rattle.pg_travel.proofs.Common.{◌≡◌, ◌∙◌, ◌-◌, ℕ, Some, refl, ap, arith, get, any_man, number_among}
use Rattle.pg_travel.proofs.MakingRows.{going_first, going_next, going_all, mask_all}
use Rattle.pg_travel.proofs.SourceLemmas.{number_of, men_first}
use Rattle.pg_travel.proofs.TakenSets.{all_left, fewer}
use Rattle.pg_travel.proofs.rows.mask.Goals as goal

pub loop-t-init : goal.loop-t-init
loop-t-init c = record {
  going = going_first c.args.goal.now c.args.man.color c.args.man.kind c.args.first (λ t. 0) c.squares_of-left.result c.args.man c.unreached-none.result c.unreached-none.ensures.long refl c.squares_of-left.ensures;
  all = men_first c.args.goal.now c.args.man c.squares_of-left.result c.squares_of-left.ensures;
}

pub loop-t-smaller : goal.loop-t-smaller
loop-t-smaller c = fewer c.loop-t.left c.pop_first.new.self c.in-Some.t c.in-Some.ensures.taken c.in-Some.ensures.rest

pub loop-t-preserved : goal.loop-t-preserved
loop-t-preserved c =
    let first = c.in-Some.ensures.taken in
    let number : c.number_before.result ≡ number_among c.args.man.color any_man c.args.goal.now c.in-Some.t = c.number_before.ensures ∙ number_of c.args.goal.now c.args.man.color c.squares_of_color-own.result c.in-Some.t (omega (arith, first.on_board)) c.squares_of_color-own.ensures in
    record {
      going = going_next c.args.goal.now c.args.man.color c.args.man.kind c.args.first (λ t. 0) c.loop-t.left c.pop_first.new.self c.in-Some.t c.number_before.result 0 c.args.man c.unreached-none.result c.loop-t.all c.written-next.result refl c.loop-t.invariant.all first c.in-Some.ensures.rest number refl c.written-next.ensures c.loop-t.invariant.going;
      all = all_left (λ q. get c.args.goal.now q ≡ Some c.args.man) c.loop-t.left c.pop_first.new.self c.in-Some.t c.loop-t.invariant.all c.in-Some.ensures.rest;
    }

pub returns : goal.returns
returns c = mask_all c.args.goal.now c.args.man.color c.args.man.kind c.args.first c.saturating_sub.result c.unreached-none.result c.loop-t.all (c.saturating_sub.ensures ∙ ap (λ (n : ℕ). n - c.args.first) c.all_men.ensures.value) c.unreached-none.ensures (going_all c.args.goal.now c.args.man.color c.args.man.kind c.args.first (λ t. 0) c.loop-t.left c.unreached-none.result c.loop-t.all c.in_default.ensures.taken c.loop-t.invariant.going)
