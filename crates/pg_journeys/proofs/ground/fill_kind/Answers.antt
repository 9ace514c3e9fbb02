use Rattle.pg_journeys.proofs.Common.{◌≡◌, ℕ, ◌+◌, ◌*◌, length, arith, ap₂, ◌∙◌, number_of_kind, fewer}
use Rattle.pg_journeys.proofs.TableLemmas.{filling_next, steps_from}
use Rattle.pg_journeys.proofs.ground.fill_kind.Goals as goal

pub loop-square-smaller : goal.loop-square-smaller
loop-square-smaller c = fewer c.loop-square.left c.pop_first.new.self c.in-Some.square c.in-Some.ensures.taken c.in-Some.ensures.rest

pub loop-square-preserved : goal.loop-square-preserved
loop-square-preserved c =
    let first = c.in-Some.ensures.taken in
    let long : length c.loop-square.table ≡ 384 = omega arith in
    let kind : c.from.result ≡ number_of_kind c.args.kind = c.from.ensures ∙ c.number.ensures.value in
    let square : c.from-in-Some.result ≡ c.in-Some.square = c.from-in-Some.ensures ∙ c.index.ensures.value in
    let place : c.from.result * 64 + c.from-in-Some.result ≡ number_of_kind c.args.kind * 64 + c.in-Some.square = ap₂ (λ (x y : ℕ). x * 64 + y) kind square in
    filling_next c.args.blocks.now c.args.free c.args.kind c.loop-square.left c.pop_first.new.self c.in-Some.square (c.from.result * 64 + c.from-in-Some.result) c.bitand.result c.args.table.now c.loop-square.table long c.loop-square.invariant first c.in-Some.ensures.rest place
    (steps_from c.args.blocks.now c.args.free c.args.kind c.new.result c.in-Some.square c.attacks_from.result c.bitand.result c.new.ensures (c.loop-square.invariant.part c.in-Some.square first.on_board first.member) c.attacks_from.ensures c.bitand.ensures.members)
