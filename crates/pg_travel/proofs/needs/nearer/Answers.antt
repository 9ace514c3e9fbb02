use Rattle.pg_travel.proofs.Common.{◌≡◌, ℕ, ◌+◌, ◌<◌, min, sym, ap, arith, ◌∙◌, get, counted, least_of, distance_of, reach_from, nearest_man}
use Rattle.pg_travel.proofs.Nearness.{band_first, band_low, band_past, least_reached_from, least_reached_at}
use Rattle.pg_travel.proofs.needs.nearer.Goals as goal

pub loop-o-init : goal.loop-o-init
loop-o-init c = record { is = band_first c.args.board.now c.args.man c.args.way c.args.kind c.args.t c.args.best c.args.band.first c.args.band.past c.requires.low c.requires.beyond; within = band_low c.args.board.now c.args.man c.args.way c.args.kind c.args.t c.args.best c.args.band.first c.args.band.past c.requires.beyond }

pub loop-o-preserved : goal.loop-o-preserved
loop-o-preserved c =
    let F : ℕ → ℕ = λ o. reach_from c.args.man c.args.way c.args.kind c.args.t o (get c.args.board.now o) in
    let first = c.in-Some.ensures in
    let here : c.in-Some.o < 64 = first.on_board in
    let a : c.closer-least.result ≡ min c.loop-o.least (distance_of c.args.man.color c.args.kind c.args.man.kind (counted c.args.man.color c.args.way c.in-Some.o) c.args.t) = c.closer-least.ensures ∙ ap (λ (r : ℕ). min c.loop-o.least (distance_of c.args.man.color c.args.kind c.args.man.kind r c.args.t)) c.counted-origin.ensures in
    let s : least_of F c.in-Some.o ≡ least_of F c.loop-o.from = least_reached_from c.args.board.now c.args.man c.args.way c.args.kind c.args.t c.squares_of-own.result c.loop-o.from c.in-Some.o c.squares_of-own.ensures first.reached (omega arith) first.before in
    let n : least_of F (c.in-Some.o + 1) ≡ min (least_of F c.in-Some.o) (distance_of c.args.man.color c.args.kind c.args.man.kind (counted c.args.man.color c.args.way c.in-Some.o) c.args.t) = least_reached_at c.args.board.now c.args.man c.args.way c.args.kind c.args.t c.squares_of-own.result c.in-Some.o c.squares_of-own.ensures here first.member in
    let i : c.index-at.result ≡ c.in-Some.o = c.index-at.ensures.value in
    let e : least_of F (c.index-at.result + 1) ≡ least_of F (c.in-Some.o + 1) = ap (λ (x : ℕ). least_of F (x + 1)) i in
    let m : c.loop-o.least ≡ min c.args.best (least_of F c.loop-o.from) = c.loop-o.invariant.is in
    record { is = omega (arith, a, s, n, e, m); within = omega (arith, i, here) }

pub returns : goal.returns
unfolding nearest_man
returns c =
    c.loop-o.invariant.is
    ∙ ap (λ (x : ℕ). min c.args.best x) (sym (least_reached_from c.args.board.now c.args.man c.args.way c.args.kind c.args.t c.squares_of-own.result c.loop-o.from 64 c.squares_of-own.ensures c.loop-o.invariant.within (omega arith) c.in_default.ensures))

pub returns-then-band-at : goal.returns-then-band-at
unfolding nearest_man
returns-then-band-at c =
    c.loop-o.invariant.is
    ∙ sym (band_past c.args.board.now c.args.man c.args.way c.args.kind c.args.t c.squares_of-own.result c.loop-o.from c.in-Some.o c.args.best c.args.band.first c.args.band.past c.squares_of-own.ensures c.requires.beyond c.in-Some.ensures (omega (arith, c.if-band-at.true, c.index-at.ensures.value)))
