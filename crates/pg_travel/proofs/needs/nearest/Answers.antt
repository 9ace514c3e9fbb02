use Rattle.pg_travel.proofs.Common.{◌≡◌, ℕ, min, sym, ap, arith, ◌∙◌, Pawn, Man, man, nearest, nearest_man}
use Rattle.pg_travel.proofs.Nearness.{whole_beyond, pawns_beyond, nearest_promoted, nearest_plain}
use Rattle.pg_travel.proofs.needs.nearest.Goals as goal

pub nearer-own-requires-clause-beyond : goal.nearer-own-requires-clause-beyond
nearer-own-requires-clause-beyond c = whole_beyond c.args.board.now c.new-man.result c.args.way c.args.kind c.args.t 64 c.whole_board.result.first c.whole_board.result.past c.whole_board.ensures.first c.whole_board.ensures.past

pub nearer-requires-clause-beyond : goal.nearer-requires-clause-beyond
nearer-requires-clause-beyond c = pawns_beyond c.args.board.now c.args.color c.args.way c.args.kind c.new-pawn.result c.args.t c.nearer-own.result c.promoting.result.first c.promoting.result.past c.new-pawn.ensures c.promoting.ensures.first (omega (arith, c.nearer-own.ensures)) (sym c.is_promoted.ensures ∙ c.if-is_promoted.true) c.promoting.ensures.outside

pub returns-then-is_promoted-clause-value : goal.returns-then-is_promoted-clause-value
returns-then-is_promoted-clause-value c =
    let N : Man → ℕ = λ m. nearest_man c.args.board.now m c.args.way c.args.kind c.args.t in
    let a : c.nearer-own.result ≡ min 64 (N (man c.args.color c.args.kind)) = c.nearer-own.ensures ∙ ap (λ (m : Man). min 64 (N m)) c.new-man.ensures in
    let b : c.nearer.result ≡ min c.nearer-own.result (N (man c.args.color Pawn)) = c.nearer.ensures ∙ ap (λ (m : Man). min c.nearer-own.result (N m)) c.new-pawn.ensures in
    let e : nearest c.args.board.now c.args.color c.args.way c.args.kind c.args.t ≡ min (min 64 (N (man c.args.color c.args.kind))) (N (man c.args.color Pawn)) = nearest_promoted c.args.board.now c.args.color c.args.way c.args.kind c.args.t (sym c.is_promoted.ensures ∙ c.if-is_promoted.true) in
    omega (arith, a, b, e)

pub returns-else-is_promoted-clause-value : goal.returns-else-is_promoted-clause-value
returns-else-is_promoted-clause-value c =
    c.nearer-own.ensures
    ∙ ap (λ (m : Man). min 64 (nearest_man c.args.board.now m c.args.way c.args.kind c.args.t)) c.new-man.ensures
    ∙ sym (nearest_plain c.args.board.now c.args.color c.args.way c.args.kind c.args.t (sym c.is_promoted.ensures ∙ c.if-is_promoted.false))
