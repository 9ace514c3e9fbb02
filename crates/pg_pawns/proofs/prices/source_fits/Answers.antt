use Rattle.pg_pawns.proofs.Common.{ℕ, sym, subst, arith, Pawn, Stands, any_pawn, price, marks_pawns, place_first, index_low, index_within, price_at, index_next, seen_next, all_last, PairFits}
use Rattle.pg_pawns.proofs.PriceLemmas.{own_pawns, off_board, on_board, source_all, source_not}
use Rattle.pg_pawns.proofs.prices.source_fits.Goals as goal

pub loop-t-init : goal.loop-t-init
loop-t-init c = record { is = place_first c.args.color any_pawn c.args.goal.now; seen = λ t l. absurd (omega arith); within = omega arith }

pub bounds-v-place : goal.bounds-v-place
bounds-v-place c = index_within c.args.v.now c.args.color any_pawn c.args.goal.now c.squares_of-own.result c.loop-t.place c.loop-t.from c.in-Some.t c.requires (marks_pawns c.args.goal.now c.args.color c.squares_of-own.result (own_pawns c.args.goal.now c.args.color c.new.result c.squares_of-own.result c.new.ensures c.squares_of-own.ensures)) c.loop-t.invariant.is c.in-Some.ensures

pub overflow_add-place : goal.overflow_add-place
overflow_add-place c = omega (arith, index_low c.args.color any_pawn c.args.goal.now c.loop-t.place c.loop-t.from c.loop-t.invariant.is c.loop-t.invariant.within)

pub loop-t-preserved : goal.loop-t-preserved
loop-t-preserved c = record {
  is = index_next c.args.color any_pawn c.args.goal.now c.squares_of-own.result c.loop-t.place c.loop-t.from c.in-Some.t c.index-from.result (marks_pawns c.args.goal.now c.args.color c.squares_of-own.result (own_pawns c.args.goal.now c.args.color c.new.result c.squares_of-own.result c.new.ensures c.squares_of-own.ensures)) c.loop-t.invariant.is c.in-Some.ensures c.index-from.ensures.value;
  seen = seen_next (λ x. Stands c.args.goal.now c.args.color Pawn x → PairFits c.args.color c.args.s c.args.u x (price c.args.v.now c.args.color any_pawn c.args.goal.now x)) c.squares_of-own.result c.loop-t.from c.in-Some.t c.index-from.result (λ x l e there. absurd (off_board c.args.goal.now c.args.color c.squares_of-own.result x (own_pawns c.args.goal.now c.args.color c.new.result c.squares_of-own.result c.new.ensures c.squares_of-own.ensures x l) e there)) c.loop-t.invariant.seen c.in-Some.ensures c.index-from.ensures.value (λ there. subst (λ (n : ℕ). PairFits c.args.color c.args.s c.args.u c.in-Some.t n) (price_at c.args.v.now c.args.color any_pawn c.args.goal.now c.squares_of-own.result c.loop-t.place c.loop-t.from c.in-Some.t (marks_pawns c.args.goal.now c.args.color c.squares_of-own.result (own_pawns c.args.goal.now c.args.color c.new.result c.squares_of-own.result c.new.ensures c.squares_of-own.ensures)) c.loop-t.invariant.is c.in-Some.ensures) (c.pair_fits.ensures.0 c.if-not-pair_fits.false));
  within = omega (arith, c.index-from.ensures.value, c.index-from.ensures.bound);
}

pub returns-then-not-pair_fits : goal.returns-then-not-pair_fits
returns-then-not-pair_fits c = source_not c.args.goal.now c.args.color c.args.s c.args.u c.args.v.now c.in-Some.t c.in-Some.ensures.on_board (on_board c.args.goal.now c.args.color c.squares_of-own.result c.in-Some.t (own_pawns c.args.goal.now c.args.color c.new.result c.squares_of-own.result c.new.ensures c.squares_of-own.ensures c.in-Some.t c.in-Some.ensures.on_board) c.in-Some.ensures.member) (λ h. absurd (let e = c.pair_fits.ensures.1 (subst (λ (n : ℕ). PairFits c.args.color c.args.s c.args.u c.in-Some.t n) (sym (price_at c.args.v.now c.args.color any_pawn c.args.goal.now c.squares_of-own.result c.loop-t.place c.loop-t.from c.in-Some.t (marks_pawns c.args.goal.now c.args.color c.squares_of-own.result (own_pawns c.args.goal.now c.args.color c.new.result c.squares_of-own.result c.new.ensures c.squares_of-own.ensures)) c.loop-t.invariant.is c.in-Some.ensures)) h) in let f = c.if-not-pair_fits.true in cc))

pub returns : goal.returns
returns c = source_all c.args.goal.now c.args.color c.args.s c.args.u c.args.v.now (all_last (λ x. Stands c.args.goal.now c.args.color Pawn x → PairFits c.args.color c.args.s c.args.u x (price c.args.v.now c.args.color any_pawn c.args.goal.now x)) c.squares_of-own.result c.loop-t.from (λ x l e there. absurd (off_board c.args.goal.now c.args.color c.squares_of-own.result x (own_pawns c.args.goal.now c.args.color c.new.result c.squares_of-own.result c.new.ensures c.squares_of-own.ensures x l) e there)) c.loop-t.invariant.seen c.in_default.ensures)
