use Rattle.pg_pawns.proofs.Common.{ℕ, sym, subst, arith, Pawn, Stands, any_pawn, price, marks_pawns, place_first, index_low, index_within, price_at, index_next, seen_next, all_last, SourceFits}
use Rattle.pg_pawns.proofs.PriceLemmas.{own_pawns, off_board, on_board, all_all, all_not}
use Rattle.pg_pawns.proofs.prices.all_fit.Goals as goal

pub loop-s-init : goal.loop-s-init
loop-s-init c = record { is = place_first c.args.color any_pawn c.args.board.now; seen = λ t l. absurd (omega arith); within = omega arith }

pub bounds-u-place : goal.bounds-u-place
bounds-u-place c = index_within c.args.u.now c.args.color any_pawn c.args.board.now c.squares_of-own.result c.loop-s.place c.loop-s.from c.in-Some.s c.requires.0 (marks_pawns c.args.board.now c.args.color c.squares_of-own.result (own_pawns c.args.board.now c.args.color c.new.result c.squares_of-own.result c.new.ensures c.squares_of-own.ensures)) c.loop-s.invariant.is c.in-Some.ensures

pub overflow_add-place : goal.overflow_add-place
overflow_add-place c = omega (arith, index_low c.args.color any_pawn c.args.board.now c.loop-s.place c.loop-s.from c.loop-s.invariant.is c.loop-s.invariant.within)

pub loop-s-preserved : goal.loop-s-preserved
loop-s-preserved c = record {
  is = index_next c.args.color any_pawn c.args.board.now c.squares_of-own.result c.loop-s.place c.loop-s.from c.in-Some.s c.index-from.result (marks_pawns c.args.board.now c.args.color c.squares_of-own.result (own_pawns c.args.board.now c.args.color c.new.result c.squares_of-own.result c.new.ensures c.squares_of-own.ensures)) c.loop-s.invariant.is c.in-Some.ensures c.index-from.ensures.value;
  seen = seen_next (λ x. Stands c.args.board.now c.args.color Pawn x → SourceFits c.args.goal.now c.args.color x (price c.args.u.now c.args.color any_pawn c.args.board.now x) c.args.v.now) c.squares_of-own.result c.loop-s.from c.in-Some.s c.index-from.result (λ x l e there. absurd (off_board c.args.board.now c.args.color c.squares_of-own.result x (own_pawns c.args.board.now c.args.color c.new.result c.squares_of-own.result c.new.ensures c.squares_of-own.ensures x l) e there)) c.loop-s.invariant.seen c.in-Some.ensures c.index-from.ensures.value (λ there. subst (λ (n : ℕ). SourceFits c.args.goal.now c.args.color c.in-Some.s n c.args.v.now) (price_at c.args.u.now c.args.color any_pawn c.args.board.now c.squares_of-own.result c.loop-s.place c.loop-s.from c.in-Some.s (marks_pawns c.args.board.now c.args.color c.squares_of-own.result (own_pawns c.args.board.now c.args.color c.new.result c.squares_of-own.result c.new.ensures c.squares_of-own.ensures)) c.loop-s.invariant.is c.in-Some.ensures) (c.source_fits.ensures.0 c.if-not-source_fits.false));
  within = omega (arith, c.index-from.ensures.value, c.index-from.ensures.bound);
}

pub returns-then-not-source_fits : goal.returns-then-not-source_fits
returns-then-not-source_fits c = all_not c.args.board.now c.args.goal.now c.args.color c.args.u.now c.args.v.now c.in-Some.s c.in-Some.ensures.on_board (on_board c.args.board.now c.args.color c.squares_of-own.result c.in-Some.s (own_pawns c.args.board.now c.args.color c.new.result c.squares_of-own.result c.new.ensures c.squares_of-own.ensures c.in-Some.s c.in-Some.ensures.on_board) c.in-Some.ensures.member) (λ h. absurd (let e = c.source_fits.ensures.1 (subst (λ (n : ℕ). SourceFits c.args.goal.now c.args.color c.in-Some.s n c.args.v.now) (sym (price_at c.args.u.now c.args.color any_pawn c.args.board.now c.squares_of-own.result c.loop-s.place c.loop-s.from c.in-Some.s (marks_pawns c.args.board.now c.args.color c.squares_of-own.result (own_pawns c.args.board.now c.args.color c.new.result c.squares_of-own.result c.new.ensures c.squares_of-own.ensures)) c.loop-s.invariant.is c.in-Some.ensures)) h) in let f = c.if-not-source_fits.true in cc))

pub returns : goal.returns
returns c = all_all c.args.board.now c.args.goal.now c.args.color c.args.u.now c.args.v.now (all_last (λ x. Stands c.args.board.now c.args.color Pawn x → SourceFits c.args.goal.now c.args.color x (price c.args.u.now c.args.color any_pawn c.args.board.now x) c.args.v.now) c.squares_of-own.result c.loop-s.from (λ x l e there. absurd (off_board c.args.board.now c.args.color c.squares_of-own.result x (own_pawns c.args.board.now c.args.color c.new.result c.squares_of-own.result c.new.ensures c.squares_of-own.ensures x l) e there)) c.loop-s.invariant.seen c.in_default.ensures)
