use Rattle.pg_moves.proofs.Common.{◌≤◌, arith}
use Rattle.pg_moves.proofs.SearchLemmas.{own_of, own_at, own_found, own_next, own_end}
use Rattle.pg_moves.proofs.search.first_move.Goals as goal

pub first_of_square-requires : goal.first_of_square-requires
first_of_square-requires c = own_at c.args.pins.now c.squares_of_color-own.result c.args.from c.args.target.to c.args.target.number
    (own_of c.args.pins.now c.squares_of_color-own.result c.board.result c.side.result (rw c.position-position.ensures at c.board.ensures.value)
    (rw c.position-position.ensures at c.side.ensures.value) c.squares_of_color-own.ensures)
    c.loop-square.at c.in-Some.square c.in-Some.ensures

pub returns-in-Some-first_of_square : goal.returns-in-Some-first_of_square
returns-in-Some-first_of_square c = own_found c.args.pins.now c.squares_of_color-own.result c.args.from c.args.target.to c.args.target.number
    (own_of c.args.pins.now c.squares_of_color-own.result c.board.result c.side.result (rw c.position-position.ensures at c.board.ensures.value)
    (rw c.position-position.ensures at c.side.ensures.value) c.squares_of_color-own.ensures)
    c.loop-square.at c.in-Some.square c.resume_of-start.result.to c.resume_of-start.result.number c.in-Some-first_of_square.m c.loop-square.invariant.reached
    c.loop-square.invariant.none c.in-Some.ensures
    (λ e. (c.resume_of-start.ensures.at e).0) (λ e. (c.resume_of-start.ensures.past e).0) (λ e. (c.resume_of-start.ensures.at e).1) (λ e. (c.resume_of-start.ensures.past e).1)
    c.index.ensures.bound c.args.target.few c.in-Some-first_of_square.ensures

pub loop-square-preserved : goal.loop-square-preserved
loop-square-preserved c = record {
  reached = let up : c.loop-square.at ≤ c.in-Some.square = c.in-Some.ensures.reached in omega arith;
  within = omega arith;
  none = own_next c.args.pins.now c.squares_of_color-own.result c.args.from c.args.target.to c.args.target.number
      (own_of c.args.pins.now c.squares_of_color-own.result c.board.result c.side.result (rw c.position-position.ensures at c.board.ensures.value)
      (rw c.position-position.ensures at c.side.ensures.value) c.squares_of_color-own.ensures)
      c.loop-square.at c.in-Some.square c.resume_of-start.result.to c.resume_of-start.result.number c.index-at-in-Some.result c.loop-square.invariant.reached
      c.loop-square.invariant.none c.in-Some.ensures
      (λ e. (c.resume_of-start.ensures.at e).0) (λ e. (c.resume_of-start.ensures.past e).0) (λ e. (c.resume_of-start.ensures.at e).1) (λ e. (c.resume_of-start.ensures.past e).1)
      c.index.ensures.bound c.args.target.few c.in_default-first_of_square.ensures c.index-at-in-Some.ensures.value;
}

pub returns : goal.returns
returns c = own_end c.args.pins.now c.squares_of_color-own.result c.args.from c.args.target.to c.args.target.number
    (own_of c.args.pins.now c.squares_of_color-own.result c.board.result c.side.result (rw c.position-position.ensures at c.board.ensures.value)
    (rw c.position-position.ensures at c.side.ensures.value) c.squares_of_color-own.ensures)
    c.loop-square.at c.loop-square.invariant.within c.loop-square.invariant.none c.in_default.ensures
