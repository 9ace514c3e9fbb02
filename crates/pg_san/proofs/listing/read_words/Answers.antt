use Rattle.pg_san.proofs.Common.{◌≡◌, ◌<◌, [], length, sym, ◌∙◌, arith, nat_tests, nil_from_length, words, without_move_number}
use Rattle.pg_san.proofs.WordReadingLemmas.{so_none, so_skip, so_move, so_bad, so_kept, so_lost}
use Rattle.pg_san.proofs.listing.read_words.Goals as goal

pub loop-word-init : goal.loop-word-init
loop-word-init c = record {
  few = omega arith;
  spelled = rw (c.new-game.ensures.items, c.array-here.ensures) (so_none (words c.args.line.now));
}

pub returns-in-Err : goal.returns-in-Err
returns-in-Err c =
    let l : 0 < length c.without_move_number-text.result.now = grind (arith, nat_tests) in
    so_bad (words c.args.line.now) (words c.loop-word.rest.now) (words c.in-Some.after.now) c.in-Some.word.now c.without_move_number-text.result.now c.loop-word.plies c.loop-word.kept c.loop-word.game.items c.loop-word.here c.in-Err.cause c.loop-word.invariant.spelled c.in-Some.ensures.0 c.without_move_number-text.ensures l c.in-Err.ensures.read

pub loop-word-preserved-then-not-is_empty : goal.loop-word-preserved-then-not-is_empty
loop-word-preserved-then-not-is_empty c =
    let l : 0 < length c.without_move_number-text.result.now = grind (arith, nat_tests) in
    record {
      few = omega (arith, c.loop-word.invariant.few, c.in-Some.ensures.1);
      spelled = so_move (words c.args.line.now) (words c.loop-word.rest.now) (words c.in-Some.after.now) c.in-Some.word.now c.without_move_number-text.result.now c.loop-word.plies c.loop-word.kept c.keep-kept.result c.loop-word.game.items c.keep-kept.new.game.items c.in-Ok.m c.loop-word.here c.read.new.here c.loop-word.invariant.spelled c.in-Some.ensures.0 c.without_move_number-text.ensures l c.in-Ok.ensures.read.0 c.in-Ok.ensures.read.1 c.keep-kept.ensures;
    }

pub loop-word-preserved : goal.loop-word-preserved
loop-word-preserved c =
    let l : length c.without_move_number-text.result.now ≡ 0 = grind (arith, nat_tests) in
    let nil : without_move_number c.in-Some.word.now ≡ [] = sym c.without_move_number-text.ensures ∙ nil_from_length c.without_move_number-text.result.now l in
    record {
      few = omega (arith, c.loop-word.invariant.few, c.in-Some.ensures.1);
      spelled = so_skip (words c.args.line.now) (words c.loop-word.rest.now) (words c.in-Some.after.now) c.in-Some.word.now c.loop-word.plies c.loop-word.kept c.loop-word.game.items c.loop-word.here c.loop-word.invariant.spelled c.in-Some.ensures.0 nil;
    }

pub returns-then-kept : goal.returns-then-kept
returns-then-kept c = so_kept (words c.args.line.now) (words c.loop-word.rest.now) c.loop-word.plies c.loop-word.kept c.loop-word.game.items c.loop-word.here c.loop-word.invariant.spelled c.in_default.ensures c.if-kept.true

pub returns-else-kept : goal.returns-else-kept
returns-else-kept c = so_lost (words c.args.line.now) (words c.loop-word.rest.now) c.loop-word.plies c.loop-word.kept c.loop-word.game.items c.loop-word.here c.loop-word.invariant.spelled c.in_default.ensures
