use Rattle.pg_pgn.proofs.Common.{◌≡◌, ◌<◌, ◌≤◌, ◌+◌, length, arith, nat_tests, nil_from_length, said, sign_of, at}
use Rattle.pg_pgn.proofs.FaultLemmas.{open_fault, token_fault, end_fault, no_memory}
use Rattle.pg_pgn.proofs.LegalLemmas.{read_legal}
use Rattle.pg_pgn.proofs.ReadingLemmas.{read_first, deep_first, read_more, goes_deep, file_on}
use Rattle.pg_pgn.proofs.reading.read_pgn.Goals as goal

pub loop-letters-init : goal.loop-letters-init
loop-letters-init c = record {
  read = read_first c.args.letters c.args.text.now (at c.begun-reading.result) c.body-rest.result.now c.begun-reading.ensures c.body-rest.ensures;
  deep = deep_first c.args.text.now (at c.begun-reading.result) c.body-rest.result.now c.begun-reading.ensures c.body-rest.ensures;
}

pub returns-in-Err-clause-err : goal.returns-in-Err-clause-err
returns-in-Err-clause-err c =
    open_fault c.args.letters c.args.text.now (at c.loop-letters.reading) c.loop-letters.rest.now c.game_number-game.result 0 c.in-Err.fault c.form_fault.result c.loop-letters.invariant.read c.game_number-game.ensures c.in-Err.ensures.err c.form_fault.ensures

pub returns-in-Err-step-clause-err : goal.returns-in-Err-step-clause-err
returns-in-Err-step-clause-err c =
    token_fault c.args.letters c.args.text.now (at c.loop-letters.reading) c.loop-letters.rest.now c.in-Ok.cut.0.now c.in-Ok.cut.1.now c.game_number-game.result c.ply_number-ply.result c.in-Err-step.cause c.fault_of.result c.loop-letters.invariant.read c.in-Ok.ensures.ok c.game_number-game.ensures c.ply_number-ply.ensures c.in-Err-step.ensures.err c.fault_of.ensures

pub loop-letters-preserved : goal.loop-letters-preserved
loop-letters-preserved c =
    let old = at c.loop-letters.reading in
    let new = at c.step.new.reading in
    let token = c.in-Ok.cut.0.now in
    let deep : new.depth ≤ old.depth + 1 = goes_deep (sign_of c.args.letters token) old new (said c.args.letters token) c.in-Ok-step.ensures.ok in
    let less : length c.in-Ok.cut.1.now < length c.loop-letters.rest.now = c.in-Ok.ensures.less in
    record {
      read = read_more c.args.letters c.args.text.now old new c.loop-letters.rest.now token c.in-Ok.cut.1.now c.loop-letters.invariant.read c.in-Ok.ensures.ok c.in-Ok-step.ensures.ok;
      deep = omega (arith, deep, less, c.loop-letters.invariant.deep);
    }

pub returns-then-reading-gt0-clause-err : goal.returns-then-reading-gt0-clause-err
returns-then-reading-gt0-clause-err c =
    let none : length c.loop-letters.rest.now ≡ 0 = grind (arith, nat_tests) in
    end_fault c.args.letters c.args.text.now (at c.loop-letters.reading) c.loop-letters.rest.now c.game_number.result 0 c.form_fault-then-reading-gt0.result c.loop-letters.invariant.read c.game_number.ensures (nil_from_length c.loop-letters.rest.now none) c.if-reading-gt0.true c.form_fault-then-reading-gt0.ensures

pub games_of-requires-clause-legal : goal.games_of-requires-clause-legal
games_of-requires-clause-legal c = read_legal c.args.letters c.args.text.now (at c.loop-letters.reading) c.loop-letters.rest.now c.loop-letters.invariant.read

pub returns-clause-ok : goal.returns-clause-ok
returns-clause-ok c =
    let none : length c.loop-letters.rest.now ≡ 0 = grind (arith, nat_tests) in
    let depth : c.loop-letters.reading.depth ≡ 0 = omega (arith, c.if-reading-gt0.false) in
    file_on c.args.letters c.args.text.now (at c.loop-letters.reading) c.loop-letters.rest.now c.games_of.result c.loop-letters.invariant.read (nil_from_length c.loop-letters.rest.now none) depth c.games_of.ensures.ok

pub returns-clause-err : goal.returns-clause-err
returns-clause-err c = no_memory c.args.letters c.args.text.now (at c.loop-letters.reading) c.loop-letters.rest.now c.games_of.result c.loop-letters.invariant.read c.games_of.ensures.err
