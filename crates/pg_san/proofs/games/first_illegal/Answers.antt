use Rattle.pg_san.proofs.Common.{refl, arith}
use Rattle.pg_san.proofs.GameLemmas.{whole_game, illegal_at, step_game}
use Rattle.pg_san.proofs.SharedLemmas.{shared_legal}
use Rattle.pg_san.proofs.games.first_illegal.Goals as goal

pub returns : goal.returns
returns c = whole_game c.args.game.now c.loop-i.i c.loop-i.position (omega arith) c.loop-i.invariant

pub returns-in-Err : goal.returns-in-Err
returns-in-Err c = illegal_at c.args.game.now c.loop-i.i c.index-game-i.result c.loop-i.position (omega arith) c.index-game-i.is c.loop-i.invariant c.in-Err.ensures.err.1

pub loop-i-preserved : goal.loop-i-preserved
loop-i-preserved c = step_game c.args.game.now c.loop-i.i c.index-game-i.result c.loop-i.position c.in-Ok.next (omega arith) c.index-game-i.is c.loop-i.invariant ((c.in-Ok.ensures.ok c.in-Ok.next).0 refl)

pub after-position-requires : goal.after-position-requires
after-position-requires c = shared_legal c.args.game.now c.args.known.now c.shared-shared.result c.loop-i.i c.index-game-i.result c.loop-i.position c.requires c.shared-shared.ensures.same c.shared-shared.ensures.within (omega arith) c.index-game-i.is c.loop-i.invariant

pub loop-i-preserved-then-i-shared : goal.loop-i-preserved-then-i-shared
loop-i-preserved-then-i-shared c = step_game c.args.game.now c.loop-i.i c.index-game-i.result c.loop-i.position c.after-position.result (omega arith) c.index-game-i.is c.loop-i.invariant c.after-position.ensures.legal
