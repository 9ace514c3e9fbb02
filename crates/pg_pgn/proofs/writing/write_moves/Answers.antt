use Rattle.pg_pgn.proofs.Common.{refl, sym, ◌∙◌, subst, arith, State, AddsMoves}
use Rattle.pg_pgn.proofs.WritingLemmas.{no_moves, one_more, legal_next, all_moves}
use Rattle.pg_pgn.proofs.writing.write_moves.Goals as goal

pub loop-ply-init : goal.loop-ply-init
loop-ply-init g c = record {
  grows = subst (λ (p : State). AddsMoves c.args.game.now 0 0 p (g.W.Sink.held c.args.out.now) (g.W.Sink.held c.args.out.now)) (sym c.array-position.ensures) (no_moves c.args.game.now (g.W.Sink.held c.args.out.now));
  same = refl;
  small = omega arith;
}

pub after-next-requires : goal.after-next-requires
after-next-requires g c = legal_next c.args.game.now c.loop-ply.ply c.loop-ply.n c.index-game-ply.result c.loop-ply.position (g.W.Sink.held c.args.out.now) (g.W.Sink.held c.loop-ply.out) c.loop-ply-test.true c.index-game-ply.is c.requires c.loop-ply.invariant.grows

pub loop-ply-preserved : goal.loop-ply-preserved
loop-ply-preserved g c = record {
  grows = one_more c.args.game.now c.loop-ply.ply c.loop-ply.n c.index-game-ply.result c.loop-ply.position c.after-next.result c.in_ok-n.n (g.W.Sink.held c.args.out.now) (g.W.Sink.held c.loop-ply.out) (g.W.Sink.held c.write_ply.new.out) c.loop-ply-test.true c.index-game-ply.is c.loop-ply.invariant.grows c.after-next.ensures.legal c.in_ok-n.ensures.text;
  same = c.in_ok-n.ensures.same ∙ c.loop-ply.invariant.same;
  small = c.in_ok-n.ensures.small;
}

pub returns-clause-text : goal.returns-clause-text
returns-clause-text g c = all_moves c.args.game.now c.loop-ply.ply c.loop-ply.n c.loop-ply.position (g.W.Sink.held c.args.out.now) (g.W.Sink.held c.loop-ply.out) c.loop-ply-test.false c.loop-ply.invariant.grows
