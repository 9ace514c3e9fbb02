use Rattle.pg_texts.proofs.Common.{refl, sym, ◌∙◌, subst, arith, State, AddsPlies}
use Rattle.pg_texts.proofs.PlyLemmas.{no_plies, one_ply_more, played_to_the_end, played_until}
use Rattle.pg_texts.proofs.movetext.write_plies.Goals as goal

pub loop-ply-init : goal.loop-ply-init
loop-ply-init g c = record {
  grows = subst (λ (p : State). AddsPlies c.args.moves.now 0 p (g.W.Sink.held c.args.out.now) (g.W.Sink.held c.args.out.now)) (sym c.array-position.ensures) (no_plies c.args.moves.now (g.W.Sink.held c.args.out.now));
  same = refl;
  runs = λ l. absurd (omega arith);
}

pub write_ply-requires : goal.write_ply-requires
write_ply-requires g c = (c.in-Ok.ensures.ok c.in-Ok.next).0 refl

pub loop-ply-preserved : goal.loop-ply-preserved
loop-ply-preserved g c = record {
  grows = one_ply_more c.args.moves.now c.loop-ply.ply c.index-moves-ply.result c.loop-ply.position c.in-Ok.next (g.W.Sink.held c.args.out.now) (g.W.Sink.held c.loop-ply.out) (g.W.Sink.held c.write_ply.new.out) (omega arith) c.index-moves-ply.is c.loop-ply.invariant.grows ((c.in-Ok.ensures.ok c.in-Ok.next).0 refl) c.in_ok-write_ply-in-Ok.ensures.text;
  same = c.in_ok-write_ply-in-Ok.ensures.runs.1 ∙ sym c.in_ok-write_ply-in-Ok.ensures.runs.0 ∙ c.loop-ply.invariant.same;
  runs = λ _. c.in_ok-write_ply-in-Ok.ensures.runs.1;
}

pub returns-in-Err-clause-plies : goal.returns-in-Err-clause-plies
returns-in-Err-clause-plies g c = played_until c.args.moves.now c.loop-ply.ply c.index-moves-ply.result c.loop-ply.position (g.W.Sink.held c.args.out.now) (g.W.Sink.held c.loop-ply.out) (omega arith) c.index-moves-ply.is c.loop-ply.invariant.grows c.in-Err.ensures.err.1

pub returns-clause-plies : goal.returns-clause-plies
returns-clause-plies g c = played_to_the_end c.args.moves.now c.loop-ply.ply c.loop-ply.position (g.W.Sink.held c.args.out.now) (g.W.Sink.held c.loop-ply.out) (omega arith) c.loop-ply.invariant.grows
