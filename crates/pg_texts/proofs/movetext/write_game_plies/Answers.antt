use Rattle.pg_texts.proofs.Common.{refl, sym, ◌∙◌, subst, arith, State, AddsPlies}
use Rattle.pg_texts.proofs.PlyLemmas.{no_plies, one_ply_more, legal_next, all_plies}
use Rattle.pg_texts.proofs.movetext.write_game_plies.Goals as goal

pub loop-ply-init : goal.loop-ply-init
loop-ply-init g c = record {
  grows = subst (λ (p : State). AddsPlies c.args.game.now 0 p (g.W.Sink.held c.args.out.now) (g.W.Sink.held c.args.out.now)) (sym c.array-position.ensures) (no_plies c.args.game.now (g.W.Sink.held c.args.out.now));
  same = refl;
  runs = λ l. absurd (omega arith);
  known = c.requires.known;
}

pub write_known-san-requires-clause-legal : goal.write_known-san-requires-clause-legal
write_known-san-requires-clause-legal g c = legal_next c.args.game.now c.loop-ply.ply c.index-game-ply.result c.loop-ply.position (g.W.Sink.held c.args.out.now) (g.W.Sink.held c.loop-ply.out) (omega arith) c.index-game-ply.is c.requires.game c.loop-ply.invariant.grows

pub loop-ply-preserved : goal.loop-ply-preserved
loop-ply-preserved g c = record {
  grows = one_ply_more c.args.game.now c.loop-ply.ply c.index-game-ply.result c.loop-ply.position c.write_known-san.new.here (g.W.Sink.held c.args.out.now) (g.W.Sink.held c.loop-ply.out) (g.W.Sink.held c.write_text.new.out) (omega arith) c.index-game-ply.is c.loop-ply.invariant.grows c.write_known-san.ensures.next (c.write_known-san.result.bytes, c.write_known-san.ensures.text, c.in_ok-write_text.ensures.text);
  same = c.in_ok-write_text.ensures.runs.1 ∙ sym c.in_ok-write_text.ensures.runs.0 ∙ c.loop-ply.invariant.same;
  runs = λ _. c.in_ok-write_text.ensures.runs.1;
  known = c.write_known-san.ensures.known;
}

pub returns-clause-plies : goal.returns-clause-plies
returns-clause-plies g c = all_plies c.args.game.now c.loop-ply.ply c.loop-ply.position (g.W.Sink.held c.args.out.now) (g.W.Sink.held c.loop-ply.out) (omega arith) c.loop-ply.invariant.grows
