use Rattle.pg_pgn.proofs.Common.{◌≡◌, ◌<◌, ◌+◌, ◌++◌, ◌∷◌, [], List, length, take, refl, sym, ◌∙◌, subst, arith, length-take-le, take_all, Move, AddsSome, listed_game, IsPgnText}
use Rattle.pg_pgn.proofs.WritingLemmas.{no_games, one_more_game}
use Rattle.pg_pgn.proofs.writing.write_pgn.Goals as goal

pub loop-i-init : goal.loop-i-init
loop-i-init g c = record { grows = no_games (g.W.Sink.held c.args.out.now); same = refl }

pub write_behind-requires : goal.write_behind-requires
write_behind-requires g c =
    let low : c.loop-i.i < length c.args.games.now = omega (arith, c.loop-i-test.true, c.len-i-end.ensures.value) in
    listed_game c.args.games.now c.loop-i.i c.in-Some.game.now c.len-i-end.ensures.games low c.in-Some.ensures

pub loop-i-preserved : goal.loop-i-preserved
loop-i-preserved g c =
    let low : c.loop-i.i < length c.args.games.now = omega (arith, c.loop-i-test.true, c.len-i-end.ensures.value) in
    let e : take (c.loop-i.i + 1) c.args.games.now ≡ take c.loop-i.i c.args.games.now ++ c.in-Some.game.now ∷ [] = one_more_game c.args.games.now c.loop-i.i c.in-Some.game.now low c.in-Some.ensures in
    let many : c.loop-i.i ≡ length (take c.loop-i.i c.args.games.now) = sym (length-take-le c.loop-i.i c.args.games.now (omega (arith, low))) in
    record {
      grows = subst (λ (gs : List (List Move)). AddsSome (IsPgnText gs) (g.W.Sink.held c.args.out.now) (g.W.Sink.held c.write_behind.new.out)) (sym e) (c.in_ok-write_behind.ensures.text (take c.loop-i.i c.args.games.now) (g.W.Sink.held c.args.out.now) many c.loop-i.invariant.grows);
      same = c.in_ok-write_behind.ensures.runs.1 ∙ sym c.in_ok-write_behind.ensures.runs.0 ∙ c.loop-i.invariant.same;
    }

pub returns : goal.returns
returns g c = record {
  text = subst (λ (gs : List (List Move)). AddsSome (IsPgnText gs) (g.W.Sink.held c.args.out.now) (g.W.Sink.held c.loop-i.out)) (take_all c.loop-i.i c.args.games.now (omega (arith, c.loop-i-test.false, c.len-i-end.ensures.value))) c.loop-i.invariant.grows;
  runs = c.loop-i.invariant.same;
  fault = tt;
}
