use Rattle.pg_texts.proofs.Common.{◌≡◌, ◌<◌, length, sym, ◌∙◌, arith, rules, codes, Appends, AddsSome, IsMovetext}
use Rattle.std.proofs.lemmas.Bool.Decides.{nat_tests}
use Rattle.pg_texts.proofs.OutcomeLemmas.{on_ok}
use Rattle.pg_texts.proofs.PlyLemmas.{game_of_none, game_of_moves}
use Rattle.pg_texts.proofs.movetext.append_game.Goals as goal

pub returns-clause-push : goal.returns-clause-push
returns-clause-push g c =
    let none : length c.args.game.now ≡ 0 = grind (arith, nat_tests) in
    record {
      text =
          on_ok c.push.result (Appends (g.W.Sink.held c.args.out.now) (g.W.Sink.held c.push.new.self) (codes "-")) (AddsSome (IsMovetext c.args.game.now) (g.W.Sink.held c.args.out.now) (g.W.Sink.held c.push.new.self))
          (game_of_none c.args.game.now (g.W.Sink.held c.args.out.now) (g.W.Sink.held c.push.new.self) none)
          c.push.ensures.bytes;
      runs = search rules;
      fault = search rules;
    }

pub returns-then-not-is_empty-clause-push : goal.returns-then-not-is_empty-clause-push
returns-then-not-is_empty-clause-push g c =
    let some : 0 < length c.args.game.now = grind (arith, nat_tests) in
    let runs = c.in_ok-write_game_plies.ensures.runs in
    record {
      text = game_of_moves c.args.game.now (g.W.Sink.held c.args.out.now) (g.W.Sink.held c.write_game_plies.new.out) some c.in_ok-write_game_plies.ensures.plies;
      runs = (sym runs.0 ∙ runs.1 some, runs.1 some);
      fault = tt;
    }
