use Rattle.pg_pgn.proofs.Common.{sym, ◌∙◌, nil_from_length}
use Rattle.pg_pgn.proofs.WritingLemmas.{game_alone, game_behind, some_games}
use Rattle.pg_pgn.proofs.writing.write_behind.Goals as goal

pub returns-then-count-eq0-clause-text : goal.returns-then-count-eq0-clause-text
returns-then-count-eq0-clause-text g c = λ games before many grows.
    game_alone games c.args.game.now before (g.W.Sink.held c.args.out.now) (g.W.Sink.held c.write_game.new.out) c.write_game.result (nil_from_length games (sym many ∙ c.if-count-eq0.true)) grows c.write_game.ensures.text

pub returns-clause-text : goal.returns-clause-text
returns-clause-text g c = λ games before many grows.
    game_behind games c.args.game.now before (g.W.Sink.held c.args.out.now) (g.W.Sink.held c.push.new.self) (g.W.Sink.held c.write_game-2.new.out) c.write_game-2.result (some_games games c.args.count many c.if-count-eq0.false) grows c.in_ok-push.ensures.bytes c.write_game-2.ensures.text
