use Rattle.pg_cooks.proofs.Common.{◌++◌, length, codes, decimal, rules, AddsSome, line_text, on_ok, IsEndText, IsShorterText, unsound_text}
use Rattle.pg_cooks.proofs.TextLemmas.{found_grows}
use Rattle.pg_cooks.proofs.writing.write_shorter.Goals as goal

pub returns : goal.returns
returns g c =
    let what = codes "a game of " ++ (decimal (length c.args.game.now) ++ line_text (codes " plies")) in
    record {
      text =
          on_ok c.write_found.result (AddsSome (IsEndText unsound_text c.args.game.now) (g.W.Sink.held c.write_numbered.new.out) (g.W.Sink.held c.write_found.new.out)) (AddsSome (IsShorterText c.args.game.now) (g.W.Sink.held c.args.out.now) (g.W.Sink.held c.write_found.new.out))
          (found_grows what unsound_text c.args.game.now (g.W.Sink.held c.args.out.now) (g.W.Sink.held c.write_numbered.new.out) (g.W.Sink.held c.write_found.new.out) c.in_ok-write_numbered.ensures.text)
          c.write_found.ensures.text;
      runs = search rules;
      fault = search rules;
    }
