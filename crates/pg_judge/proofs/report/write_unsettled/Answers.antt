use Rattle.pg_judge.proofs.Common.{◌≡◌, ◌++◌, List, ℕ, codes, rules, Appends, AddsSome, line_text, on_ok, IsBeside, known_text}
use Rattle.pg_judge.proofs.RowLemmas.{beside_one}
use Rattle.pg_judge.proofs.report.write_unsettled.Goals as goal

pub returns : goal.returns
returns g c =
    let d = c.args.entry.now.problem.diagram in
    let n = c.args.entry.now.problem.length in
    let author = c.args.entry.now.games in
    let line = codes "not settled: " ++ line_text (known_text c.args.known.now) in
    record {
      text =
          on_ok c.write_open.result (Appends (g.W.Sink.held c.write_asked.new.out) (g.W.Sink.held c.write_open.new.out) line) (AddsSome (IsBeside d n author (λ (last : List ℕ). last ≡ line)) (g.W.Sink.held c.args.out.now) (g.W.Sink.held c.write_open.new.out))
          (beside_one d n author line (g.W.Sink.held c.args.out.now) (g.W.Sink.held c.write_asked.new.out) (g.W.Sink.held c.write_open.new.out) c.in_ok-write_asked.ensures.text)
          c.write_open.ensures.text;
      runs = search rules;
      fault = search rules;
    }
