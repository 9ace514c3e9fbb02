use Rattle.pg_pgn.proofs.Common.{ap, rules, ◌∙◌, AddsSome, placement_text, on_ok, IsMovetext, AddsLine, IsProblem}
use Rattle.pg_pgn.proofs.ProblemLemmas.{problem_line}
use Rattle.pg_pgn.proofs.problems.write_problem.Goals as goal

pub returns : goal.returns
returns g c = record {
  text =
      on_ok c.write_game.result (AddsLine (IsMovetext c.args.game.now) (g.W.Sink.held c.write_field-3.new.out) (g.W.Sink.held c.write_game.new.out)) (AddsSome (IsProblem c.args.game.now) (g.W.Sink.held c.args.out.now) (g.W.Sink.held c.write_game.new.out))
      (problem_line c.args.game.now c.args.name.now c.as_str.result.now c.as_str-2.result.now c.end_of-end.result.last c.end_of-end.result.still (g.W.Sink.held c.args.out.now) (g.W.Sink.held c.write_field.new.out) (g.W.Sink.held c.write_field-2.new.out) (g.W.Sink.held c.write_field-3.new.out) (g.W.Sink.held c.write_game.new.out) c.requires.name c.end_of-end.ensures (c.as_str.ensures.value ∙ c.write.ensures.text ∙ ap placement_text c.of.ensures) (c.as_str-2.ensures.value ∙ c.length_of.ensures) c.in_ok-write_field.ensures.text c.in_ok-write_field-2.ensures.text c.in_ok-write_field-3.ensures.text)
      c.write_game.ensures.text;
  runs = search rules;
  fault = search rules;
}
