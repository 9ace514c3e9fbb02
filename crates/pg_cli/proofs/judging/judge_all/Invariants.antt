use Rattle.pg_cli.proofs.Common.{◌≡◌, ◌++◌, List, ℕ, AddsSome, lines, lines_left, length_left, IsHandedOn, AreJudged}
use Rattle.pg_cli.proofs.WrittenLemmas.{held_by}
use Rattle.pg_cli.proofs.judging.judge_all.Given as goal

-- the lines so far are judged, their rows stand there, and those that are left come behind them
abbrev pub invariant-loop-rest : goal.invariant-loop-rest
invariant-loop-rest g l = record {
  far : (done : List (List ℕ)) × (lines l.fn.text ≡ done ++ lines_left l.rest)
      × AddsSome (AreJudged done l.worst) (held_by g.W.Sink.held l.fn.out) (held_by g.W.Sink.held l.out);
  handed : IsHandedOn l.fn.out → IsHandedOn l.out;
}

abbrev pub decreases-loop-rest : goal.decreases-loop-rest
decreases-loop-rest g l = length_left l.rest
