use Rattle.pg_cli.proofs.Common.{◌≡◌, ◌∷◌, [], ap, refl, sym, subst, ◌∙◌, ℕ, Appends-nil, lines, lines_left}
use Rattle.pg_cli.proofs.JudgeLemmas.{IsFar, all_judged, all_sound, cut_off, one_more}
use Rattle.pg_cli.proofs.WrittenLemmas.{held_by}
use Rattle.pg_cli.proofs.judging.judge_all.Goals as goal

pub loop-rest-init : goal.loop-rest-init
loop-rest-init g c = record { far = ([], refl, ([], (refl, refl), Appends-nil (held_by g.W.Sink.held c.args.out.now))); handed = λ h. h }

pub loop-rest-preserved : goal.loop-rest-preserved
loop-rest-preserved g c =
    let cut : lines_left c.loop-rest.rest ≡ c.next_line.result.0.now ∷ lines_left c.next_line.result.1 = ap lines_left c.in-Some.is ∙ c.next_line.ensures.cut in
    record {
      far = subst (λ (n : ℕ). IsFar (lines c.args.text.now) (lines_left c.next_line.result.1) n (held_by g.W.Sink.held c.args.out.now) (held_by g.W.Sink.held c.judge_line.new.out)) (sym c.max-worst.ensures)
          (one_more (lines c.args.text.now) (lines_left c.loop-rest.rest) c.next_line.result.0.now (lines_left c.next_line.result.1) c.loop-rest.worst c.in-Ok.status
          (held_by g.W.Sink.held c.args.out.now) (held_by g.W.Sink.held c.loop-rest.out) (held_by g.W.Sink.held c.judge_line.new.out) cut c.loop-rest.invariant.far c.in-Ok.ensures.row);
      handed = λ h. c.in-Ok.ensures.handed (c.loop-rest.invariant.handed h);
    }

pub returns-clause-rows : goal.returns-clause-rows
returns-clause-rows g c =
    all_judged (lines c.args.text.now) (lines_left c.loop-rest.rest) c.loop-rest.worst (held_by g.W.Sink.held c.args.out.now) (held_by g.W.Sink.held c.loop-rest.out) (ap lines_left c.in_default.is) c.loop-rest.invariant.far

pub returns-clause-headline : goal.returns-clause-headline
returns-clause-headline g c = λ zero.
    let all = all_judged (lines c.args.text.now) (lines_left c.loop-rest.rest) c.loop-rest.worst (held_by g.W.Sink.held c.args.out.now) (held_by g.W.Sink.held c.loop-rest.out) (ap lines_left c.in_default.is) c.loop-rest.invariant.far in
    all_sound (lines c.args.text.now) c.loop-rest.worst all.0 zero all.1

pub returns-in-Err-clause-err : goal.returns-in-Err-clause-err
returns-in-Err-clause-err g c =
    cut_off g.W.Sink.held c.args.text.now (lines_left c.loop-rest.rest) c.loop-rest.worst c.args.out.now c.loop-rest.out c.judge_line.new.out _ c.in-Err.refusal c.loop-rest.invariant.far c.in-Err.ensures.err c.in-Err.ensures.unwritten
