use Rattle.std.proofs.Common.{[], ◌∷◌, ◌++◌, length-append, subst, arith}
use Rattle.std.proofs.KnownBytes.{Consumes-trans}
use Rattle.std.proofs.lemmas.List.{flat_map_more}
use Rattle.std.specs.Io.KnownBytes.{Consumes}
use Rattle.pg_certificate.specs.declared.record.Bare.{Bare}
use Rattle.pg_certificate.specs.Spelling.{record_of, spelling, longest_record}
use Rattle.bench_checks.proofs.RunLemmas.{one_longer, within_more, pulls_refused}
use Rattle.bench_checks.proofs.records.count_expansions.Goals as goal
use Rattle.bench_checks.proofs.records.count_expansions.Goals.{in-Expand, in_default}

pub returns-in_err-next_bare-clause-pulls : goal.returns-in_err-next_bare-clause-pulls
returns-in_err-next_bare-clause-pulls g c =
    let w = c.loop-read.invariant.taken in
    pulls_refused Bare _ _ _ _ _ longest_record _ c.in_err-next_bare.field-0.0 c.from_residual.result c.from_residual.ensures.1 w.2
    (omega (arith, w.1, w.3, c.loop-read-test.true)) c.in_err-next_bare.ensures.pulls

pub returns-in_err-end-clause-pulls : goal.returns-in_err-end-clause-pulls
returns-in_err-end-clause-pulls g c =
    let w = c.loop-read.invariant.taken in
    pulls_refused (Unit {0}) _ _ _ _ _ 0 _ c.in_err-end.field-0.0 c.from_residual-in_err-end.result c.from_residual-in_err-end.ensures.1 w.2
    (omega (arith, w.1, w.3, c.loop-read.auto.read-end)) c.in_err-end.ensures.pulls

pub returns-clause-pulls : goal.returns-clause-pulls
returns-clause-pulls g c =
    let w = c.loop-read.invariant.taken in
    within_more _ _ _ _ 0 _ w.2 (omega (arith, w.1, w.3, c.loop-read.auto.read-end)) c.in_ok-end.ensures.pulls

pub loop-read-preserved : goal.loop-read-preserved
loop-read-preserved g c =
    let w = c.loop-read.invariant.taken in
    let x = record_of c.next_bare.new.prices c.in_ok-next_bare.field-0 in
    let read = Consumes-trans _ _ _ _ _ w.2 c.in_ok-next_bare.ensures.found in
    record {
      counted = elim c.match-branch-2.branch [
        | in-Expand v ↦ omega (arith, v.expansions-is, c.loop-read.invariant.counted)
        | in_default v ↦ omega (arith, v.expansions-is, c.loop-read.invariant.counted)
      ];
      runs = c.in_ok-next_bare.ensures.call.refuses.1;
      taken = (w.0 ++ x ∷ [], omega (arith, w.1, length-append w.0 (x ∷ [])), subst (Consumes _ _) (flat_map_more spelling [] w.0 x) read, one_longer w.0 x c.loop-read.read w.3 (c.no_spelling_is_longer.ensures.longest x c.in_ok-next_bare.ensures.spelled.fits));
    }
