use Rattle.pg_cli.proofs.Common.{subst, List, ℕ, Appends-kept, SpellsPosition}
use Rattle.pg_texts.specs.CountText.{IsCountRunFault}
use Rattle.pg_cli.proofs.StatusLemmas.{on_ok, unwritten}
use Rattle.pg_cli.proofs.positions.count_on.Goals as goal

pub returns-in-Ok : goal.returns-in-Ok
returns-in-Ok g c =
    let h = c.in-Ok.ensures.ok in
    let spells = subst (λ (x : List ℕ). SpellsPosition x h.0) c.text_of.ensures h.1 in
    record {
      ok = on_ok c.finished.result _ _ c.finished.ensures.handed (λ kept. (c.plies_of.result, c.plies_of.ensures, (h.0, spells, h.2, (h.3.0, h.3.1, Appends-kept _ _ _ _ h.3.2 kept))));
      zero = c.finished.ensures.ok;
      err = unwritten c.finished.result _ _ c.finished.ensures.err (λ failed. (c.plies_of.result, c.plies_of.ensures, ((h.0, spells), h.2, failed)));
    }

pub returns-in-Err-clause-err : goal.returns-in-Err-clause-err
returns-in-Err-clause-err g c = (c.plies_of.result, c.plies_of.ensures, subst (λ (x : List ℕ). IsCountRunFault x c.plies_of.result (g.W.Sink.has_failed c.run_count_watched.new.out.inner) c.in-Err.fault) c.text_of.ensures c.in-Err.ensures.err)
