use Rattle.pg_cli.proofs.Common.{subst, List, ℕ, IsMovesFault, IsMovesText, SpellsPosition}
use Rattle.pg_cli.proofs.StatusLemmas.{on_ok, unwritten}
use Rattle.pg_cli.proofs.WrittenLemmas.{handed}
use Rattle.pg_cli.proofs.positions.moves_on.Goals as goal

pub returns-in-Ok : goal.returns-in-Ok
returns-in-Ok g c =
    let h = c.in-Ok.ensures.ok in
    let spells = subst (λ (x : List ℕ). SpellsPosition x h.0) c.text_of.ensures h.1 in
    record {
      ok = on_ok c.finished.result _ _ c.finished.ensures.handed (λ kept. (h.0, spells, handed g.W.Sink.held c.args.out.now c.run_moves.new.out c.finished.new.out (IsMovesText h.0) h.2 kept));
      zero = c.finished.ensures.ok;
      err = unwritten c.finished.result _ _ c.finished.ensures.err (λ failed. ((h.0, spells), failed));
    }

pub returns-in-Err-clause-err : goal.returns-in-Err-clause-err
returns-in-Err-clause-err g c = subst (λ (x : List ℕ). IsMovesFault x (g.W.Sink.has_failed c.run_moves.new.out.inner) c.in-Err.fault) c.text_of.ensures c.in-Err.ensures.err
