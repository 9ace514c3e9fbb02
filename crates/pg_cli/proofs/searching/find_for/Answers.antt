use Rattle.pg_cli.proofs.Common.{subst, sym, Result, IfErr, SearchFault, IsGivenUp, IsSearchRefusal, Refusal}
use Rattle.pg_searcher.specs.declared.tariffs.FoundTariffs.{FoundTariffs}
use Rattle.pg_cli.proofs.EndLemmas.{kept_so}
use Rattle.pg_cli.proofs.WordLemmas.{given_up}
use Rattle.pg_cli.proofs.searching.find_for.Goals as goal

pub returns : goal.returns
returns g c =
    let d = c.args.problem.now.diagram in
    let n = c.args.problem.now.length in
    let given = subst (λ (r : Result FoundTariffs SearchFault). IfErr r (λ fault. IsGivenUp n fault)) c.in-Err-found.is c.in-Ok-find_to.ensures.found in
    kept_so d n c.keep_met.result c.gave_up.result c.keep_met.ensures
    (subst (λ (r : Refusal). IsSearchRefusal d n r) (sym c.gave_up.ensures) (given_up d n c.in-Err-found.fault _ _ given c.in-Ok-find_to.ensures.met))
