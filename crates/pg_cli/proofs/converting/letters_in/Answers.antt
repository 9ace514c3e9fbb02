use Rattle.pg_cli.proofs.Common.{ℕ, List, refl, subst, Option, None, Some, IfOk, IfErr, codes, found_of}
use Rattle.pg_pgn.specs.declared.letters.Letters.TheVariants.{English}
use Rattle.pg_cli.specs.Converting.{AreNamed, IsUnnamed}
use Rattle.pg_cli.proofs.WordLemmas.{word_or_none}
use Rattle.pg_cli.proofs.converting.letters_in.Goals as goal

pub returns-in-Some : goal.returns-in-Some
returns-in-Some c =
    let e = word_or_none (found_of c.args.words.now) (codes "letters") (Some c.in-Some.name.now) c.in-Some.ensures in
    record {
      ok = subst (λ (o : Option (List ℕ)). IfOk c.letters_named.result (AreNamed o)) e c.letters_named.ensures.ok;
      err = subst (λ (o : Option (List ℕ)). IfErr c.letters_named.result (IsUnnamed o)) e c.letters_named.ensures.err;
    }

pub returns-in-None-clause-ok : goal.returns-in-None-clause-ok
returns-in-None-clause-ok c =
    subst (λ (o : Option (List ℕ)). AreNamed o English) (word_or_none (found_of c.args.words.now) (codes "letters") None c.in-None.ensures) refl
