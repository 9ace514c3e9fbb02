-- Which names are those of files of games in PGN, and what a name gives as a list of problems. Leads to the contract of `judge`.
use Rattle.pg_cli.proofs.Common.{◌≡◌, ◌-◌, ◌∙◌, ℕ, Bool, List, length, subst, sym, take, ◌↔◌, Result, Ok, Err, IfOk, IfErr, IsTrue, codes, Text, GivesList, IsPgnName, IsReadAs, IsListRefused, IsReadFault, Refusal, Memory, Pgn, Read}
use Rattle.std.specs.List.{ends_with}
use Rattle.std.proofs.Math.Dec.{eqb}
use Rattle.std.proofs.lemmas.Bool.Decides.{Decides-eqb}
use Rattle.std.proofs.lemmas.Slice.Eq.{ends_is}

-- whether bytes end in `.pgn` says whether the name is that of a file of games in PGN
pub pgn_name : (name bytes : List ℕ) (r : Bool) → bytes ≡ name → r ≡ ends_with eqb bytes (codes ".pgn") → IsTrue r ↔ IsPgnName name
pgn_name name bytes r same e =
    let told = ends_is Decides-eqb bytes (codes ".pgn") r e in
    (λ t. (take (length bytes - 4) bytes, sym same ∙ told.0 t), λ (front, is). told.1 front (same ∙ is))

-- what is read of the bytes that a text gives, the word that it is gives
pub gives_list : {A E : Type 0} (r : Result A E) (items : A → List ℕ) (Gives : Text → List ℕ → Type 0) (name word given : List ℕ) → name ≡ word → Gives name given
    → IfOk r (λ t. IsReadAs name given (items t)) → IfOk r (λ t. GivesList Gives word (items t))
gives_list (Ok t) items Gives name word given e h read =
    (given, subst (λ (n : List ℕ). Gives n given) e h, subst (λ (n : List ℕ). IsReadAs n given (items t)) e read)
gives_list (Err x) items Gives name word given e h read = tt

-- and what is wrong with them, is wrong with what the word gives
pub refused_there : {A : Type 0} (r : Result A Refusal) (Gives : Text → List ℕ → Type 0) (name word given : List ℕ) → name ≡ word → Gives name given
    → IfErr r (IsReadFault name given) → IfErr r (IsListRefused Gives word)
refused_there (Ok t) Gives name word given e h wrong = tt
refused_there (Err (Pgn fault)) Gives name word given e h wrong =
    (given, subst (λ (n : List ℕ). Gives n given) e h, subst (λ (n : List ℕ). IsReadFault n given (Pgn fault)) e wrong)
refused_there (Err Read) Gives name word given e h wrong = tt
refused_there (Err Memory) Gives name word given e h wrong = tt
refused_there (Err refusal) Gives name word given e h wrong = absurd wrong
