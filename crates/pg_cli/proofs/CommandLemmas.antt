-- No two commands have one name, and what that says of a status.
use Rattle.pg_cli.proofs.Common.{◌≡◌, ◌∙◌, List, subst, ap, ◌↔◌, Option, Some, option_map, unwrap_or, Row, Text, subcommand_name_of, subcommand_rows_of, name_of, OfCommand, Command}
use Rattle.clap.specs.declared.parser.matches.ArgMatches.{ArgMatches}

the_one : (k command : Command) → Some k ≡ Some command → k ≡ command
the_one k command e = ap (λ (o : Option Command). unwrap_or o k) e

-- what is so of the command that was taken out is so of the one that the words name
pub named : (words : ArgMatches) (name : Text) (rows : List Row) (k : Command) (Is : Command → List Row → Type 0)
    → Some name ≡ subcommand_name_of words → Some rows ≡ option_map (λ p. p.1) (subcommand_rows_of words)
    → ((command : Command) → (Some k ≡ Some command) ↔ (name ≡ name_of command)) → Is k rows → OfCommand words Is
named words name rows k Is e f told h = λ n r is command same.
    let en : name ≡ n = ap (λ (o : Option Text). unwrap_or o name) (e ∙ is.0) in
    let er : rows ≡ r = ap (λ (o : Option (List Row)). unwrap_or o rows) (f ∙ is.1) in
    let ek : k ≡ command = the_one k command ((told command).1 (en ∙ same)) in
    subst (λ (y : List Row). Is command y) er (subst (λ (c : Command). Is c rows) ek h)
