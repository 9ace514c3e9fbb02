use Rattle.pg_fen.proofs.text.+digits.Given as goal

abbrev pub decreases-digits : goal.decreases-digits
decreases-digits l = l.n
