use Rattle.pg_captures.proofs.Common.{◌≤◌, ap, ◌∙◌, subst, sym, ℕ, count_of}
use Rattle.pg_board.specs.lemmas.Tallies.{tally-le}
use Rattle.pg_captures.proofs.TallyLemmas.{pawns_counted}
use Rattle.pg_captures.proofs.counts.pawns.Goals as goal

pub returns-clause-value : goal.returns-clause-value
returns-clause-value c = c.count.ensures ∙ ap (count_of c.args.board.now) c.new.ensures ∙ pawns_counted c.args.board.now c.args.color

pub returns-clause-few : goal.returns-clause-few
returns-clause-few c = let P : ℕ → Type 0 = λ n. n ≤ 64 in subst P (sym c.count.ensures) (tally-le _ c.args.board.now)
