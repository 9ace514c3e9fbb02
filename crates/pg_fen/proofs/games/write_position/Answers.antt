use Rattle.pg_fen.proofs.Common.{refl, ◌∙◌, subst, position_text, IsGameRead}
use Rattle.pg_fen.proofs.GameLemmas.{game_again, game_alone, game_back}
use Rattle.pg_fen.proofs.games.write_position.Goals as goal

pub returns-clause-text : goal.returns-clause-text
unfolding position_text
returns-clause-text c = rw (c.put_details.ensures, c.put_placement.ensures.text, c.new-text.ensures, c.board.ensures.value, c.details_in.ensures.value) refl

pub returns-clause-read_again : goal.returns-clause-read_again
returns-clause-read_again c = rw (returns-clause-text c) (game_again c.args.game.now c.board.ensures.position c.details_in.ensures.half c.details_in.ensures.full)

pub returns-clause-read_back : goal.returns-clause-read_back
returns-clause-read_back c = λ answer h. game_back c.args.game.now c.board.ensures.position answer (subst (λ g. IsGameRead g answer) (returns-clause-read_again c) h)

pub returns-clause-alone : goal.returns-clause-alone
returns-clause-alone c = λ other pos half full e. game_alone other c.args.game.now pos half full c.board.ensures.position c.details_in.ensures.half c.details_in.ensures.full (e ∙ returns-clause-text c)
