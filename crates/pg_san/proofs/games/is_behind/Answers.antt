use Rattle.pg_san.proofs.Common.{◌≡◌, sym, subst, ◌∙◌, Less, game_cmp}
use Rattle.pg_san.proofs.PlaceLemmas.{behind_all}
use Rattle.pg_san.proofs.games.is_behind.Goals as goal

pub returns-in-Less : goal.returns-in-Less
returns-in-Less c = λ h. behind_all (λ v. v.items) c.args.games.now c.args.game.now c.in-Some.last.now c.requires (sym c.in-Some.ensures.value) (subst (λ x. game_cmp x c.args.game.now ≡ Less) c.as_slice.ensures.value (sym c.compare.ensures ∙ c.in-Less.is))
