use Rattle.pg_san.proofs.Common.{ℕ, Option, MatchOption, map, sym, subst, rules, Contains, game_cmp, IsPlace}
use Rattle.std.proofs.lemmas.Fn.{always_returns_same}
use Rattle.pg_san.proofs.PlaceLemmas.{searched}
use Rattle.pg_san.proofs.games.place.Goals as goal

pub returns : goal.returns
returns c =
    let found = c.binary_search_by.ensures.position (λ v. game_cmp v.items c.args.game.now) (always_returns_same _ _ _ (λ a r f k. search rules)) in
    subst (λ (o : Option ℕ). MatchOption o (Contains (map (λ v. v.items) c.args.games.now) c.args.game.now) (λ i. IsPlace (map (λ v. v.items) c.args.games.now) c.args.game.now i)) (sym c.err.ensures.value)
    (searched (λ v. v.items) c.args.games.now c.args.game.now c.binary_search_by.result c.requires c.binary_search_by.ensures.bound found)
