use Rattle.pg_texts.proofs.Common.{◌≡◌, refl, sym, ap, subst, Result, Ok, Err, IfOk, IfErr, IsPosition, SpellsPosition, IsRefusedAs}
use Rattle.pg_fen.specs.declared.fault.FenFault.{FenFault}
use Rattle.pg_fen.specs.declared.games.FenGame.{FenGame}
use Rattle.pg_fen.specs.declared.games.GameParts.{GameParts}
use Rattle.pg_fen.specs.Fields.{fields}
use Rattle.pg_fen.specs.PositionText.{game_parts, state_of, IsGameRead}
use Rattle.pg_texts.proofs.moves.game_of.Goals as goal

-- a game that is read is what the text says, and a position
read_says : (r : Result GameParts FenFault) (x : Result FenGame FenFault) → IsGameRead r x → IfOk x (λ game. (g : GameParts) × (r ≡ Ok g) × (game.position ≡ state_of g) × IsPosition game.position)
read_says (Err f) x h = let P : Result FenGame FenFault → Type 0 = λ y. IfOk y (λ game. (g : GameParts) × (Err f ≡ Ok g) × (game.position ≡ state_of g) × IsPosition game.position) in subst P (sym h) tt
read_says (Ok g) (Ok game) h =
    let e : game.position ≡ state_of g = ap (λ (y : FenGame). y.position) h.0 in
    (g, refl, e, subst IsPosition (sym e) h.1)
read_says (Ok g) (Err e) h = tt

pub returns-clause-ok : goal.returns-clause-ok
unfolding SpellsPosition
returns-clause-ok c = read_says (game_parts (fields c.args.text.now)) c.read_position.result c.read_position.ensures

refused : (r : Result GameParts FenFault) (x : Result FenGame FenFault) → IsGameRead r x → IfErr x (λ e. IsGameRead r (Err e))
refused r (Ok game) h = tt
refused r (Err e) h = h

pub returns-clause-err : goal.returns-clause-err
unfolding IsRefusedAs
returns-clause-err c = refused (game_parts (fields c.args.text.now)) c.read_position.result c.read_position.ensures
