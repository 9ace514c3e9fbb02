-- Games that are read are legal from the initial array.
use Rattle.pg_pgn.proofs.Common.{◌≡◌, ℕ, ◌<◌, inl, inr, Bool, true, false, List, [], ◌∷◌, ◌++◌, length, refl, sym, ap, subst, ◌∙◌, arith, All, Ok, Err, OnOk, map, get_or, ltb, if◌then◌else◌, ◌==◌, ◌||◌, nat_lt, length-map, ltb-true, State, Move, array_state, IsGame, Legal, IsFromArray, IsReading, Letters, Sign, Nothing, Heads, Fen, SetUp, Opening, Closing, Moves, Reader, at_game, at_head, ended, head, moved, sign_of, said, Goes, Lead, IsRead, all_games, AreLegal}
use Rattle.std.specs.Prelude.{Result as Outcome}
use Rattle.std.proofs.lemmas.List.Elements.{All-push}
use Rattle.std.proofs.Math.ListN.{get_or-map}
use Rattle.pg_pgn.specs.declared.signs.Sign.TheVariants.{Result}

pub none_legal : AreLegal (at_game [] false)
none_legal = record { games = λ k d low. absurd (omega (arith, low)); moves = refl }

ended_legal : (r : Reader) → AreLegal r → All IsFromArray (ended r)
unfolding IsFromArray
ended_legal r l = All-push IsFromArray r.games r.moves l.games (r.here, l.moves)

at_game_legal : (games : List (List Move)) (headed : Bool) → All IsFromArray games → AreLegal (at_game games headed)
at_game_legal games headed all = record { games = all; moves = refl }

game_more : (p q r : State) (ms : List Move) (m : Move) → IsGame p ms q → Legal q m r → IsGame p (ms ++ m ∷ []) r
game_more p q r [] m game legal = (r, subst (λ (x : State). Legal x m r) (sym game) legal, refl)
game_more p q r (x ∷ xs) m game legal = (game.0, game.1, game_more game.0 q r xs m game.2 legal)

head_by : (none : Bool) (r : Reader) → AreLegal r → AreLegal (if none then at_head r else at_game (ended r) true)
head_by true r l = record { games = l.games; moves = l.moves }
head_by false r l = at_game_legal (ended r) true (ended_legal r l)

head_legal : (r : Reader) → AreLegal r → AreLegal (head r)
head_legal r l = head_by (length r.moves == 0) r l

all_by : (some : Bool) (r : Reader) → AreLegal r → All IsFromArray (if some then ended r else r.games)
all_by true r l = ended_legal r l
all_by false r l = l.games

pub all_legal : (r : Reader) → AreLegal r → All IsFromArray (all_games r)
all_legal r l = all_by (r.headed || nat_lt 0 (length r.moves)) r l

pub goes_legal : (sign : Sign) (r s : Reader) (text : List ℕ) → AreLegal r → Goes sign r text s → AreLegal s
unfolding Goes
goes_legal Nothing r s text l goes = subst AreLegal (sym goes) l
goes_legal Opening r s text l goes = subst AreLegal (sym goes) (record { games = l.games; moves = l.moves })
goes_legal Closing r s text l goes = subst AreLegal (sym goes.1) (record { games = l.games; moves = l.moves })
goes_legal Heads r s text l goes = subst AreLegal (sym goes.1) (head_legal r l)
goes_legal Fen r s text l goes = absurd goes
goes_legal SetUp r s text l goes = absurd goes
goes_legal Result r s text l (inl (deep, e)) = subst AreLegal (sym e) l
goes_legal Result r s text l (inr (depth, e)) = subst AreLegal (sym e) (at_game_legal (ended r) false (ended_legal r l))
goes_legal Moves r s text l (inl (deep, e)) = subst AreLegal (sym e) l
goes_legal Moves r s text l (inr (depth, (m, next, reads, legal, e))) = subst AreLegal (sym e) (record { games = l.games; moves = game_more array_state r.here next r.moves m l.moves legal })

leads_legal : (letters : Letters) (r : Reader) (tokens : List (List ℕ)) (s : Reader) → AreLegal r → Lead letters r tokens s → AreLegal s
unfolding Lead
leads_legal letters r [] s l e = subst AreLegal (sym e) l
leads_legal letters r (t ∷ ts) s l leads = leads_legal letters leads.0 ts s (goes_legal (sign_of letters t) r leads.0 (said letters t) l leads.1) leads.2

pub read_legal : (letters : Letters) (text : List ℕ) (r : Reader) (rest : List ℕ) → IsRead letters text r rest → AreLegal r
read_legal letters text r rest read = leads_legal letters (at_game [] false) read.tokens r none_legal read.leads

pub games_legal : (games : List (List Move)) (r : Reader) → games ≡ all_games r → AreLegal r → All IsFromArray games
games_legal games r e l = subst (λ (gs : List (List Move)). All IsFromArray gs) (sym e) (all_legal r l)

-- one of the games
pub legal_at : {V : Type 0} (f : V → List Move) (xs ys : List V) (i : ℕ) (x : V) (g : List Move) → All IsFromArray (map f xs) → ys ≡ xs → true ≡ ltb i (length ys) → x ≡ get_or ys i x → g ≡ f x → IsFromArray g
legal_at f xs ys i x g all same low is e =
    let n : i < length xs = ltb-true i (length xs) (sym (low ∙ ap (λ (zs : List _). ltb i (length zs)) same)) in
    let l : i < length (map f xs) = subst (λ (k : ℕ). i < k) (sym (length-map xs f)) n in
    let at : get_or (map f xs) i (f x) ≡ g = get_or-map f xs i x ∙ ap f (ap (λ (zs : List _). get_or zs i x) (sym same) ∙ sym is) ∙ sym e in
    subst IsFromArray at (all i (f x) l)

-- a move that was read, and was kept
pub move_kept : {A E : Type 0} (k : Outcome A E) (r s : Reader) (m : Move) (next : State) (text : List ℕ) → r.depth ≡ 0 → IsReading r.here text (Ok m) → Legal r.here m next → OnOk k (s ≡ moved r m next) → OnOk k (Goes Moves r text s)
unfolding Goes
move_kept (Ok a) r s m next text depth reads legal e = inr (depth, (m, next, reads, legal, e))
move_kept (Err e) r s m next text depth reads legal h = h
