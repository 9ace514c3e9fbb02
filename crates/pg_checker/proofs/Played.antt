-- The open nodes lead from one to the next. Leads to the contracts of `enter`, `turn` and `run`.
use Rattle.pg_checker.proofs.Common.{◌≡◌, ℕ, suc, ◌+◌, Bool, List, [], ◌∷◌, ◌++◌, length, reverse, Option, Some, sym, ◌∙◌, ap, subst, arith, reverse-append, length-append, ArrayVec, State, Move, array_state, Legal, IsGame, ArePlayed, Closes, LeadTo, OnTop, Plays, path, played, TableState, Stack}
use Rattle.pg_checker.specs.declared.machine.Frame.{Frame}
use Rattle.pg_checker.proofs.FrameViews.{path_none, path_more}
use Rattle.pg_checker.proofs.GameSteps.{game_more}

-- no node is open
pub none_played : (fs : List Frame) → fs ≡ [] → ArePlayed (reverse fs)
unfolding ArePlayed
none_played fs e = subst (λ (v : List Frame). ArePlayed (reverse v)) (sym e) tt

pub none_leads : (fs : List Frame) (p : State) → fs ≡ [] → p ≡ array_state → LeadTo (reverse fs) p
none_leads fs p e is = subst (λ (v : List Frame). LeadTo (reverse v) p) (sym e) (record { game = subst (λ (v : List Move). IsGame array_state v p) (sym path_none) (sym is); long = ap length path_none })

-- one node more is open
pub more_played : (fs : List Frame) (f : Frame) → LeadTo (reverse fs) f.moves.position → ArePlayed (reverse fs) → ArePlayed (reverse (fs ++ (f ∷ [])))
unfolding ArePlayed
more_played fs f h k = subst ArePlayed (sym (reverse-append fs (f ∷ []))) (h, k)

pub less_played : (fs : List Frame) (f : Frame) → ArePlayed (reverse (fs ++ (f ∷ []))) → LeadTo (reverse fs) f.moves.position × ArePlayed (reverse fs)
unfolding ArePlayed
less_played fs f h = subst ArePlayed (reverse-append fs (f ∷ [])) h

pub opened_played : (old new : List Frame) (f : Frame) → new ≡ old ++ (f ∷ []) → LeadTo (reverse old) f.moves.position → ArePlayed (reverse old) → ArePlayed (reverse new)
opened_played old new f is h k = subst (λ (v : List Frame). ArePlayed (reverse v)) (sym is) (more_played old f h k)

pub popped_played : (items rest : List Frame) (f : Frame) → items ≡ rest ++ (f ∷ []) → ArePlayed (reverse items) → LeadTo (reverse rest) f.moves.position × ArePlayed (reverse rest)
popped_played items rest f is h = less_played rest f (subst (λ (v : List Frame). ArePlayed (reverse v)) is h)

-- only the move of the topmost node is another one
pub moved_played : (items rest new : List Frame) (f g : Frame) → items ≡ rest ++ (f ∷ []) → new ≡ rest ++ (g ∷ []) → g.moves.position ≡ f.moves.position → ArePlayed (reverse items) → ArePlayed (reverse new)
moved_played items rest new f g was is same h =
    let k = popped_played items rest f was h in
    opened_played rest new g is (subst (λ (p : State). LeadTo (reverse rest) p) (sym same) k.0) k.1

-- a legal move from the topmost node leads on
leads_on : (fs : List Frame) (f : Frame) (m : Move) (q : State) → LeadTo (reverse fs) f.moves.position → f.moves.last ≡ Some m → Legal f.moves.position m q → LeadTo (reverse (fs ++ (f ∷ []))) q
leads_on fs f m q h last legal =
    let all : path (reverse (fs ++ (f ∷ []))) ≡ path (reverse fs) ++ m ∷ [] = path_more fs f ∙ ap (λ (o : Option Move). path (reverse fs) ++ played o) last in
    record {
      game = subst (λ (v : List Move). IsGame array_state v q) (sym all) (game_more array_state (path (reverse fs)) m f.moves.position q h.game legal);
      long = (let one : length (path (reverse (fs ++ (f ∷ [])))) ≡ length (path (reverse fs)) + 1 = ap length all ∙ length-append (path (reverse fs)) (m ∷ []) in let two : length (reverse (fs ++ (f ∷ []))) ≡ suc (length (reverse fs)) = ap length (reverse-append fs (f ∷ [])) in let three : length (path (reverse fs)) ≡ length (reverse fs) = h.long in omega arith);
    }

pub play_leads : {found : Bool} {p : State} (plies : ℕ) (old new : List Frame) → OnTop (Plays found p plies) old new → ArePlayed (reverse old) → LeadTo (reverse new) p
play_leads {found} {p} plies old new w h =
    let k = popped_played old w.below w.before w.was h in
    let a = w.happened.advanced in
    let there : w.after.moves.position ≡ w.before.moves.position = ap (λ (f : Frame). f.moves.position) a in
    subst (λ (v : List Frame). LeadTo (reverse v) p) (sym w.is)
    (leads_on w.below w.after w.happened.move p (subst (λ (q : State). LeadTo (reverse w.below) q) (sym there) k.0) (ap (λ (f : Frame). f.moves.last) a) (subst (λ (q : State). Legal q w.happened.move p) (sym there) w.happened.leads))

pub play_played : {found : Bool} {p : State} (plies : ℕ) (old new : List Frame) → OnTop (Plays found p plies) old new → ArePlayed (reverse old) → ArePlayed (reverse new)
play_played plies old new w h = moved_played old w.below new w.before w.after w.was w.is (ap (λ (f : Frame). f.moves.position) w.happened.advanced) h

-- the topmost node closes
pub closes_played : (old new : Stack) (before after : TableState) → Closes old new before after → ArePlayed (reverse old.frames.items) → ArePlayed (reverse new.frames.items)
closes_played old new before after cl h = subst (λ (v : ArrayVec Frame). ArePlayed (reverse v.items)) (sym cl.frames) (popped_played old.frames.items cl.below cl.top cl.was h).1
