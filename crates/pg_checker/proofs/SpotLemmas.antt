-- Where a node stands after a legal move. Leads to the contracts of `first_says` and `play_on`.
use Rattle.pg_checker.proofs.Common.{◌≡◌, ◌||◌, Bool, Option, Some, None, IfSome, refl, sym, ap, subst, ◌∙◌, State, Move, IsPosition, IsLegal, Legal, MovesLeft, IsNext, play_of, play_of_legal, play_of_is, Plays, played_from}
use Rattle.pg_checker.specs.declared.machine.Frame.{Frame}

-- the move leads there
pub leads_there : (p : State) (o : Option Move) (m : Move) → o ≡ Some m → IfSome o (λ x. IsLegal p x) → Legal p m (played_from p o)
leads_there p None m e h = absurd (cc)
leads_there p (Some x) m e h = let same : x ≡ m = cc in subst (λ (v : Move). Legal p v (play_of p x)) same (play_of_legal p x h)

-- where it leads is there
pub is_there : (p : State) (o : Option Move) (m : Move) (q : State) → o ≡ Some m → IsPosition p → Legal p m q → q ≡ played_from p o
is_there p o m q e valid legal = sym (play_of_is p m q valid legal) ∙ sym (ap (played_from p) e)

-- the next move of an open node is played
pub plays_on : (old : Frame) (found now : Bool) (moves : MovesLeft) (m : Move) (p : State) → IsNext old.moves.position old.moves.last m → moves ≡ record { position = old.moves.position; last = Some m } → now ≡ (old.fertile || found) → p ≡ old.moves.position → IsPosition p
    → Plays found (play_of p m) old.plies old (record old { moves = moves; fertile = now })
plays_on old found now moves m p next stepped kept here valid =
    let legal : IsLegal p m = subst (λ (q : State). IsLegal q m) (sym here) next.legal in
    record {
      move = m;
      next = next;
      position = subst (λ (q : State). IsPosition q) here valid;
      leads = subst (λ (q : State). Legal q m (play_of p m)) here (play_of_legal p m legal);
      below = refl;
      advanced = λ i. record old { moves = stepped i; fertile = kept i };
    }
