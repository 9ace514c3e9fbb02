-- A list, or what is found beside it, of which the status is 1 shows that the problem is not sound.
use Rattle.pg_cli.proofs.Common.{◌≡◌, ℕ, List, [], ◌∷◌, Placement, Move, IsStanding, IsRefuted}
use Rattle.pg_checker.specs.Answer.{AreSolutions}
use Rattle.pg_cooks.proofs.CookLemmas.{not_sound}
use Rattle.pg_cooks.specs.Unsound.{IsUnsound}
use Rattle.pg_cooks.specs.declared.standing.Standing.{Standing}
use Rattle.pg_cooks.specs.declared.standing.Standing.TheVariants.{NotSound, AtLeastOne, NoneGiven}
use Rattle.pg_cooks.specs.declared.finding.CookAnswer.{CookAnswer}
use Rattle.pg_cooks.specs.declared.finding.CookAnswer.TheVariants.{Cook, Shorter, NotFound}
use Rattle.pg_cli.specs.Knowing.{answer_status, standing_status}

pub shown : (d : Placement) (n : ℕ) (list : List (List Move)) (s : Standing) → AreSolutions d n list → IsStanding list s
    → standing_status s ≡ 1 → IsUnsound d n
shown d n list NotSound a h e = not_sound d n list a h
shown d n list AtLeastOne a h e = absurd (let z : 0 ≡ 1 = e in cc)
shown d n list NoneGiven a h e = absurd (let z : 0 ≡ 1 = e in cc)

pub found : (d : Placement) (n : ℕ) (a : CookAnswer) → IsRefuted d n a → answer_status a ≡ 1 → IsUnsound d n
found d n (Cook game) h e = h
found d n (Shorter game) h e = λ (g : List Move). h (g ∷ [])
found d n (NotFound foreign nodes end NotSound) h e = h
found d n (NotFound foreign nodes end AtLeastOne) h e = absurd (let z : 0 ≡ 1 = e in cc)
found d n (NotFound foreign nodes end NoneGiven) h e = absurd (let z : 0 ≡ 1 = e in cc)
