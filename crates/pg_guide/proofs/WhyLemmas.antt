-- What is written, and what is refused below, handed on. Leads to the contract of `why`.
use Rattle.std.proofs.Common.{ℕ, List, ◌++◌, Option}
use Rattle.std.specs.Prelude.{codes}
use Rattle.std.proofs.KnownBytes.{Appends-trans}
use Rattle.std.specs.Io.KnownBytes.{Appends}
use Rattle.pg_board.specs.Placement.{Placement}
use Rattle.pg_checker.specs.Terms.{Terms}
use Rattle.pg_certificate.specs.Pushing.{Grows}
use Rattle.pg_guide.specs.declared.fault.WhyFault.{WhyFault}
use Rattle.pg_guide.specs.declared.fault.WhyFault.TheVariants.{Games, Moves, Answer, Memory, Write}
use Rattle.pg_guide.specs.Why.{AddsRight, Failures, HasAnswer, IsLineFault, IsOneLine, IsTellingFault, IsWhyFault}

pub right_last : (a b c : Option (List ℕ)) → Grows a b → Appends b c (codes "the certificate is right\n") → AddsRight a c
unfolding Grows AddsRight
right_last a b c (lines, p) q = (lines, Appends-trans a b c lines (codes "the certificate is right\n") p q)

-- the moves are refused
pub bad_line : (text : List ℕ) (t any : Terms) (d : Placement) (n : ℕ) (failed : Failures) (e : WhyFault) → IsLineFault text e → IsWhyFault text t any d n failed e
bad_line text t any d n failed (Games f) h = h
bad_line text t any d n failed Moves h = h
bad_line text t any d n failed (Answer f) h = absurd h
bad_line text t any d n failed Memory h = absurd h
bad_line text t any d n failed Write h = absurd h

-- what was met is not told
pub untold : (text : List ℕ) (t any : Terms) (d : Placement) (n : ℕ) (failed : Failures) (e : WhyFault) → IsOneLine text → HasAnswer t d n → IsTellingFault failed.sink e → IsWhyFault text t any d n failed e
untold text t any d n failed (Games f) l a h = absurd h
untold text t any d n failed Moves l a h = absurd h
untold text t any d n failed (Answer f) l a h = absurd h
untold text t any d n failed Memory l a h = (l, a)
untold text t any d n failed Write l a h = (l, a, h)
