-- What is refused below, handed on. Leads to the contract of `page`.
use Rattle.pg_page.proofs.Common.{ℕ, Placement, Terms, Failures, HasAnswer, IsPageFault, IsShowingFault}
use Rattle.pg_page.specs.declared.fault.PageFault.{PageFault}
use Rattle.pg_page.specs.declared.fault.PageFault.TheVariants.{Answer, Memory, Write}

-- the page of a right certificate is not written to its end
pub unshown : (t any : Terms) (d : Placement) (n : ℕ) (failed : Failures) (e : PageFault) → HasAnswer t d n → IsShowingFault failed.sink e → IsPageFault t any d n failed e
unshown t any d n failed (Answer f) a h = absurd h
unshown t any d n failed Memory a h = a
unshown t any d n failed Write a h = (a, h)
