-- What the words of `pg show` spell, and why a diagram that was read is not shown.
use Rattle.pg_cli.proofs.Common.{◌≡◌, ◌⊎◌, inl, inr, subst, sym, ℕ, Bool, true, Ok, Option, Some, None, IfSome, Text, length_of, IsUnshown, IsAsked, Show}
use Rattle.pg_report.specs.declared.fault.ShowFault.{ShowFault}
use Rattle.pg_report.specs.declared.fault.ShowFault.TheVariants.{Memory, Write}

-- the length that is asked is one that the word spells
pub length_given : (word : Option Text) (asked : Option ℕ) → IsAsked word asked → IfSome word (λ text. (n : ℕ) × (length_of text ≡ Ok n))
length_given None None h = tt
length_given None (Some n) h = tt
length_given (Some text) None h = absurd h
length_given (Some text) (Some n) h = (n, h)

pub unshown : {P : Type 0} (failed : Bool) (fault : ShowFault) → ((fault ≡ Memory) × P) ⊎ ((fault ≡ Write) × (failed ≡ true))
    → IsUnshown failed (Show fault)
unshown failed fault (inl h) = subst (λ (x : ShowFault). IsUnshown failed (Show x)) (sym h.0) tt
unshown failed fault (inr h) = subst (λ (x : ShowFault). IsUnshown failed (Show x)) (sym h.0) h.1
