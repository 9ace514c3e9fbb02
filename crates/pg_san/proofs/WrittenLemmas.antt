-- Texts that are kept are true, and are what writing gives.
use Rattle.pg_san.proofs.Common.{◌≡◌, ℕ, ◌<◌, true, false, List, length, get_or, set, sym, subst, ◌∙◌, All, get_or_default, All-set, State, Move, Legal, IsSan, IsWritten}
use Rattle.pg_san.specs.declared.written.Written.{Written}

pub untold : (w : Written) → w.told ≡ false → IsWritten w
unfolding IsWritten
untold w f t = let z : true ≡ false = sym t ∙ f in absurd cc

pub written_so : (w : Written) → Legal w.position w.m w.next → IsSan w.position w.m w.text.bytes → IsWritten w
unfolding IsWritten
written_so w legal is t = (legal, is)

told : (w : Written) (p : State) (m : Move) → IsWritten w → (w.told ≡ true) × (w.m ≡ m) × (w.position ≡ p) → Legal p m w.next × IsSan p m w.text.bytes
unfolding IsWritten
told w p m h (yes', same, here) =
    let both = h yes' in (
      subst (λ (x : State). Legal x m w.next) here (subst (λ (x : Move). Legal w.position x w.next) same both.0),
      subst (λ (x : State). IsSan x m w.text.bytes) here (subst (λ (x : Move). IsSan w.position x w.text.bytes) same both.1),
    )

-- two reads of one place
pub recalled : (ws : List Written) (i : ℕ) (c d : Written) (p : State) (m : Move) → All IsWritten ws → i < length ws → c ≡ get_or ws i c → d ≡ get_or ws i d → (c.told ≡ true) × (c.m ≡ m) × (c.position ≡ p) → Legal p m d.next × IsSan p m d.text.bytes
recalled ws i c d p m all low first second h =
    subst (λ (x : Written). Legal p m x.next × IsSan p m x.text.bytes) (first ∙ get_or_default ws i c d low ∙ sym second) (told c p m (subst IsWritten (sym first) (all i c low)) h)

pub kept_beside : (ws : List Written) (i j : ℕ) (c : Written) → All IsWritten ws → i < length ws → c ≡ get_or ws i c → All IsWritten (set ws j c)
kept_beside ws i j c all low at = All-set IsWritten ws j c (subst IsWritten (sym at) (all i c low)) all
