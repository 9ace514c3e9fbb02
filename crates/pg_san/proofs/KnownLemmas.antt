-- Readings that are kept are true, and give what reading gives.
use Rattle.pg_san.proofs.Common.{◌≡◌, ℕ, ◌<◌, ◌≤◌, List, ◌++◌, length, take, get_or, set, Ok, refl, sym, subst, ◌∙◌, arith, All, take_at, get_or_default, All-set, State, Move, Legal, IsReading, IsKnown, IsStepRead}
use Rattle.pg_san.specs.declared.known.Known.{Known}

pub says_nothing : (k : Known) → 8 < k.length → IsKnown k
unfolding IsKnown
says_nothing k long short = absurd (omega arith)

pub kept : (p q : State) (text rest : List ℕ) (m : Move) → IsReading p text (Ok m) → Legal p m q → IsKnown (record { position = p; next = q; text = text ++ rest; length = length text; m = m })
unfolding IsKnown
kept p q text rest m reading legal short = (subst (λ (t : List ℕ). IsReading p t (Ok m)) (sym (take_at text rest (length text) refl)) reading, legal)

told : (k : Known) (p : State) (text : List ℕ) → IsKnown k → (k.length ≤ 8) × (take k.length k.text ≡ text) × (k.position ≡ p) → IsStepRead p text k.next (Ok k.m)
unfolding IsKnown
told k p text h (short, same, here) =
    let both = h short in (
      subst (λ (x : State). IsReading x text (Ok k.m)) here (subst (λ (t : List ℕ). IsReading k.position t (Ok k.m)) same both.0),
      subst (λ (x : State). Legal x k.m k.next) here both.1,
    )

-- two reads of one place
pub recalled : (ks : List Known) (i : ℕ) (c d : Known) (p : State) (text : List ℕ) → All IsKnown ks → i < length ks → c ≡ get_or ks i c → d ≡ get_or ks i d → (c.length ≤ 8) × (take c.length c.text ≡ text) × (c.position ≡ p) → IsStepRead p text d.next (Ok d.m)
recalled ks i c d p text all low first second h =
    subst (λ (x : Known). IsStepRead p text x.next (Ok x.m)) (first ∙ get_or_default ks i c d low ∙ sym second) (told c p text (subst IsKnown (sym first) (all i c low)) h)

pub kept_beside : (ks : List Known) (i j : ℕ) (c : Known) → All IsKnown ks → i < length ks → c ≡ get_or ks i c → All IsKnown (set ks j c)
kept_beside ks i j c all low at = All-set IsKnown ks j c (subst IsKnown (sym at) (all i c low)) all
