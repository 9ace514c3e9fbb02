-- The spelling of a number that was read.
use Rattle.pg_certificate.proofs.Common.{◌≡◌, ℕ, zero, suc, ◌<◌, List, [], ◌∷◌, length, get_or, sym, subst, refl, ◌∙◌, arith, Option, w32, from_be_bytes, to_be_bytes, Consumes, be_bytes_4}

bytes_4 : (a b c d : ℕ) → a < 256 → b < 256 → c < 256 → d < 256 → (i : ℕ) → get_or (a ∷ b ∷ c ∷ d ∷ []) i 0 < 256
bytes_4 a b c d p q r s zero = p
bytes_4 a b c d p q r s (suc zero) = q
bytes_4 a b c d p q r s (suc (suc zero)) = r
bytes_4 a b c d p q r s (suc (suc (suc zero))) = s
bytes_4 a b c d p q r s (suc (suc (suc (suc i)))) = omega arith

four : (out : List ℕ) → length out ≡ 4 → out ≡ get_or out 0 0 ∷ get_or out 1 0 ∷ get_or out 2 0 ∷ get_or out 3 0 ∷ []
four [] e = absurd (omega arith)
four (a ∷ []) e = absurd (omega arith)
four (a ∷ b ∷ []) e = absurd (omega arith)
four (a ∷ b ∷ c ∷ []) e = absurd (omega arith)
four (a ∷ b ∷ c ∷ d ∷ []) e = refl
four (a ∷ b ∷ c ∷ d ∷ x ∷ out) e = absurd (omega arith)

pub number_text : (before after : Option (List ℕ)) (out : List ℕ) (n : ℕ) → Consumes before after out → length out ≡ 4
    → get_or out 0 0 < 256 → get_or out 1 0 < 256 → get_or out 2 0 < 256 → get_or out 3 0 < 256
    → n ≡ from_be_bytes w32 (get_or out 0 0 ∷ get_or out 1 0 ∷ get_or out 2 0 ∷ get_or out 3 0 ∷ []) → Consumes before after (to_be_bytes w32 n)
number_text before after out n h len p q r s e =
    subst (Consumes before after) (four out len ∙ sym (be_bytes_4 _ n refl (bytes_4 _ _ _ _ p q r s) e)) h
