-- The letters of the squares are those of the table, and ASCII. Leads to the contract of `letter_of`.
use Rattle.pg_page.proofs.Common.{◌≡◌, ℕ, zero, suc, ◌<◌, ◌&&◌, Bool, true, get_or, eqb, ltb, refl, sym, ap, subst, ◌∙◌, Decides-below_and, Decides-eqb, Decides-ltb, letter_at}
use Rattle.pg_page.specs.declared.lines.TheConstants.{LETTERS}

unfoldable all_below : (ℕ → Bool) → ℕ → Bool
all_below p zero = true
all_below p (suc n) = p n && all_below p n

letters_are : all_below (λ s. eqb (get_or LETTERS s 0) (letter_at s)) 64 ≡ true
unfolding all_below
letters_are = refl

pub letter_is : (s i : ℕ) → i ≡ s → s < 64 → get_or LETTERS i 0 ≡ letter_at s
unfolding all_below
letter_is s i e l =
    let all = Decides-below_and (λ s. eqb (get_or LETTERS s 0) (letter_at s)) (λ s. get_or LETTERS s 0 ≡ letter_at s) (all_below (λ s. eqb (get_or LETTERS s 0) (letter_at s))) (λ s. Decides-eqb (get_or LETTERS s 0) (letter_at s)) refl (λ _. refl) 64 in
    ap (λ j. get_or LETTERS j 0) e ∙ all.0 letters_are s l

ascii_are : all_below (λ s. ltb (letter_at s) 128) 64 ≡ true
unfolding all_below
ascii_are = refl

pub letter_is_ascii : (s i : ℕ) → i ≡ s → s < 64 → get_or LETTERS i 0 < 128
unfolding all_below
letter_is_ascii s i e l =
    let all = Decides-below_and (λ s. ltb (letter_at s) 128) (λ s. letter_at s < 128) (all_below (λ s. ltb (letter_at s) 128)) (λ s. Decides-ltb (letter_at s) 128) refl (λ _. refl) 64 in
    subst (λ n. n < 128) (sym (letter_is s i e l)) (all.0 ascii_are s l)
