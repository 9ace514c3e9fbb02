-- Price lists made of their bytes, one after the other.
use Rattle.pg_certificate.proofs.Common.{◌≡◌, ℕ, suc, ◌+◌, ◌*◌, ◌<◌, ◌≤◌, ◌↔◌, Bool, true, false, cond, IsTrue, List, [], ◌∷◌, ◌++◌, length, take, drop, refl, sym, ap, ◌∙◌, arith, suc-mul, append-nil, length-append, length-take, length-take-le, length-drop, PriceList, list_of, sources, targets, CanAdd, lists_of}
use Rattle.pg_certificate.proofs.ListTexts.{next_list}

-- lists for a sources and b targets, of which v more are to be made from the bytes behind `at`
pub record Made (ls : List PriceList) (v a b at : ℕ) (bytes : List ℕ) (all : List PriceList) : Type 0 where
  pub first : sources ls ≡ a
  pub second : targets ls ≡ b
  pub left : at + v * (a + b) ≡ length bytes
  pub made : ls ++ lists_of v a b (drop at bytes) ≡ all

added_is : (r : Bool) (ls ms new : List PriceList) → IsTrue r → new ≡ cond r ms ls → new ≡ ms
added_is true ls ms new h e = e
added_is false ls ms new h e = absurd cc

pub first_made : (old ls : List PriceList) (r : Bool) (w v a b n : ℕ) (bytes : List ℕ) → suc v ≡ w → n ≡ b → a ≤ 64 → b ≤ 64 → length bytes ≡ w * (a + b)
    → IsTrue r ↔ ((length (take a bytes) ≤ 64) × (length (take n (drop a bytes)) ≤ 64)) → ls ≡ cond r (list_of (take a bytes) (take n (drop a bytes)) ∷ []) old → (length ls ≡ 1) × Made ls v a b (a + b) bytes (lists_of w a b bytes)
first_made old ls r w v a b n bytes next second few few_too len when set =
    let one : ls ≡ list_of (take a bytes) (take n (drop a bytes)) ∷ [] = added_is r old (list_of (take a bytes) (take n (drop a bytes)) ∷ []) ls (when.1 (omega (arith, few, length-take a bytes), omega (arith, second, few_too, length-take n (drop a bytes)))) set in
    let same : ls ≡ list_of (take a bytes) (take b (drop a bytes)) ∷ [] = one ∙ ap (λ (k : ℕ). list_of (take a bytes) (take k (drop a bytes)) ∷ []) second in
    let more : w * (a + b) ≡ v * (a + b) + (a + b) = ap (λ (k : ℕ). k * (a + b)) (sym next) ∙ suc-mul v (a + b) in (
      ap length same,
      record {
        first = ap sources same ∙ length-take-le a bytes (omega (arith, len, more));
        second = ap targets same ∙ length-take-le b (drop a bytes) (omega (arith, len, more, length-drop a bytes));
        left = omega (arith, len, more);
        made = ap (λ (m : List PriceList). m ++ lists_of v a b (drop (a + b) bytes)) same ∙ ap (λ (k : ℕ). lists_of k a b bytes) next;
      },
    )

-- none is left to be made
pub all_made : (ls : List PriceList) (v a b at : ℕ) (bytes : List ℕ) (all : List PriceList) → v ≡ 0 → Made ls v a b at bytes all → ls ≡ all
all_made ls v a b at bytes all none is =
    sym (append-nil ls) ∙ ap (λ (k : ℕ). ls ++ lists_of k a b (drop at bytes)) (sym none) ∙ is.made

same_sources : (ls : List PriceList) (l : PriceList) → 1 ≤ length ls → sources (ls ++ l ∷ []) ≡ sources ls
same_sources [] l p = absurd (omega arith)
same_sources (x ∷ ls) l p = refl

same_targets : (ls : List PriceList) (l : PriceList) → 1 ≤ length ls → targets (ls ++ l ∷ []) ≡ targets ls
same_targets [] l p = absurd (omega arith)
same_targets (x ∷ ls) l p = refl

pub next_made : (ls new : List PriceList) (r : Bool) (w v a b at n m : ℕ) (bytes : List ℕ) (all : List PriceList) → suc v ≡ w → n ≡ a → m ≡ b → 1 ≤ length ls → length ls < 3 → Made ls w a b at bytes all
    → IsTrue r ↔ CanAdd ls (take n (drop at bytes)) (take m (drop (at + a) bytes)) → new ≡ cond r (ls ++ list_of (take n (drop at bytes)) (take m (drop (at + a) bytes)) ∷ []) ls
    → (length new ≡ length ls + 1) × Made new v a b (at + (a + b)) bytes all
next_made ls new r w v a b at n m bytes all next first second some few is when added =
    let more : w * (a + b) ≡ v * (a + b) + (a + b) = ap (λ (k : ℕ). k * (a + b)) (sym next) ∙ suc-mul v (a + b) in
    let u : length (take n (drop at bytes)) ≡ sources ls = length-take-le n (drop at bytes) (omega (arith, first, is.left, more, length-drop at bytes)) ∙ first ∙ sym is.first in
    let t : length (take m (drop (at + a) bytes)) ≡ targets ls = length-take-le m (drop (at + a) bytes) (omega (arith, second, is.left, more, length-drop (at + a) bytes)) ∙ second ∙ sym is.second in
    let whole = added_is r ls (ls ++ list_of (take n (drop at bytes)) (take m (drop (at + a) bytes)) ∷ []) new (when.1 (few, u, t)) added in
    let same : new ≡ ls ++ list_of (take a (drop at bytes)) (take b (drop (at + a) bytes)) ∷ [] = whole ∙ ap (λ (k : ℕ). ls ++ list_of (take k (drop at bytes)) (take m (drop (at + a) bytes)) ∷ []) first ∙ ap (λ (k : ℕ). ls ++ list_of (take a (drop at bytes)) (take k (drop (at + a) bytes)) ∷ []) second in (
      ap length same ∙ length-append ls (list_of (take a (drop at bytes)) (take b (drop (at + a) bytes)) ∷ []),
      record {
        first = ap sources same ∙ same_sources ls _ some ∙ is.first;
        second = ap targets same ∙ same_targets ls _ some ∙ is.second;
        left = omega (arith, is.left, more);
        made = ap (λ (x : List PriceList). x ++ lists_of v a b (drop (at + (a + b)) bytes)) same ∙ next_list ls v a b at bytes all (ap (λ (k : ℕ). ls ++ lists_of k a b (drop at bytes)) next ∙ is.made);
      },
    )
