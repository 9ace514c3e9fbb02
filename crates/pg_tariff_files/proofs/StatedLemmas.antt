-- What bytes state goes on to be stated by more bytes, and is read tariff by tariff.
use Rattle.std.proofs.Common.{◌≡◌, ◌≢◌, ◌∙◌, inl, inr, ℕ, ◌+◌, ◌*◌, ◌<◌, ◌≤◌, List, [], ◌∷◌, ◌++◌, length, get_or, ap, sym, subst, arith}
use Rattle.std.proofs.lemmas.Bool.Decides.{eqb_tells}
use Rattle.std.proofs.Math.ListN.{get_or-append, length-append}
use Rattle.std.proofs.lemmas.List.{get_or_push}
use Rattle.pg_tolls.specs.Tariffs.{Tariff}
use Rattle.pg_tolls.specs.Stated.{stated}
use Rattle.pg_tolls.specs.declared.tariff.Tariff.{Tariff as Told}
use Rattle.pg_tariff_files.specs.Files.{AreRead, IsAt, nothing, signed}

-- a tariff stays stated where more bytes follow
kept : (bytes own : List ℕ) (at : ℕ) (t : Tariff) → at + 130 ≤ length bytes → IsAt bytes at t → IsAt (bytes ++ own) at t
kept bytes own at t room is = record {
  white = is.white ∙ sym (get_or-append bytes own 0 at (omega arith));
  black = is.black ∙ sym (get_or-append bytes own 0 (at + 1) (omega arith));
  by_white = λ q low. is.by_white q low ∙ ap signed (sym (get_or-append bytes own 0 (at + 2 + q) (omega arith)));
  by_black = λ q low. is.by_black q low ∙ ap signed (sym (get_or-append bytes own 0 (at + 66 + q) (omega arith)));
}

pub more_read : (bytes : List ℕ) (tariffs : List Told) (t : Told) (n : ℕ) → AreRead bytes tariffs n → IsAt bytes (130 * n) (stated t)
    → AreRead bytes (tariffs ++ t ∷ []) (n + 1)
more_read bytes tariffs t n are is = (
  length-append tariffs (t ∷ []) ∙ omega (arith, are.0),
  λ i low. elim (eqb_tells i n) [
    | inl w ↦ (
        let last : get_or (tariffs ++ t ∷ []) i nothing ≡ t = get_or_push tariffs t nothing i (are.0 ∙ sym w.1) in
        let at : IsAt bytes (130 * i) (stated t) = subst (λ (j : ℕ). IsAt bytes (130 * j) (stated t)) (sym w.1) is in
        subst (λ (u : Told). IsAt bytes (130 * i) (stated u)) (sym last) at
        )
    | inr w ↦ (
        let ne : i ≢ n = w.1 in
        let less : i < n = omega arith in
        let kept : get_or (tariffs ++ t ∷ []) i nothing ≡ get_or tariffs i nothing =
        get_or-append tariffs (t ∷ []) nothing i (omega (arith, are.0, less)) in
        subst (λ (u : Told). IsAt bytes (130 * i) (stated u)) (sym kept) (are.1 i less)
        )
  ],
)
