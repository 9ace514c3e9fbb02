-- A file of which the first four bytes are not those before tariffs is a certificate alone.
use Rattle.std.proofs.Common.{◌≡◌, ◌≢◌, ◌∙◌, inl, inr, ℕ, ◌+◌, ◌<◌, ◌≤◌, List, [], ◌++◌, take, length, codes, Option, Some, None, refl, sym, ap, take_at, arith}
use Rattle.std.proofs.lemmas.Bool.Decides.{eqb_tells}
use Rattle.std.proofs.Math.ListN.{length-append}
use Rattle.std.specs.Fmt.{option_append}
use Rattle.std.specs.Io.KnownBytes.{Consumes, IsAtEnd}
use Rattle.pg_tariff_files.specs.Files.{BeginsSo, IsBegun}

begins_otherwise : (bytes front rest : List ℕ) → bytes ≡ front ++ rest → length front ≤ 4 → (length front < 4 → rest ≡ [])
    → ¬ (front ≡ codes "PGT1") → ¬ BeginsSo bytes
begins_otherwise bytes front rest is few end other so =
    elim (eqb_tells (length front) 4) [
      | inl w ↦ other (sym (take_at front rest 4 w.1) ∙ ap (take 4) (sym is ∙ so.1) ∙ take_at (codes "PGT1") so.0 4 refl)
      | inr w ↦ (
          let ne : length front ≢ 4 = w.1 in
          let none : length rest ≡ 0 = ap length (end (omega arith)) in
          let long : length front + length rest ≡ 4 + length so.0 =
          sym (length-append front rest) ∙ ap length (sym is ∙ so.1) ∙ length-append (codes "PGT1") so.0 in
          omega (arith, none, long)
          )
    ]

pub alone : (file left : Option (List ℕ)) (front : List ℕ) → Consumes file left front → length front ≤ 4
    → (length front < 4 → IsAtEnd left) → ¬ (front ≡ codes "PGT1") → IsBegun file (option_append (Some front) left) []
alone None left front read few end other = tt
alone (Some bytes) None front read few end other = absurd read
alone (Some bytes) (Some rest) front read few end other = inl (refl, read, begins_otherwise bytes front rest read few end other)
