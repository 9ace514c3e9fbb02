-- A certificate whose header was read: which bytes it has, and why one is not opened.
use Rattle.std.specs.Prelude.{◌≡◌, ℕ, ◌<◌, Bool, true, List, length, Option, IfSome, Err, refl}
use Rattle.std.specs.Coded.{Coded, code_by, coded×, coded_list, coded_ℕ}
use Rattle.std.specs.Io.KnownBytes.{prepend_known}
use Rattle.pg_board.specs.Placement.{Placement}
use Rattle.pg_board.specs.lemmas.Codes.{placement_code}
use Rattle.pg_certificate.specs.declared.fault.ReadFault.TheVariants as reading
use Rattle.pg_certificate.specs.Reading.{header_at}
use Rattle.pg_certificate.specs.Spelling.{header_length, header_spelling}
use Rattle.pg_checker.specs.Check.{header_for}
use Rattle.pg_checker.specs.Naming.{Begins, NamesNone}
use Rattle.pg_checker.specs.declared.fault.Fault.TheVariants as fault
use Rattle.pg_checker.specs.declared.fault.OpenFault.{OpenFault}
use Rattle.pg_checker.specs.declared.fault.OpenFault.TheVariants.{Header, NoProblem}

-- the header was for this diagram, this number of plies and this version; these bytes behind it were read already
pub record OpenedState : Type 0 where
  pub diagram : Placement
  pub plies : ℕ
  pub version : ℕ
  pub held : List ℕ

-- it is stored as the tuple of its fields
abbrev pub opened_code : Coded OpenedState
opened_code =
    code_by (Placement × (ℕ × (ℕ × List ℕ)))
    (coded× placement_code (coded× coded_ℕ (coded× coded_ℕ (coded_list coded_ℕ))))
    (λ o. (o.diagram, (o.plies, (o.version, o.held))))
    (λ p. record { diagram = p.0; plies = p.1.0; version = p.1.1.0; held = p.1.1.1 }) (λ _. refl)

-- the bytes behind the header, where the source tells those that are left
abbrev pub behind : OpenedState → Option (List ℕ) → Option (List ℕ)
behind o left = prepend_known o.held left

-- the bytes of the certificate: its header, and then those
abbrev pub bytes_of : OpenedState → Option (List ℕ) → Option (List ℕ)
bytes_of o left = prepend_known (header_spelling (header_for o.version o.diagram o.plies)) (behind o left)

-- why a certificate is not opened: the source has failed; there are too few bytes for a header; they begin with none;
-- or with one that names no problem
abbrev pub IsUnopened : Option (List ℕ) → Bool → OpenFault → Type 0
IsUnopened known failed (Header fault.Read) = failed ≡ true
IsUnopened known failed (Header fault.Truncated) = IfSome known (λ bytes. length bytes < header_length)
IsUnopened known failed (Header fault.Magic) = IfSome known (λ bytes. header_at bytes ≡ Err reading.Magic)
IsUnopened known failed NoProblem = IfSome known (Begins NamesNone)
IsUnopened known failed e = ⊥
