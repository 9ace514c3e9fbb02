-- A text is cut into fields at runs of spaces, tabs, line feeds and carriage returns; those at its ends are dropped.
use Rattle.std.specs.Prelude.{◌≡◌, ◌≢◌, ℕ, Bool, ◌||◌, ◌==◌, not, List, [], ◌∷◌, length, Option, Some, None, nat_lt}
use Rattle.std.specs.List.{slice_split, filter}
use Prim.Native.Char.{code}
use Rattle.pg_fen.specs.declared.fields.Fields.{Fields}
use Rattle.pg_fen.specs.declared.fields.DetailFields.{DetailFields}

-- a space, a tab, a line feed or a carriage return
abbrev pub is_field_gap : ℕ → Bool
is_field_gap b = (b == code " ") || (b == code "\t") || (b == code "\n") || (b == code "\r")

abbrev pub is_field_byte : ℕ → Bool
is_field_byte b = not (is_field_gap b)

-- the parts between the gaps of a text, without the empty ones
abbrev pub fields : List ℕ → List (List ℕ)
fields text = filter (λ field. nat_lt 0 (length field)) (slice_split is_field_gap text)

abbrev pub detail_fields : Option DetailFields → List (List ℕ)
detail_fields None = []
detail_fields (Some s) = s.side.now ∷ s.rights.now ∷ s.passed.now ∷ s.half.now ∷ s.full.now ∷ []

-- the fields, where there are one or six
abbrev pub AreFields : Option Fields → List (List ℕ) → Type 0
AreFields None fs = (length fs ≢ 1) × (length fs ≢ 6)
AreFields (Some f) fs = fs ≡ f.placement.now ∷ detail_fields f.details
