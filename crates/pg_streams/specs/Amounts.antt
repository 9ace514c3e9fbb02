-- Numbers as a user says them.
use Rattle.std.specs.Prelude.{◌≡◌, ◌<◌, ◌^◌, ℕ, List, Option, Some}
use Rattle.std.specs.Str.Parse.{IsNumeral, digits_value, without_leading_plus}

-- decimal digits that spell a number below 2^64 say that number
abbrev pub IsPlain : List ℕ → Option ℕ → Type 0
IsPlain text said = IsNumeral 10 (without_leading_plus text) → digits_value 10 (without_leading_plus text) < 2 ^ 64
    → said ≡ Some (digits_value 10 (without_leading_plus text))
