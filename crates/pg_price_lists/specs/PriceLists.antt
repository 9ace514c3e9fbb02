-- A price list: a number for each source and one for each target.
use Rattle.std.specs.Prelude.{ℕ, List}

-- a price list: u has a number for each source, v one for each target
pub record PriceList : Type 0 where
  pub u : List ℕ
  pub v : List ℕ

abbrev pub list_of : List ℕ → List ℕ → PriceList
list_of u v = record { u = u; v = v }
