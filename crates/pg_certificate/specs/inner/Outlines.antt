-- A priced record in two parts, as it is read: what stands before its lists, and the lists.
use Rattle.std.specs.Prelude.{◌≡◌, ℕ, ◌<◌, ◌≤◌, ◌^◌, List, [], ◌∷◌, length, All}
use Rattle.std.specs.List.{flat_map}
use Rattle.pg_price_lists.specs.PriceLists.{PriceList}
use Rattle.pg_certificate.specs.declared.outline.Outline.{Outline}
use Rattle.pg_certificate.specs.Spelling.{color_byte, list_spelling, IsPriceList}

-- an outline of numbers that fit
pub record IsOutline (o : Outline) : Type 0 where
  pub code : o.code < 2 ^ 8
  pub some : 0 < o.ways
  pub few : o.ways ≤ 3
  pub sources : o.sources ≤ 64
  pub targets : o.targets ≤ 64

abbrev pub outline_spelling : Outline → List ℕ
outline_spelling o = o.code ∷ color_byte o.color ∷ o.ways ∷ o.sources ∷ o.targets ∷ []

abbrev pub lists_spelling : List PriceList → List ℕ
lists_spelling prices = flat_map list_spelling prices

-- as many lists as the outline says, each as long as it says
pub record AreListsOf (o : Outline) (prices : List PriceList) : Type 0 where
  pub ways : length prices ≡ o.ways
  pub lists : All (λ l. IsPriceList o.sources o.targets l) prices
