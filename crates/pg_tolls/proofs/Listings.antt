-- A colour's men by their list: the place of a square.
use Rattle.pg_tolls.proofs.Common.{◌≡◌, ℕ, ◌<◌, refl, Color, Kind, Placement, Stands, IsListing, index, index_is}

module _ (b : Placement) (c : Color) (xs : ℕ → ℕ) (n : ℕ) (is : IsListing b c xs n) where
  -- the place of a man's square in the list
  pub place_is : (k : Kind) (s : ℕ) → s < 64 → Stands b c k s → (index xs n s < n) × (xs (index xs n s) ≡ s)
  place_is k s low st = index_is xs n s (is.listed k s low st)

  pub place_of : (i : ℕ) → i < n → index xs n (xs i) ≡ i
  place_of i low =
      let h : (index xs n (xs i) < n) × (xs (index xs n (xs i)) ≡ xs i) = index_is xs n (xs i) (i, low, refl) in
      is.different (index xs n (xs i)) i h.0 low h.1
