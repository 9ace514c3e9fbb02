-- What price lists are for: a source is a man of the position, and a target one of the diagram. Sources and
-- targets stand in the order of their squares. A test of a square and a kind says which of a colour's men are meant.
use Rattle.std.specs.Prelude.{◌≡◌, ℕ, Bool, List, length, get_or}
use Rattle.pg_board.specs.declared.man.Color.{Color}
use Rattle.pg_board.specs.declared.man.Kind.{Kind}
use Rattle.pg_board.specs.Placement.{Placement}
use Rattle.pg_board.specs.Tally.{tally_below}
pub use Rattle.pg_price_lists.specs.PriceLists.{PriceList, list_of}
use Rattle.pg_captures.specs.Counting.{of_color, men}

-- which of these men the one on a square is, from 0: how many of them stand on the squares before
abbrev pub number_among : Color → (ℕ → Kind → Bool) → Placement → ℕ → ℕ
number_among c f b s = tally_below (of_color c f) b s

-- the number of the man on a square
abbrev pub price : List ℕ → Color → (ℕ → Kind → Bool) → Placement → ℕ → ℕ
price xs c f b s = get_or xs (number_among c f b s) 0

-- there is one number for each of these men
abbrev pub IsPriced : List ℕ → Color → (ℕ → Kind → Bool) → Placement → Type 0
IsPriced xs c f b = length xs ≡ men c f b

-- a list for c's men of a kind of test: its sources are those of b, its targets those of d
abbrev pub IsFor : PriceList → Color → (ℕ → Kind → Bool) → Placement → Placement → Type 0
IsFor l c f b d = IsPriced l.u c f b × IsPriced l.v c f d
