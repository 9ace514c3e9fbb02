-- The halves that are made of a tariff are its halves.
use Rattle.pg_tolls.proofs.Common.{◌≡◌, ◌≢◌, ◌≤◌, [], subst, ◌∙◌, Color, White, Black, other, Placement, men, any_man, Facts, Tariff, AreOfWalls, AreLost, IsInRange, IsHalf, IsTight, MayBeTight, AreSound, Half}

range_of : (t : Tariff) (x y : Half) → AreLost t Black x.lost 64 → AreLost t White y.lost 64 → IsInRange t
range_of t x y black white White q low = white.in_range q low
range_of t x y black white Black q low = black.in_range q low

-- a half of a colour, for the board b
abbrev Made : Tariff → Facts → Placement → Half → Color → Type 0
Made t f b x c = AreLost t (other c) x.lost 64 × (men c any_man b ≤ 16 → IsHalf t f b x)

both_made : (t : Tariff) (f : Facts) (d : Placement) (x y : Half) → x.color ≡ White → y.color ≡ Black → AreOfWalls f d → Made t f d x White → Made t f d y Black → AreSound t d x y
both_made t f d x y is_white is_black walls white black few =
    record {
      facts = f;
      walls = walls;
      range = range_of t x y white.0 black.0;
      is_white = is_white;
      is_black = is_black;
      white = white.1 (few White);
      black = black.1 (few Black);
    }

made_along : (t : Tariff) (f e : Facts) (b d : Placement) (x : Half) (c a : Color) → e ≡ f → b ≡ d → c ≡ a → Made t e b x c → Made t f d x a
made_along t f e b d x c a facts board color made =
    subst (λ (z : Facts). Made t z d x a) facts (subst (λ (z : Placement). Made t e z x a) board (subst (λ (z : Color). Made t e b x z) color made))

pub sound_of : (t : Tariff) (f g h : Facts) (b d : Placement) (x y : Half) (u v : Color) → b ≡ d → g ≡ f → h ≡ f → u ≡ White → v ≡ Black → x.color ≡ u → y.color ≡ v → AreOfWalls f b → Made t g b x u → Made t h b y v → AreSound t d x y
sound_of t f g h b d x y u v board first second white black is_u is_v walls one two =
    both_made t f d x y (is_u ∙ white) (is_v ∙ black) (subst (λ (z : Placement). AreOfWalls f z) board walls) (made_along t f g b d x u White first board white one) (made_along t f h b d y v Black second board black two)

-- and it may be tight for the diagram
pub tight_of : (t : Tariff) (f g : Facts) (b d : Placement) (x : Half) → b ≡ d → g ≡ f → AreOfWalls f b → (x.rows.items ≢ [] → IsTight t g b x) → MayBeTight t d x
tight_of t f g b d x board facts walls tight full =
    (f, subst (λ (z : Placement). AreOfWalls f z) board walls, subst (λ (z : Placement). IsTight t f z x) board (subst (λ (z : Facts). IsTight t z b x) facts (tight full)))
