-- The tests of equality of two squares' men and of two placements, and that they tell what is equal.
use Rattle.std.specs.Prelude.{◌≡◌, ℕ, zero, suc, ◌<◌, Bool, true, false, ◌&&◌, Option, Some, None, refl}
use Rattle.std.proofs.Common.{sym, ap}
use Rattle.std.specs.Bool.{Decides}
use Rattle.std.proofs.lemmas.Bool.Decides.{Decides-like, Decides-below_and}
use Rattle.pg_board.specs.declared.man.Man.{Man}
use Rattle.pg_board.specs.Men.{is_man}
use Rattle.pg_board.specs.Placement.{Placement, get, same_placement}
use Rattle.pg_board.specs.lemmas.Equalities.{is_man_decides}

-- that two squares hold the same
abbrev pub same_man : Option Man → Option Man → Bool
same_man (Some m) c = is_man m c
same_man None (Some m) = false
same_man None None = true

pub same_man_decides : (a b : Option Man) → Decides (same_man a b) (a ≡ b)
same_man_decides (Some m) c = Decides-like (is_man m c) sym sym (is_man_decides m c)
same_man_decides None (Some m) = (λ e. cc, λ e. cc)
same_man_decides None None = (λ _. refl, λ _. refl)

all_below : (ℕ → Bool) → ℕ → Bool
all_below p zero = true
all_below p (suc n) = p n && all_below p n

-- that each square holds the same
pub placement_eq : Placement → Placement → Bool
placement_eq a b = all_below (λ q. same_man (get a q) (get b q)) 64

all_decides : (a b : Placement) (n : ℕ) → Decides (all_below (λ q. same_man (get a q) (get b q)) n) ((q : ℕ) → q < n → get a q ≡ get b q)
unfolding all_below
all_decides a b n = Decides-below_and (λ q. same_man (get a q) (get b q)) (λ q. get a q ≡ get b q) (all_below (λ q. same_man (get a q) (get b q))) (λ q. same_man_decides (get a q) (get b q)) refl (λ _. refl) n

pub placement_eq_decides : (a b : Placement) → Decides (placement_eq a b) (a ≡ b)
unfolding placement_eq
placement_eq_decides a b = Decides-like _ (λ h. same_placement a b h) (λ e q l. ap (λ p. get p q) e) (all_decides a b 64)
