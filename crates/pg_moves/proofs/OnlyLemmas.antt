-- What is left of a square where the men of one colour alone stay.
use Rattle.pg_moves.proofs.Common.{◌≡◌, Some, None, cond, refl, ap, Color, White, Black, Kind, Man, man, other, color_decides, only}

pub only_kept : (f : Color) (m : Man) → m.color ≡ f → only f (Some m) ≡ Some m
only_kept f m e = ap (λ v. cond v (Some m) None) ((color_decides m.color f).1 e)

pub only_other : (c : Color) (k : Kind) → only (other c) (Some (man c k)) ≡ None
only_other White k = refl
only_other Black k = refl
