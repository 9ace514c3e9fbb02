-- What holds of either colour, and not of the one asked first.
use Rattle.pg_travel.proofs.Common.{◌≡◌, Bool, true, false, IsTrue, sym, ◌∙◌, subst, Color, White, Black, other}

false_true : {A : Type 0} → false ≡ true → A
false_true e = cc

-- what holds of a colour and not of the other one holds of this one
pub of_this : (P : Color → Type 0) (s o : Color) (a : Bool) → o ≡ other s → (P o → IsTrue a) → a ≡ false → (c : Color) × P c → P s
of_this P White o a is f e (White, h) = h
of_this P White o a is f e (Black, h) = false_true (sym e ∙ f (subst P (sym is) h))
of_this P Black o a is f e (White, h) = false_true (sym e ∙ f (subst P (sym is) h))
of_this P Black o a is f e (Black, h) = h

-- what holds of a colour and not of this one holds of the other one
pub of_other : (P : Color → Type 0) (s o : Color) (a : Bool) → o ≡ other s → (P s → IsTrue a) → a ≡ false → (c : Color) × P c → P o
of_other P White o a is f e (White, h) = false_true (sym e ∙ f h)
of_other P White o a is f e (Black, h) = subst P (sym is) h
of_other P Black o a is f e (White, h) = subst P (sym is) h
of_other P Black o a is f e (Black, h) = false_true (sym e ∙ f h)
