-- The tests of equality of colours, kinds and men tell what is equal.
use Rattle.std.specs.Prelude.{◌≡◌, T, Option, Some, None, refl}
use Rattle.std.proofs.Common.{sym, ap, ◌∙◌, subst, eq-eqb, eqb→eq}
use Rattle.std.specs.Bool.{Decides}
use Rattle.std.proofs.lemmas.Bool.Decides.{Decides-like, Decides-and}
use Rattle.pg_board.specs.declared.man.Color.{Color}
use Rattle.pg_board.specs.declared.man.Color.TheVariants.{White, Black}
use Rattle.pg_board.specs.declared.man.Kind.{Kind}
use Rattle.pg_board.specs.declared.man.Man.{Man}
use Rattle.pg_board.specs.Men.{man, color_eq, number_of_kind, kind_eq, man_eq, is_man, is_of}
use Rattle.pg_board.specs.lemmas.Codes.{kind_of_number, kind_back}

pub color_decides : (a b : Color) → Decides (color_eq a b) (a ≡ b)
color_decides White White = (λ _. refl, λ _. refl)
color_decides Black Black = (λ _. refl, λ _. refl)
color_decides White Black = (λ e. cc, λ e. cc)
color_decides Black White = (λ e. cc, λ e. cc)

pub kind_decides : (a b : Kind) → Decides (kind_eq a b) (a ≡ b)
kind_decides a b = (λ e. sym (kind_back a) ∙ ap kind_of_number (eqb→eq _ _ (subst T (sym e) tt)) ∙ kind_back b, λ e. eq-eqb _ _ (ap number_of_kind e))

pub man_decides : (a b : Man) → Decides (man_eq a b) (a ≡ b)
man_decides a b = Decides-like (man_eq a b)
    (λ (p, q) i. record { color = p i; kind = q i })
    (λ e. (ap (λ m. m.color) e, ap (λ m. m.kind) e))
    (Decides-and (color_eq a.color b.color) (kind_eq a.kind b.kind) (color_decides a.color b.color) (kind_decides a.kind b.kind))

pub is_man_decides : (m : Man) (o : Option Man) → Decides (is_man m o) (o ≡ Some m)
is_man_decides m (Some x) = Decides-like (man_eq x m) (λ e. ap Some e) (λ e. cc) (man_decides x m)
is_man_decides m None = (λ e. cc, λ e. cc)

pub of_decides : (c : Color) (o : Option Man) → Decides (is_of c o) ((k : Kind) × (o ≡ Some (man c k)))
of_decides c None = (λ e. absurd (cc), λ h. let e : None ≡ Some (man c h.0) = h.1 in absurd (cc))
of_decides c (Some m) = Decides-like (color_eq m.color c)
    (λ e. (m.kind, λ i. Some (record { color = e i; kind = m.kind })))
    (λ h. let e : m ≡ man c h.0 = (let f : Some m ≡ Some (man c h.0) = h.1 in cc) in ap (λ (x : Man). x.color) e)
    (color_decides m.color c)
