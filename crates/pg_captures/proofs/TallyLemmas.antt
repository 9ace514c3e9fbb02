-- Counts by sets of squares. Leads to the contracts of the counting functions.
use Rattle.pg_captures.proofs.Common.{◌≡◌, ℕ, ◌<◌, Bool, true, false, ◌&&◌, Option, Some, None, refl, sym, ap, ap₂, ◌∙◌, Color, Kind, Pawn, Knight, Bishop, Rook, Queen, King, is_light, is_dark, man, passes, color_eq, kind_eq, man_eq, is_man, is_of, one, tally, tally_below, count_of, count_below, has, Placement, get, Queens, Rooks, Knights, LightBishops, DarkBishops, of_color, men, any_man, any_pawn, in_class}
use Rattle.pg_board.specs.declared.man.Man.{Man}
use Rattle.pg_board.specs.lemmas.Sums.{total_same, count_below_same}
use Rattle.pg_captures.specs.declared.classes.Class.{Class}
use Rattle.pg_captures.specs.lemmas.PlaceLemmas.{passes_like, and-true, pawn_like}

-- two tests that agree count alike
pub tally_like : (f g : ℕ → Man → Bool) (b : Placement) → ((s : ℕ) (m : Man) → f s m ≡ g s m) → tally f b ≡ tally g b
unfolding tally tally_below
tally_like f g b h = total_same (λ s. one (passes (g s) (get b s))) (λ s. one (passes (f s) (get b s))) 64 (λ s l. ap one (passes_like (f s) (g s) (h s) (get b s)))

-- the size of the set of the men that pass a test
pub tally_set : (f : ℕ → Man → Bool) (b : Placement) (set n : ℕ) → n ≡ count_below (has set) 64 → ((q : ℕ) → q < 64 → has set q ≡ passes (f q) (get b q)) → n ≡ tally f b
unfolding tally tally_below
tally_set f b set n is h = is ∙ count_below_same (has set) (λ q. passes (f q) (get b q)) 64 h

-- the men of a colour
pub all_men_set : (b : Placement) (c : Color) (set n : ℕ) → n ≡ count_below (has set) 64 → ((q : ℕ) → q < 64 → has set q ≡ is_of c (get b q)) → n ≡ men c any_man b
all_men_set b c set n is h = tally_set (of_color c any_man) b set n is (λ q l. h q l ∙ passes_like (λ x. color_eq x.color c) (of_color c any_man q) (λ m. sym (and-true (color_eq m.color c))) (get b q))

pub pawns_counted : (b : Placement) (c : Color) → count_of b (man c Pawn) ≡ men c any_pawn b
pawns_counted b c = tally_like (λ _ x. man_eq x (man c Pawn)) (of_color c any_pawn) b (λ s m. ap (λ x. color_eq m.color c && x) (pawn_like m.kind))

-- ---- the five classes as sets
class_like : (l : Class) (k : Kind) (q : ℕ) → Bool
class_like Queens k q = kind_eq k Queen
class_like Rooks k q = kind_eq k Rook
class_like Knights k q = kind_eq k Knight
class_like LightBishops k q = kind_eq k Bishop && is_light q
class_like DarkBishops k q = kind_eq k Bishop && is_dark q

in_class_like : (l : Class) (k : Kind) (q : ℕ) → class_like l k q ≡ in_class l q k
unfolding class_like in_class
in_class_like Queens Pawn q = refl
in_class_like Queens Knight q = refl
in_class_like Queens Bishop q = refl
in_class_like Queens Rook q = refl
in_class_like Queens Queen q = refl
in_class_like Queens King q = refl
in_class_like Rooks Pawn q = refl
in_class_like Rooks Knight q = refl
in_class_like Rooks Bishop q = refl
in_class_like Rooks Rook q = refl
in_class_like Rooks Queen q = refl
in_class_like Rooks King q = refl
in_class_like Knights Pawn q = refl
in_class_like Knights Knight q = refl
in_class_like Knights Bishop q = refl
in_class_like Knights Rook q = refl
in_class_like Knights Queen q = refl
in_class_like Knights King q = refl
in_class_like LightBishops Pawn q = refl
in_class_like LightBishops Knight q = refl
in_class_like LightBishops Bishop q = refl
in_class_like LightBishops Rook q = refl
in_class_like LightBishops Queen q = refl
in_class_like LightBishops King q = refl
in_class_like DarkBishops Pawn q = refl
in_class_like DarkBishops Knight q = refl
in_class_like DarkBishops Bishop q = refl
in_class_like DarkBishops Rook q = refl
in_class_like DarkBishops Queen q = refl
in_class_like DarkBishops King q = refl

-- a set of men of one kind is a class
module _ (b : Placement) (c : Color) (set : ℕ) (m : Man) where
  pub kind_set : (l : Class) (k : Kind) → m ≡ man c k → ((j : Kind) (q : ℕ) → kind_eq j k ≡ in_class l q j) → ((q : ℕ) → q < 64 → has set q ≡ is_man m (get b q)) → (q : ℕ) → q < 64 → has set q ≡ passes (of_color c (in_class l) q) (get b q)
  kind_set l k e like h q low = h q low ∙ ap (λ x. is_man x (get b q)) e ∙ passes_like (λ x. man_eq x (man c k)) (of_color c (in_class l) q) (λ x. ap (λ y. color_eq x.color c && y) (like x.kind q)) (get b q)

pub queens_like : (j : Kind) (q : ℕ) → kind_eq j Queen ≡ in_class Queens q j
unfolding class_like
queens_like j q = in_class_like Queens j q

pub rooks_like : (j : Kind) (q : ℕ) → kind_eq j Rook ≡ in_class Rooks q j
unfolding class_like
rooks_like j q = in_class_like Rooks j q

pub knights_like : (j : Kind) (q : ℕ) → kind_eq j Knight ≡ in_class Knights q j
unfolding class_like
knights_like j q = in_class_like Knights j q

assoc : (x y z : Bool) → ((x && y) && z) ≡ (x && (y && z))
assoc true y z = refl
assoc false y z = refl

passes_and : (f : Man → Bool) (x : Bool) (o : Option Man) → (passes f o && x) ≡ passes (λ m. f m && x) o
passes_and f x None = refl
passes_and f x (Some m) = refl

-- the men of one kind on the squares of a mask
pub masked_set : (b : Placement) (c : Color) (f : ℕ → Kind → Bool) (k : Kind) (m : Man) (all mask kept : ℕ) (on : ℕ → Bool) → m ≡ man c k → ((j : Kind) (q : ℕ) → (kind_eq j k && on q) ≡ f q j) →
    ((q : ℕ) → q < 64 → has all q ≡ is_man m (get b q)) → ((q : ℕ) → q < 64 → has mask q ≡ on q) → ((q : ℕ) → has kept q ≡ has all q && has mask q) → (q : ℕ) → q < 64 → has kept q ≡ passes (of_color c f q) (get b q)
masked_set b c f k m all mask kept on e like h on_mask both q low =
    both q ∙ ap₂ (λ x y. x && y) (h q low ∙ ap (λ x. is_man x (get b q)) e) (on_mask q low)
    ∙ passes_and (λ x. man_eq x (man c k)) (on q) (get b q)
    ∙ passes_like (λ x. man_eq x (man c k) && on q) (of_color c f q) (λ x. assoc (color_eq x.color c) (kind_eq x.kind k) (on q) ∙ ap (λ y. color_eq x.color c && y) (like x.kind q)) (get b q)

pub light_like : (j : Kind) (q : ℕ) → (kind_eq j Bishop && is_light q) ≡ in_class LightBishops q j
unfolding class_like
light_like j q = in_class_like LightBishops j q

pub dark_like : (j : Kind) (q : ℕ) → (kind_eq j Bishop && is_dark q) ≡ in_class DarkBishops q j
unfolding class_like
dark_like j q = in_class_like DarkBishops j q
