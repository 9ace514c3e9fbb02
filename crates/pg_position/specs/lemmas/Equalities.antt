-- The test of equality of states tells what is equal.
use Rattle.std.specs.Prelude.{◌≡◌, ℕ, Option, Some, None, Bool, true, false, eqb, refl}
use Rattle.std.proofs.Common.{ap}
use Rattle.std.specs.Bool.{Decides}
use Rattle.std.proofs.lemmas.Bool.Decides.{Decides-like, Decides-and, Decides-eqb}
use Rattle.pg_board.specs.lemmas.Equalities.{color_decides}
use Rattle.pg_board.specs.Equality.{placement_eq_decides}
use Rattle.pg_position.specs.declared.rights.Rights.{Rights}
use Rattle.pg_position.specs.declared.state.State.{State}
use Rattle.pg_position.specs.Equality.{AreAlike, bool_eq, rights_eq, passed_eq, state_eq}

pub same_from_alike : (a b : State) → AreAlike a b → a ≡ b
same_from_alike a b h = λ i. record { board = h.board i; side = h.side i; rights = h.rights i; passed = h.passed i }

pub alike_from_same : (a b : State) → a ≡ b → AreAlike a b
alike_from_same a b e = record { board = ap (λ x. x.board) e; side = ap (λ x. x.side) e; rights = ap (λ x. x.rights) e; passed = ap (λ x. x.passed) e }

bool_decides : (a b : Bool) → Decides (bool_eq a b) (a ≡ b)
bool_decides true true = (λ _. refl, λ _. refl)
bool_decides false false = (λ _. refl, λ _. refl)
bool_decides true false = (λ e. cc, λ e. cc)
bool_decides false true = (λ e. cc, λ e. cc)

rights_decides : (a b : Rights) → Decides (rights_eq a b) (a ≡ b)
rights_decides a b = Decides-like (rights_eq a b)
    (λ ((p, q), (r, s)) i. record { white_king = p i; white_queen = q i; black_king = r i; black_queen = s i })
    (λ e. ((ap (λ x. x.white_king) e, ap (λ x. x.white_queen) e), (ap (λ x. x.black_king) e, ap (λ x. x.black_queen) e)))
    (Decides-and _ _ (Decides-and _ _ (bool_decides a.white_king b.white_king) (bool_decides a.white_queen b.white_queen))
    (Decides-and _ _ (bool_decides a.black_king b.black_king) (bool_decides a.black_queen b.black_queen)))

passed_decides : (a b : Option ℕ) → Decides (passed_eq a b) (a ≡ b)
passed_decides None None = (λ _. refl, λ _. refl)
passed_decides (Some a) (Some b) = Decides-like (eqb a b) (λ e. ap Some e) (λ e. cc) (Decides-eqb a b)
passed_decides None (Some b) = (λ e. cc, λ e. cc)
passed_decides (Some a) None = (λ e. cc, λ e. cc)

pub state_eq_decides : (a b : State) → Decides (state_eq a b) (a ≡ b)
unfolding state_eq
state_eq_decides a b = Decides-like _
    (λ ((p, q), (r, s)) i. record { board = p i; side = q i; rights = r i; passed = s i })
    (λ e. ((ap (λ x. x.board) e, ap (λ x. x.side) e), (ap (λ x. x.rights) e, ap (λ x. x.passed) e)))
    (Decides-and _ _ (Decides-and _ _ (placement_eq_decides a.board b.board) (color_decides a.side b.side))
    (Decides-and _ _ (rights_decides a.rights b.rights) (passed_decides a.passed b.passed)))
