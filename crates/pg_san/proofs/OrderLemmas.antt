-- The canonical order of games: a total order, in which games that tie are one.
use Rattle.pg_san.proofs.Common.{◌≡◌, ◌↔◌, ℕ, zero, suc, ◌<◌, List, [], ◌∷◌, length, get_or, refl, sym, ap, arith, ◌∙◌, Less, Equal, Greater, ordering_then, ordering_reverse, nat_cmp, Contains-get_or, Contains, IsStrictlySortedBy, Move, sorted_none, sorted_below, sorted_rest, sorted_same, Contains-none, IsOnce, game_cmp, IsGames}
use Rattle.std.specs.declared.cmp.Ordering.{Ordering}
use Rattle.std.specs.Cmp.{IsTotalOrder}
use Rattle.std.proofs.lemmas.Cmp.{lists_total, ranked, tied_itself}
use Rattle.pg_moves.specs.Moves.{move_cmp, promotion_number}
use Rattle.pg_moves.proofs.PlaceLemmas.{move_cmp_total, same_parts}

pub game_cmp_total : IsTotalOrder game_cmp
game_cmp_total = lists_total move_cmp_total

pub no_games : IsGames []
no_games = record { ascends = sorted_none game_cmp; legal = λ g h. absurd (Contains-none g h); few = omega arith }

-- ---- games that tie are one
then_equal : (a b : Ordering) → ordering_then a b ≡ Equal → (a ≡ Equal) × (b ≡ Equal)
then_equal Less b h = absurd (cc)
then_equal Equal b h = (refl, h)
then_equal Greater b h = absurd (cc)

same_move : (a b : Move) → move_cmp a b ≡ Equal → a ≡ b
same_move a b h =
    let p = then_equal (nat_cmp a.from b.from) (ordering_then (nat_cmp a.to b.to) (nat_cmp (promotion_number a.promotion) (promotion_number b.promotion))) h in
    let q = then_equal (nat_cmp a.to b.to) (nat_cmp (promotion_number a.promotion) (promotion_number b.promotion)) p.1 in
    same_parts a b (ranked a.from b.from Equal (sym p.0)) (ranked a.to b.to Equal (sym q.0)) (ranked (promotion_number a.promotion) (promotion_number b.promotion) Equal (sym q.1))

pub same_game : (a b : List Move) → game_cmp a b ≡ Equal → a ≡ b
same_game [] [] h = refl
same_game [] (y ∷ ys) h = absurd (cc)
same_game (x ∷ xs) [] h = absurd (cc)
same_game (x ∷ xs) (y ∷ ys) h =
    let p = then_equal (move_cmp x y) (game_cmp xs ys) h in
    let e : x ≡ y = same_move x y p.0 in
    let f : xs ≡ ys = same_game xs ys p.1 in
    cc

pub not_before_itself : (g : List Move) → game_cmp g g ≡ Less → ⊥
not_before_itself g h = let e : game_cmp g g ≡ Equal = tied_itself game_cmp_total g in cc

-- ---- ascending lists
pub after_before : (a b : List Move) → game_cmp a b ≡ Less → game_cmp b a ≡ Greater
after_before a b h = game_cmp_total.antisymm b a ∙ ap ordering_reverse h

pub before_after : (a b : List Move) → game_cmp a b ≡ Greater → game_cmp b a ≡ Less
before_after a b h = game_cmp_total.antisymm b a ∙ ap ordering_reverse h

pub next_later : (gs : List (List Move)) (k : ℕ) (d : List Move) → IsStrictlySortedBy game_cmp gs → suc k < length gs → game_cmp (get_or gs k d) (get_or gs (suc k) d) ≡ Less
next_later [] k d s l = absurd (omega arith)
next_later (x ∷ xs) zero d s l = sorted_below game_cmp x (get_or xs 0 d) xs s (Contains-get_or xs 0 d (omega arith))
next_later (x ∷ xs) (suc k) d s l = next_later xs k d (sorted_rest game_cmp x xs s) (omega arith)

-- ---- lists of games
ascending_once : (gs : List (List Move)) → IsStrictlySortedBy game_cmp gs → IsOnce gs
unfolding IsOnce
ascending_once [] s = tt
ascending_once (x ∷ xs) s = (λ c. not_before_itself x (sorted_below game_cmp x x xs s c), ascending_once xs (sorted_rest game_cmp x xs s))

pub games_once : (gs : List (List Move)) → IsGames gs → IsOnce gs
games_once gs h = ascending_once gs h.ascends

pub same_games : (gs hs : List (List Move)) → IsGames gs → IsGames hs → ((g : List Move) → Contains gs g ↔ Contains hs g) → gs ≡ hs
same_games gs hs g h same = sorted_same game_cmp game_cmp_total gs hs g.ascends h.ascends (λ x. (same x).0) (λ x. (same x).1)
