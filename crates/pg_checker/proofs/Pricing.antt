-- What the tests by prices and by futures answer. Leads to the contracts of `files_exclude` and `stands_for`.
use Rattle.pg_checker.proofs.Common.{◌≡◌, ◌↔◌, ℕ, Bool, List, [], ◌∷◌, length, IsTrue, subst, arith, same_from_decides, Color, Placement, State, SameFuture, PriceList, list_of, pawn_prices_test_is, stands_for, files_by}
use Rattle.pg_pawns.specs.PawnPrices.{PawnPricesExclude}
use Rattle.pg_price_lists.specs.PriceRecords.{u_at, v_at}
use Rattle.pg_checker.proofs.Chess.{stands_future}

-- in version 2 the answer is that of the futures
pub future_said : (version : ℕ) (q p : State) (b : Bool) → version ≡ 2 → IsTrue b ↔ SameFuture q p → b ≡ stands_for version q p
future_said version q p b is h = same_from_decides b (stands_for version q p) h (stands_future version is q p)

one_list : (d : Placement) (p : State) (color : Color) (prices : List PriceList) (b : Bool) → length prices ≡ 1 → IsTrue b ↔ PawnPricesExclude d p color (list_of (u_at prices 0) (v_at prices 0)) → b ≡ files_by d p color prices
one_list d p color [] b e h = absurd (omega (arith, e))
one_list d p color (l ∷ []) b e h = pawn_prices_test_is d p color l b h
one_list d p color (l ∷ (m ∷ ls)) b e h = absurd (omega (arith, e))

-- where there is one list, the answer is that of its test
pub files_said : (d : Placement) (p : State) (color : Color) (prices : List PriceList) (u v : List ℕ) (b : Bool) → length prices ≡ 1 → u ≡ u_at prices 0 → v ≡ v_at prices 0 → IsTrue b ↔ PawnPricesExclude d p color (list_of u v) → b ≡ files_by d p color prices
files_said d p color prices u v b e us vs h = one_list d p color prices b e (subst (λ (l : PriceList). IsTrue b ↔ PawnPricesExclude d p color l) (λ i. list_of (us i) (vs i)) h)
