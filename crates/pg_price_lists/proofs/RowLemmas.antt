-- What the rows are. Leads to the contracts of Prices.
use Rattle.std.proofs.Common.{◌≡◌, ℕ, zero, suc, ◌<◌, ◌≤◌, [], take, refl, ap, arith}
use Rattle.pg_price_lists.specs.declared.prices.Row.{Row}
use Rattle.pg_price_lists.specs.PriceLists.{PriceList, list_of}
use Rattle.pg_price_lists.specs.PriceRecords.{u_at, v_at, list_at}
use Rattle.pg_price_lists.specs.inner.Rows.{rows, row_list}

past : (n a b i : ℕ) (x y z : Row) → n ≤ 3 → n ≤ i → list_at (rows n a b x y z) i ≡ list_of [] []
past zero a b i x y z l h = refl
past (suc n) a b zero x y z l h = absurd (omega arith)
past (suc zero) a b (suc i) x y z l h = refl
past (suc (suc n)) a b (suc zero) x y z l h = absurd (omega arith)
past (suc (suc zero)) a b (suc (suc i)) x y z l h = refl
past (suc (suc (suc n))) a b (suc (suc zero)) x y z l h = absurd (omega arith)
past (suc (suc (suc zero))) a b (suc (suc (suc i))) x y z l h = refl
past (suc (suc (suc (suc n)))) a b (suc (suc (suc i))) x y z l h = absurd (omega arith)

second : (n a b : ℕ) (x y z : Row) → 1 < n → list_at (rows n a b x y z) 1 ≡ row_list a b y
second zero a b x y z l = absurd (omega arith)
second (suc zero) a b x y z l = absurd (omega arith)
second (suc (suc n)) a b x y z l = refl

pub past_u : (n a b i : ℕ) (x y z : Row) → n ≤ 3 → n ≤ i → u_at (rows n a b x y z) i ≡ []
past_u n a b i x y z l h = ap (λ (p : PriceList). p.u) (past n a b i x y z l h)

pub past_v : (n a b i : ℕ) (x y z : Row) → n ≤ 3 → n ≤ i → v_at (rows n a b x y z) i ≡ []
past_v n a b i x y z l h = ap (λ (p : PriceList). p.v) (past n a b i x y z l h)

pub second_u : (n a b : ℕ) (x y z : Row) → 1 < n → u_at (rows n a b x y z) 1 ≡ take a y.u
second_u n a b x y z l = ap (λ (p : PriceList). p.u) (second n a b x y z l)

pub second_v : (n a b : ℕ) (x y z : Row) → 1 < n → v_at (rows n a b x y z) 1 ≡ take b y.v
second_v n a b x y z l = ap (λ (p : PriceList). p.v) (second n a b x y z l)
