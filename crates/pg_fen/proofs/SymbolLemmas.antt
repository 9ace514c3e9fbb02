-- One character of a rank: what it spells by the grammar is what reading makes of it.
use Rattle.pg_fen.proofs.Common.{◌≡◌, ℕ, ◌+◌, ◌-◌, ◌≤◌, ◌<◌, Bool, true, false, cond, ◌⊎◌, inl, inr, List, [], ◌∷◌, length, replicate, Option, Some, None, refl, sym, ap, ◌∙◌, arith, ◌==◌, nat_lt, is_some, option_map, to_ascii_uppercase, nat_tests, length-replicate, Man, Kind, Pawn, Knight, Bishop, Rook, Queen, King, Color, White, Black, man, each_kind, each_man, letter_of, letter_of_kind, in_case, kind_of_letter, man_of, is_run, is_slash, width_of, is_letter, square_with, squares_of, IsSymbol}

-- what reading makes of a byte that spells some squares
pub record IsRead (b : ℕ) (cells : List (Option Man)) : Type 0 where
  pub slash : is_slash b ≡ false
  pub letter : is_letter b ≡ true
  pub width : width_of b ≡ length cells
  pub board : squares_of b ≡ cells

letter_read : (c : Color) (k : Kind) → IsRead (letter_of (man c k)) (Some (man c k) ∷ [])
letter_read c k = record {
  slash = each_man (λ c k. is_slash (letter_of (man c k)) ≡ false) (refl, refl, refl, refl, refl, refl) (refl, refl, refl, refl, refl, refl) c k;
  letter = each_man (λ c k. is_letter (letter_of (man c k)) ≡ true) (refl, refl, refl, refl, refl, refl) (refl, refl, refl, refl, refl, refl) c k;
  width = each_man (λ c k. width_of (letter_of (man c k)) ≡ 1) (refl, refl, refl, refl, refl, refl) (refl, refl, refl, refl, refl, refl) c k;
  board = each_man (λ c k. squares_of (letter_of (man c k)) ≡ Some (man c k) ∷ []) (refl, refl, refl, refl, refl, refl) (refl, refl, refl, refl, refl, refl) c k;
}

pub man_read : (m : Man) → IsRead (letter_of m) (Some m ∷ [])
man_read m = letter_read m.color m.kind

pub run_read : (n : ℕ) → 1 ≤ n → n ≤ 8 → IsRead (48 + n) (replicate n None)
run_read n pos le =
    let run : is_run (48 + n) ≡ true = grind (arith, nat_tests) in
    let s : is_slash (48 + n) ≡ false = grind (arith, nat_tests) in
    let k : 48 + n - 48 ≡ n = omega arith in
    let w : width_of (48 + n) ≡ length (replicate {A = Option Man} n None) = rw (run, k, length-replicate {A = Option Man} n None) refl in
    record { slash = s; letter = rw run refl; width = w; board = rw (run, k) refl }

-- a symbol of the grammar is read as what it spells
pub symbol_read : (b : ℕ) (cells : List (Option Man)) → IsSymbol b cells → IsRead b cells
symbol_read b cells (inl h) = rw (h.3, h.4) (run_read h.0 h.1 h.2)
symbol_read b cells (inr h) = rw (h.1, h.2) (man_read h.0)

-- ---- back: a byte that is read is a symbol
kind_step : (t : Bool) (k j : Kind) (o : Option Kind) → cond t (Some k) o ≡ Some j → ((t ≡ true) × (k ≡ j)) ⊎ (o ≡ Some j)
kind_step true k j o e = inl (refl, cc)
kind_step false k j o e = inr e

is_letter_at : (b n : ℕ) (k j : Kind) → letter_of_kind k ≡ n → (b == n) ≡ true → k ≡ j → b ≡ letter_of_kind j
is_letter_at b n k j l t e =
    let same : b ≡ n = grind (arith, nat_tests) in
    same ∙ sym l ∙ ap letter_of_kind e

-- a kind is read of its letter alone
kind_back : (b : ℕ) (j : Kind) → kind_of_letter b ≡ Some j → b ≡ letter_of_kind j
kind_back b j e = pawn (kind_step (b == 80) Pawn j _ e)
  where
    none : None ≡ Some j → b ≡ letter_of_kind j
    none e = absurd cc

    king : (((b == 75) ≡ true) × (King ≡ j)) ⊎ (None ≡ Some j) → b ≡ letter_of_kind j
    king (inl h) = is_letter_at b 75 King j refl h.0 h.1
    king (inr e) = none e

    queen : (((b == 81) ≡ true) × (Queen ≡ j)) ⊎ (cond (b == 75) (Some King) None ≡ Some j) → b ≡ letter_of_kind j
    queen (inl h) = is_letter_at b 81 Queen j refl h.0 h.1
    queen (inr e) = king (kind_step (b == 75) King j None e)

    rook : (((b == 82) ≡ true) × (Rook ≡ j)) ⊎ (cond (b == 81) (Some Queen) (cond (b == 75) (Some King) None) ≡ Some j) → b ≡ letter_of_kind j
    rook (inl h) = is_letter_at b 82 Rook j refl h.0 h.1
    rook (inr e) = queen (kind_step (b == 81) Queen j _ e)

    bishop : (((b == 66) ≡ true) × (Bishop ≡ j)) ⊎ (cond (b == 82) (Some Rook) (cond (b == 81) (Some Queen) (cond (b == 75) (Some King) None)) ≡ Some j) → b ≡ letter_of_kind j
    bishop (inl h) = is_letter_at b 66 Bishop j refl h.0 h.1
    bishop (inr e) = rook (kind_step (b == 82) Rook j _ e)

    knight : (((b == 78) ≡ true) × (Knight ≡ j)) ⊎ (cond (b == 66) (Some Bishop) (cond (b == 82) (Some Rook) (cond (b == 81) (Some Queen) (cond (b == 75) (Some King) None))) ≡ Some j) → b ≡ letter_of_kind j
    knight (inl h) = is_letter_at b 78 Knight j refl h.0 h.1
    knight (inr e) = bishop (kind_step (b == 66) Bishop j _ e)

    pawn : (((b == 80) ≡ true) × (Pawn ≡ j)) ⊎ (cond (b == 78) (Some Knight) (cond (b == 66) (Some Bishop) (cond (b == 82) (Some Rook) (cond (b == 81) (Some Queen) (cond (b == 75) (Some King) None)))) ≡ Some j) → b ≡ letter_of_kind j
    pawn (inl h) = is_letter_at b 80 Pawn j refl h.0 h.1
    pawn (inr e) = knight (kind_step (b == 78) Knight j _ e)

is_capital : (k : Kind) → (66 ≤ letter_of_kind k) × (letter_of_kind k < 91)
is_capital = each_kind (λ k. (66 ≤ letter_of_kind k) × (letter_of_kind k < 91)) ((omega arith, omega arith), (omega arith, omega arith), (omega arith, omega arith), (omega arith, omega arith), (omega arith, omega arith), (omega arith, omega arith))

small_of : (k : Kind) → in_case Black (letter_of_kind k) ≡ letter_of_kind k + 32
small_of = each_kind (λ k. in_case Black (letter_of_kind k) ≡ letter_of_kind k + 32) (refl, refl, refl, refl, refl, refl)

capital_at : (b n : ℕ) → to_ascii_uppercase b ≡ n → b < 97 → b ≡ n
capital_at b n e lt = grind (arith, nat_tests)

small_at : (b n : ℕ) → to_ascii_uppercase b ≡ n → 66 ≤ n → n < 91 → 97 ≤ b → b ≡ n + 32
small_at b n e le lt ge = grind (arith, nat_tests)

man_by : (b : ℕ) (t : Bool) (k : Kind) → nat_lt b 97 ≡ t → to_ascii_uppercase b ≡ letter_of_kind k → b ≡ letter_of (man (cond t White Black) k)
man_by b true k t e = capital_at b (letter_of_kind k) e (grind (arith, nat_tests))
man_by b false k t e =
    let ge : 97 ≤ b = grind (arith, nat_tests) in
    small_at b (letter_of_kind k) e (is_capital k).0 (is_capital k).1 ge ∙ sym (small_of k)

man_from : (b : ℕ) (o : Option Kind) (m : Man) → kind_of_letter (to_ascii_uppercase b) ≡ o → option_map (λ k. man (cond (nat_lt b 97) White Black) k) o ≡ Some m → b ≡ letter_of m
man_from b None m e h = absurd cc
man_from b (Some k) m e h =
    let is : ◌≡◌ {A = Man} (man (cond (nat_lt b 97) White Black) k) m = cc in
    man_by b (nat_lt b 97) k refl (kind_back (to_ascii_uppercase b) k e) ∙ ap letter_of is

-- a man is read of its letter alone
pub man_back : (b : ℕ) (m : Man) → man_of b ≡ Some m → b ≡ letter_of m
man_back b m e = man_from b (kind_of_letter (to_ascii_uppercase b)) m refl e

man_symbol : (b : ℕ) (o : Option Man) → man_of b ≡ o → is_some o ≡ true → IsSymbol b (square_with o)
man_symbol b None e h = absurd cc
man_symbol b (Some m) e h = inr (m, man_back b m e, refl)

symbol_by : (b : ℕ) (t : Bool) → is_run b ≡ t → is_letter b ≡ true → is_slash b ≡ false → IsSymbol b (cond t (replicate (b - 48) None) (square_with (man_of b)))
symbol_by b true r l s =
    let low : 1 ≤ b - 48 = grind (arith, nat_tests) in
    let high : b - 48 ≤ 8 = grind (arith, nat_tests) in
    let e : b ≡ 48 + (b - 48) = omega arith in
    inl (b - 48, low, high, e, refl)
symbol_by b false r l s =
    let m : is_some (man_of b) ≡ true = rw (r, s) at l in
    man_symbol b (man_of b) refl m

pub read_symbol : (b : ℕ) → is_letter b ≡ true → is_slash b ≡ false → IsSymbol b (squares_of b)
read_symbol b l s = symbol_by b (is_run b) refl l s
