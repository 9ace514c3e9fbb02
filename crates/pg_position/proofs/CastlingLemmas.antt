-- The squares between king and rook, and those to which the king castles. Leads to the contracts of `path`, `castling_targets`,
-- `castling_homes` and `Rights::after`.
use Rattle.pg_position.proofs.Common.{Some, ◌+◌, ◌≡◌, ◌≢◌, ◌↔◌, ℕ, ◌<◌, ◌⊎◌, inl, inr, IsTrue, Bool, true, false, not, ◌&&◌, ◌||◌, nat_eq, ltb, None, refl, sym, ap, subst, ◌∙◌, arith, Decides, Decides-ltb, Decides-eqb, Decides-and, Decides-or, Decides-at, Decides-like, Color, White, Black, King, has, bits_below, has-bits_below, other, is_held, Placement, get, rank, Rights, Wing, KingSide, QueenSide, State, Move, IsClear, Attacks, IsBetween, holds, IsSetOf, Meet, IsCastling, touches, rights_after, king_home, rook_home, king_target, IsCastlingHome, set_of_union, set_like}
use Rattle.std.proofs.lemmas.Bool.{ne_eqb}
use Rattle.pg_position.specs.inner.Castling.{IsOpen, IsSafe, IsSafeTo}
use Rattle.pg_position.proofs.AttackLemmas.{not_held}

-- ---- the squares between
-- the least and the greatest of them
unfoldable least : Color → Wing → ℕ
least White KingSide = 5
least White QueenSide = 1
least Black KingSide = 61
least Black QueenSide = 57

unfoldable beyond : Color → Wing → ℕ
beyond White KingSide = 7
beyond White QueenSide = 4
beyond Black KingSide = 63
beyond Black QueenSide = 60

inside : (c : Color) (w : Wing) (q : ℕ) → (least c w < q + 1) × (q < beyond c w) → IsBetween (king_home c) q (rook_home c w)
unfolding IsBetween least beyond
inside White KingSide q (a, b) = let z : rank q ≡ 1 = omega arith in (λ y. omega arith, λ y. omega arith, omega arith, omega arith, inl (inr refl))
inside White QueenSide q (a, b) = let z : rank q ≡ 1 = omega arith in (λ y. omega arith, λ y. omega arith, omega arith, omega arith, inl (inr refl))
inside Black KingSide q (a, b) = let z : rank q ≡ 8 = omega arith in (λ y. omega arith, λ y. omega arith, omega arith, omega arith, inl (inr refl))
inside Black QueenSide q (a, b) = let z : rank q ≡ 8 = omega arith in (λ y. omega arith, λ y. omega arith, omega arith, omega arith, inl (inr refl))

outside : (c : Color) (w : Wing) (q : ℕ) → q < 64 → IsBetween (king_home c) q (rook_home c w) → (least c w < q + 1) × (q < beyond c w)
unfolding IsBetween least beyond
outside White KingSide q low (a, b, u, v, _) = let z : rank q ≡ 1 = omega arith in (omega arith, omega arith)
outside White QueenSide q low (a, b, u, v, _) = let z : rank q ≡ 1 = omega arith in (omega arith, omega arith)
outside Black KingSide q low (a, b, u, v, _) = let z : rank q ≡ 8 = omega arith in (omega arith, omega arith)
outside Black QueenSide q low (a, b, u, v, _) = let z : rank q ≡ 8 = omega arith in (omega arith, omega arith)

unfoldable path_test : Color → Wing → ℕ → Bool
path_test c w q = ltb (least c w) (q + 1) && ltb q (beyond c w)

unfoldable pub path_set : Color → Wing → ℕ
path_set White KingSide = 96
path_set White QueenSide = 14
path_set Black KingSide = 6917529027641081856
path_set Black QueenSide = 1008806316530991104

path_bits : (c : Color) (w : Wing) → path_set c w ≡ bits_below (path_test c w) 64
unfolding path_set path_test bits_below least beyond
path_bits White KingSide = refl
path_bits White QueenSide = refl
path_bits Black KingSide = refl
path_bits Black QueenSide = refl

path_at : (c : Color) (w : Wing) → IsSetOf (path_set c w) (λ q. IsBetween (king_home c) q (rook_home c w))
unfolding path_test
path_at c w q low = Decides-at _ _ (ap (λ n. has n q) (path_bits c w) ∙ has-bits_below (path_test c w) 64 q low)
    (Decides-like (path_test c w q) (inside c w q) (outside c w q low) (Decides-and _ _ (Decides-ltb (least c w) (q + 1)) (Decides-ltb q (beyond c w))))

pub path_is : (c d : Color) (w v : Wing) (n : ℕ) → c ≡ d → w ≡ v → n ≡ path_set d v → IsSetOf n (λ q. IsBetween (king_home c) q (rook_home c w))
path_is c d w v n ec ew e = subst (λ (x : ℕ). IsSetOf x (λ q. IsBetween (king_home c) q (rook_home c w))) (ap₃ ∙ sym e) (path_at c w)
  where
    ap₃ : path_set c w ≡ path_set d v
    ap₃ = (λ i. path_set (ec i) (ew i))

-- a set that meets no man's square
pub clear_is : (b : Placement) (r s n held : ℕ) (t : Bool) → IsSetOf n (λ q. IsBetween r q s) → ((q : ℕ) → q < 64 → has held q ≡ is_held (get b q)) → (IsTrue t ↔ Meet n held) → IsTrue (not t) ↔ IsClear b r s
unfolding IsClear
clear_is b r s n held true is holds meets = (
  λ e. absurd (let f : IsTrue false = e in cc),
  λ clear. (let m : (q : ℕ) × (q < 64) × (has n q ≡ true) × (has held q ≡ true) = meets.0 refl in
      let there : is_held (get b m.0) ≡ true = sym (holds m.0 m.1) ∙ m.3 in
      absurd (not_held (get b m.0) there (clear m.0 m.1 ((is m.0 m.1).0 m.2)))),
)
clear_is b r s n held false is holds meets = (
  λ _ q low between. (elim (get b q) as (λ o. (get b q ≡ o) → o ≡ None) [
    | None ↦ λ _. refl
    | Some m ↦ λ e. absurd (let held_there : has held q ≡ true = holds q low ∙ ap is_held e in let f : IsTrue false = meets.1 (q, low, (is q low).1 between, held_there) in cc)
  ] refl),
  λ _. refl,
)

-- ---- where the king goes
abbrev pub castling_to : State → ℕ → Move
castling_to p q = record { from = king_home p.side; to = q; promotion = None }

module _ (p : State) (short long : Bool) (ks : IsTrue short ↔ IsOpen p KingSide) (ql : IsTrue long ↔ IsOpen p QueenSide) where
  pub castle_set : (a b n : ℕ) → ¬ Attacks p.board (other p.side) (king_home p.side) → IsSetOf a (IsSafeTo p short KingSide) → IsSetOf b (IsSafeTo p long QueenSide) → ((q : ℕ) → has n q ≡ has a q || has b q) → IsSetOf n (λ q. (w : Wing) × IsCastling p King (castling_to p q) w)
  castle_set a b n home f g either = set_like n forth back (set_of_union n a b either f g)
    where
      forth : (q : ℕ) → q < 64 → IsSafeTo p short KingSide q ⊎ IsSafeTo p long QueenSide q → (w : Wing) × IsCastling p King (castling_to p q) w
      forth q low (inl (e, s, (x, y))) = (KingSide, record { unpromoted = refl; king = refl; home = refl; target = e; right = (ks.0 s).0; clear = (ks.0 s).1; safe_home = home; safe_crossed = x; safe_target = y })
      forth q low (inr (e, s, (x, y))) = (QueenSide, record { unpromoted = refl; king = refl; home = refl; target = e; right = (ql.0 s).0; clear = (ql.0 s).1; safe_home = home; safe_crossed = x; safe_target = y })

      back : (q : ℕ) → q < 64 → (w : Wing) × IsCastling p King (castling_to p q) w → IsSafeTo p short KingSide q ⊎ IsSafeTo p long QueenSide q
      back q low (KingSide, h) = inl (h.target, ks.1 (h.right, h.clear), (h.safe_crossed, h.safe_target))
      back q low (QueenSide, h) = inr (h.target, ql.1 (h.right, h.clear), (h.safe_crossed, h.safe_target))

pub target_set : (p : State) (way : Bool) (w : Wing) (safe : Bool) (i n : ℕ) → way ≡ true → safe ≡ true → i ≡ king_target p.side w → IsTrue safe ↔ IsSafe p w → IsSetOf n (λ q. q ≡ i) → IsSetOf n (IsSafeTo p way w)
target_set p way w safe i n on calm e h one = set_like n (λ q l at. (at ∙ e, on, h.0 calm)) (λ q l at. at.0 ∙ sym e) one

-- ---- the rights that a move leaves
-- a square of the mask is no square of a move that does not meet it
untouched : (n homes s : ℕ) (m : Move) → IsSetOf n (λ q. (q ≡ m.from) ⊎ (q ≡ m.to)) → ¬ Meet n homes → s < 64 → has homes s ≡ true → touches m s ≡ false
untouched n homes s m is apart low home =
    let from : m.from ≢ s = (λ e. apart (s, low, (is s low).1 (inl (sym e)), home)) in
    let to : m.to ≢ s = (λ e. apart (s, low, (is s low).1 (inr (sym e)), home)) in
    neither (nat_eq m.from s) (nat_eq m.to s) (ne_eqb m.from s from) (ne_eqb m.to s to)
  where
    neither : (a b : Bool) → a ≡ false → b ≡ false → a || b ≡ false
    neither a b e f = cc

kept : (h a b : Bool) → a ≡ false → b ≡ false → h ≡ (h && not (a || b))
kept true a b e f = cc
kept false a b e f = refl

pub rights_kept : (r : Rights) (m : Move) (n a b homes : ℕ) (t : Bool) → ((q : ℕ) → has n q ≡ has a q || has b q) → IsSetOf homes IsCastlingHome → IsSetOf a (λ q. q ≡ m.from) → IsSetOf b (λ q. q ≡ m.to) → (IsTrue t ↔ Meet n homes) → t ≡ false → r ≡ rights_after r m
rights_kept r m n a b homes t e is f g h off i =
    record {
      white_king = kept r.white_king _ _ (king White) (rook White KingSide) i;
      white_queen = kept r.white_queen _ _ (king White) (rook White QueenSide) i;
      black_king = kept r.black_king _ _ (king Black) (rook Black KingSide) i;
      black_queen = kept r.black_queen _ _ (king Black) (rook Black QueenSide) i;
    }
  where
    home : (s : ℕ) → s < 64 → IsCastlingHome s → touches m s ≡ false
    home s low at = untouched n homes s m (set_of_union n a b e f g) (λ met. (let on : t ≡ true = h.1 met in cc)) low ((is s low).1 at)

    king : (c : Color) → touches m (king_home c) ≡ false
    king White = home 4 (omega arith) (White, inl refl)
    king Black = home 60 (omega arith) (Black, inl refl)

    rook : (c : Color) (w : Wing) → touches m (rook_home c w) ≡ false
    rook White KingSide = home 7 (omega arith) (White, inr (KingSide, refl))
    rook White QueenSide = home 0 (omega arith) (White, inr (QueenSide, refl))
    rook Black KingSide = home 63 (omega arith) (Black, inr (KingSide, refl))
    rook Black QueenSide = home 56 (omega arith) (Black, inr (QueenSide, refl))

-- and its man is no king at home
pub king_stays : (m : Move) (n a b homes : ℕ) (t : Bool) → ((q : ℕ) → has n q ≡ has a q || has b q) → IsSetOf homes IsCastlingHome → IsSetOf a (λ q. q ≡ m.from) → IsSetOf b (λ q. q ≡ m.to) → (IsTrue t ↔ Meet n homes) → t ≡ false → (c : Color) → m.from ≢ king_home c
king_stays m n a b homes t e is f g h off c k =
    let low : king_home c < 64 = king_home_low c in
    let met : Meet n homes = (king_home c, low, (set_of_union n a b e f g (king_home c) low).1 (inl (sym k)), (is (king_home c) low).1 (c, inl refl)) in
    let on : t ≡ true = h.1 met in cc
  where
    king_home_low : (c : Color) → king_home c < 64
    king_home_low White = omega arith
    king_home_low Black = omega arith

pub not_met : (t : Bool) → not t ≡ true → t ≡ false
not_met true e = cc
not_met false e = refl

-- ---- where kings and rooks begin
abbrev home_test : ℕ → Bool
home_test q = (nat_eq q 4 || (nat_eq q 7 || nat_eq q 0)) || (nat_eq q 60 || (nat_eq q 63 || nat_eq q 56))

homes_bits : 10448351135499550865 ≡ bits_below home_test 64
unfolding bits_below
homes_bits = refl

home_forth : (q : ℕ) → ((q ≡ 4) ⊎ ((q ≡ 7) ⊎ (q ≡ 0))) ⊎ ((q ≡ 60) ⊎ ((q ≡ 63) ⊎ (q ≡ 56))) → IsCastlingHome q
home_forth q (inl (inl e)) = (White, inl e)
home_forth q (inl (inr (inl e))) = (White, inr (KingSide, e))
home_forth q (inl (inr (inr e))) = (White, inr (QueenSide, e))
home_forth q (inr (inl e)) = (Black, inl e)
home_forth q (inr (inr (inl e))) = (Black, inr (KingSide, e))
home_forth q (inr (inr (inr e))) = (Black, inr (QueenSide, e))

home_back : (q : ℕ) → IsCastlingHome q → ((q ≡ 4) ⊎ ((q ≡ 7) ⊎ (q ≡ 0))) ⊎ ((q ≡ 60) ⊎ ((q ≡ 63) ⊎ (q ≡ 56)))
home_back q (White, inl e) = inl (inl e)
home_back q (White, inr (KingSide, e)) = inl (inr (inl e))
home_back q (White, inr (QueenSide, e)) = inl (inr (inr e))
home_back q (Black, inl e) = inr (inl e)
home_back q (Black, inr (KingSide, e)) = inr (inr (inl e))
home_back q (Black, inr (QueenSide, e)) = inr (inr (inr e))

pub homes_at : IsSetOf 10448351135499550865 IsCastlingHome
homes_at q low = Decides-at _ _ (ap (λ n. has n q) homes_bits ∙ has-bits_below home_test 64 q low) (Decides-like (home_test q) (home_forth q) (home_back q) (Decides-or _ _ (three 4 7 0) (three 60 63 56)))
  where
    three : (a b c : ℕ) → Decides (nat_eq q a || (nat_eq q b || nat_eq q c)) ((q ≡ a) ⊎ ((q ≡ b) ⊎ (q ≡ c)))
    three a b c = Decides-or _ _ (Decides-eqb q a) (Decides-or _ _ (Decides-eqb q b) (Decides-eqb q c))
