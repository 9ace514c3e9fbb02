-- The squares of a file and of a rank, by tables; and which move may leave a square, as a text says.
use Rattle.pg_san.proofs.Common.{◌≡◌, ℕ, zero, suc, ◌<◌, ◌&&◌, Bool, true, Option, Some, None, List, get_or, eqb, refl, sym, ap, ◌∙◌, subst, IfSome, Decides-below_and, Decides-eqb, Kind, has, bits_below, has-bits_below, file, rank, Color, King, Wing, State, Move, Stands, king_target, Legal, IsLegal, IsCastling, Core, Form, Castles, Moves, Said, FitsCore, FitsForm, Fits, HoldsSources, IsOnlyFrom, NoneLeaves}
use Rattle.pg_board.specs.Placement.{Placement as Board}
use Rattle.pg_san.specs.declared.sources.TheConstants.{FILES, RANKS}
use Rattle.pg_san.proofs.MoveLemmas.{same_move}

unfoldable all_below : (ℕ → Bool) → ℕ → Bool
all_below p zero = true
all_below p (suc n) = p n && all_below p n

-- each of the first nine entries of the table, n, has the squares whose number is n
unfoldable is_table : List ℕ → (ℕ → ℕ) → Bool
is_table t f = all_below (λ n. eqb (get_or t n 0) (bits_below (λ q. eqb (f q) n) 64)) 9

entry : (t : List ℕ) (f : ℕ → ℕ) → is_table t f ≡ true → (n i q : ℕ) → i ≡ n → n < 9 → q < 64 → f q ≡ n → has (get_or t i 0) q ≡ true
unfolding is_table all_below
entry t f h n i q s l k e =
    let all = Decides-below_and (λ n. eqb (get_or t n 0) (bits_below (λ q. eqb (f q) n) 64)) (λ n. get_or t n 0 ≡ bits_below (λ q. eqb (f q) n) 64) (all_below (λ n. eqb (get_or t n 0) (bits_below (λ q. eqb (f q) n) 64))) (λ n. Decides-eqb (get_or t n 0) (bits_below (λ q. eqb (f q) n) 64)) refl (λ _. refl) 9 in
    ap (λ j. has (get_or t j 0) q) s ∙ ap (λ n. has n q) (all.0 h n l) ∙ has-bits_below (λ q. eqb (f q) n) 64 q k ∙ (Decides-eqb (f q) n).1 e

files_are : is_table FILES file ≡ true
unfolding is_table all_below bits_below
files_are = refl

ranks_are : is_table RANKS rank ≡ true
unfolding is_table all_below bits_below
ranks_are = refl

pub file_at : (n i q : ℕ) → i ≡ n → n < 9 → q < 64 → file q ≡ n → has (get_or FILES i 0) q ≡ true
file_at n i q s l k e = entry FILES file files_are n i q s l k e

pub rank_at : (n i q : ℕ) → i ≡ n → n < 9 → q < 64 → rank q ≡ n → has (get_or RANKS i 0) q ≡ true
rank_at n i q s l k e = entry RANKS rank ranks_are n i q s l k e

-- ---- the move that leaves a square, as a text says
pub castles_only : (p : State) (said : Said) (from to : ℕ) (wing : Wing) → said.form ≡ Castles wing → to ≡ king_target p.side wing → IsOnlyFrom p said from (record { from = from; to = to; promotion = None })
unfolding Fits
castles_only p said from to wing form target = record {
  from_is = refl;
  only = λ n here fits.
      (let h : IsCastling p fits.0 n wing = subst (λ (x : Form). FitsForm p x fits.0 n) form fits.1.form_fits in
      same_move n (record { from = from; to = to; promotion = None }) here (h.target ∙ sym target) h.unpromoted);
}

pub core_only : (p : State) (said : Said) (from : ℕ) (core : Core) → said.form ≡ Moves core → IsOnlyFrom p said from (record { from = from; to = core.target; promotion = core.promotion })
unfolding Fits
core_only p said from core form = record {
  from_is = refl;
  only = λ n here fits.
      (let h : FitsCore p core fits.0 n = subst (λ (x : Form). FitsForm p x fits.0 n) form fits.1.form_fits in
      same_move n (record { from = from; to = core.target; promotion = core.promotion }) here h.target_fits h.promotion_fits);
}

pub fit_not_said : (p : State) (said : Said) (from : ℕ) (m : Move) → IsOnlyFrom p said from m → (Fits p said m → ⊥) → NoneLeaves p said from
unfolding NoneLeaves
fit_not_said p said from m only off = λ n l here fits. off (subst (Fits p said) (only.only n here fits) fits)

pub fit_not_legal : (p : State) (said : Said) (from : ℕ) (m : Move) → IsOnlyFrom p said from m → ((q : State) → Legal p m q → ⊥) → NoneLeaves p said from
unfolding NoneLeaves
fit_not_legal p said from m only off = λ n l here fits. (let k : IsLegal p m = subst (IsLegal p) (only.only n here fits) l in off k.0 k.1)

-- ---- the squares of the men that a text may mean
-- the set has the squares of the colour's men of the kind that is said
abbrev pub HoldsKind : Board → Color → Option Kind → ℕ → Type 0
HoldsKind b c said set = (k : Kind) (q : ℕ) → q < 64 → IfSome said (λ j. j ≡ k) → Stands b c k q → has set q ≡ true

pub castling_sources : (p : State) (said : Said) (b : Board) (c : Color) (wing : Wing) (set : ℕ) → said.form ≡ Castles wing → b ≡ p.board → c ≡ p.side → HoldsKind b c (Some King) set → HoldsSources p said set
unfolding HoldsSources Fits
castling_sources p said b c wing set form board side holds = λ n low fits.
    (let h : IsCastling p fits.0 n wing = subst (λ (x : Form). FitsForm p x fits.0 n) form fits.1.form_fits in
    let stands : Stands b c fits.0 n.from = rw (board, side) fits.1.stands in
    holds fits.0 n.from low (sym h.king) stands)

pub core_sources : (p : State) (said : Said) (core : Core) (set : ℕ) → said.form ≡ Moves core → ((k : Kind) (n : Move) → n.from < 64 → Stands p.board p.side k n.from → FitsCore p core k n → has set n.from ≡ true) → HoldsSources p said set
unfolding HoldsSources Fits
core_sources p said core set form holds = λ n low fits.
    (let h : FitsCore p core fits.0 n = subst (λ (x : Form). FitsForm p x fits.0 n) form fits.1.form_fits in
    holds fits.0 n low fits.1.stands h)
