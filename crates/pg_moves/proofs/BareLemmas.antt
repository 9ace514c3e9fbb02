-- The king with none of his own men on the board: where he is not attacked then, no man of his shelters him.
use Rattle.pg_moves.proofs.Common.{◌≡◌, ◌≢◌, ℕ, ◌<◌, inl, inr, Option, Some, None, true, false, cond, ◌&&◌, refl, sym, ap, subst, ◌∙◌, eqb_tells, Color, White, Black, Kind, Pawn, Knight, Bishop, Rook, Queen, King, Man, man, other, color_eq, kind_eq, is_of, is_man, is_kind, king_of, has, Placement, get, without, IsFirst, get_on, get-write_same, get-write_other, State, IsBetween, IsSetOf, IsClear, AttacksFrom, Attacks, Stands, IsPosition, IsOnlyKing, IsOwn, FreeOff, only}
use Rattle.pg_board.specs.declared.sets.Sets.{Sets}
use Rattle.pg_board.specs.inner.Sets.{Shows, AreWords, IsSound, man_in, shown, shows_itself}
use Rattle.pg_moves.proofs.OnlyLemmas.{only_kept, only_other}
use Rattle.pg_moves.proofs.LeafLemmas.{free_lifted, the_king}

-- ---- a board of one colour's men
kept_kind : (f : Color) (k : Kind) (o : Option Man) → is_man (man f k) o ≡ is_kind k (only f o)
kept_kind f k None = refl
kept_kind f k (Some m) = elim (color_eq m.color f) as (λ v. (color_eq m.color f ≡ v) → is_man (man f k) (Some m) ≡ is_kind k (cond v (Some m) None)) [
  | true ↦ λ e. ap (λ v. v && kind_eq m.kind k) e
  | false ↦ λ e. ap (λ v. v && kind_eq m.kind k) e
] refl

module _ (b : Placement) (f : Color) (s : Sets)
    (pawns : (q : ℕ) → q < 64 → has s.pawns q ≡ is_man (man f Pawn) (get b q))
    (knights : (q : ℕ) → q < 64 → has s.knights q ≡ is_man (man f Knight) (get b q))
    (bishops : (q : ℕ) → q < 64 → has s.bishops q ≡ is_man (man f Bishop) (get b q))
    (rooks : (q : ℕ) → q < 64 → has s.rooks q ≡ is_man (man f Rook) (get b q))
    (queens : (q : ℕ) → q < 64 → has s.queens q ≡ is_man (man f Queen) (get b q))
    (kings : (q : ℕ) → q < 64 → has s.kings q ≡ is_man (man f King) (get b q))
    (white : (q : ℕ) → q < 64 → has s.white q ≡ is_of White (only f (get b q)))
    (black : (q : ℕ) → q < 64 → has s.black q ≡ is_of Black (only f (get b q))) where
  shows_only : (q : ℕ) → q < 64 → Shows s q (only f (get b q))
  shows_only q l = record {
    pawns = pawns q l ∙ kept_kind f Pawn (get b q);
    knights = knights q l ∙ kept_kind f Knight (get b q);
    bishops = bishops q l ∙ kept_kind f Bishop (get b q);
    rooks = rooks q l ∙ kept_kind f Rook (get b q);
    queens = queens q l ∙ kept_kind f Queen (get b q);
    kings = kings q l ∙ kept_kind f King (get b q);
    white = white q l;
    black = black q l;
  }

  pub sound_only : AreWords s → IsSound s
  sound_only words = record { words = words; shows = λ q l. shows_itself s q _ (shows_only q l) }

  pub get_only : (r : Placement) → ((q : ℕ) → q < 64 → get r q ≡ man_in s q) → (q : ℕ) → q < 64 → get r q ≡ only f (get b q)
  get_only r is q l = is q l ∙ shown s q _ (shows_only q l)

-- ---- no shelter
-- men of its own only shelter the square
pub bare_lifted : (b e : Placement) (c : Color) (h : ℕ) → ((q : ℕ) → q < 64 → get e q ≡ only (other c) (get b q)) → ¬ Attacks e (other c) h → (r : ℕ) → IsOwn b c r → ¬ Attacks (without b r) (other c) h
unfolding Attacks AttacksFrom IsClear IsOwn
bare_lifted b e c h bare safe r (k, here) (x, low, (j, at, (pattern, clear))) =
    let m : Man = man (other c) j in
    let on : r < 64 = get_on b r (man c k) here in
    let not_r : x ≢ r = (λ f. let there : get (without b r) r ≡ Some m = subst (λ y. get (without b r) y ≡ Some m) f at in let none : get (without b r) r ≡ None = get-write_same b r None on in cc) in
    let before : get b x ≡ Some m = sym (get-write_other b r None x not_r) ∙ at in
    let there : get e x ≡ Some m = bare x low ∙ ap (only (other c)) before ∙ only_kept (other c) m refl in
    let open_line : (t : ℕ) → t < 64 → IsBetween x t h → get e t ≡ None = (λ t l bet. elim (eqb_tells t r) [
      | inl w ↦ bare t l ∙ ap (only (other c)) (ap (get b) w.1 ∙ here) ∙ only_other c k
      | inr w ↦ bare t l ∙ ap (only (other c)) (sym (get-write_other b r None t w.1) ∙ clear t l bet)
    ]) in
    safe (x, low, (j, there, (pattern, open_line)))

-- then the king alone is to be tried
pub free_bare : (p : State) (b : Placement) (c : Color) (h : ℕ) → IsPosition p → b ≡ p.board → c ≡ p.side → IsFirst b (king_of c) h → (n : ℕ) → IsSetOf n (λ q. q ≡ h) → ((r : ℕ) → IsOwn b c r → ¬ Attacks (without b r) (other c) h) → FreeOff p n
unfolding FreeOff IsOwn IsOnlyKing
free_bare p b c h pos eb ec first n at bare k r low here off =
    let king : IsOnlyKing p.board p.side h = the_king p b c h pos eb ec first in
    let apart : r ≢ h = (λ e. let is : has n r ≡ true = (at r low).1 e in cc) in
    let no_king : k ≢ King = (λ e. apart (king.2 r low (subst (λ (j : Kind). Stands p.board p.side j r) e here))) in
    let own : Stands b c k r = subst (λ (d : Placement). Stands d c k r) (sym eb) (subst (λ (d : Color). Stands p.board d k r) (sym ec) here) in
    free_lifted p b c h pos eb ec first k r low here no_king (bare r (k, own))
