-- One text is written for each legal move of a position.
use Rattle.pg_san.proofs.Common.{◌≡◌, ◌≢◌, ℕ, ◌+◌, arith, Bool, true, false, List, ◌++◌, Option, Some, None, refl, sym, ap, subst, ◌∙◌, inl, inr, Kind, Pawn, Knight, Bishop, Rook, Queen, King, file, State, Move, IsPosition, one_result, same_kind, KingSide, QueenSide, Core, Form, Castles, Moves, GoesTwo, form_text, HasRival, IsHint, IsCore, IsForm, IsSignOf, IsSan}
use Rattle.pg_san.specs.declared.rivals.Among.TheVariants.{Anywhere, SameFile}
use Rattle.pg_san.proofs.MoveLemmas.{castling_two}
use Rattle.pg_san.proofs.SpellLemmas.{same_core}

-- a rival on the mover's file is one anywhere
rival_anywhere : (p : State) (k : Kind) (m : Move) → HasRival p k m SameFile → HasRival p k m Anywhere
unfolding HasRival
rival_anywhere p k m (n, on, r) = (n, tt, r)

record SameHint (a b a' b' : Option ℕ) : Type 0 where
  file_is : a ≡ a'
  rank_is : b ≡ b'

one_hint : (p : State) (k : Kind) (m : Move) (a b a' b' : Option ℕ) → IsHint p k m a b → IsHint p k m a' b' → SameHint a b a' b'
one_hint p k m None None None None h g = record { file_is = refl; rank_is = refl }
one_hint p k m None None (Some f) None h g = absurd (h g.0)
one_hint p k m None None None (Some r) h g = absurd (h (rival_anywhere p k m g.0))
one_hint p k m None None (Some f) (Some r) h g = absurd (h (rival_anywhere p k m g.0))
one_hint p k m (Some f) None None None h g = absurd (g h.0)
one_hint p k m (Some f) None (Some f') None h g = record { file_is = ap Some (h.2 ∙ sym g.2); rank_is = refl }
one_hint p k m (Some f) None None (Some r) h g = absurd (h.1 g.0)
one_hint p k m (Some f) None (Some f') (Some r) h g = absurd (h.1 g.0)
one_hint p k m None (Some r) None None h g = absurd (g (rival_anywhere p k m h.0))
one_hint p k m None (Some r) (Some f) None h g = absurd (g.1 h.0)
one_hint p k m None (Some r) None (Some r') h g = record { file_is = refl; rank_is = ap Some (h.2 ∙ sym g.2) }
one_hint p k m None (Some r) (Some f) (Some r') h g = absurd (h.1 g.1)
one_hint p k m (Some f) (Some r) None None h g = absurd (g (rival_anywhere p k m h.0))
one_hint p k m (Some f) (Some r) (Some f') None h g = absurd (g.1 h.0)
one_hint p k m (Some f) (Some r) None (Some r') h g = absurd (g.1 h.1)
one_hint p k m (Some f) (Some r) (Some f') (Some r') h g = record { file_is = ap Some (h.2 ∙ sym g.2); rank_is = ap Some (h.3 ∙ sym g.3) }

piece_hint : (p : State) (k : Kind) (m : Move) (c d : Core) → k ≢ Pawn → IsCore p k m c → IsCore p k m d → SameHint c.file c.rank d.file d.rank
piece_hint p k m c d other h g = one_hint p k m c.file c.rank d.file d.rank (h.other_is other) (g.other_is other)

core_hint : (p : State) (k : Kind) (m : Move) (c d : Core) → IsCore p k m c → IsCore p k m d → SameHint c.file c.rank d.file d.rank
core_hint p Pawn m c d h g = record { file_is = (h.pawn_is refl).0 ∙ sym (g.pawn_is refl).0; rank_is = (h.pawn_is refl).1 ∙ sym (g.pawn_is refl).1 }
core_hint p Knight m c d h g = piece_hint p Knight m c d (λ e. cc) h g
core_hint p Bishop m c d h g = piece_hint p Bishop m c d (λ e. cc) h g
core_hint p Rook m c d h g = piece_hint p Rook m c d (λ e. cc) h g
core_hint p Queen m c d h g = piece_hint p Queen m c d (λ e. cc) h g
core_hint p King m c d h g = piece_hint p King m c d (λ e. cc) h g

same_test : (s t : Bool) → (s ≡ true → t ≡ true) → (t ≡ true → s ≡ true) → s ≡ t
same_test true t f g = sym (f refl)
same_test false true f g = g refl
same_test false false f g = refl

one_core : (p : State) (k : Kind) (m : Move) (c d : Core) → IsCore p k m c → IsCore p k m d → c ≡ d
one_core p k m c d h g =
    let s = core_hint p k m c d h g in
    same_core c d (h.kind_is ∙ sym g.kind_is) s.file_is s.rank_is (h.target_is ∙ sym g.target_is) (same_test c.takes d.takes (λ e. g.takes_is.1 (h.takes_is.0 e)) (λ e. h.takes_is.1 (g.takes_is.0 e))) (h.promotion_is ∙ sym g.promotion_is)

not_both_ways : (r s : ℕ) → GoesTwo KingSide r s → GoesTwo QueenSide r s → ⊥
not_both_ways r s a b = let e : file s ≡ file r + 2 = a in let f : file r ≡ file s + 2 = b in omega arith

one_form : (p : State) (k : Kind) (m : Move) (a b : Form) → IsForm p k m a → IsForm p k m b → a ≡ b
one_form p k m (Castles KingSide) (Castles KingSide) h g = refl
one_form p k m (Castles QueenSide) (Castles QueenSide) h g = refl
one_form p k m (Castles KingSide) (Castles QueenSide) h g = absurd (not_both_ways m.from m.to (castling_two p k m KingSide h) (castling_two p k m QueenSide g))
one_form p k m (Castles QueenSide) (Castles KingSide) h g = absurd (not_both_ways m.from m.to (castling_two p k m KingSide g) (castling_two p k m QueenSide h))
one_form p k m (Castles c) (Moves core) h g = absurd (g.0 c h)
one_form p k m (Moves core) (Castles c) h g = absurd (h.0 c g)
one_form p k m (Moves c) (Moves d) h g = ap Moves (one_core p k m c d h.1 g.1)

one_sign : (q : State) (s t : List ℕ) → IsSignOf q s → IsSignOf q t → s ≡ t
one_sign q s t (inl h) (inl g) = h.1 ∙ sym g.1
one_sign q s t (inl h) (inr (inl g)) = absurd (h.0 g.0)
one_sign q s t (inl h) (inr (inr g)) = absurd (h.0 g.0)
one_sign q s t (inr (inl h)) (inl g) = absurd (g.0 h.0)
one_sign q s t (inr (inl h)) (inr (inl g)) = h.2 ∙ sym g.2
one_sign q s t (inr (inl h)) (inr (inr g)) = absurd (g.1 h.1)
one_sign q s t (inr (inr h)) (inl g) = absurd (g.0 h.0)
one_sign q s t (inr (inr h)) (inr (inl g)) = absurd (h.1 g.1)
one_sign q s t (inr (inr h)) (inr (inr g)) = h.2 ∙ sym g.2

pub one_text : (p : State) (m : Move) (s t : List ℕ) → IsPosition p → IsSan p m s → IsSan p m t → s ≡ t
one_text p m s t pos h g =
    let k : g.kind ≡ h.kind = same_kind g.stands h.stands in
    let f : IsForm p h.kind m g.form = subst (λ (j : Kind). IsForm p j m g.form) k g.form_is in
    let form : h.form ≡ g.form = one_form p h.kind m h.form g.form h.form_is f in
    let after : g.after ≡ h.after = one_result p m g.after h.after pos g.legal h.legal in
    let sign : h.sign ≡ g.sign = one_sign h.after h.sign g.sign h.sign_is (subst (λ (q : State). IsSignOf q g.sign) after g.sign_is) in
    h.spelled ∙ ap (λ (x : Form). form_text h.kind x ++ h.sign) form ∙ ap (λ (x : List ℕ). form_text h.kind g.form ++ x) sign ∙ ap (λ (j : Kind). form_text j g.form ++ g.sign) (sym k) ∙ sym g.spelled
