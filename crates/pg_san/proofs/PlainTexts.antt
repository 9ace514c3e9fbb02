-- A text without a man's letter, as reading takes it apart: a source of which parts may be missing, a target and a promotion. It is a
-- pawn's text or a text with two squares, and each of these is one.
use Rattle.pg_san.proofs.Common.{◌≡◌, ℕ, ◌+◌, ◌-◌, ◌*◌, ◌<◌, ◌≤◌, ◌⊎◌, inl, inr, Bool, true, false, List, ◌++◌, Option, Some, None, refl, sym, ap, ◌∙◌, arith, Kind, file, rank, Core, Parts, Sep, Nothing, Cross, Hyphen, plain_core, plain_by, IsOfBoard, square_text, sep_text, parts_text, AreOfBoard, is_cross, core_to, file_of, left_text, pawn_core, IsPromotionText, IsPawnText, IsSquaresText}

pub record IsPlainText (text : List ℕ) (core : Core) : Type 0 where
  pub parts : Parts
  pub end : List ℕ
  pub promotion : Option Kind
  pub end_is : IsPromotionText end promotion
  pub small : AreOfBoard parts
  pub spelled : text ≡ parts_text parts.file parts.rank parts.sep parts.target ++ end
  pub says : plain_core promotion parts ≡ Some core

-- ---- a pawn's text, and one with two squares
-- from a file or none, with a cross or without
plain_from : (text : List ℕ) (core : Core) (f : Option ℕ) (sep : Sep) (t : ℕ) (end : List ℕ) (x : Option Kind) → IsOfBoard f → t < 64 → IsPromotionText end x → text ≡ parts_text f None sep t ++ end
    → plain_core x (record { file = f; rank = None; sep = sep; target = t }) ≡ Some core → IsPlainText text core
plain_from text core f sep t end x small low e s says = record {
  parts = record { file = f; rank = None; sep = sep; target = t };
  end = end;
  promotion = x;
  end_is = e;
  small = record { file_small = small; rank_small = tt; target_small = low };
  spelled = s;
  says = says;
}

plain_pawn : (text : List ℕ) (core : Core) (left : Option (ℕ × Bool)) (t : ℕ) (end : List ℕ) (x : Option Kind) → IsOfBoard (file_of left) → t < 64 → IsPromotionText end x → text ≡ left_text left ++ (square_text t ++ end) → core ≡ pawn_core left t x → IsPlainText text core
plain_pawn text core None t end x small low e s says = plain_from text core None Nothing t end x tt low e s (ap Some (sym says))
plain_pawn text core (Some (f, true)) t end x small low e s says = plain_from text core (Some f) Cross t end x small low e s (ap Some (sym says))
plain_pawn text core (Some (f, false)) t end x small low e s says = plain_from text core (Some f) Nothing t end x small low e s (ap Some (sym says))

-- the text with two squares, as parts
squares_parts : (source : ℕ) (sep : Sep) (t : ℕ) (end : List ℕ) → parts_text (Some (file source)) (Some (rank source)) sep t ++ end ≡ square_text source ++ (sep_text sep ++ (square_text t ++ end))
squares_parts source Nothing t end = refl
squares_parts source Cross t end = refl
squares_parts source Hyphen t end = refl

pub plain_text : (text : List ℕ) (core : Core) → IsPawnText text core ⊎ IsSquaresText text core → IsPlainText text core
plain_text text core (inl h) = plain_pawn text core h.left h.target h.end h.promotion h.left_small h.target_small h.end_is h.spelled h.says
plain_text text core (inr h) =
    let low : h.source < 64 = h.source_small in
    record {
      parts = record { file = Some (file h.source); rank = Some (rank h.source); sep = h.sep; target = h.target };
      end = h.end;
      promotion = h.promotion;
      end_is = h.end_is;
      small = record { file_small = (omega arith, omega arith); rank_small = (omega arith, omega arith); target_small = h.target_small };
      spelled = h.spelled ∙ sym (squares_parts h.source h.sep h.target h.end);
      says = ap Some (sym h.says);
    }

-- ---- and back
some_is : {A : Type 0} (a b : A) → Some a ≡ Some b → b ≡ a
some_is a b e = cc

two_squares : (text : List ℕ) (core : Core) (f r source : ℕ) (sep : Sep) (t : ℕ) (end : List ℕ) (x : Option Kind) → f ≡ file source → r ≡ rank source → source < 64 → t < 64 → IsPromotionText end x → text ≡ parts_text (Some f) (Some r) sep t ++ end → core ≡ core_to None (Some f) (Some r) t (is_cross sep) x → IsSquaresText text core
two_squares text core f r source sep t end x ef er low lt e s says = record {
  source = source;
  sep = sep;
  target = t;
  end = end;
  promotion = x;
  source_small = low;
  target_small = lt;
  end_is = e;
  spelled = s ∙ ap (λ (y : ℕ). parts_text (Some y) (Some r) sep t ++ end) ef ∙ ap (λ (y : ℕ). parts_text (Some (file source)) (Some y) sep t ++ end) er ∙ squares_parts source sep t end;
  says = says ∙ ap (λ (y : ℕ). core_to None (Some y) (Some r) t (is_cross sep) x) ef ∙ ap (λ (y : ℕ). core_to None (Some (file source)) (Some y) t (is_cross sep) x) er;
}

pawn_text : (text : List ℕ) (core : Core) (left : Option (ℕ × Bool)) (t : ℕ) (end : List ℕ) (x : Option Kind) → IsOfBoard (file_of left) → t < 64 → IsPromotionText end x → text ≡ left_text left ++ (square_text t ++ end) → core ≡ pawn_core left t x → IsPawnText text core ⊎ IsSquaresText text core
pawn_text text core left t end x small low e s says = inl (record { left = left; target = t; end = end; promotion = x; left_small = small; target_small = low; end_is = e; spelled = s; says = says })

by_parts : (text : List ℕ) (core : Core) (f r : Option ℕ) (sep : Sep) (t : ℕ) (end : List ℕ) (x : Option Kind) → IsOfBoard f → IsOfBoard r → t < 64 → IsPromotionText end x → text ≡ parts_text f r sep t ++ end → plain_by f r sep t x ≡ Some core → IsPawnText text core ⊎ IsSquaresText text core
by_parts text core None None Nothing t end x a b lt e s says = pawn_text text core None t end x tt lt e s (some_is _ _ says)
by_parts text core None None Cross t end x a b lt e s says = absurd cc
by_parts text core None None Hyphen t end x a b lt e s says = absurd cc
by_parts text core None (Some r) Nothing t end x a b lt e s says = absurd cc
by_parts text core None (Some r) Cross t end x a b lt e s says = absurd cc
by_parts text core None (Some r) Hyphen t end x a b lt e s says = absurd cc
by_parts text core (Some f) None Nothing t end x a b lt e s says = pawn_text text core (Some (f, false)) t end x a lt e s (some_is _ _ says)
by_parts text core (Some f) None Cross t end x a b lt e s says = pawn_text text core (Some (f, true)) t end x a lt e s (some_is _ _ says)
by_parts text core (Some f) None Hyphen t end x a b lt e s says = absurd cc
by_parts text core (Some f) (Some r) sep t end x a b lt e s says =
    let fl : 1 ≤ f = a.0 in
    let fh : f ≤ 8 = a.1 in
    let rl : 1 ≤ r = b.0 in
    let rh : r ≤ 8 = b.1 in
    inr (two_squares text core f r ((r - 1) * 8 + (f - 1)) sep t end x (omega arith) (omega arith) (omega arith) lt e s (some_is _ _ says))

pub of_plain_text : (text : List ℕ) (core : Core) → IsPlainText text core → IsPawnText text core ⊎ IsSquaresText text core
of_plain_text text core h = by_parts text core h.parts.file h.parts.rank h.parts.sep h.parts.target h.end h.promotion h.small.file_small h.small.rank_small h.small.target_small h.end_is h.spelled h.says
