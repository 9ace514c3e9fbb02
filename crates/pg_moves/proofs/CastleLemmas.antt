-- Castling by its own test: a castling that the rules allow leaves the king unattacked.
use Rattle.pg_moves.proofs.Common.{◌≡◌, ◌≢◌, ℕ, ◌<◌, ◌⊎◌, inl, inr, Some, None, refl, sym, ap, subst, ◌∙◌, arith, eqb_tells, Color, White, Black, Kind, Pawn, Rook, King, Man, file, rank, man, other, Placement, get, without, get-write_same, get-write_other, Wing, KingSide, QueenSide, State, Move, Castling, IsBetween, IsClear, AttacksFrom, Attacks, Stands, HasOneKing, IsOnlyKing, InCheck, IsPosition, RightsClause, IsHome, IsLegal, IsCastling, IsOnBoard, relocated, after, Step, king_home, rook_home, king_crossed, king_target, same_kind, not_other}
use Rattle.pg_moves.proofs.LeafLemmas.{one_king}
use Rattle.pg_moves.proofs.KingLemmas.{not_end}

-- ---- the four squares: of the king and of the rook, before and after
record AreFour (e h f g : ℕ) : Type 0 where
  on : (e < 64) × (h < 64) × (f < 64) × (g < 64)
  home : (e ≢ h) × (e ≢ f) × (e ≢ g)
  rest : (h ≢ f) × (h ≢ g) × (f ≢ g)

squares : (c : Color) (w : Wing) → AreFour (king_home c) (rook_home c w) (king_crossed c w) (king_target c w)
squares White KingSide = record { on = (omega arith, omega arith, omega arith, omega arith); home = (λ z. omega arith, λ z. omega arith, λ z. omega arith); rest = (λ z. omega arith, λ z. omega arith, λ z. omega arith) }
squares White QueenSide = record { on = (omega arith, omega arith, omega arith, omega arith); home = (λ z. omega arith, λ z. omega arith, λ z. omega arith); rest = (λ z. omega arith, λ z. omega arith, λ z. omega arith) }
squares Black KingSide = record { on = (omega arith, omega arith, omega arith, omega arith); home = (λ z. omega arith, λ z. omega arith, λ z. omega arith); rest = (λ z. omega arith, λ z. omega arith, λ z. omega arith) }
squares Black QueenSide = record { on = (omega arith, omega arith, omega arith, omega arith); home = (λ z. omega arith, λ z. omega arith, λ z. omega arith); rest = (λ z. omega arith, λ z. omega arith, λ z. omega arith) }

-- a square on a line with another, of another file, is of its rank
level : (x k r : ℕ) → file x ≢ k → (file x ≡ k) ⊎ (rank x ≡ r) → rank x ≡ r
level x k r ne (inr a) = a
level x k r ne (inl a) = absurd (ne a)

-- what comes to the king's new square over his old one comes over the rook's new one
over_home : (c : Color) (w : Wing) (x : ℕ) → x < 64 → IsBetween x (king_home c) (king_target c w) → IsBetween x (king_crossed c w) (king_target c w)
unfolding IsBetween
over_home White KingSide x low (a, b, u, v, inl n) = let z : rank x ≡ 1 = level x 7 1 (λ y. omega arith) n in (λ y. omega arith, λ y. omega arith, omega arith, omega arith, inl (inr z))
over_home White KingSide x low (a, b, u, v, inr (l, m)) = absurd (omega arith)
over_home White QueenSide x low (a, b, u, v, inl n) = let z : rank x ≡ 1 = level x 3 1 (λ y. omega arith) n in (λ y. omega arith, λ y. omega arith, omega arith, omega arith, inl (inr z))
over_home White QueenSide x low (a, b, u, v, inr (l, m)) = absurd (omega arith)
over_home Black KingSide x low (a, b, u, v, inl n) = let z : rank x ≡ 8 = level x 7 8 (λ y. omega arith) n in (λ y. omega arith, λ y. omega arith, omega arith, omega arith, inl (inr z))
over_home Black KingSide x low (a, b, u, v, inr (l, m)) = absurd (omega arith)
over_home Black QueenSide x low (a, b, u, v, inl n) = let z : rank x ≡ 8 = level x 3 8 (λ y. omega arith) n in (λ y. omega arith, λ y. omega arith, omega arith, omega arith, inl (inr z))
over_home Black QueenSide x low (a, b, u, v, inr (l, m)) = absurd (omega arith)

-- nothing comes there over the rook's old square
over_rook : (c : Color) (w : Wing) (x : ℕ) → x < 64 → IsBetween x (rook_home c w) (king_target c w) → ⊥
unfolding IsBetween
over_rook White KingSide x low (a, b, u, v, inl n) = let z : rank x ≡ 1 = level x 7 1 (λ y. omega arith) n in omega arith
over_rook White KingSide x low (a, b, u, v, inr (l, m)) = omega arith
over_rook White QueenSide x low (a, b, u, v, inl n) = let z : rank x ≡ 1 = level x 3 1 (λ y. omega arith) n in omega arith
over_rook White QueenSide x low (a, b, u, v, inr (l, m)) = omega arith
over_rook Black KingSide x low (a, b, u, v, inl n) = let z : rank x ≡ 8 = level x 7 8 (λ y. omega arith) n in omega arith
over_rook Black KingSide x low (a, b, u, v, inr (l, m)) = omega arith
over_rook Black QueenSide x low (a, b, u, v, inl n) = let z : rank x ≡ 8 = level x 3 8 (λ y. omega arith) n in omega arith
over_rook Black QueenSide x low (a, b, u, v, inr (l, m)) = omega arith

-- ---- the board after castling
none_some : {x : Man} → None ≡ Some x → ⊥
none_some e = cc

rook_no_king : Rook ≡ King → ⊥
rook_no_king e = cc

pub king_no_pawn : King ≡ Pawn → ⊥
king_no_pawn e = cc

data Place (t e h f g : ℕ) : Type 0 where
  is_king : t ≡ e → Place t e h f g
  is_rook : t ≡ h → Place t e h f g
  is_crossed : t ≡ f → Place t e h f g
  is_target : t ≡ g → Place t e h f g
  is_other : t ≢ e → t ≢ h → t ≢ f → t ≢ g → Place t e h f g

placed : (t e h f g : ℕ) → Place t e h f g
placed t e h f g = elim (eqb_tells t e) [
  | inl a ↦ is_king a.1
  | inr a ↦ elim (eqb_tells t h) [
    | inl b ↦ is_rook b.1
    | inr b ↦ elim (eqb_tells t f) [
      | inl c ↦ is_crossed c.1
      | inr c ↦ elim (eqb_tells t g) [ inl d ↦ is_target d.1 | inr d ↦ is_other a.1 b.1 c.1 d.1 ]
    ]
  ]
]

module _ (b : Placement) (c : Color) (e h f g : ℕ) (four : AreFour e h f g) (king : Stands b c King e) (rook : Stands b c Rook h) where
  first : Placement
  first = relocated b e g

  castled : Placement
  castled = relocated first h f

  untouched : (t : ℕ) → t ≢ e → t ≢ h → t ≢ f → t ≢ g → get castled t ≡ get b t
  unfolding first castled
  untouched t a k x y = get-write_other (without first h) f (get first h) t x ∙ get-write_other first h None t k ∙ get-write_other (without b e) g (get b e) t y ∙ get-write_other b e None t a

  at_rook : get first h ≡ Some (man c Rook)
  unfolding first
  at_rook = get-write_other (without b e) g (get b e) h four.rest.1 ∙ get-write_other b e None h (λ z. four.home.0 (sym z)) ∙ rook

  at_crossed : get castled f ≡ Some (man c Rook)
  unfolding castled
  at_crossed = get-write_same (without first h) f (get first h) four.on.2 ∙ at_rook

  at_target : get castled g ≡ Some (man c King)
  unfolding first castled
  at_target = get-write_other (without first h) f (get first h) g (λ z. four.rest.2 (sym z)) ∙ get-write_other first h None g (λ z. four.rest.1 (sym z)) ∙ get-write_same (without b e) g (get b e) four.on.3 ∙ king

  at_home : get castled e ≡ None
  unfolding first castled
  at_home = get-write_other (without first h) f (get first h) e four.home.1 ∙ get-write_other first h None e four.home.0 ∙ get-write_other (without b e) g (get b e) e four.home.2 ∙ get-write_same b e None four.on.0

  at_corner : get castled h ≡ None
  unfolding castled
  at_corner = get-write_other (without first h) f (get first h) h four.rest.0 ∙ get-write_same first h None four.on.1

  king_went : ((t : ℕ) → t < 64 → Stands b c King t → t ≡ e) → (t : ℕ) → t < 64 → Stands castled c King t → t ≡ g
  king_went only t low here = elim (placed t e h f g) [
    | is_king z ↦ absurd (none_some (sym at_home ∙ subst (λ (x : ℕ). Stands castled c King x) z here))
    | is_rook z ↦ absurd (none_some (sym at_corner ∙ subst (λ (x : ℕ). Stands castled c King x) z here))
    | is_crossed z ↦ absurd (rook_no_king (same_kind at_crossed (subst (λ (x : ℕ). Stands castled c King x) z here)))
    | is_target z ↦ z
    | is_other v x y z ↦ absurd (v (only t low (sym (untouched t v x y z) ∙ here)))
  ]

  foreign : (k : Kind) (m : Man) → Some (man c k) ≡ Some m → m.color ≡ other c → ⊥
  foreign k m same color = not_other c ((let z : man c k ≡ m = cc in ap (λ (x : Man). x.color) z) ∙ color)

  module _ (over : (x : ℕ) → x < 64 → IsBetween x e g → IsBetween x f g) (never : (x : ℕ) → x < 64 → IsBetween x h g → ⊥) where
    was_clear : (x : ℕ) → x < 64 → IsClear castled x g → IsClear b x g
    unfolding IsClear
    was_clear x low clear t l bet = elim (placed t e h f g) [
      | is_king z ↦ absurd (none_some (sym (clear f four.on.2 (over x low (subst (λ (y : ℕ). IsBetween x y g) z bet))) ∙ at_crossed))
      | is_rook z ↦ absurd (never x low (subst (λ (y : ℕ). IsBetween x y g) z bet))
      | is_crossed z ↦ absurd (none_some (sym (subst (λ (y : ℕ). get castled y ≡ None) z (clear t l bet)) ∙ at_crossed))
      | is_target z ↦ absurd (not_end x t g bet z)
      | is_other v u y z ↦ sym (untouched t v u y z) ∙ clear t l bet
    ]

    was_attacked : Attacks castled (other c) g → Attacks b (other c) g
    unfolding Attacks AttacksFrom
    was_attacked (x, low, (k, at, (pattern, clear))) =
        let before : get b x ≡ Some (man (other c) k) = elim (placed x e h f g) [
          | is_king z ↦ absurd (none_some (sym at_home ∙ subst (λ (y : ℕ). get castled y ≡ Some (man (other c) k)) z at))
          | is_rook z ↦ absurd (none_some (sym at_corner ∙ subst (λ (y : ℕ). get castled y ≡ Some (man (other c) k)) z at))
          | is_crossed z ↦ absurd (foreign Rook (man (other c) k) (sym at_crossed ∙ subst (λ (y : ℕ). get castled y ≡ Some (man (other c) k)) z at) refl)
          | is_target z ↦ absurd (foreign King (man (other c) k) (sym at_target ∙ subst (λ (y : ℕ). get castled y ≡ Some (man (other c) k)) z at) refl)
          | is_other v u y z ↦ sym (untouched x v u y z) ∙ at
        ] in
        (x, low, (k, before, (pattern, was_clear x low clear)))

    stays_safe : ((t : ℕ) → t < 64 → Stands b c King t → t ≡ e) → ¬ Attacks b (other c) g → ¬ InCheck (relocated (relocated b e g) h f) c
    unfolding InCheck first castled
    stays_safe only safe (t, low, stands, attacked) =
        safe (was_attacked (subst (λ (y : ℕ). Attacks castled (other c) y) (king_went only t low stands) attacked))

-- ---- a king's move that is no step
module _ (p : State) (m : Move) (pos : IsPosition p) (here : Stands p.board p.side King m.from) (on : IsOnBoard m) where
  pub castle_legal : (w : Wing) → IsCastling p King m w → IsLegal p m
  unfolding Step IsHome HasOneKing IsOnlyKing RightsClause
  castle_legal w way =
      let home : Stands p.board p.side King (king_home p.side) × Stands p.board p.side Rook (rook_home p.side w) = pos.homes p.side w way.right in
      let one : HasOneKing p.board p.side = one_king p pos in
      let only : (t : ℕ) → t < 64 → Stands p.board p.side King t → t ≡ king_home p.side = (λ t l s. one.1.2 t l s ∙ sym (one.1.2 (king_home p.side) (squares p.side w).on.0 home.0)) in
      let safe : ¬ InCheck (relocated (relocated p.board (king_home p.side) (king_target p.side w)) (rook_home p.side w) (king_crossed p.side w)) p.side = stays_safe p.board p.side _ _ _ _ (squares p.side w) home.0 home.1 (over_home p.side w) (over_rook p.side w) only way.safe_target in
      let there : ¬ InCheck (relocated (relocated p.board m.from m.to) (rook_home p.side w) (king_crossed p.side w)) p.side = subst (λ (r : ℕ). ¬ InCheck (relocated (relocated p.board r m.to) (rook_home p.side w) (king_crossed p.side w)) p.side) (sym way.home) (subst (λ (s : ℕ). ¬ InCheck (relocated (relocated p.board (king_home p.side) s) (rook_home p.side w) (king_crossed p.side w)) p.side) (sym way.target) safe) in
      (after p m (Castling w), ((King, Castling w, on, here, way, refl), there))
