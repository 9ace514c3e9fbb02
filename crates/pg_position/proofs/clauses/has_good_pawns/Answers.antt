use Rattle.pg_position.proofs.Common.{◌≡◌, ◌≢◌, ◌<◌, ◌⊎◌, ◌↔◌, not, ℕ, Bool, IsTrue, true, false, inl, inr, refl, ap, ◌∙◌, Decides-at, Color, White, Black, Pawn, Man, rank, man, is_man, is_man_decides, Placement, get, has, IsSetOf, Meet, set_of_union, Stands, PawnsClause}
use Rattle.pg_position.proofs.clauses.has_good_pawns.Goals as goal

men_are : (b : Placement) (c : Color) (m : Man) (men : ℕ) → m ≡ man c Pawn → ((q : ℕ) → q < 64 → has men q ≡ is_man m (get b q)) → IsSetOf men (Stands b c Pawn)
men_are b c m men same are q l = Decides-at _ _ (are q l ∙ ap (λ x. is_man x (get b q)) same) (is_man_decides (man c Pawn) (get b q))

module _ (b : Placement) (pawns ends : ℕ) (met : Bool) (are : IsSetOf pawns (λ q. Stands b White Pawn q ⊎ Stands b Black Pawn q)) (last : IsSetOf ends (λ q. (rank q ≡ 1) ⊎ (rank q ≡ 8))) (tells : IsTrue met ↔ Meet pawns ends) where
  of : (c : Color) (q : ℕ) → Stands b c Pawn q → Stands b White Pawn q ⊎ Stands b Black Pawn q
  of White q st = inl st
  of Black q st = inr st

  good : IsTrue (not met) ↔ PawnsClause b
  unfolding PawnsClause
  good = (
    λ e s c l st.
        let off : ((rank s ≡ 1) ⊎ (rank s ≡ 8)) → ⊥ = (λ z. let yes : met ≡ true = tells.1 (s, l, (are s l).1 (of c s st), (last s l).1 z) in both met e yes) in
        (λ f. off (inl f), λ f. off (inr f)),
    λ h. elim met as (λ v. met ≡ v → not v ≡ true) [
      | true ↦ λ t. absurd (
          let (q, l, x, y) = tells.0 t in
          let inner : (rank q ≢ 1) × (rank q ≢ 8) = elim ((are q l).0 x) [ inl st ↦ h q White l st | inr st ↦ h q Black l st ] in
          elim ((last q l).0 y) [ inl f ↦ inner.0 f | inr f ↦ inner.1 f ])
      | false ↦ λ _. refl
    ] refl,
  )
    where
      both : (v : Bool) → not v ≡ true → v ≡ true → ⊥
      both true e f = cc
      both false e f = cc

pub returns : goal.returns
returns c = good c.args.board.now c.bitor.result c.ends.result c.meets.result
    (set_of_union c.bitor.result c.squares_of-white.result c.squares_of-black.result c.bitor.ensures.members (men_are _ _ _ _ c.new.ensures c.squares_of-white.ensures) (men_are _ _ _ _ c.new-2.ensures c.squares_of-black.ensures))
    c.ends.ensures c.meets.ensures
