-- What stands where after a write.
use Rattle.std.proofs.Common.{◌≡◌, ◌≢◌, ℕ, ◌<◌, inl, inr, Option, Some, None, sym, ap, ◌∙◌}
use Rattle.std.proofs.lemmas.Bool.Decides.{eqb_tells}
use Rattle.pg_board.specs.declared.man.Color.{Color}
use Rattle.pg_board.specs.declared.man.Kind.{Kind}
use Rattle.pg_board.specs.declared.man.Man.{Man}
use Rattle.pg_board.specs.Placement.{Placement, get, write}
use Rattle.pg_board.specs.lemmas.Placements.{get-write_same, get-write_other, get-without_same}
use Rattle.pg_board.specs.Men.{man}
use Rattle.pg_position.specs.Position.{Stands}
use Rattle.pg_position.specs.Step.{relocated}

pub written : (b : Placement) (s : ℕ) (o : Option Man) → s < 64 → get (write b s o) s ≡ o
written b s o l = get-write_same b s o l

pub unwritten : (b : Placement) (s t : ℕ) (o : Option Man) → t ≢ s → get (write b s o) t ≡ get b t
unwritten b s t o ne = get-write_other b s o t ne

pub none_some : {x : Man} → None ≡ Some x → ⊥
none_some e = cc

-- what stands on t after t or another square was emptied stood there
pub stood_emptied : (b : Placement) (x t : ℕ) (c : Color) (j : Kind) → t < 64 → Stands (write b x None) c j t → (t ≢ x) × Stands b c j t
stood_emptied b x t c j low h =
    elim (eqb_tells t x) [
      | inl w ↦ absurd (none_some (sym (get-without_same b t) ∙ (rw (sym w.1) at h)))
      | inr w ↦ (w.1, sym (unwritten b x t None w.1) ∙ h)
    ]

pub stood_elsewhere : (b : Placement) (s t : ℕ) (o : Option Man) (c : Color) (j : Kind) → t ≢ s → Stands (write b s o) c j t → Stands b c j t
stood_elsewhere b s t o c j ne h = sym (unwritten b s t o ne) ∙ h

-- after a man went from r to s
pub stood_before : (b : Placement) (r s t : ℕ) (c : Color) (j : Kind) → t < 64 → t ≢ s → Stands (relocated b r s) c j t → (t ≢ r) × Stands b c j t
stood_before b r s t c j low ne h = stood_emptied b r t c j low (stood_elsewhere (write b r None) s t (get b r) c j ne h)

pub arrived : (b : Placement) (r s : ℕ) (c : Color) (j : Kind) → s < 64 → Stands (relocated b r s) c j s → Stands b c j r
arrived b r s c j low h = sym (written (write b r None) s (get b r) low) ∙ h

pub man_elsewhere : (b : Placement) (r s t : ℕ) → t ≢ r → t ≢ s → get (relocated b r s) t ≡ get b t
man_elsewhere b r s t a c = unwritten (write b r None) s t (get b r) c ∙ unwritten b r t None a

pub same_kind : {o : Option Man} {c d : Color} {k j : Kind} → o ≡ Some (man c k) → o ≡ Some (man d j) → k ≡ j
same_kind {o} {c} {d} {k} {j} e f = let g : man c k ≡ man d j = cc in ap (λ (x : Man). x.kind) g

pub same_side : {o : Option Man} {c d : Color} {k j : Kind} → o ≡ Some (man c k) → o ≡ Some (man d j) → c ≡ d
same_side {o} {c} {d} {k} {j} e f = let g : man c k ≡ man d j = cc in ap (λ (x : Man). x.color) g
