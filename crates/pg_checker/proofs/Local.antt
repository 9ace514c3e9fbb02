-- The walk looks at no more bytes than it takes.
use Rattle.pg_checker.proofs.Common.{◌≡◌, ℕ, Bool, true, false, List, ◌++◌, Option, Ok, slice_get, sym, ◌∙◌, ap, append_cancel_right, Record, Rules, WalkState, Shape, Opened, take_room, cut_answer, judge, head, visit, Took, IsExact}
use Rattle.pg_certificate.specs.declared.record.Record.TheVariants.{Expand as Expanded, Cut as CutBy, Ref as RefTo, Priced as PricedBy}
use Rattle.pg_checker.specs.Tree.{spelling}
use Rattle.pg_checker.proofs.Steps.{room_ok, cut_ok, ref_ok, Paid, head_ok}
use Rattle.pg_checker.proofs.Exact.{visit_ok}
use Rattle.pg_checker.proofs.Back.{ref_fits, fits_visit, head_pays}

-- the state with other bytes to come
abbrev pub with_rest : {P : Type 0} → List ℕ → WalkState P → WalkState P
with_rest rest s = record s { rest = rest }

module _ {P M : Type 0} (r : Rules P M) (exact : IsExact r) where
  abbrev moved : List ℕ → Shape × WalkState P → Shape × WalkState P
  moved rest x = (x.0, with_rest rest x.1)

  -- a judgement neither looks at the bytes to come nor takes any
  judge_local : (k : ℕ) (p : P) (got : Record) (s : WalkState P) (x : Shape × WalkState P) (rest : List ℕ) → judge r k p got s ≡ Ok x
      → (judge r k p got (with_rest rest s) ≡ Ok (moved rest x)) × (x.1.rest ≡ s.rest)
  judge_local k p (Expanded false) s x rest h =
      let e : (Opened false, s) ≡ x = cc in
      (ap (λ (v : Shape × WalkState P). Ok (moved rest v)) e, ap (λ (v : Shape × WalkState P). v.1.rest) (sym e))
  judge_local k p (Expanded true) s x rest h =
      let d = room_ok {M = M} s.room s x h in
      (ap (λ (n : ℕ). take_room {M = M} n (with_rest rest s)) d.1 ∙ ap (λ (v : Shape × WalkState P). Ok (moved rest v)) d.2, ap (λ (v : Shape × WalkState P). v.1.rest) (sym d.2))
  judge_local k p (CutBy code) s x rest h =
      let d = cut_ok {M = M} (r.cut code p k) code s x h in
      (ap (λ (o : Option Bool). cut_answer {M = M} o code (with_rest rest s)) d.0 ∙ ap (λ (v : Shape × WalkState P). Ok (moved rest v)) d.1, ap (λ (v : Shape × WalkState P). v.1.rest) (sym d.1))
  judge_local k p (PricedBy code color prices) s x rest h =
      let d = cut_ok {M = M} (r.priced code color prices p k) code s x h in
      (ap (λ (o : Option Bool). cut_answer {M = M} o code (with_rest rest s)) d.0 ∙ ap (λ (v : Shape × WalkState P). Ok (moved rest v)) d.1, ap (λ (v : Shape × WalkState P). v.1.rest) (sym d.1))
  judge_local k p (RefTo number) s x rest h =
      let d = ref_ok r (slice_get s.entries number) k p s x h in
      (ref_fits r exact d.0 (slice_get s.entries number) k p (with_rest rest s) d.1 d.2 d.3 d.4 ∙ ap (λ (v : Shape × WalkState P). Ok (moved rest v)) d.5, ap (λ (v : Shape × WalkState P). v.1.rest) (sym d.5))

  -- the record of a node is read alike whatever comes after it
  pub head_local : (k : ℕ) (p : P) (s t : WalkState P) (shape : Shape) (bytes rest : List ℕ) → head r k p s ≡ Ok (shape, t) → s.rest ≡ bytes ++ t.rest
      → head r k p (with_rest (bytes ++ rest) s) ≡ Ok (shape, with_rest rest t)
  head_local k p s t shape bytes rest h e =
      let d = head_ok r exact k p s (shape, t) h in
      let j = judge_local k p d.got d.mid (shape, t) rest d.judged in
      let same : bytes ≡ r.write d.got = append_cancel_right bytes (r.write d.got) t.rest (sym e ∙ (d.paid.rest ∙ ap (λ (v : List ℕ). r.write d.got ++ v) (sym j.1))) in
      let paid : Paid r (with_rest (bytes ++ rest) s) d.got (with_rest rest d.mid) = record { rest = ap (λ (v : List ℕ). v ++ rest) same; entries = d.paid.entries; records = d.paid.records; room = d.paid.room; is_record = d.paid.is_record } in
      head_pays r exact k p (with_rest (bytes ++ rest) s) (with_rest rest d.mid) d.got paid ∙ j.0

  -- so is a whole tree
  pub visit_local : (n k : ℕ) (g : List M) (p : P) (s t : WalkState P) (found : Bool) (bytes rest : List ℕ) → visit r n k g p s ≡ Ok (found, t) → s.rest ≡ bytes ++ t.rest
      → visit r n k g p (with_rest (bytes ++ rest) s) ≡ Ok (found, with_rest rest t)
  visit_local n k g p s t found bytes rest h e =
      let d = visit_ok r exact n k g p s (found, t) h in
      let same : bytes ≡ spelling r d.tree = append_cancel_right bytes (spelling r d.tree) t.rest (sym e ∙ d.took.rest) in
      let took : Took r k p (with_rest (bytes ++ rest) s) d.tree (with_rest rest t) = record { rest = ap (λ (v : List ℕ). v ++ rest) same; entries = d.took.entries; records = d.took.records; room = d.took.room } in
      fits_visit r exact n k g p (with_rest (bytes ++ rest) s) (with_rest rest t) d.tree d.fits took ∙ ap (λ (f : Bool). Ok (f, with_rest rest t)) (sym d.found_is)
