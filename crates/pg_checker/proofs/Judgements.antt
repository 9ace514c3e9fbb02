-- What judging one record says. Leads to the contract of `judge`.
use Rattle.pg_checker.proofs.Common.{◌≡◌, ℕ, suc, ◌+◌, ◌<◌, ◌⊎◌, inl, inr, List, [], Bool, true, false, Option, Some, None, IfOk, map, slice_get, Result, Ok, Err, refl, sym, ◌∙◌, ap, subst, arith, Color, Placement, PriceList, State, Move, Record, judge, cut_answer, ref_answer, take_room, Cuts, chess_with, Judgement, Ends, EndsAs, Judges, ended_of, judged_at, refer_answer, entry_of, opened, Stops, Names, Opening, Stop, Halt}
use Rattle.pg_certificate.specs.declared.record.Record.TheVariants.{Expand, Cut, Ref, Priced}
use Rattle.pg_checker.specs.Tree as tree
use Rattle.pg_checker.specs.Walk as walk
use Rattle.pg_checker.specs.declared.machine.Opening.TheVariants as opening
use Rattle.pg_checker.specs.inner.Halting as stop
use Rattle.pg_checker.specs.declared.halt.Halt.TheVariants as halt
use Rattle.pg_checker.specs.declared.halt.Reason.TheVariants as reason
use Rattle.pg_checker.specs.inner.Halting.{full}
use Rattle.pg_checker.proofs.Goings.{stays, consumes_none}

-- a node that ends at once, where the walk says so of each state with the machine's entries
ends : (m : Names) (judged : Judgement) (res : Result (Unit {0}) (tree.Cause Move)) → ((records : ℕ) (rest : List ℕ) (n : ℕ) → EndsAs res (judged (judged_at m records rest n)) (judged_at m records rest n)) → Judges m m judged (ended_of res)
unfolding Stops
ends m judged (Ok u) h known records = stays known m.left _ _ (h records)
ends m judged (Err c) h None records = tt
ends m judged (Err c) h (Some bytes) records = h records bytes m.left

said : (m : Names) (judged : Judgement) (res : Result (Unit {0}) (tree.Cause Move)) (result : Result Opening Stop) → result ≡ ended_of res → Judges m m judged (ended_of res) → Judges m m judged result
said m judged res result e h = subst (λ (v : Result Opening Stop). Judges m m judged v) (sym e) h

-- a halt for want of room or memory says so as a stop
pub halted : {A B : Type 0} (game : List Move) (h : Halt) → ((h ≡ halt.Because reason.TooManyNamed) × A) ⊎ ((h ≡ halt.Memory) × B) → ((full game h ≡ stop.Because tree.TooManyNamed) × A) ⊎ ((full game h ≡ stop.Memory) × B)
halted game h e = elim e [ inl w ↦ inl (ap (full game) w.0, w.1) | inr w ↦ inr (ap (full game) w.0, w.1) ]

-- a node that ends at once keeps no place
pub kept_none : (res : Result Opening Halt) (k : ℕ) → IfOk res (λ node. opened node ≡ 0) → IfOk res (λ node. k ≡ k + opened node)
kept_none (Ok node) k e = omega (arith, e)
kept_none (Err h) k e = tt

module _ (d : Placement) (l : ℕ) (listed : List Move → Bool) (cut : Cuts) (k : ℕ) (p : State) where
  pub cut_judged : (m : Names) (code : ℕ) (res : Result (Unit {0}) (tree.Cause Move)) (result : Result Opening Stop) → result ≡ ended_of res → Ends res (cut_answer (cut.bounds code p k) code) → Judges m m (judge (chess_with d l listed cut) k p (Cut code)) result
  unfolding chess_with
  cut_judged m code res result e h = said m (judge (chess_with d l listed cut) k p (Cut code)) res result e (ends m (judge (chess_with d l listed cut) k p (Cut code)) res (λ records rest n. h (judged_at m records rest n)))

  pub priced_judged : (m : Names) (code : ℕ) (color : Color) (prices : List PriceList) (res : Result (Unit {0}) (tree.Cause Move)) (result : Result Opening Stop) → result ≡ ended_of res → Ends res (cut_answer (cut.prices code color prices p k) code) → Judges m m (judge (chess_with d l listed cut) k p (Priced code color prices)) result
  unfolding chess_with
  priced_judged m code color prices res result e h = said m (judge (chess_with d l listed cut) k p (Priced code color prices)) res result e (ends m (judge (chess_with d l listed cut) k p (Priced code color prices)) res (λ records rest n. h (judged_at m records rest n)))

  refers : (o : Option (tree.Entry State)) (s : walk.WalkState State) → ref_answer (chess_with d l listed cut) o k p s ≡ refer_answer cut.version o k p s
  unfolding chess_with
  refers None s = refl
  refers (Some e) s = refl

  pub ref_judged : (m : Names) (number : ℕ) (res : Result (Unit {0}) (tree.Cause Move)) (result : Result Opening Stop) → result ≡ ended_of res → Ends res (refer_answer cut.version (slice_get (map entry_of m.table.entries) number) k p) → Judges m m (judge (chess_with d l listed cut) k p (Ref number)) result
  ref_judged m number res result e h =
      said m (judge (chess_with d l listed cut) k p (Ref number)) res result e
      (ends m (judge (chess_with d l listed cut) k p (Ref number)) res (λ records rest n. subst (λ (v : Result (walk.Shape × walk.WalkState State) (tree.Cause Move)). EndsAs res v (judged_at m records rest n)) (sym (refers (slice_get (map entry_of m.table.entries) number) (judged_at m records rest n))) (h (judged_at m records rest n))))

  -- an expanded node
  pub opened_judged : (m : Names) → Judges m m (judge (chess_with d l listed cut) k p (Expand false)) (Ok (opening.Opened false))
  opened_judged m known records = stays known m.left _ _ (λ rest n. refl)

  -- a named one takes room
  pub named_judged : (old new : Names) → new.left + 1 ≡ old.left → new.table.entries ≡ old.table.entries → Judges old new (judge (chess_with d l listed cut) k p (Expand true)) (Ok (opening.Opened true))
  named_judged old new room entries known records = record {
    taken = [];
    used = 1;
    consumes = consumes_none known;
    spends = omega arith;
    same = λ rest n.
        (let e : 1 + n ≡ suc n = omega arith in
        ap (λ (m : ℕ). judge (chess_with d l listed cut) k p (Expand true) (judged_at old records rest m)) e
        ∙ ap (λ (s : walk.WalkState State). Ok (walk.Opened true, s)) (states rest n));
  }
    where
      states : (rest : List ℕ) (n : ℕ) → record (judged_at old records rest (suc n)) { room = n } ≡ judged_at new records rest n
      states rest n = λ i. record { rest = rest; entries = map entry_of (sym entries i); records = records; room = n }

  pub full_judged : (old : Names) (s : Stop) → ((s ≡ stop.Because tree.TooManyNamed) × (old.left ≡ 0)) ⊎ ((s ≡ stop.Memory) × (0 < old.left)) → (new : Names) → Judges old new (judge (chess_with d l listed cut) k p (Expand true)) (Err s)
  unfolding Stops
  full_judged old s h new known records = elim h [ inl w ↦ subst (Stops known old.left walks) (sym w.0) (full known w.1) | inr w ↦ subst (Stops known old.left walks) (sym w.0) (refused known w.1) ]
    where
      walks : List ℕ → ℕ → Result (walk.Shape × walk.WalkState State) (tree.Cause Move)
      walks bytes n = judge (chess_with d l listed cut) k p (Expand true) (judged_at old records bytes n)

      full : (known : Option (List ℕ)) → old.left ≡ 0 → Stops known old.left walks (stop.Because tree.TooManyNamed)
      full None e = tt
      full (Some bytes) e = ap (λ (n : ℕ). walks bytes n) e

      refused : (known : Option (List ℕ)) → 0 < old.left → Stops known old.left walks stop.Memory
      refused None low = tt
      refused (Some bytes) low = (0, low, refl)

  -- the record is this one
  pub of_record : (old new : Names) (x y : Record) (res : Result Opening Stop) → x ≡ y → Judges old new (judge (chess_with d l listed cut) k p y) res → Judges old new (judge (chess_with d l listed cut) k p x) res
  of_record old new x y res e h = subst (λ (v : Record). Judges old new (judge (chess_with d l listed cut) k p v) res) (sym e) h

  pub of_named : (old new : Names) (x : Record) (named held : Bool) (res : Result Opening Stop) → x ≡ Expand named → named ≡ held → Judges old new (judge (chess_with d l listed cut) k p (Expand held)) res → Judges old new (judge (chess_with d l listed cut) k p x) res
  of_named old new x named held res e f h = of_record old new x (Expand held) res (e ∙ ap Expand f) h
