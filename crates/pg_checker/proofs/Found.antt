-- Games that are found. Leads to the contracts of `keep`, `counts` and the walk.
use Rattle.pg_checker.proofs.Common.{◌≡◌, ◌↔◌, ℕ, inl, inr, Bool, true, false, IsTrue, List, Option, Some, None, Bor, refl, sym, ◌∙◌, ap, subst, Contains, is_some, Placement, Move, IsSolution, Finding, HasOver, IsFound, Serves, asked, own_test, Finds, TooMany}
use Rattle.pg_san.specs.Adding.{IsAdded, IsAddFault}
use Rattle.pg_san.specs.declared.adding.AddFault.{AddFault}
use Rattle.pg_san.specs.declared.adding.AddFault.TheVariants as add
use Rattle.pg_checker.specs.declared.finds.Loss.{Loss}
use Rattle.pg_checker.proofs.Leaves.{listed_is}

pub finding_none : (d : Placement) (n : ℕ) (finds : Finds) → Finding d n finds finds
finding_none d n finds = record { grows = λ game h. h; sound = λ h. h }

pub finding_then : (d : Placement) (n : ℕ) (a b c : Finds) → Finding d n a b → Finding d n b c → Finding d n a c
finding_then d n a b c f g = record { grows = λ game h. g.grows game (f.grows game h); sound = λ h. g.sound (f.sound h) }

-- a game is added
pub added_found : (finds : Finds) (games : List (List Move)) (game : List Move) → IsAdded finds.games game games → IsFound (record finds { games = games }) game
added_found finds games game h = inl ((h.has game).1 (inr refl))

pub added_finding : (d : Placement) (n : ℕ) (finds : Finds) (games : List (List Move)) (game : List Move) → finds.loss ≡ None → IsAdded finds.games game games → IsSolution d n game → Finding d n finds (record finds { games = games })
added_finding d n finds games game none h is = record {
  grows = λ x k. elim k [ inl w ↦ inl ((h.has x).1 (inl w)) | inr w ↦ inr w ];
  sound = λ k. record {
    are = λ x c. elim ((h.has x).0 c) [ inl w ↦ k.are x w | inr w ↦ subst (λ (v : List Move). IsSolution d n v) (sym w) is ];
    over = λ e. absurd (let both : None ≡ Some TooMany = sym none ∙ e in cc);
  };
}

-- or it is not
over_of : (d : Placement) (n : ℕ) (games : List (List Move)) (game : List Move) (fault : AddFault) → fault ≡ add.TooMany → IsAddFault games game fault → ¬ Contains games game → IsSolution d n game → HasOver d n games
over_of d n games game fault e h out is =
    let k : IsAddFault games game add.TooMany = subst (λ (f : AddFault). IsAddFault games game f) e h in
    (k.1, (game, is, out))

pub lost_finding : (d : Placement) (n : ℕ) (finds : Finds) (games : List (List Move)) (game : List Move) (fault : AddFault) (loss : Loss) → games ≡ finds.games → (loss ≡ TooMany → fault ≡ add.TooMany) → IsAddFault finds.games game fault → ¬ Contains finds.games game → IsSolution d n game → Finding d n finds (record { games = games; loss = Some loss })
lost_finding d n finds games game fault loss same many h out is = record {
  grows = λ x k. inr tt;
  sound = λ k. record {
    are = λ x c. k.are x (subst (λ (v : List (List Move)). Contains v x) same c);
    over = λ e. subst (λ (v : List (List Move)). HasOver d n v) (sym same) (over_of d n finds.games game fault (many (let one : loss ≡ TooMany = cc in one)) h out is);
  };
}

pub not_there : (games : List (List Move)) (game : List Move) (has : Bool) → IsTrue has ↔ Contains games game → has ≡ false → ¬ Contains games game
not_there games game has h e c = let t : has ≡ true = h.1 c in let u : true ≡ false = sym t ∙ e in cc

-- ---- tests that serve
pub serves_own : (list : Option (List (List Move))) (finds : Finds) → Serves list finds (own_test list)
serves_own None finds = λ game h. refl
serves_own (Some games) finds = λ game. refl

pub serves_less : (d : Placement) (n : ℕ) (list : Option (List (List Move))) (old new : Finds) (listed : List Move → Bool) → Finding d n old new → Serves list new listed → Serves list old listed
serves_less d n None old new listed f h = λ game k. h game (f.grows game k)
serves_less d n (Some games) old new listed f h = h

-- what a list says of a game
pub listed_said : (list : Option (Bor (List (List Move)))) (one : Bor (List (List Move))) (finds : Finds) (game : List Move) (has : Bool) → list ≡ Some one → IsTrue has ↔ Contains one.now game → (listed : List Move → Bool) → Serves (asked list) finds listed → listed game ≡ has
listed_said list one finds game has is h listed serves =
    let k : Serves (Some one.now) finds listed = subst (λ (o : Option (Bor (List (List Move)))). Serves (asked o) finds listed) is serves in
    k game ∙ listed_is one.now game game has refl h

pub no_loss : (loss : Option Loss) (b : Bool) → b ≡ is_some loss → b ≡ false → loss ≡ None
no_loss None b is e = refl
no_loss (Some x) b is e = absurd (let t : false ≡ true = sym e ∙ is in cc)

pub counted : (listed : List Move → Bool) (line game : List Move) (said is : Bool) → line ≡ game → listed line ≡ said → said ≡ is → listed game ≡ is
counted listed line game said is same h e = ap listed (sym same) ∙ h ∙ e
