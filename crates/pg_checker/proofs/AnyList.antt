-- A certificate for some list of games against the rules for which every game is listed. Leads to the contract of `answer`.
use Rattle.pg_checker.proofs.Common.{◌≡◌, ℕ, ◌<◌, ◌≤◌, Bool, true, false, List, [], ◌∷◌, ◌++◌, length, inl, inr, Option, Some, None, IfSome, Err, refl, sym, ◌∙◌, ap, subst, arith, Contains, IsDistinct, AllByRecursion, IsEquivalence, Placement, Move, array_state, IsOnce, Contains-head, Contains-later, Contains-none, Contains-cons, header_spelling, spelling_all, IsSolution, AreSolutions, AnswerAccepts, FitsLongLists, FitsNoList, HasTooMany, Accepts, IsCertified, header_for, Cuts, IsSoundCut, any_game, chess, chess_with, is_spelled, read, stands_for, game_eq, lists, game_decides, lists_decides, terms, Proved, Fault}
use Rattle.std.proofs.lemmas.Map.Made.{length-le_from_is_member}
use Rattle.pg_checker.specs.declared.fault.AnswerFault.TheVariants as answer_fault
use Rattle.pg_checker.specs.declared.fault.Fault.TheVariants as fault
use Rattle.pg_checker.proofs.Chess.{chess_exact, yes_has_all}
use Rattle.pg_checker.proofs.Leaves.{one_test}
use Rattle.pg_checker.proofs.Verdicts.{rules_cut}
use Rattle.pg_checker.proofs.Whole.{accepts}
use Rattle.pg_checker.proofs.Wider.{all_spelled_same, certificate_wider}

-- a list of no game has only solutions
pub none_solve : (d : Placement) (n : ℕ) → AreSolutions d n []
unfolding IsOnce
none_solve d n = record { once = tt; are = λ ms c. absurd (Contains-none ms c) }

module _ (d : Placement) (l : ℕ) (all_cuts : Placement → ℕ → Cuts) (a b : ℕ) where
  -- a certificate for a list is one where every game is listed
  any_certified : (games others : List (List Move)) (bytes : List ℕ) (proved : Proved) → IsCertified (rules_cut lists all_cuts d l games) d a b bytes proved → IsCertified (rules_cut (λ games. any_game) all_cuts d l others) d a b bytes proved
  unfolding chess_with
  any_certified games others bytes proved h =
      let cut : Cuts = all_cuts d h.version in
      record {
        version = h.version;
        known = h.known;
        trees = h.trees;
        fits = certificate_wider (chess d l games cut) any_game (stands_for cut.version) (is_spelled cut.version) (read cut.version) (λ g e. refl) (λ q p e. e) (λ x e. e) array_state h.trees h.fits;
        spelled = h.spelled ∙ ap (λ (v : List ℕ). header_spelling (header_for h.version d l) ++ v) (sym (all_spelled_same (chess d l games cut) any_game (stands_for cut.version) (is_spelled cut.version) (read cut.version) h.trees));
        records_are = h.records_are;
        named_are = h.named_are;
        records_fit = h.records_fit;
        named_fit = h.named_fit;
      }

  fits_none : (known : Option (List ℕ)) → IfSome known (λ bytes. (proved : Proved) → ¬ IsCertified (rules_cut (λ games. any_game) all_cuts d l []) d a b bytes proved) → FitsNoList (terms (rules_cut lists all_cuts) a b known) d l
  fits_none None h = tt
  fits_none (Some bytes) h = λ games proved k. h proved (any_certified games [] bytes proved k)

  -- what the check answers by those rules, with no game asked
  pub none_accepted : (known : Option (List ℕ)) (e : Fault) → Accepts (terms (rules_cut (λ games. any_game) all_cuts) a b known) d l [] (Err e) → AnswerAccepts (terms (rules_cut lists all_cuts) a b known) d l (Err (answer_fault.Check e))
  none_accepted known fault.Read h = tt
  none_accepted known fault.Memory h = tt
  none_accepted known (fault.Listed x) h = fits_none known (h (none_solve d l))
  none_accepted known fault.Magic h = fits_none known (h (none_solve d l))
  none_accepted known fault.OtherLength h = fits_none known (h (none_solve d l))
  none_accepted known fault.OtherDiagram h = fits_none known (h (none_solve d l))
  none_accepted known fault.Budget h = fits_none known (h (none_solve d l))
  none_accepted known fault.Truncated h = fits_none known (h (none_solve d l))
  none_accepted known (fault.UnknownRecord x) h = fits_none known (h (none_solve d l))
  none_accepted known (fault.UnknownBound x) h = fits_none known (h (none_solve d l))
  none_accepted known (fault.CutFails x) h = fits_none known (h (none_solve d l))
  none_accepted known fault.RefUnknown h = fits_none known (h (none_solve d l))
  none_accepted known fault.RefDiffers h = fits_none known (h (none_solve d l))
  none_accepted known fault.RefFertile h = fits_none known (h (none_solve d l))
  none_accepted known fault.TooManyNamed h = fits_none known (h (none_solve d l))
  none_accepted known (fault.Shorter x) h = fits_none known (h (none_solve d l))
  none_accepted known (fault.Unlisted x) h = fits_none known (h (none_solve d l))
  none_accepted known fault.Trailing h = fits_none known (h (none_solve d l))

  -- a certificate for a list proves that it has each solution
  certified_has : ((version : ℕ) → IsSoundCut d (all_cuts d version)) → (games : List (List Move)) (bytes : List ℕ) (proved : Proved) → IsCertified (rules_cut lists all_cuts d l games) d a b bytes proved → (ms : List Move) → IsSolution d l ms → Contains games ms
  certified_has sound games bytes proved h =
      let cut : Cuts = all_cuts d h.version in
      yes_has_all d l games cut (sound h.version) a b (spelling_all (chess d l games cut) h.trees) (proved.records, proved.named)
      (accepts (chess d l games cut) (chess_exact d l games cut) array_state a b (spelling_all (chess d l games cut) h.trees) (proved.records, proved.named)
      (record { trees = h.trees; fits = h.fits; bytes_are = refl; records_are = h.records_are; named_are = h.named_are; records_fit = h.records_fit; named_fit = h.named_fit }))

-- ---- more than 4,096 games
games_equal : IsEquivalence game_eq
games_equal = record {
  refl = λ x. (game_decides x x).1 refl;
  symm = λ x y. one_test (game_eq x y) (game_eq y x) (game_decides x y) (λ t. sym ((game_decides y x).0 t), λ e. (game_decides y x).1 (sym e));
  congr = λ x y z t. ap (λ (v : List Move). game_eq v z) ((game_decides x y).0 t);
}

unequal : (b : Bool) → (b ≡ true → ⊥) → b ≡ false
unequal false h = refl
unequal true h = absurd (h refl)

apart : (g : List Move) (gs : List (List Move)) → ¬ Contains gs g → AllByRecursion (λ h. game_eq g h ≡ false) gs
apart g [] out = tt
apart g (h ∷ hs) out = (
  unequal (game_eq g h) (λ t. out (subst (λ (v : List Move). Contains (h ∷ hs) v) (sym ((game_decides g h).0 t)) (Contains-head h hs))),
  apart g hs (λ c. out (Contains-later h g hs c)),
)

once_distinct : (gs : List (List Move)) → IsOnce gs → IsDistinct game_eq gs
unfolding IsOnce IsDistinct
once_distinct [] h = tt
once_distinct (g ∷ gs) h = (apart g gs h.0, once_distinct gs h.1)

-- a list with each game of another list, that has each once, is no shorter
no_shorter : (gs hs : List (List Move)) → IsOnce gs → ((g : List Move) → Contains gs g → Contains hs g) → length gs ≤ length hs
unfolding lists
no_shorter gs hs once to = length-le_from_is_member games_equal gs hs (once_distinct gs once) (λ g t. (lists_decides hs g).1 (to g ((lists_decides gs g).0 t)))

one_more : (d : Placement) (n : ℕ) → HasTooMany d n → (hs : List (List Move)) → ((ms : List Move) → IsSolution d n ms → Contains hs ms) → 4096 < length hs
unfolding IsOnce
one_more d n (games, are, many, (game, is, out)) hs has =
    let long : length (game ∷ games) ≤ length hs = no_shorter (game ∷ games) hs (out, are.once) (λ g c. elim (Contains-cons game g games c) [ inl e ↦ has g (subst (λ (v : List Move). IsSolution d n v) e is) | inr k ↦ has g (are.are g k) ]) in
    omega (arith, long, many)

pub long_lists : (d : Placement) (l : ℕ) (all_cuts : Placement → ℕ → Cuts) (a b : ℕ) → ((version : ℕ) → IsSoundCut d (all_cuts d version)) → HasTooMany d l → (known : Option (List ℕ)) → FitsLongLists (terms (rules_cut lists all_cuts) a b known) d l
long_lists d l all_cuts a b sound many None = tt
long_lists d l all_cuts a b sound many (Some bytes) = λ games proved h. one_more d l many games (certified_has d l all_cuts a b sound games bytes proved h)
