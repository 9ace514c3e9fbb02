-- A text is cut into its lines one at a time, and a line is one game or not.
use Rattle.std.proofs.Common.{◌≡◌, ◌∙◌, ℕ, zero, suc, ◌+◌, ◌-◌, ◌<◌, ◌≤◌, ◌↔◌, inl, inr, Bool, List, [], ◌∷◌, length, drop, Bor, sym, ap, subst, arith}
use Rattle.std.specs.Prelude.{Option, Some, None, Result, Ok, Err, IfOk, IfSome, IsTrue, unwrap_or}
use Rattle.std.specs.List.{Contains, before_first, after_first, position_or_len, slice_get}
use Rattle.std.specs.Option.{option_map}
use Rattle.std.proofs.lemmas.Bool.{cases_eq}
use Rattle.std.proofs.lemmas.List.{drop-drop}
use Rattle.std.proofs.lemmas.List.Sums.{fails_before_first}
use Rattle.std.proofs.lemmas.List.Splits.{slice_split_first, slice_split_none}
use Rattle.pg_position.specs.declared.moves.Move.{Move}
use Rattle.pg_moves.proofs.SortLemmas.{Contains-none, Contains-head, Contains-cons}
use Rattle.pg_san.specs.GameText.{is_feed}
use Rattle.pg_san.specs.Listing.{IsListing}
use Rattle.pg_san.proofs.OneAnswerLemmas.{one_listing}
use Rattle.pg_hints.specs.Places.{pieces, IsLine, IsGameAt, IsFirstAt, IsFirstLike}

-- ---- lines
-- the text before the first line feed is the first line, and the others are those of what follows it
pub cut_first : (text line more : List ℕ) → line ≡ before_first is_feed text → more ≡ after_first is_feed text
    → position_or_len is_feed text < length text → pieces text ≡ line ∷ pieces more
cut_first text line more e f low = rw (e, f) (slice_split_first is_feed text 0 low)

-- without a line feed a text is one line
pub cut_none : (text : List ℕ) → position_or_len is_feed text ≡ length text → pieces text ≡ text ∷ []
cut_none text e = slice_split_none is_feed text (λ k d low. fails_before_first is_feed text k d (subst (λ (n : ℕ). k < n) (sym e) low))

at_front : (ps : List (List ℕ)) (k : ℕ) (line : List ℕ) (more : List (List ℕ)) → drop k ps ≡ line ∷ more → slice_get ps k ≡ Some line
at_front [] zero line more e = absurd cc
at_front [] (suc k) line more e = absurd cc
at_front (p ∷ ps) zero line more e = (let is : p ≡ line = cc in ap Some is)
at_front (p ∷ ps) (suc k) line more e = at_front ps k line more e

-- behind k lines stands the next one
pub line_next : (text : List ℕ) (left more : List (List ℕ)) (line : List ℕ) (k : ℕ) → drop k (pieces text) ≡ left → left ≡ line ∷ more → IsLine text (k + 1) line
line_next text left more line k e f =
    let before : k ≡ k + 1 - 1 = omega arith in
    (omega arith, subst (λ (i : ℕ). slice_get (pieces text) i ≡ Some line) before (at_front (pieces text) k line more (e ∙ f)))

-- the lines behind it are left
pub lines_left : (text : List ℕ) (left more : List (List ℕ)) (line : List ℕ) (k : ℕ) → drop k (pieces text) ≡ left → left ≡ line ∷ more → drop (k + 1) (pieces text) ≡ more
lines_left text left more line k e f = sym (drop-drop 1 k (pieces text)) ∙ ap (λ (x : List (List ℕ)). drop 1 x) (e ∙ f)

-- a line that is found by its place from 0 has the number behind that
pub line_found : (text : List ℕ) (number i : ℕ) (found : Option (Bor (List ℕ))) → (1 ≤ number) × (i ≡ number - 1)
    → option_map (λ x. x.now) found ≡ slice_get (pieces text) i → IfSome found (λ line. IsLine text number line.now)
line_found text number i None at e = tt
line_found text number i (Some line) at e = (at.0, subst (λ (k : ℕ). slice_get (pieces text) k ≡ Some line.now) at.1 (sym e))

-- ---- a line that is a game
one_there : (games : List (List Move)) (game : List Move) → length games ≡ 1 → Contains games game → games ≡ game ∷ []
one_there [] game n c = absurd (let z : 0 ≡ 1 = n in omega arith)
one_there (g ∷ []) game n c = elim (Contains-cons g game [] c) [ inl e ↦ ap (λ (x : List Move). x ∷ []) e | inr k ↦ absurd (Contains-none game k) ]
one_there (g ∷ (h ∷ gs)) game n c = absurd (let m : suc (suc (length gs)) ≡ 1 = n in omega arith)

-- a list of one element is its first
one_first : (games : List (List Move)) (game : List Move) → length games ≡ 1 → slice_get games 0 ≡ Some game → games ≡ game ∷ []
one_first [] x n e = absurd (let z : None ≡ Some x = e in cc)
one_first (y ∷ []) x n e = ap (λ o. unwrap_or o x ∷ []) e
one_first (y ∷ (z ∷ zs)) x n e = absurd (let m : suc (suc (length zs)) ≡ 1 = n in omega arith)

-- the games of a line are this one alone
pub alone : (line : List ℕ) (games : List (List Move)) (game : List Move) (r : Bool) → IsListing line games → length games ≡ 1
    → (IsTrue r ↔ Contains games game) → IsTrue r ↔ IsListing line (game ∷ [])
alone line games game r h n has = (
  λ t. subst (λ (x : List (List Move)). IsListing line x) (one_there games game n (has.0 t)) h,
  λ g. has.1 (subst (λ (x : List (List Move)). Contains x game) (sym (one_listing line games (game ∷ []) h g)) (Contains-head game [])),
)

same_line : (text : List ℕ) (n : ℕ) (a b : List ℕ) → IsLine text n a → IsLine text n b → a ≡ b
same_line text n a b h g = (let e : Some a ≡ Some b = sym h.1 ∙ g.1 in cc)

pub none_more : (text line : List ℕ) (game : List Move) (k : ℕ) → IsLine text (k + 1) line → ¬ IsListing line (game ∷ [])
    → ((n : ℕ) → n ≤ k → ¬ IsGameAt text n game) → (n : ℕ) → n ≤ k + 1 → ¬ IsGameAt text n game
none_more text line game k at other none n low h = elim (cases_eq n (k + 1)) [
  | inl e ↦ other (subst (λ (x : List ℕ). IsListing x (game ∷ [])) (same_line text (k + 1) h.0 line (subst (λ (m : ℕ). IsLine text m h.0) e h.1) at) h.2)
  | inr apart ↦ none n (omega arith) h
]

pub first_at : (text line : List ℕ) (game : List Move) (k : ℕ) → IsLine text (k + 1) line → IsListing line (game ∷ [])
    → ((n : ℕ) → n ≤ k → ¬ IsGameAt text n game) → IsFirstAt text (k + 1) game
first_at text line game k at h none = record { is = (line, at, h); first = λ n low. none n (omega arith) }

-- the first line that is the game of a line is like it
pub alike : {E : Type 0} (text line : List ℕ) (one : ℕ) (games : List (List Move)) (game : List Move) (result : Result (Option ℕ) E) → IsLine text one line
    → IsListing line games → length games ≡ 1 → slice_get games 0 ≡ Some game
    → IfOk result (λ o. IfSome o (λ first. IsFirstAt text first game)) → IfOk result (λ o. IfSome o (λ first. IsFirstLike text one first))
alike text line one games game (Err e) at h n s k = tt
alike text line one games game (Ok None) at h n s k = tt
alike text line one games game (Ok (Some first)) at h n s k =
    (game, (line, at, subst (λ (x : List (List Move)). IsListing line x) (one_first games game n s) h), k)
