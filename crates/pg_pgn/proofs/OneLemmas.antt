-- A text has one file of games.
use Rattle.pg_pgn.proofs.Common.{◌≡◌, ℕ, ◌+◌, inl, inr, List, [], ◌∷◌, Option, Some, None, length, take, drop, get_or, refl, sym, ap, subst, ◌∙◌, arith, false, State, Move, array_state, IsGame, IsPosition, Legal, array_position, one_result, legal_position, Letters, Sign, Nothing, Heads, Fen, SetUp, Opening, Closing, Moves, StartsWith, AreTokens, body, more_len, kind_of, Reader, at_game, moved, sign_of, said, Goes, Lead, IsFile, all_games, AreLegal}
use Rattle.pg_pgn.specs.declared.signs.Sign.TheVariants.{Result as Ended}
use Rattle.pg_pgn.proofs.LegalLemmas.{none_legal, goes_legal}

-- ---- tokens
pub head_same : (a b : ℕ) (xs ys : List ℕ) → a ∷ xs ≡ b ∷ ys → a ≡ b
head_same a b xs ys e = ap (λ (l : List ℕ). get_or l 0 0) e

pub tail_same : (a b : ℕ) (xs ys : List ℕ) → a ∷ xs ≡ b ∷ ys → xs ≡ ys
tail_same a b xs ys e = ap (λ (l : List ℕ). drop 1 l) e

some_or : Option ℕ → ℕ
some_or None = 0
some_or (Some n) = n

some_same : (m n : ℕ) → Some m ≡ Some n → m ≡ n
unfolding some_or
some_same m n e = ap some_or e

-- the first bytes, what stands behind them, and how many go with the token
same_start : (text a x b y : List ℕ) (h : StartsWith text a x) (k : StartsWith text b y) → (h.first ≡ k.first) × (h.more ≡ k.more) × (h.n ≡ k.n)
same_start text a x b y h k =
    let e = sym h.is ∙ k.is in
    let f : h.first ≡ k.first = head_same h.first k.first h.more k.more e in
    let m : h.more ≡ k.more = tail_same h.first k.first h.more k.more e in
    let l : more_len (kind_of h.first) h.more ≡ more_len (kind_of k.first) k.more = ap (λ (c : ℕ). more_len (kind_of c) h.more) f ∙ ap (λ (l : List ℕ). more_len (kind_of k.first) l) m in
    (f, m, some_same h.n k.n (sym h.long ∙ l ∙ k.long))

pub one_token : (text a x b y : List ℕ) → StartsWith text a x → StartsWith text b y → (a ≡ b) × (x ≡ y)
one_token text a x b y h k =
    let (f, m, n) = same_start text a x b y h k in (
      h.token_is ∙ ap (λ (c : ℕ). c ∷ take h.n h.more) f ∙ ap (λ (l : List ℕ). k.first ∷ take h.n l) m ∙ ap (λ (i : ℕ). k.first ∷ take i k.more) n ∙ sym k.token_is,
      h.rest_is ∙ ap (λ (l : List ℕ). drop h.n l) m ∙ ap (λ (i : ℕ). drop i k.more) n ∙ sym k.rest_is,
    )

pub none_starts : (text a x : List ℕ) → text ≡ [] → StartsWith text a x → ⊥
none_starts text a x none h =
    let l : length text ≡ 0 = ap length none in
    let k : length text ≡ length h.more + 1 = ap length h.is ∙ omega arith in
    omega (arith, l, k)

one_cut : (text : List ℕ) (ts us : List (List ℕ)) → AreTokens text ts [] → AreTokens text us [] → ts ≡ us
unfolding AreTokens
one_cut text [] [] h k = refl
one_cut text [] (u ∷ us) h k = absurd (none_starts text u k.0 h k.1)
one_cut text (t ∷ ts) [] h k = absurd (none_starts text t h.0 k h.1)
one_cut text (t ∷ ts) (u ∷ us) h k =
    let (same, rest) = one_token text t h.0 u k.0 h.1 k.1 in
    let others : ts ≡ us = one_cut k.0 ts us (subst (λ (l : List ℕ). AreTokens l ts []) rest h.2) k.2 in
    ap (λ (x : List ℕ). x ∷ ts) same ∙ ap (λ (x : List (List ℕ)). u ∷ x) others

-- ---- steps
game_position : (p : State) (ms : List Move) (q : State) → IsPosition p → IsGame p ms q → IsPosition q
game_position p [] q pos game = subst IsPosition game pos
game_position p (m ∷ ms) q pos (s, step, game) = game_position s ms q (legal_position p m s pos step) game

one_step : (sign : Sign) (r s t : Reader) (text : List ℕ) → AreLegal r → Goes sign r text s → Goes sign r text t → s ≡ t
unfolding Goes
one_step Nothing r s t text l h k = h ∙ sym k
one_step Opening r s t text l h k = h ∙ sym k
one_step Closing r s t text l h k = h.1 ∙ sym k.1
one_step Heads r s t text l h k = h.1 ∙ sym k.1
one_step Fen r s t text l h k = absurd h
one_step SetUp r s t text l h k = absurd h
one_step Ended r s t text l (inl h) (inl k) = h.1 ∙ sym k.1
one_step Ended r s t text l (inl h) (inr k) = let d = k.0 in absurd (omega (arith, h.0, d))
one_step Ended r s t text l (inr h) (inl k) = let d = h.0 in absurd (omega (arith, k.0, d))
one_step Ended r s t text l (inr h) (inr k) = h.1 ∙ sym k.1
one_step Moves r s t text l (inl h) (inl k) = h.1 ∙ sym k.1
one_step Moves r s t text l (inl h) (inr k) = let d = k.0 in absurd (omega (arith, h.0, d))
one_step Moves r s t text l (inr h) (inl k) = let d = h.0 in absurd (omega (arith, k.0, d))
one_step Moves r s t text l (inr (d, (m, q, reads, legal, e))) (inr (d2, (n, x, reads2, legal2, e2))) =
    let same : n ≡ m = reads.2 n (x, legal2) reads2.1 in
    let there : Legal r.here m x = subst (λ (y : Move). Legal r.here y x) same legal2 in
    let one : q ≡ x = one_result r.here m q x (game_position array_state r.moves r.here array_position l.moves) legal there in
    e ∙ ap (λ (y : State). moved r m y) one ∙ ap (λ (y : Move). moved r y x) (sym same) ∙ sym e2

pub one_way : (letters : Letters) (r s t : Reader) (ts : List (List ℕ)) → AreLegal r → Lead letters r ts s → Lead letters r ts t → s ≡ t
unfolding Lead
one_way letters r s t [] l h k = h ∙ sym k
one_way letters r s t (x ∷ xs) l h k =
    let same : h.0 ≡ k.0 = one_step (sign_of letters x) r h.0 k.0 (said letters x) l h.1 k.1 in
    one_way letters k.0 s t xs (goes_legal (sign_of letters x) r k.0 (said letters x) l k.1) (subst (λ (y : Reader). Lead letters y xs s) same h.2) k.2

pub one_file : (letters : Letters) (text : List ℕ) (gs hs : List (List Move)) → IsFile letters text gs → IsFile letters text hs → gs ≡ hs
unfolding IsFile
one_file letters text gs hs (r, read, depth, is) (s, other, depth2, is2) =
    let tokens : read.tokens ≡ other.tokens = one_cut (body text) read.tokens other.tokens read.cut other.cut in
    let there : Lead letters (at_game [] false) other.tokens r = subst (λ (x : List (List ℕ)). Lead letters (at_game [] false) x r) tokens read.leads in
    let same : r ≡ s = one_way letters (at_game [] false) r s other.tokens none_legal there other.leads in
    is ∙ ap all_games same ∙ sym is2
