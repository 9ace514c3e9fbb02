-- A text is read one token at a time.
use Rattle.pg_pgn.proofs.Common.{◌≡◌, ℕ, ◌+◌, ◌-◌, ◌≤◌, inl, inr, Bool, true, false, List, [], ◌∷◌, ◌++◌, length, length-drop, refl, sym, ap, subst, arith, ◌∙◌, Ok, Err, OnOk, IfOk, IfErr, ◌==◌, if◌then◌else◌, Move, Letters, Cause, Sign, Nothing, Heads, Fen, SetUp, Opening, Closing, Moves, TokenKind, StartsWith, AreTokens, body, without_mark, hidden_len, kind_at, Reader, at_game, at_head, ended, head, sign_of, sign_by, said, Goes, Lead, IsRead, IsFile, all_games, IsCause}
use Rattle.std.specs.Prelude.{Result}
use Rattle.pg_pgn.specs.declared.signs.Sign.TheVariants.{Result as Ended}

pub read_none : (letters : Letters) (text : List ℕ) → IsRead letters text (at_game [] false) (body text)
unfolding AreTokens Lead
read_none letters text = record { tokens = []; cut = refl; leads = refl }

tokens_more : (text : List ℕ) (tokens : List (List ℕ)) (left token rest : List ℕ) → AreTokens text tokens left → StartsWith left token rest → AreTokens text (tokens ++ token ∷ []) rest
unfolding AreTokens
tokens_more text [] left token rest cut starts = (rest, subst (λ (x : List ℕ). StartsWith x token rest) (sym cut) starts, refl)
tokens_more text (t ∷ ts) left token rest cut starts = (cut.0, cut.1, tokens_more cut.0 ts left token rest cut.2 starts)

leads_more : (letters : Letters) (r : Reader) (tokens : List (List ℕ)) (s next : Reader) (token : List ℕ) → Lead letters r tokens s → Goes (sign_of letters token) s (said letters token) next → Lead letters r (tokens ++ token ∷ []) next
unfolding Lead
leads_more letters r [] s next token leads goes = (next, subst (λ (x : Reader). Goes (sign_of letters token) x (said letters token) next) leads goes, refl)
leads_more letters r (t ∷ ts) s next token leads goes = (leads.0, leads.1, leads_more letters leads.0 ts s next token leads.2 goes)

pub read_more : (letters : Letters) (text : List ℕ) (r s : Reader) (left token rest : List ℕ) → IsRead letters text r left → StartsWith left token rest → Goes (sign_of letters token) r (said letters token) s → IsRead letters text s rest
read_more letters text r s left token rest read starts goes = record {
  tokens = read.tokens ++ token ∷ [];
  cut = tokens_more (body text) read.tokens left token rest read.cut starts;
  leads = leads_more letters (at_game [] false) read.tokens r s token read.leads goes;
}

pub file_read : (letters : Letters) (text : List ℕ) (r : Reader) (rest : List ℕ) (games : List (List Move)) → IsRead letters text r rest → rest ≡ [] → r.depth ≡ 0 → games ≡ all_games r → IsFile letters text games
unfolding IsFile
file_read letters text r rest games read none depth is = (r, subst (λ (x : List ℕ). IsRead letters text r x) none read, depth, is)

pub file_on : {E : Type 0} (letters : Letters) (text : List ℕ) (r : Reader) (rest : List ℕ) (k : Result (List (List Move)) E) → IsRead letters text r rest → rest ≡ [] → r.depth ≡ 0 → IfOk k (λ games. games ≡ all_games r) → IfOk k (λ games. IsFile letters text games)
file_on letters text r rest (Ok games) read none depth is = file_read letters text r rest games read none depth is
file_on letters text r rest (Err e) read none depth h = h

pub read_first : (letters : Letters) (text : List ℕ) (r : Reader) (rest : List ℕ) → r ≡ at_game [] false → rest ≡ body text → IsRead letters text r rest
read_first letters text r rest e b =
    subst (λ (x : Reader). IsRead letters text x rest) (sym e) (subst (λ (x : List ℕ). IsRead letters text (at_game [] false) x) (sym b) (read_none letters text))

pub deep_first : (text : List ℕ) (r : Reader) (rest : List ℕ) → r ≡ at_game [] false → rest ≡ body text → r.depth + length rest ≤ length (without_mark text)
deep_first text r rest e b =
    let d : r.depth ≡ 0 = ap (λ (x : Reader). x.depth) e in
    let l : length rest ≡ length (without_mark text) - hidden_len (without_mark text) = ap length b ∙ length-drop (hidden_len (without_mark text)) (without_mark text) in
    omega (arith, d, l)

head_deep : (none : Bool) (r : Reader) → (if none then at_head r else at_game (ended r) true).depth ≤ r.depth
head_deep true r = omega arith
head_deep false r = omega arith

-- a token opens one variation at most
pub goes_deep : (sign : Sign) (r s : Reader) (text : List ℕ) → Goes sign r text s → s.depth ≤ r.depth + 1
unfolding Goes
goes_deep Nothing r s text goes = let d : s.depth ≡ r.depth = ap (λ (x : Reader). x.depth) goes in omega (arith, d)
goes_deep Opening r s text goes = let d : s.depth ≡ r.depth + 1 = ap (λ (x : Reader). x.depth) goes in omega (arith, d)
goes_deep Closing r s text goes = let d : s.depth ≡ r.depth - 1 = ap (λ (x : Reader). x.depth) goes.1 in omega (arith, d)
goes_deep Heads r s text goes = let d : s.depth ≡ (head r).depth = ap (λ (x : Reader). x.depth) goes.1 in let h = head_deep (length r.moves == 0) r in omega (arith, d, h)
goes_deep Fen r s text goes = absurd goes
goes_deep SetUp r s text goes = absurd goes
goes_deep Ended r s text (inl h) = let d : s.depth ≡ r.depth = ap (λ (x : Reader). x.depth) h.1 in omega (arith, d)
goes_deep Ended r s text (inr h) = let d : s.depth ≡ 0 = ap (λ (x : Reader). x.depth) h.1 in omega (arith, d)
goes_deep Moves r s text (inl h) = let d : s.depth ≡ r.depth = ap (λ (x : Reader). x.depth) h.1 in omega (arith, d)
goes_deep Moves r s text (inr (depth, (m, next, reads, legal, e))) = let d : s.depth ≡ r.depth = ap (λ (x : Reader). x.depth) e in omega (arith, d)

-- ---- signs
pub sign_is : (letters : Letters) (token : List ℕ) (k kind : TokenKind) → k ≡ kind_at token → k ≡ kind → sign_of letters token ≡ sign_by kind letters token
sign_is letters token k kind at is = ap (λ (x : TokenKind). sign_by x letters token) (sym at ∙ is)

pub goes_as : {A E : Type 0} (k : Result A E) (sign other : Sign) (r s : Reader) (text : List ℕ) → sign ≡ other → OnOk k (Goes other r text s) → OnOk k (Goes sign r text s)
goes_as k sign other r s text e h = subst (λ (x : Sign). OnOk k (Goes x r text s)) (sym e) h

pub cause_as : {A : Type 0} (k : Result A Cause) (sign other : Sign) (r : Reader) (text : List ℕ) → sign ≡ other → IfErr k (IsCause other r text) → IfErr k (IsCause sign r text)
cause_as k sign other r text e h = subst (λ (x : Sign). IfErr k (IsCause x r text)) (sym e) h
